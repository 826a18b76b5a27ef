-- One line behind the lines before it, by cases, and what a step that goes on tells.
use Prim.Native.Nat.{ℕ, ◌+◌, ◌-◌, ◌≤◌, ◌<◌}
use mathlib.Core.Path.{◌≡◌, refl, sym, ap, ◌∙◌}
use mathlib.Core.Bool.{Bool, true, false, not}
use mathlib.Core.List.{List, [], ◌∷◌, ◌++◌}
use native.Mathlib.Omega.{arith}
use lib.ListN.{length, take, drop}
use borrow.Author.Tests.{not-false}
use Rattle.std.specs.Prelude.{if◌then◌else◌, Result, Ok, Err}
use Rattle.text.proofs.Choices.{came_else}
use Rattle.refusal.specs.declared.Reason.TheVariants.{ContactMissing, IdentcodeRepeated, ListFull}
use Rattle.refusal.specs.Table.{because}
use Rattle.refusal.specs.declared.Refusal.{Refusal}
use Rattle.forms.specs.Shape.{digits}
use Rattle.identcodes.specs.Tree.{identcode_at}
use Rattle.records.specs.declared.record.Record.TheVariants.{Parcel}
use Rattle.records.specs.declared.record.Due.TheVariants.{After}
use Rattle.line.specs.Parts.{split}
use Rattle.line.specs.Line.{text_at, file_limit, line_answer}
use Rattle.line.specs.Told.{Told}
use Rattle.line.specs.declared.read.Line.{Line}
use Rattle.line.proofs.Accepting.{text_starts, text_inside, next_least, text_is}
use Rattle.file.proofs.Codes.{accepted_type, accepted_code}
use Rattle.file.proofs.Lists.{word_left}
use Rattle.file.proofs.Sowing.{sown_line, sown_tells}
use Rattle.file.specs.Identcode.{repeats, is_there_for, grown_for, Sown, parcels_most, tree_words}
use Rattle.file.specs.Lent.{Lent}
use Rattle.file.specs.Contact.{contacts_behind, lacks_contact}
use Rattle.file.specs.Cash.{cash_of}
use Rattle.fields.proofs.Rules.{sound}
use Rattle.file.specs.Step.{told_by, parcels_in, behind, has_word, listing, on_line, step_answer}
use Rattle.file.specs.declared.step.State.{State}

module _ (s : List ℕ) (lent : Lent) (starts : List ℕ) (state : State) (a : Result Line Refusal) (ea : a ≡ line_answer (told_by state) s state.at) where
  stepped : (r : Result State Refusal) → r ≡ on_line a s lent starts state → r ≡ step_answer s lent starts state
  unfolding step_answer
  stepped r e = e ∙ ap (λ (x : Result Line Refusal). on_line x s lent starts state) ea

  pub line_stops : (refusal : Refusal) → a ≡ Err refusal → Err refusal ≡ step_answer s lent starts state
  unfolding on_line
  line_stops refusal e = stepped (Err refusal) (rw e)

  -- the text of the line, as the code cuts it out, is the line's own
  module _ (line : Line) (el : a ≡ Ok line) (v : Bool)
      (ev : v ≡ lacks_contact line.kind (split (take (line.next - 2 - state.at) (drop state.at s))) lent.countries state.contacts) where
    lacks : v ≡ lacks_contact line.kind (split (text_at s state.at)) lent.countries state.contacts
    lacks =
        ev ∙ ap (λ (x : List ℕ). lacks_contact line.kind (split x) lent.countries state.contacts)
        (text_is (told_by state) s state.at a ea line el)

    pub contact_stops : v ≡ true → Err (because ContactMissing state.at) ≡ step_answer s lent starts state
    unfolding on_line
    contact_stops e = stepped (Err (because ContactMissing state.at)) (rw (el, ← lacks, e))

    pub line_listed : v ≡ false → (r : Result State Refusal) → r ≡ listing s lent.words starts state line → r ≡ step_answer s lent starts state
    unfolding on_line
    line_listed e r er = stepped r (er ∙ rw (el, ← lacks, e))

-- an accepted line on its way into the list
module _ (s : List ℕ) (words : ℕ) (starts : List ℕ) (state : State) (line : Line) (el : line_answer (told_by state) s state.at ≡ Ok line)
    (codes : List ℕ) (g : Sown s starts state.parcels codes) (t : Bool)
    (et : t ≡ is_there_for line.kind s codes state.parcels state.at) where
  code_holds : line.kind ≡ Parcel → digits 22 (identcode_at s state.at) ≡ true
  code_holds k = accepted_code (told_by state) s state.at (line_answer (told_by state) s state.at) refl line el (sound state.version) k

  repeated : t ≡ repeats line.kind s starts state.at
  repeated = et ∙ sown_tells s starts state.parcels codes g state.at line.kind code_holds

  pub code_stops : t ≡ true → Err (because IdentcodeRepeated (state.at + 4)) ≡ listing s words starts state line
  unfolding listing
  code_stops e = rw (← repeated, e)

  module _ (fresh : t ≡ false) where
    module _ (u : Bool) (eu : u ≡ has_word words state.lines) where
      pub list_stops : not u ≡ true → Err (because ListFull state.at) ≡ listing s words starts state line
      unfolding listing
      list_stops h = rw (← repeated, fresh, ← eu, h)

      pub line_next : not u ≡ false → (next : State) → next ≡ behind s state line → Ok next ≡ listing s words starts state line
      unfolding listing
      line_next h next en = rw (← repeated, fresh, ← eu, h, en)

    -- the tree behind the line
    pub line_sown : tree_words ≤ length codes → state.parcels ≤ parcels_most → state.at ≤ file_limit → (after : List ℕ) →
        after ≡ grown_for line.kind s codes state.parcels state.at →
        (now : State) → now ≡ behind s state line → (next : State) → ◌≡◌ {A = Result State Refusal} (Ok now) (Ok next) →
        Sown s (starts ++ (state.at ∷ [])) next.parcels after
    line_sown long few in_limit after ef now en next e =
        let q : now ≡ next = cc in
        rw (ef, ← q, en) (sown_line s starts state.parcels codes g state.at line.kind long few in_limit code_holds
        (accepted_type (told_by state) s state.at (line_answer (told_by state) s state.at) refl line el) (sym et ∙ fresh))

pub word_there : (words lines : ℕ) (u : Bool) → u ≡ has_word words lines → not u ≡ false → lines < words
word_there words lines u eu h = word_left words lines (sym eu ∙ not-false u h)

-- the state behind an accepted line, as the code works it out
module _ (s : List ℕ) (state : State) (line : Line) (el : line_answer (told_by state) s state.at ≡ Ok line) where
  abbrev answer : Result Line Refusal
  answer = line_answer (told_by state) s state.at

  pub behind_starts : state.at ≤ line.next - 2
  behind_starts = text_starts (told_by state) s state.at answer refl line el

  pub behind_inside : line.next - 2 ≤ length s
  behind_inside = text_inside (told_by state) s state.at answer refl line el

  pub behind_least : 2 ≤ line.next
  behind_least = next_least (told_by state) s state.at answer refl line el

  pub behind_is : (p c : ℕ) (b : Bool) → p ≡ parcels_in line.kind →
      c ≡ cash_of line.kind (split (take (line.next - 2 - state.at) (drop state.at s))) →
      b ≡ contacts_behind line.kind (split (take (line.next - 2 - state.at) (drop state.at s))) state.contacts →
      record {
        at = line.next;
        lines = state.lines + 1;
        parcels = state.parcels + p;
        cents = state.cents + c;
        version = state.version;
        due = After line.kind;
        contacts = b;
      } ≡ behind s state line
  behind_is p c b ep ec eb =
      let text = text_is (told_by state) s state.at answer refl line el in
      let cash : c ≡ cash_of line.kind (split (text_at s state.at)) = ec ∙ ap (λ (x : List ℕ). cash_of line.kind (split x)) text in
      let both : b ≡ contacts_behind line.kind (split (text_at s state.at)) state.contacts =
      eb ∙ ap (λ (x : List ℕ). contacts_behind line.kind (split x) state.contacts) text in
      rw (ep, cash, both)

-- a step that goes on went over an accepted line, with a word for it
pub record Went (s : List ℕ) (lent : Lent) (starts : List ℕ) (state next : State) : Type 0 where
  pub line : Line
  pub accepted : line_answer (told_by state) s state.at ≡ Ok line
  pub reached : lacks_contact line.kind (split (text_at s state.at)) lent.countries state.contacts ≡ false
  pub fresh : repeats line.kind s starts state.at ≡ false
  pub room : has_word lent.words state.lines ≡ true
  pub there : behind s state line ≡ next

pub stopped : {refusal : Refusal} {next : State} → ◌≡◌ {A = Result State Refusal} (Err refusal) (Ok next) → ⊥
stopped e = let z : ◌≡◌ {A = ℕ} 0 1 = cc in omega arith

pub went : (s : List ℕ) (lent : Lent) (starts : List ℕ) (state next : State) → step_answer s lent starts state ≡ Ok next →
    Went s lent starts state next
unfolding step_answer on_line listing
went s lent starts state next e = go (line_answer (told_by state) s state.at) refl e
  where
    go : (a : Result Line Refusal) → line_answer (told_by state) s state.at ≡ a → on_line a s lent starts state ≡ Ok next →
        Went s lent starts state next
    go (Err refusal) ea e = absurd (stopped e)
    go (Ok line) ea e =
        let full = not (has_word lent.words state.lines) in
        let twice = repeats line.kind s starts state.at in
        let last : Result State Refusal = if full then Err (because ListFull state.at) else Ok (behind s state line) in
        let v = came_else (lacks_contact line.kind (split (text_at s state.at)) lent.countries state.contacts)
        (Err (because ContactMissing state.at)) (if twice then Err (because IdentcodeRepeated (state.at + 4)) else last)
        (Ok next) stopped e in
        let a = came_else twice (Err (because IdentcodeRepeated (state.at + 4))) last (Ok next) stopped v.1 in
        let b = came_else full (Err (because ListFull state.at)) (Ok (behind s state line)) (Ok next) stopped a.1 in
        record {
          line = line;
          accepted = ea;
          reached = v.0;
          fresh = a.0;
          room = not-false (has_word lent.words state.lines) b.0;
          there = cc;
        }

-- no tree and no list is promised behind a line that stops the judge
pub stopped_sown : (s starts codes : List ℕ) (refusal : Refusal) (next : State) → ◌≡◌ {A = Result State Refusal} (Err refusal) (Ok next) →
    Sown s starts next.parcels codes
stopped_sown s starts codes refusal next e = absurd (stopped e)

pub stopped_listed : (list listed : List ℕ) (refusal : Refusal) (next : State) → ◌≡◌ {A = Result State Refusal} (Err refusal) (Ok next) → list ≡ listed
stopped_listed list listed refusal next e = absurd (stopped e)

pub was_accepted : (told : Told) (s : List ℕ) (at : ℕ) (a : Result Line Refusal) (line : Line) → a ≡ line_answer told s at → a ≡ Ok line →
    line_answer told s at ≡ Ok line
was_accepted told s at a line ea el = sym ea ∙ el
