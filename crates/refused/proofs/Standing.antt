-- The judge behind the lines with which a file begins: where it stands, and its next step by cases.
use Prim.Native.Nat.{ℕ, ◌+◌, ◌≤◌, ◌<◌}
use mathlib.Core.Path.{◌≡◌, refl, sym, ap, subst, ◌∙◌}
use mathlib.Core.Bool.{Bool, true, false, false≢true}
use mathlib.Core.List.{List, [], ◌∷◌, ◌++◌}
use native.Mathlib.Omega.{arith}
use lib.ListN.{length, drop, length-append}
use Rattle.refusal.specs.Table.{because}
use Rattle.refusal.specs.declared.Refusal.{Refusal}
use Rattle.refusal.specs.declared.Reason.TheVariants.{ContactMissing, IdentcodeRepeated, ListFull}
use Rattle.records.specs.Record.{type_of, may_come}
use Rattle.fields.specs.Profile.{profile}
use Rattle.records.specs.declared.version.Version.{Version}
use Rattle.file.specs.Version.{version_of}
use Rattle.records.specs.declared.record.Record.{Record}
use Rattle.records.specs.declared.record.Record.TheVariants.{Header, Sender, Shipment, Parcel, Product, Feature}
use Rattle.records.specs.declared.record.Due.{Due}
use Rattle.records.specs.declared.record.Due.TheVariants.{First}
use Rattle.fields.proofs.Rules.{sound}
use Rattle.line.specs.Parts.{split, field_no}
use Rattle.line.specs.Line.{text_at}
use Rattle.line.specs.Render.{render}
use Rattle.line.specs.Told.{Told}
use Rattle.line.specs.declared.read.Line.{Line}
use Rattle.grammar.specs.Grammar.{LineOk, Reads}
use Rattle.grammar.proofs.Lines.{reads_accepted, read_parts}
use Rattle.file.specs.Identcode.{repeats}
use Rattle.file.specs.Lent.{Lent}
use Rattle.file.specs.Contact.{contacts_behind, lacks_contact}
use Rattle.file.specs.Step.{behind, listing, on_line, told_by, step_answer}
use Rattle.file.specs.declared.step.State.{State}
use Rattle.file.proofs.Lists.{left_word, no_word}
use Rattle.allowed.specs.Allowed.{FileLine, line_bytes, file_bytes, codes_on, identcodes, one_of_codes}
use Rattle.allowed.proofs.Files.{line_some}
use Rattle.allowed.proofs.Contacts.{parts_of, contacts_after, after_more}
use Rattle.allowed.proofs.Codes.{Seen, seen_more, Fresh, not_fresh, code_here}
use Rattle.refused.specs.Line.{RefusedLine}
use Rattle.refused.specs.File.{due_behind, told_behind, Begins, NextLine}
use Rattle.refused.proofs.Beginning.{bytes_more, codes_more, due_more, left_there, left_long}
use Rattle.std.specs.Prelude.{Ok, Err}

-- the judge behind these lines
pub record Here (s : List ℕ) (ls : List FileLine) (starts : List ℕ) (state : State) : Type 0 where
  pub place : state.at ≡ length (file_bytes ls)
  pub count : state.lines ≡ length ls
  pub version : state.version ≡ version_of s
  pub next : state.due ≡ due_behind First ls
  pub seen : Seen s starts (identcodes ls)
  pub contacts : state.contacts ≡ contacts_after true ls

unfoldable pub line_of : ℕ → FileLine → Line
line_of at l = record { kind = l.kind; count = length l.fields; next = at + length (line_bytes l) }

-- an allowed line stands where the judge is
module _ (s : List ℕ) (ls : List FileLine) (starts : List ℕ) (state : State) (h : Here s ls starts state) where
  -- what it asks of an accepted line: what the lines so far say of the sender
  pub asks : (countries : List ℕ) (line : Line) (fs : List (List ℕ)) → Reads (told_by state) s state.at line fs →
      lacks_contact line.kind (split (text_at s state.at)) countries state.contacts ≡
      lacks_contact line.kind (type_of line.kind ∷ fs) countries (contacts_after true ls)
  asks countries line fs g =
      ap (λ (parts : List (List ℕ)). lacks_contact line.kind parts countries state.contacts) (read_parts g)
      ∙ ap (lacks_contact line.kind (type_of line.kind ∷ fs) countries) h.contacts

  told_is : told_by state ≡ told_behind s ls
  told_is =
      ap (λ (v : Version). record { rules = profile v; due = state.due }) h.version
      ∙ ap (λ (d : Due). record { rules = profile (version_of s); due = d }) h.next

  module _ {countries : List ℕ} (left : List ℕ) (b : Begins countries s ls left) where
    pub there : drop state.at s ≡ left
    there = ap (λ (i : ℕ). drop i s) h.place ∙ left_there s ls left b

    pub inside : state.at ≤ length s
    inside = omega (arith, h.place, left_long s ls left b)

    -- what is refused as a line there
    pub line_here : (refusal : Refusal) → RefusedLine (told_by state) state.at (drop state.at s) refusal →
        RefusedLine (told_behind s ls) (length (file_bytes ls)) left refusal
    line_here refusal r =
        let r₁ = subst (λ (t : Told). RefusedLine t state.at (drop state.at s) refusal) told_is r in
        let r₂ = subst (λ (x : List ℕ). RefusedLine (told_behind s ls) state.at x refusal) there r₁ in
        subst (λ (i : ℕ). RefusedLine (told_behind s ls) i left refusal) h.place r₂

    pub here_line : (refusal : Refusal) → RefusedLine (told_behind s ls) (length (file_bytes ls)) left refusal →
        RefusedLine (told_by state) state.at (drop state.at s) refusal
    here_line refusal r =
        let r₁ = subst (λ (i : ℕ). RefusedLine (told_behind s ls) i left refusal) (sym h.place) r in
        let r₂ = subst (λ (x : List ℕ). RefusedLine (told_behind s ls) state.at x refusal) (sym there) r₁ in
        subst (λ (t : Told). RefusedLine t state.at (drop state.at s) refusal) (sym told_is) r₂

  module _ (lent : Lent) (l : FileLine) (left : List ℕ) (f : NextLine lent.countries s ls l left) where
    stands : drop state.at s ≡ render l.kind l.fields ++ left
    stands = there (line_bytes l ++ left) f.begins

    reads : Reads (told_by state) s state.at (line_of state.at l) l.fields
    unfolding line_of
    reads =
        record {
          in_limit = f.begins.in_limit;
          comes = ap (λ (d : Due). may_come d l.kind) h.next ∙ f.comes;
          allowed = subst (λ (v : Version). LineOk (profile v) l.kind l.fields) (sym h.version) f.ok;
          rest = left;
          stands = stands;
          count = refl;
          next = refl;
        }

    pub before_end : state.at < length s
    before_end = omega (arith, h.place, left_long s ls (line_bytes l ++ left) f.begins, length-append (line_bytes l) left, line_some l)

    pub behind_line : Here s (ls ++ (l ∷ [])) (starts ++ (state.at ∷ [])) (behind s state (line_of state.at l))
    unfolding line_of
    behind_line =
        let more = bytes_more ls l [] in
        record {
          place =
              omega (
                arith,
                h.place,
                ap length more,
                length-append (file_bytes ls) (line_bytes l ++ []),
                length-append (line_bytes l) [],
                length-append (file_bytes (ls ++ (l ∷ []))) [],
              );
          count = omega (arith, h.count, length-append ls (l ∷ []));
          version = h.version;
          next = sym (due_more First ls l);
          seen =
              subst (Seen s (starts ++ (state.at ∷ []))) (sym (codes_more ls l))
              (seen_more (sound (version_of s)) s starts (identcodes ls) state.at l.kind l.fields left h.seen stands f.ok);
          contacts =
              ap (λ (parts : List (List ℕ)). contacts_behind l.kind parts state.contacts) (read_parts reads)
              ∙ ap (contacts_behind l.kind (parts_of l)) h.contacts ∙ sym (after_more true ls l);
        }

    -- what the judge asks of it
    abbrev lacks : Bool
    lacks = lacks_contact l.kind (parts_of l) lent.countries (contacts_after true ls)

    asked : lacks_contact l.kind (split (text_at s state.at)) lent.countries state.contacts ≡ lacks
    unfolding line_of
    asked = asks lent.countries (line_of state.at l) l.fields reads

    -- its step, by cases
    pub step_lacks : lacks ≡ true → step_answer s lent starts state ≡ Err (because ContactMissing state.at)
    unfolding step_answer on_line line_of
    step_lacks e = rw (reads_accepted reads, asked, e)

    module _ (reached : lacks ≡ false) where
      pub step_repeats : repeats l.kind s starts state.at ≡ true →
          step_answer s lent starts state ≡ Err (because IdentcodeRepeated (state.at + 4))
      unfolding step_answer on_line listing line_of
      step_repeats r = rw (reads_accepted reads, asked, reached, r)

      module _ (fresh : Fresh (identcodes ls) (codes_on l.kind l.fields)) where
        new : repeats l.kind s starts state.at ≡ false
        new = not_fresh s starts (identcodes ls) state.at l.fields left h.seen (sound (version_of s)) l.kind stands f.ok fresh

        pub step_full : lent.words ≤ state.lines → step_answer s lent starts state ≡ Err (because ListFull state.at)
        unfolding step_answer on_line listing line_of
        step_full full = rw (reads_accepted reads, asked, reached, new, no_word lent.words state.lines full)

        pub step_on : state.lines < lent.words → step_answer s lent starts state ≡ Ok (behind s state (line_of state.at l))
        unfolding step_answer on_line listing line_of
        step_on r = rw (reads_accepted reads, asked, reached, new, left_word lent.words state.lines r)

-- a repeated identcode
pub repeats_parcel : (kind : Record) (s starts : List ℕ) (at : ℕ) → repeats kind s starts at ≡ true → kind ≡ Parcel
unfolding repeats
repeats_parcel Header s starts at e = absurd (false≢true e)
repeats_parcel Sender s starts at e = absurd (false≢true e)
repeats_parcel Shipment s starts at e = absurd (false≢true e)
repeats_parcel Parcel s starts at e = refl
repeats_parcel Product s starts at e = absurd (false≢true e)
repeats_parcel Feature s starts at e = absurd (false≢true e)

pub repeats_code : (version : Version) (kind : Record) (s starts : List ℕ) (at : ℕ) (codes fs : List (List ℕ)) (rest : List ℕ) → Seen s starts codes →
    kind ≡ Parcel → drop at s ≡ render kind fs ++ rest → LineOk (profile version) kind fs → repeats kind s starts at ≡ one_of_codes (field_no fs 1) codes
unfolding repeats
repeats_code version kind s starts at codes fs rest seen k there ok =
    ap (λ (x : Record). repeats x s starts at) k ∙ seen at
    ∙ ap (λ (c : List ℕ). one_of_codes c codes)
    (code_here (sound version) s at fs rest (there ∙ ap (λ (x : Record). render x fs ++ rest) k) (subst (λ (x : Record). LineOk (profile version) x fs) k ok))
