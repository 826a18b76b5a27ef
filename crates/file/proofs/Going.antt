-- The judge on its way through a file: what holds whenever it comes to a line, one line further, and at the end.
use Prim.Native.Nat.{ℕ, zero, suc, ◌+◌, ◌-◌, ◌*◌, ◌≤◌, ◌<◌}
use mathlib.Core.Path.{◌≡◌, refl, sym, ap, ◌∙◌}
use mathlib.Core.Bool.{Bool, true, false, not}
use mathlib.Core.List.{List, [], ◌∷◌, ◌++◌}
use native.Mathlib.Omega.{arith}
use lib.ListN.{length, drop, set, replicate, length-set}
use borrow.Author.Tests.{lt-ltb, le-ltb, not-true, not-false}
use Rattle.refusal.specs.declared.Reason.TheVariants.{FileTooLong, FileEnds, CountriesOdd}
use Rattle.refusal.specs.Table.{because}
use Rattle.refusal.specs.declared.Refusal.{Refusal}
use Rattle.countries.specs.List.{is_paired}
use Rattle.records.specs.Record.{may_end}
use Rattle.records.specs.declared.record.Record.{Record}
use Rattle.records.specs.declared.record.Record.TheVariants.{Header, Sender, Shipment, Parcel, Product, Feature}
use Rattle.line.specs.Line.{line_answer, text_at, file_limit}
use Rattle.line.specs.Parts.{split}
use Rattle.line.proofs.Accepting.{next_after}
use Rattle.fields.proofs.Rules.{sound}
use Rattle.file.specs.Lent.{Lent}
use Rattle.file.specs.Version.{version_of}
use Rattle.file.specs.Step.{told_by, parcels_in, behind, listed_so_far, step_answer}
use Rattle.file.specs.File.{Judged, begin, passed, ended, on_step, file_from, judged, list_of, Judges}
use Rattle.records.specs.declared.version.Version.{Version}
use Rattle.file.specs.declared.step.State.{State}
use Rattle.file.specs.Identcode.{parcels_most, Sown}
use Rattle.file.proofs.Cashing.{cash_below}
use Rattle.file.proofs.Codes.{accepted_far}
use Rattle.file.proofs.Sowing.{sown_none}
use Rattle.file.proofs.Stepping.{Went, went}
use Rattle.file.proofs.Lists.{word_left, listed_none, listed_more, unlisted_more, list_whole}
use Rattle.std.specs.Prelude.{Result, Ok, Err}
use Rattle.file.specs.declared.whole.Totals.{Totals}

pub record Going (s : List ℕ) (lent : Lent) (words codes : List ℕ) (state : State) : Type 0 where
  pub in_limit : length s ≤ file_limit
  pub long : length words ≡ lent.words
  pub lines : state.lines ≤ state.at
  pub room : state.lines ≤ lent.words
  pub parcels : state.parcels ≤ state.lines
  pub cents : state.cents ≤ 99999999 * state.lines
  pub cleared : drop state.lines words ≡ replicate (lent.words - state.lines) 0
  -- each parcel took at least 28 bytes
  pub far : 28 * state.parcels ≤ state.at
  -- the tree has the identcodes of the lines so far
  pub sown : Sown s (listed_so_far state.lines words) state.parcels codes
  pub going : file_from (length s + 1 - state.lines) s lent (listed_so_far state.lines words) state ≡ judged s lent

pub going_none : (s countries words codes : List ℕ) (version : Version) → version ≡ version_of s → length s ≤ file_limit → is_paired countries ≡ true → words ≡ replicate (length words) 0 →
    Going s (record { countries = countries; words = length words }) words codes (begin version)
unfolding judged
going_none s countries words codes version ev h paired e =
    record {
      in_limit = h;
      long = refl;
      lines = omega arith;
      room = omega arith;
      parcels = omega arith;
      cents = omega arith;
      cleared = e ∙ ap (λ (k : ℕ). replicate k 0) less;
      far = omega arith;
      sown = rw (listed_none words) (sown_none s codes);
      going = ap (λ (l : List ℕ). file_from (length s + 1 - 0) s lent l (begin version)) (listed_none words)
          ∙ ap (λ (n : ℕ). file_from n s lent [] (begin version)) whole ∙ ap (λ (v : Version). file_from (length s + 1) s lent [] (begin v)) ev ∙ sym (rw (le-ltb file_limit (length s) h, paired));
    }
  where
    lent : Lent
    lent = record { countries = countries; words = length words }

    less : length words ≡ length words - 0
    less = omega arith

    whole : length s + 1 - 0 ≡ length s + 1
    whole = omega arith

parcels_le : (kind : Record) → parcels_in kind ≤ 1
parcels_le Header = omega arith
parcels_le Sender = omega arith
parcels_le Shipment = omega arith
parcels_le Parcel = omega arith
parcels_le Product = omega arith
parcels_le Feature = omega arith

-- a file of which this is said lists no line: all words are 0
all_clear : (s : List ℕ) (lent : Lent) (a : Result Totals Refusal) → judged s lent ≡ record { answer = a; starts = [] } → (words list : List ℕ) →
    length words ≡ lent.words → list ≡ replicate (length words) 0 → Judges s lent a list
all_clear s lent a e words list long el =
    let k : length words ≡ lent.words - 0 = omega arith in (
      sym (ap (λ (j : Judged). j.answer) e),
      el ∙ ap (λ (n : ℕ). replicate n 0) k ∙ sym (ap (λ (j : Judged). list_of lent.words j.starts) e),
    )

pub long_judged : (s : List ℕ) (lent : Lent) → file_limit < length s → (words list : List ℕ) → length words ≡ lent.words →
    list ≡ replicate (length words) 0 → Judges s lent (Err (because FileTooLong file_limit)) list
unfolding judged
long_judged s lent h = all_clear s lent (Err (because FileTooLong file_limit)) (rw (lt-ltb file_limit (length s) h))

pub odd_judged : (s : List ℕ) (lent : Lent) → length s ≤ file_limit → (t : Bool) → t ≡ is_paired lent.countries → not t ≡ true →
    (words list : List ℕ) → length words ≡ lent.words → list ≡ replicate (length words) 0 → Judges s lent (Err (because CountriesOdd 0)) list
unfolding judged
odd_judged s lent h t et e = all_clear s lent (Err (because CountriesOdd 0)) (rw (le-ltb file_limit (length s) h, ← et, not-true t e))

pub even_told : (countries : List ℕ) (t : Bool) → t ≡ is_paired countries → not t ≡ false → is_paired countries ≡ true
even_told countries t et e = sym et ∙ not-false t e

module _ (s : List ℕ) (lent : Lent) (words codes : List ℕ) (state : State) (g : Going s lent words codes state) where
  -- so few parcels have room in a file
  pub few_parcels : state.at < length s → state.parcels ≤ parcels_most
  few_parcels h = omega (arith, g.in_limit, g.far)

  -- the turn that is due
  turn : state.at < length s → on_step (step_answer s lent (listed_so_far state.lines words) state)
      (λ next. file_from (length s - state.lines) s lent (listed_so_far state.lines words ++ (state.at ∷ [])) next) ≡ judged s lent
  turn h =
      let k : length s + 1 - state.lines ≡ suc (length s - state.lines) = omega (arith, g.lines) in
      sym (ap (λ (n : ℕ). file_from n s lent (listed_so_far state.lines words) state) k ∙ rw (lt-ltb state.at (length s) h)) ∙ g.going

  module _ (step : Result State Refusal) (h : state.at < length s)
      (el : step ≡ step_answer s (record { countries = lent.countries; words = length words }) (listed_so_far state.lines words) state) where
    es : step ≡ step_answer s lent (listed_so_far state.lines words) state
    es = el ∙ ap (λ (n : ℕ). step_answer s (record { countries = lent.countries; words = n }) (listed_so_far state.lines words) state) g.long

    -- a step that goes on has a word for its line, and comes nearer to the end
    over : (next : State) → step ≡ Ok next → Went s lent (listed_so_far state.lines words) state next
    over next e = went s lent (listed_so_far state.lines words) state next (sym es ∙ e)

    pub less_left : (next : State) → step ≡ Ok next → length s - next.at < length s - state.at
    less_left next e =
        let w = over next e in
        let after = next_after (told_by state) s state.at (line_answer (told_by state) s state.at) refl w.line w.accepted in
        omega (arith, after, ap (λ (n : State). n.at) w.there)

    pub going_more : (next : State) → step ≡ Ok next → (list after : List ℕ) →
        ((n : State) → step ≡ Ok n → Sown s (listed_so_far state.lines words ++ (state.at ∷ [])) n.parcels after) →
        ((n : State) → step ≡ Ok n → list ≡ set words state.lines state.at) → Going s lent list after next
    going_more next e list after sown listed =
        let w = over next e in
        let line = w.line in
        let now = behind s state line in
        let behind_it = next_after (told_by state) s state.at (line_answer (told_by state) s state.at) refl line w.accepted in
        let far = accepted_far (told_by state) s state.at (line_answer (told_by state) s state.at) refl line w.accepted (sound state.version) in
        let fewer : length s + 1 - (state.lines + 1) ≡ length s - state.lines = omega arith in
        let on : file_from (length s - state.lines) s lent (listed_so_far state.lines words ++ (state.at ∷ [])) now ≡ judged s lent =
        rw (sym es ∙ e, ← w.there) at (turn h) in
        let more-listed = listed_more words state.lines lent.words state.at g.long w.room g.cleared in
        let more : Going s lent (set words state.lines state.at) after now =
        record {
          in_limit = g.in_limit;
          long = length-set words state.lines state.at ∙ g.long;
          lines = omega (arith, g.lines, behind_it);
          room = omega (arith, word_left lent.words state.lines w.room);
          parcels = omega (arith, g.parcels, parcels_le line.kind);
          cents = omega (arith, g.cents, cash_below line.kind (split (text_at s state.at)));
          cleared = unlisted_more words state.lines lent.words state.at g.long w.room g.cleared;
          far = omega (arith, g.far, far);
          sown = rw more-listed (sown now (e ∙ ap Ok (sym w.there)));
          going = ap (λ (n : ℕ). file_from n s lent (listed_so_far (state.lines + 1) (set words state.lines state.at)) now) fewer
              ∙ ap (λ (l : List ℕ). file_from (length s - state.lines) s lent l now)
              more-listed
              ∙ on;
        } in
        rw (listed next e) (rw w.there at more)

    -- what the code answers and leaves where a line stops it
    pub stop_judged : (refusal : Refusal) → step ≡ Err refusal → (left list : List ℕ) → length left ≡ length words →
        list ≡ replicate (length left) 0 → Judges s lent (Err refusal) list
    stop_judged refusal e left list kept el = all_clear s lent (Err refusal) (sym (rw (sym es ∙ e) at (turn h))) left list (kept ∙ g.long) el

  module _ (h : length s ≤ state.at) where
    file_ends : (turns : ℕ) → file_from turns s lent (listed_so_far state.lines words) state ≡ ended s (listed_so_far state.lines words) state
    file_ends zero = refl
    file_ends (suc turns) = rw (le-ltb state.at (length s) h)

    at_end : judged s lent ≡ ended s (listed_so_far state.lines words) state
    at_end = sym g.going ∙ file_ends (length s + 1 - state.lines)

    module _ (t : Bool) (et : t ≡ may_end state.due) where
      pub due_judged : not t ≡ true → (list : List ℕ) → list ≡ replicate (length words) 0 → Judges s lent (Err (because FileEnds (length s))) list
      due_judged e list el = all_clear s lent (Err (because FileEnds (length s))) (at_end ∙ rw (← et, not-true t e)) words list g.long el

      pub end_judged : not t ≡ false →
          Judges s lent (Ok (record { lines = state.lines; parcels = state.parcels; cents = state.cents })) words
      end_judged e =
          let all_read : judged s lent ≡ passed (listed_so_far state.lines words) state = at_end ∙ rw (← et, not-false t e) in (
            sym (ap (λ (j : Judged). j.answer) all_read),
            list_whole words state.lines lent.words g.long g.room g.cleared
                ∙ sym (ap (λ (j : Judged). list_of lent.words j.starts) all_read),
          )

-- the list's length is what it was
pub same_judged : (s countries : List ℕ) (m n : ℕ) → m ≡ n → (r : Result Totals Refusal) (list : List ℕ) →
    Judges s (record { countries = countries; words = m }) r list → Judges s (record { countries = countries; words = n }) r list
same_judged s countries m n e r list j = rw e at j

pub clear_now : (words words₀ : List ℕ) → length words ≡ length words₀ → words ≡ replicate (length words₀) 0 →
    words ≡ replicate (length words) 0
clear_now words words₀ long e = e ∙ ap (λ (k : ℕ). replicate k 0) (sym long)
