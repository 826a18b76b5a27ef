-- A line is not written exactly when its record, its ends, its fields or the room say so.
use Prim.Native.Nat.{ℕ, suc, ◌+◌}
use mathlib.Core.Path.{◌≡◌, refl, sym, ap, subst, ◌∙◌}
use mathlib.Core.Bool.{false, not}
use mathlib.Core.List.{List, [], ◌∷◌, ◌++◌}
use mathlib.Core.Logic.{◌↔◌, ⊎_elim}
use native.Mathlib.Omega.{arith}
use lib.Dec.{leb}
use lib.ListN.{length}
use borrow.Author.Tests.{leb-false, lt-leb, not-true, not-false}
use Rattle.text.specs.Scan.{all}
use Rattle.text.proofs.Choices.{choice, true_or_false, clash}
use Rattle.refusal.specs.Table.{because, verdict_on}
use Rattle.refusal.specs.declared.Refusal.{Refusal}
use Rattle.refusal.specs.declared.Reason.{Reason}
use Rattle.refusal.specs.declared.Reason.TheVariants.{UnknownRecord, FieldEnds, FieldCount, FieldForm, FeatureLacks, OutputTooShort}
use Rattle.refusal.proofs.Verdicts.{no_pass}
use Rattle.records.specs.Record.{type_of, count_fits}
use Rattle.fields.specs.Profile.{Row, Rules, profile, width_of, has_form}
use Rattle.fields.specs.Field.{tested}
use Rattle.records.specs.declared.record.Record.{Record}
use Rattle.records.specs.declared.record.Record.TheVariants.{Feature}
use Rattle.fields.proofs.Tests as tests
use Rattle.line.specs.Render.{render, plain}
use Rattle.line.specs.Need.{lacks}
use Rattle.line.proofs.Passing.{fine_each, each_fine}
use Rattle.grammar.specs.Grammar.{FieldsOk}
use Rattle.grammar.proofs.Needs.{lacks_not, lacks_feature, lacks_some}
use Rattle.grammar.proofs.Back.{walked_fields, fields_walked}
use Rattle.writer.specs.Write.{record_numbered, ends_hold, between, if_plain, tested_to_write}
use Rattle.writer.specs.Write.{next_number, walked, of_fields, after_walk, of_record, answer_under, write_answer}
use Rattle.writer.specs.Write.{written_to, Writes}
use Rattle.writer.proofs.Ends.{between_count}
use Rattle.refused.specs.Line.{RefusedTold}
use Rattle.refused.specs.Write.{RefusedToWrite, Handed, RefusedWrite}
use Rattle.line.proofs.Stopping.{place_behind, stopped_stops, stops_stopped}
use Rattle.refused.proofs.Told.{told_refused_exactly}
use Rattle.refused.proofs.Fields.{bad_same, bad_refused, refused_bad}
use Rattle.std.specs.Prelude.{⊤, Option, Some, None, Result, Ok, Err}

module _ (rows : List Row) (n : ℕ) (beside f : List ℕ) where
  not_empty : (g : List ℕ) → all plain g ≡ false → length g ≡ 0 → ⊥
  not_empty [] e z = clash refl e
  not_empty (b ∷ g) e z = omega arith

  write_bad : (why : Reason) → tested_to_write rows n beside f ≡ Err why → RefusedToWrite rows n beside f why
  unfolding tested_to_write
  write_bad why e = go (tested rows n beside f) refl e
    where
      go : (t : Result ⊤ Reason) → tested rows n beside f ≡ t → if_plain t f ≡ Err why → RefusedToWrite rows n beside f why
      go (Err w) et q = RefusedToWrite.as_read why (bad_refused rows n beside f why (et ∙ q))
      go (Ok tt) et q =
          choice (all plain f) (Ok tt) (Err FieldForm) (Err why) (λ t r. absurd (tests.bad (sym r)))
          (λ t r. subst (RefusedToWrite rows n beside f) (bad_same r) (RefusedToWrite.not_plain (tests.good_passed rows n beside f et).fits t)) q

  bad_write : (why : Reason) → RefusedToWrite rows n beside f why → tested_to_write rows n beside f ≡ Err why
  unfolding tested_to_write
  bad_write why (RefusedToWrite.as_read w g) = rw (refused_bad rows n beside f w g)
  bad_write why (RefusedToWrite.not_plain h p) =
      ⊎_elim
      (λ t. rw (← tests.form_good rows n beside f (width_of rows n beside) refl h (not_empty f p) (has_form rows n beside f) refl t, p))
      (λ t. rw (← tests.form_bad rows n beside f (width_of rows n beside) refl h (not_empty f p) (has_form rows n beside f) refl t))
      (true_or_false (has_form rows n beside f))

-- the number of the field behind these
number_behind : (rows : List Row) (n : ℕ) (front : List (List ℕ)) → place_behind (tested_to_write rows) next_number n front ≡ n + length front
number_behind rows n [] = omega arith
number_behind rows n (f ∷ front) = omega (arith, number_behind rows (suc n) front)

module _ (rules : Rules) (number : ℕ) (text ends : List ℕ) (size fill : ℕ) where
  module _ (refusal : Refusal) where
    abbrev Goal : Type 0
    Goal = RefusedWrite rules number text ends size fill refusal

    is : (other : Refusal) → RefusedWrite rules number text ends size fill other → ◌≡◌ {A = Result ℕ Refusal} (Err other) (Err refusal) → Goal
    is other g e = let same : other ≡ refusal = cc in subst (RefusedWrite rules number text ends size fill) same g

    module _ (kind : Record) (h : Handed number text ends kind (between text ends)) where
      abbrev fs : List (List ℕ)
      fs = between text ends

      of_fields_lem : FieldsOk (rules kind) 1 (type_of kind) fs → of_fields kind fs size fill ≡ Err refusal → Goal
      unfolding of_fields
      of_fields_lem ok e =
          choice (lacks kind (type_of kind ∷ fs)) (Err (because FeatureLacks 0)) _ (Err refusal)
          (λ t q. let known = lacks_feature (λ (k : Record). Handed number text ends k fs × FieldsOk (rules k) 1 (type_of k) fs) kind fs t (h, ok) in
          is (because FeatureLacks 0) (RefusedWrite.feature_lacks fs known.0.0 known.0.1 known.1) q)
          (λ t. choice (leb (fill + length (render kind fs)) size) (Ok (length (render kind fs))) (Err (because OutputTooShort 0)) (Err refusal)
          (λ u q. absurd (no_pass verdict_on refl refl (sym q)))
          (λ u q. is (because OutputTooShort 0) (RefusedWrite.too_short kind fs h (record {
            counted = ap (count_fits kind) (between_count text ends) ∙ h.counted;
            fields = ok;
            served = (lacks_not kind fs).0 t;
          }) (leb-false (fill + length (render kind fs)) size u)) q)) e

      of_walk : (w : Result ⊤ Refusal) → walked (rules kind) 1 (type_of kind) fs ≡ w → after_walk w kind fs size fill ≡ Err refusal → Goal
      of_walk (Err other) ew e =
          let rows = rules kind in
          let r = stopped_stops (tested_to_write rows) next_number 1 1 (type_of kind) fs other ew in
          is other
          (subst (RefusedWrite rules number text ends size fill) (sym (r.is ∙ ap (because r.why) (number_behind rows 1 r.front)))
          (RefusedWrite.bad_field kind r.front r.field r.more r.why (subst (Handed number text ends kind) r.parts h)
          (walked_fields rows 1 (type_of kind) r.front r.before) (write_bad rows (1 + length r.front) _ r.field r.why r.here))) e
      of_walk (Ok tt) ew e =
          of_fields_lem (walked_fields (rules kind) 1 (type_of kind) fs (fine_each (tested_to_write (rules kind)) next_number 1 1 (type_of kind) fs ew)) e

    pub answer_write : answer_under rules number text ends size fill ≡ Err refusal → Goal
    unfolding answer_under of_record
    answer_write e = go (record_numbered number) refl e
      where
        go : (m : Option Record) → record_numbered number ≡ m → of_record rules m text ends size fill ≡ Err refusal → Goal
        go None em q = is (because UnknownRecord 0) (RefusedWrite.unknown_record em) q
        go (Some kind) em q =
            choice (not (ends_hold ends (length text))) (Err (because FieldEnds 0)) _ (Err refusal)
            (λ t r. is (because FieldEnds 0) (RefusedWrite.field_ends kind em (not-true (ends_hold ends (length text)) t)) r)
            (λ t. choice (not (count_fits kind (length ends))) (Err (because FieldCount 0)) _ (Err refusal)
            (λ u r. is (because FieldCount 0)
            (RefusedWrite.field_count kind em (not-false (ends_hold ends (length text)) t) (not-true (count_fits kind (length ends)) u)) r)
            (λ u r. of_walk kind (record {
              known = em;
              held = not-false (ends_hold ends (length text)) t;
              counted = not-false (count_fits kind (length ends)) u;
              fields = refl;
            }) (walked (rules kind) 1 (type_of kind) (between text ends)) refl r)) q

  -- and the other way round
  handed_answer : (kind : Record) (fs : List (List ℕ)) → Handed number text ends kind fs → (w : Result ⊤ Refusal) →
      walked (rules kind) 1 (type_of kind) fs ≡ w →
      answer_under rules number text ends size fill ≡ after_walk w kind fs size fill
  unfolding answer_under of_record
  handed_answer kind fs h w e = rw (h.known, h.held, h.counted, h.fields, e)

  fine_walk : (kind : Record) (fs : List (List ℕ)) → FieldsOk (rules kind) 1 (type_of kind) fs →
      walked (rules kind) 1 (type_of kind) fs ≡ Ok tt
  fine_walk kind fs g = each_fine (tested_to_write (rules kind)) next_number 1 1 (type_of kind) fs (fields_walked (rules kind) 1 (type_of kind) fs g)

  pub write_answer_lem : (refusal : Refusal) → RefusedWrite rules number text ends size fill refusal →
      answer_under rules number text ends size fill ≡ Err refusal
  unfolding answer_under of_record of_fields
  write_answer_lem refusal (RefusedWrite.unknown_record e) = rw e
  write_answer_lem refusal (RefusedWrite.field_ends kind k e) = rw (k, e)
  write_answer_lem refusal (RefusedWrite.field_count kind k h e) = rw (k, h, e)
  write_answer_lem refusal (RefusedWrite.bad_field kind front f more why h b g) =
      let rows = rules kind in
      handed_answer kind (front ++ f ∷ more) h (Err (because why (1 + length front)))
      (stops_stopped (tested_to_write rows) next_number 1 1 (type_of kind) front f more why (fields_walked rows 1 (type_of kind) front b)
      (bad_write rows (1 + length front) _ f why g) ∙ ap (λ (p : ℕ). Err (because why p)) (number_behind rows 1 front))
  write_answer_lem refusal (RefusedWrite.feature_lacks fs h g l) =
      handed_answer Feature fs h (Ok tt) (fine_walk Feature fs g) ∙ rw ((lacks_some fs).1 l)
  write_answer_lem refusal (RefusedWrite.too_short kind fs h g s) =
      handed_answer kind fs h (Ok tt) (fine_walk kind fs g.fields) ∙ rw ((lacks_not kind fs).1 g.served, lt-leb (fill + length (render kind fs)) size s)

write_told : {a b : Refusal} → ◌≡◌ {A = Result ℕ Refusal} (Err a) (Err b) → a ≡ b
write_told e = cc

-- a line is not written, by this number and at this place, exactly then; the output is then as it was
pub write_refused_exactly : (told number : ℕ) (text ends output : List ℕ) (fill : ℕ) (refusal : Refusal) (after : List ℕ) →
    Writes told number text ends output fill (Err refusal) after ↔
    (RefusedTold told (λ version. RefusedWrite (profile version) number text ends (length output) fill) refusal × (after ≡ output))
unfolding written_to write_answer
write_refused_exactly told number text ends output fill refusal after = (
  λ p. (exactly.0 (sym p.0), p.1 ∙ stays (record_numbered number)),
  λ g. (sym (exactly.1 g.0), g.1 ∙ sym (stays (record_numbered number))),
)
  where
    exactly : (write_answer told number text ends (length output) fill ≡ Err refusal) ↔
        RefusedTold told (λ version. RefusedWrite (profile version) number text ends (length output) fill) refusal
    exactly =
        told_refused_exactly told (λ version. RefusedWrite (profile version) number text ends (length output) fill) Err
        (λ version. answer_under (profile version) number text ends (length output) fill) (λ a b e. write_told e)
        (λ version why. (
          answer_write (profile version) number text ends (length output) fill why,
          write_answer_lem (profile version) number text ends (length output) fill why,
        )) refusal

    stays : (m : Option Record) → written_to (Err refusal) m (between text ends) output fill ≡ output
    stays None = refl
    stays (Some kind) = refl
