-- The test of a field to be written, and the walk over the fields, one turn of it.
use Prim.Native.Nat.{ℕ, suc, ◌+◌, ◌*◌, ◌-◌, ◌≤◌, ◌<◌}
use mathlib.Core.Path.{◌≡◌, refl, sym, ap, ◌∙◌}
use mathlib.Core.Bool.{Bool, true, false}
use mathlib.Core.List.{List, [], ◌∷◌}
use native.Mathlib.Numerals.{add-one}
use native.Mathlib.Omega.{arith}
use lib.ListN.{length, take, drop, get_or, drop_of_length-le}
use lib.Seq.{drop-cons}
use Rattle.text.specs.Scan.{all}
use Rattle.text.proofs.Choices.{and_both, came_then}
use Rattle.refusal.specs.declared.Reason.{Reason}
use Rattle.refusal.specs.declared.Reason.TheVariants.{FieldForm}
use Rattle.refusal.specs.Table.{because}
use Rattle.records.specs.Record.{type_of}
use Rattle.fields.specs.Profile.{profile, Row}
use Rattle.fields.specs.Field.{tested}
use Rattle.records.specs.declared.record.Record.{Record}
use Rattle.records.specs.declared.version.Version.{Version}
use Rattle.fields.proofs.Tests.{bad, good_passed}
use Rattle.fields.proofs.Rules.{within, width_le, sound}
use Rattle.line.specs.Render.{joined, plain, all_in}
use Rattle.line.specs.Walk.{on_test}
use Rattle.line.proofs.Passing.{Each, each_le}
use Rattle.writer.specs.Write.{rises_to, ends_hold, fields_from, between, if_plain, tested_to_write, walked}
use Rattle.writer.proofs.Ends.{end_rises, rest_rises, end_inside}
use Rattle.std.specs.Prelude.{⊤, Result, Ok, Err}

module _ (rows : List Row) (n : ℕ) (beside f : List ℕ) (t : Result ⊤ Reason) (et : t ≡ tested rows n beside f) where
  pub test_bad : (why : Reason) → t ≡ Err why → Err why ≡ tested_to_write rows n beside f
  unfolding tested_to_write
  test_bad why e = rw (← et, e)

  module _ (good : t ≡ Ok tt) (p : Bool) (ep : p ≡ all plain f) where
    pub test_good : p ≡ true → Ok tt ≡ tested_to_write rows n beside f
    unfolding tested_to_write
    test_good e = rw (← et, good, ← ep, e)

    pub test_other : p ≡ false → Err FieldForm ≡ tested_to_write rows n beside f
    unfolding tested_to_write
    test_other e = rw (← et, good, ← ep, e)

-- no rule of a first field looks beside it
besides_alike : (rows : List Row) → ((b c f : List ℕ) → tested rows 1 b f ≡ tested rows 1 c f) → (b c : List ℕ) (fs : List (List ℕ)) →
    walked rows 1 b fs ≡ walked rows 1 c fs
unfolding tested_to_write
besides_alike rows lone b c [] = refl
besides_alike rows lone b c (f ∷ fs) = ap (λ (t : Result ⊤ Reason). on_test (if_plain t f) 1 (walked rows 2 f fs)) (lone b c f)

-- the loop at the field behind i others, which starts at start; beside it stands the one that starts at beside
pub record Walking (rows : List Row) (kind : Record) (text ends : List ℕ) (beside start i : ℕ) : Type 0 where
  pub counted : i ≤ length ends
  pub behind : beside ≤ start
  pub inside : start ≤ length text
  pub rises : rises_to (length text) start (drop i ends) ≡ true
  pub left :
      walked rows (i + 1) (take (start - beside) (drop beside text)) (fields_from start text (drop i ends)) ≡ walked
      rows 1 (type_of kind) (between text ends)

pub walking_none : (version : Version) (kind : Record) (text ends : List ℕ) → ends_hold ends (length text) ≡ true →
    Walking (profile version kind) kind text ends 0 0 0
unfolding ends_hold between
walking_none version kind text ends e =
    record {
      counted = omega arith;
      behind = omega arith;
      inside = omega arith;
      rises = e;
      left = besides_alike (profile version kind) ((sound version).lone kind) (take (0 - 0) (drop 0 text)) (type_of kind) (between text ends);
    }

module _ (rows : List Row) (kind : Record) (text ends : List ℕ) (beside start i : ℕ) (g : Walking rows kind text ends beside start i) where
  pub walking_done : length ends ≤ i → Ok tt ≡ walked rows 1 (type_of kind) (between text ends)
  walking_done h = sym (rw (drop_of_length-le ends)) ∙ g.left

  module _ (h : i < length ends) where
    pub next_rises : start ≤ get_or ends i 0
    next_rises = end_rises (length text) ends i start g.rises h

    pub next_inside : get_or ends i 0 ≤ length text
    next_inside = end_inside (length text) ends i start g.rises h

    module _ (t : Result ⊤ Reason) (et : t ≡ tested_to_write rows (i + 1) (take (start - beside) (drop beside text))
        (take (get_or ends i 0 - start) (drop start text))) where
      abbrev field : List ℕ
      field = take (get_or ends i 0 - start) (drop start text)

      turn : on_test t (i + 1) (walked rows (suc (i + 1)) field (fields_from (get_or ends i 0) text (drop (suc i) ends))) ≡ walked
          rows 1 (type_of kind) (between text ends)
      turn =
          rw et
          (sym (ap (λ (l : List ℕ). walked rows (i + 1) (take (start - beside) (drop beside text)) (fields_from start text l))
          (drop-cons ends i 0 h)) ∙ g.left)

      pub walking_stops : (why : Reason) → t ≡ Err why →
          Err (because why (i + 1)) ≡ walked rows 1 (type_of kind) (between text ends)
      walking_stops why e = rw e at turn

      pub walking_on : t ≡ Ok tt → Walking rows kind text ends start (get_or ends i 0) (i + 1)
      walking_on e =
          let on : walked rows (suc (i + 1)) field (fields_from (get_or ends i 0) text (drop (suc i) ends)) ≡ walked
          rows 1 (type_of kind) (between text ends) = rw e at turn in
          record {
            counted = omega arith;
            behind = next_rises;
            inside = next_inside;
            rises = rest_rises (length text) ends i start g.rises h;
            left =
                ap (λ (n : ℕ). walked rows n field (fields_from (get_or ends i 0) text (drop (i + 1) ends))) (add-one (i + 1))
                ∙ ap (λ (n : ℕ). walked rows (suc (i + 1)) field (fields_from (get_or ends i 0) text (drop n ends))) (add-one i)
                ∙ on;
          }

-- a field that is written passes the reader's test and is plain
pub test_passes : (rows : List Row) (n : ℕ) (beside f : List ℕ) → tested_to_write rows n beside f ≡ Ok tt →
    (tested rows n beside f ≡ Ok tt) × (all plain f ≡ true)
unfolding tested_to_write
test_passes rows n beside f e = go (tested rows n beside f) e
  where
    go : (t : Result ⊤ Reason) → if_plain t f ≡ Ok tt → (t ≡ Ok tt) × (all plain f ≡ true)
    go (Err why) e = absurd (bad e)
    go (Ok _) e = (refl, (came_then (all plain f) (Ok tt) (Err FieldForm) (Ok tt) bad e).0)

pub passes_test : (rows : List Row) (n : ℕ) (beside f : List ℕ) → tested rows n beside f ≡ Ok tt → all plain f ≡ true →
    tested_to_write rows n beside f ≡ Ok tt
unfolding tested_to_write
passes_test rows n beside f e p = rw (e, p)

-- the fields of a fine walk: plain bytes, and not too many
module _ (rows : List Row) where
  pub walked_plain : (n : ℕ) (beside : List ℕ) (fs : List (List ℕ)) → Each (tested_to_write rows) n beside fs → all_in plain fs ≡ true
  walked_plain n beside [] g = refl
  walked_plain n beside (f ∷ fs) g = and_both (all plain f) (all_in plain fs) (test_passes rows n beside f g.0).1
      (walked_plain (suc n) f fs g.1)

  pub walked_le : within rows ≡ true → (n : ℕ) (beside : List ℕ) (fs : List (List ℕ)) → Each (tested_to_write rows) n beside fs →
      length (joined fs) ≤ 101 * length fs
  walked_le w = each_le (tested_to_write rows)
      (λ n b f e. omega (arith, (good_passed rows n b f (test_passes rows n b f e).0).fits, width_le rows n b w))
