-- A number typed key by key: its carry is that of the whole, and behind its check it is 2.
use Prim.Native.Nat.{ℕ, ◌+◌, ◌%◌}
use mathlib.Core.Path.{◌≡◌, refl, sym, ap, ◌∙◌}
use mathlib.Core.Bool.{true, false}
use mathlib.Core.List.{List, [], ◌∷◌, ◌++◌}
use mathlib.Core.Logic.{◌↔◌, ⊎_elim}
use native.Mathlib.Omega.{arith}
use lib.ListN.{length, get_or}
use Rattle.refusal.specs.declared.Reason.TheVariants.{WrongSymbol}
use Rattle.refusal.specs.declared.Refusal.{Refusal}
use Rattle.refusal.specs.Table.{because, verdict_on}
use Rattle.refusal.proofs.Verdicts.{no_pass}
use Rattle.text.specs.Byte.{symbol}
use Rattle.text.specs.Scan.{all}
use Rattle.text.proofs.Choices.{and_left, and_right, and_both, true_or_false, clash}
use Rattle.text.proofs.Scans.{all_of}
use Rattle.text.proofs.Runs.{all_append, all_apart}
use Rattle.check_characters.specs.Symbol.{value_of}
use Rattle.check_characters.specs.Mod37.{step, carry_from, carry, check_of}
use Rattle.check_characters.specs.Number.{length_of, allowed_in_number, checked_number}
use Rattle.check_characters.specs.declared.number.Kind.{Kind}
use Rattle.check_characters.proofs.Carries.{Carry, step_carry, carry_of, carry_append, two_of_one, one_of_two, passes_two, two_passes}
use Rattle.check_characters.proofs.Keying.{next_step, next_no_symbol}
use Rattle.check_characters.proofs.Shapes.{has_last}
use Rattle.slips.specs.Exactly.{Shaped}
use Rattle.slips.specs.Typed.{typed_on, typed}
use Rattle.slips.proofs.Numbers.{symbol_of_lem, value_one, below, accepted_sound, sound_accepted}
use Rattle.slips.proofs.Issues.{check_symbol, check_closes}
use Rattle.std.specs.Prelude.{Result, Ok, Err}

typed_from : (c : ℕ) (keys : List ℕ) → Carry c → all symbol keys ≡ true → typed_on (Ok c) keys ≡ Ok (carry_from c keys)
typed_from c [] h e = refl
typed_from c (b ∷ keys) h e =
    ap (λ (a : Result ℕ Refusal). typed_on a keys) (next_step c b h (and_left (symbol b) (all symbol keys) e))
    ∙ typed_from (step c (value_of b)) keys (step_carry c (value_of b)) (and_right (symbol b) (all symbol keys) e)

refused_stays : (refusal : Refusal) (keys : List ℕ) → typed_on (Err refusal) keys ≡ Err refusal
refused_stays refusal [] = refl
refused_stays refusal (b ∷ keys) = refl

typed_stops : (c : ℕ) (keys : List ℕ) → Carry c → all symbol keys ≡ false → typed_on (Ok c) keys ≡ Err (because WrongSymbol 0)
typed_stops c [] h e = clash refl e
typed_stops c (b ∷ keys) h e =
    ⊎_elim (λ (t : symbol b ≡ true).
    ap (λ (a : Result ℕ Refusal). typed_on a keys) (next_step c b h t)
    ∙ typed_stops (step c (value_of b)) keys (step_carry c (value_of b)) (rw t at e))
    (λ (f : symbol b ≡ false). ap (λ (a : Result ℕ Refusal). typed_on a keys) (next_no_symbol c b h f) ∙ refused_stays (because WrongSymbol 0) keys)
    (true_or_false (symbol b))

module _ (keys : List ℕ) where
  pub typed_exactly : (c : ℕ) → (typed keys ≡ Ok c) ↔ ((all symbol keys ≡ true) × (c ≡ carry keys))
  typed_exactly c = (there, back)
    where
      there : typed keys ≡ Ok c → (all symbol keys ≡ true) × (c ≡ carry keys)
      there e =
          ⊎_elim (λ (t : all symbol keys ≡ true). let q = sym e ∙ typed_from 36 keys (carry_of []) t in let same : c ≡ carry keys = cc in (t, same))
          (λ (f : all symbol keys ≡ false). absurd (no_pass verdict_on refl refl (sym (typed_stops 36 keys (carry_of []) f) ∙ e)))
          (true_or_false (all symbol keys))

      back : (all symbol keys ≡ true) × (c ≡ carry keys) → typed keys ≡ Ok c
      back (t, e) = typed_from 36 keys (carry_of []) t ∙ ap Ok (sym e)

  pub typed_refused_exactly : (refusal : Refusal) → (typed keys ≡ Err refusal) ↔ ((all symbol keys ≡ false) × (refusal ≡ because WrongSymbol 0))
  typed_refused_exactly refusal = (there, back)
    where
      there : typed keys ≡ Err refusal → (all symbol keys ≡ false) × (refusal ≡ because WrongSymbol 0)
      there e =
          ⊎_elim (λ (t : all symbol keys ≡ true). absurd (no_pass verdict_on refl refl (sym e ∙ typed_from 36 keys (carry_of []) t)))
          (λ (f : all symbol keys ≡ false).
          let q = sym e ∙ typed_stops 36 keys (carry_of []) f in let same : refusal ≡ because WrongSymbol 0 = cc in (f, same))
          (true_or_false (all symbol keys))

      back : (all symbol keys ≡ false) × (refusal ≡ because WrongSymbol 0) → typed keys ≡ Err refusal
      back (f, e) = typed_stops 36 keys (carry_of []) f ∙ ap Err (sym e)

-- one key behind a body of symbols
module _ (body : List ℕ) (key : ℕ) where
  carry_behind : carry (body ++ (key ∷ [])) ≡ step (carry body) (value_of key)
  carry_behind = carry_append 36 body (key ∷ [])

-- the check is the one key that leaves 2
pub check_leaves_two : (body : List ℕ) (key : ℕ) → all symbol body ≡ true → (typed (body ++ (key ∷ [])) ≡ Ok 2) ↔ (key ≡ check_of body)
check_leaves_two body key t = (there, back)
  where
    there : typed (body ++ (key ∷ [])) ≡ Ok 2 → key ≡ check_of body
    there e =
        let r = (typed_exactly (body ++ (key ∷ [])) 2).0 e in
        let s = and_left (symbol key) true (all_apart symbol body (key ∷ []) r.0).1 in
        let one = one_of_two (carry body) (value_of key) (sym (carry_behind body key) ∙ sym r.1) in
        let closed = check_closes body in
        let value : value_of key ≡ value_of (check_of body) = omega (arith, one, closed, below key, below (check_of body)) in
        value_one key (check_of body) s (check_symbol body) value

    back : key ≡ check_of body → typed (body ++ (key ∷ [])) ≡ Ok 2
    back e =
        let s : symbol key ≡ true = ap symbol e ∙ check_symbol body in
        let whole = all_append symbol body (key ∷ []) t (and_both (symbol key) true s refl) in
        let one : (carry body + value_of key) % 36 ≡ 1 = rw e (check_closes body) in
        (typed_exactly (body ++ (key ∷ [])) 2).1 (whole, sym (carry_behind body key ∙ two_of_one (carry body) (value_of key) one))

-- a number of a kind's shape is accepted exactly when it leaves 2
module _ (k : Kind) (s : List ℕ) where
  shaped_symbols : length s ≡ length_of k → Shaped (allowed_in_number k) s → all symbol s ≡ true
  shaped_symbols long shaped = all_of symbol s (λ j l. symbol_of_lem k j (get_or s j 0) (rw long at l) (shaped j l))

  pub accepted_typed : (checked_number s ≡ Ok k) ↔ ((length s ≡ length_of k) × Shaped (allowed_in_number k) s × (typed s ≡ Ok 2))
  accepted_typed = (there, back)
    where
      there : checked_number s ≡ Ok k → (length s ≡ length_of k) × Shaped (allowed_in_number k) s × (typed s ≡ Ok 2)
      there e =
          let g = accepted_sound k s e in
          let two = passes_two s (has_last k (length s) g.long) g.closed in
          (g.long, g.shaped, (typed_exactly s 2).1 (shaped_symbols g.long g.shaped, sym two))

      back : (length s ≡ length_of k) × Shaped (allowed_in_number k) s × (typed s ≡ Ok 2) → checked_number s ≡ Ok k
      back (long, shaped, e) =
          let two = ((typed_exactly s 2).0 e).1 in
          sound_accepted k s (record { long = long; shaped = shaped; closed = two_passes s (has_last k (length s) long) (sym two) })
