-- Where the first symbol stands that is not allowed in an IBAN.
use Prim.Native.Nat.{ℕ, suc, ◌+◌, ◌≤◌}
use mathlib.Core.Path.{◌≡◌, sym, ◌∙◌}
use mathlib.Core.Bool.{Bool, true, false, not}
use mathlib.Core.List.{List, [], ◌∷◌}
use native.Mathlib.Nat.{add-zero, zero-add}
use native.Mathlib.Numerals.{add-one}
use native.Mathlib.Omega.{arith}
use lib.Dec.{ltb}
use lib.ListN.{length}
use borrow.Author.Tests.{le-leb}
use Rattle.std.specs.Prelude.{cond, if◌then◌else◌, position, Some, None, Ok, Err}
use Rattle.std.specs.List.{position_or_len, enumerate_from}
use Rattle.std.proofs.lemmas.List.FromFn.{length-enumerate_from}
use Rattle.refusal.specs.declared.Reason.TheVariants.{WrongSymbol, WrongCheck}
use Rattle.refusal.specs.Table.{because}
use Rattle.text.specs.Scan.{first_failing}
use Rattle.text.proofs.Choices.{came_then, came_else}
use Rattle.check_characters.specs.Iban.{allowed_in_iban, wrong_in_iban, sound_of, checked_iban}

-- the library's search for the first symbol that is not allowed finds the document's
first_place : (ok : ℕ → ℕ → Bool) (i : ℕ) (s : List ℕ) → first_failing ok i s ≡ i + position_or_len (λ (p : ℕ × ℕ). not (ok p.0 p.1)) (enumerate_from i s)
first_place ok i [] = sym (add-zero i)
first_place ok i (b ∷ s) = go (ok i b) (first_place ok (suc i) s)
  where
    go : (t : Bool) → first_failing ok (suc i) s ≡ suc i + position_or_len (λ (p : ℕ × ℕ). not (ok p.0 p.1)) (enumerate_from (suc i) s) →
        (if t then first_failing ok (suc i) s else i) ≡
        i + cond (not (not t)) (1 + position_or_len (λ (p : ℕ × ℕ). not (ok p.0 p.1)) (enumerate_from (i + 1) s)) 0
    go true e = rw add-one (e ∙ omega arith)
    go false e = sym (add-zero i)

module _ (s : List ℕ) where
  wrong_place : position (λ (p : ℕ × ℕ). not (allowed_in_iban p.0 p.1)) (enumerate_from 0 s) ≡
      (if ltb (wrong_in_iban s) (length s) then Some (wrong_in_iban s) else None)
  wrong_place =
      let e : position_or_len (λ (p : ℕ × ℕ). not (allowed_in_iban p.0 p.1)) (enumerate_from 0 s) ≡ wrong_in_iban s =
      sym (first_place allowed_in_iban 0 s ∙ zero-add _) in
      rw (e, length-enumerate_from 0 s)

  -- what checking answers, by what the search found
  module _ (low : 15 ≤ length s) (high : length s ≤ 34) where
    pub checked_wrong : (wrong : ℕ) → position (λ (p : ℕ × ℕ). not (allowed_in_iban p.0 p.1)) (enumerate_from 0 s) ≡ Some wrong →
        checked_iban s ≡ Err (because WrongSymbol wrong)
    unfolding checked_iban
    checked_wrong wrong e =
        let a = came_then (ltb (wrong_in_iban s) (length s)) (Some (wrong_in_iban s)) None (Some wrong) (λ z. cc) (sym wrong_place ∙ e) in
        let same : wrong_in_iban s ≡ wrong = cc in
        let t : ltb wrong (length s) ≡ true = rw same at a.0 in
        simp (le-leb 15 (length s), le-leb (length s) 34, same, t)

    pub checked_right : position (λ (p : ℕ × ℕ). not (allowed_in_iban p.0 p.1)) (enumerate_from 0 s) ≡ None →
        checked_iban s ≡ (if sound_of s then Ok tt else Err (because WrongCheck 2))
    unfolding checked_iban
    checked_right e =
        let a = came_else (ltb (wrong_in_iban s) (length s)) (Some (wrong_in_iban s)) None None (λ z. cc) (sym wrong_place ∙ e) in
        simp (le-leb 15 (length s), le-leb (length s) 34, a.0)
