-- Document 02, request 4, 'A table for the carry': the table, and the scanning wedge, which "asks for the carry after each keystroke".
use Rattle.std.specs.Prelude.{ℕ, ◌≤◌, ◌<◌, ◌≡◌, true, false, List, [], ◌∷◌, ◌++◌, ◌↔◌, length, get_or, Ok, Err}
use Rattle.refusal.specs.Table.{because}
use Rattle.refusal.specs.declared.Refusal.{Refusal}
use Rattle.refusal.specs.declared.Reason.TheVariants.{WrongSymbol}
use Rattle.text.specs.Byte.{symbol}
use Rattle.text.specs.Scan.{all}
use Rattle.check_characters.specs.Mod37.{step, carry, check_of}
use Rattle.check_characters.specs.Steps.{steps, entry_for}
use Rattle.check_characters.specs.Wedge.{next_carry, carry_passed}
use Rattle.check_characters.specs.Number.{length_of, allowed_in_number, checked_number}
use Rattle.check_characters.specs.declared.number.Kind.{Kind}
use Rattle.slips.specs.Exactly.{Shaped}
use Rattle.slips.specs.Typed.{Leads, typed}
use Rattle.peliranopi.specs.Calls.{CarryTells}

-- "Hold the step for carries 1 to 36 and values 0 to 35 as a table of 1,296 numbers, carry by carry. Show once for the whole table that each
-- entry is what the formula gives". That the 1,296 numbers of the code are this table the checker computes, for the contract of `laid_out`,
-- from which every step of the code is read.
abbrev pub EachEntry : Type 0
EachEntry =
    (length steps ≡ 1296) ×
    ((c value : ℕ) → 1 ≤ c → c ≤ 36 → value < 36 → get_or steps (entry_for c value) 0 ≡ step c value)

-- The wedge is answered a carry exactly when the number that it asks with is a carry and the key a symbol; the answer is what the step gives.
abbrev pub KeyExactly : Type 0
KeyExactly = (c key next : ℕ) → (next_carry c key ≡ Ok next) ↔ Leads c key next

-- A number typed key by key from 36 on gives the carry of the whole, exactly when all its keys are symbols;
abbrev pub TypedExactly : Type 0
TypedExactly = (keys : List ℕ) (c : ℕ) → (typed keys ≡ Ok c) ↔ ((all symbol keys ≡ true) × (c ≡ carry keys))

-- else it is refused by 17 at 0, whatever keys follow.
abbrev pub TypedRefusedExactly : Type 0
TypedRefusedExactly =
    (keys : List ℕ) (refusal : Refusal) → (typed keys ≡ Err refusal) ↔ ((all symbol keys ≡ false) × (refusal ≡ because WrongSymbol 0))

-- Behind a body of symbols, the check character is the one key that leaves the carry of a number that passes, 2;
abbrev pub CheckLeavesTwo : Type 0
CheckLeavesTwo =
    (body : List ℕ) (key : ℕ) → all symbol body ≡ true → (typed (body ++ (key ∷ [])) ≡ Ok carry_passed) ↔ (key ≡ check_of body)

-- and that is what acceptance asks: a number is accepted exactly when it has its kind's length and shape and, typed, leaves 2.
abbrev pub AcceptedLeavesTwo : Type 0
AcceptedLeavesTwo =
    (kind : Kind) (symbols : List ℕ) →
    (checked_number symbols ≡ Ok kind) ↔
    ((length symbols ≡ length_of kind) × Shaped (allowed_in_number kind) symbols × (typed symbols ≡ Ok carry_passed))

-- A caller from C who overlooks a refusal and goes on with what it told as the next carry is refused by 15 at the key behind it, and told
-- the same again: so at every key from there on.
abbrev pub OverlookedStaysRefused : Type 0
OverlookedStaysRefused =
    (start key number next place : ℕ) → CarryTells start key number next place → (number ≡ 0 → ⊥) →
    (key₂ number₂ next₂ place₂ : ℕ) → CarryTells next key₂ number₂ next₂ place₂ → (number₂ ≡ 15) × (next₂ ≡ 0) × (place₂ ≡ 0)
