-- Demand 3: "Take two different accepted numbers of one kind (tracking number, label code or IBAN) and one length." And document 02,
-- request 2, of identcodes: "say exactly which single-digit slips are stopped".
use Rattle.std.specs.Prelude.{ℕ, ◌+◌, ◌<◌, ◌≡◌, List, ◌↔◌, length, take, Ok}
use Rattle.check_characters.specs.Symbol.{value_of}
use Rattle.check_characters.specs.Mod37.{carry}
use Rattle.check_characters.specs.Number.{allowed_in_number, checked_number}
use Rattle.check_characters.specs.Iban.{checked_iban}
use Rattle.check_digits.specs.Identcode.{checked_identcode}
use Rattle.check_characters.specs.declared.number.Kind.{Kind}
use Rattle.slips.specs.Slips.{AgreeBut, OneClass, swapped, OneFollows, FiveApart}
use Rattle.slips.specs.Exactly.{symbol_at, Shaped}

-- "They never differ in a single symbol": two accepted DPD numbers of one kind that agree everywhere but at one place are the same
abbrev pub NumberSingleSymbol : Type 0
NumberSingleSymbol =
    (kind : Kind) (s t : List ℕ) (i : ℕ) → checked_number s ≡ Ok kind → checked_number t ≡ Ok kind →
    AgreeBut i s t → s ≡ t

-- "for an IBAN a digit for a digit or a letter for a letter"
abbrev pub IbanSingleSymbol : Type 0
IbanSingleSymbol =
    (s t : List ℕ) (i : ℕ) → checked_iban s ≡ Ok tt → checked_iban t ≡ Ok tt → AgreeBut i s t →
    OneClass (symbol_at s i) (symbol_at t i) → s ≡ t

-- "Two IBANs never differ by swapping two neighbouring digits or two neighbouring letters": where both are accepted, the swap
-- changed nothing. The fourth and the fifth symbol are neighbours too.
abbrev pub IbanSwap : Type 0
IbanSwap =
    (s : List ℕ) (i : ℕ) → i + 1 < length s → OneClass (symbol_at s i) (symbol_at s (i + 1)) → checked_iban s ≡ Ok tt →
    checked_iban (swapped i s) ≡ Ok tt → swapped i s ≡ s

-- "Swapping two unlike neighbours in an accepted DPD number, where the shape still holds, passes exactly when one value follows
-- the other (0 follows 35) and the carry before them plus the followed value is 18, modulo 36."
abbrev pub NumberSwap : Type 0
NumberSwap =
    (kind : Kind) (s : List ℕ) (i : ℕ) → i + 1 < length s → (symbol_at s i ≡ symbol_at s (i + 1) → ⊥) →
    checked_number s ≡ Ok kind → Shaped (allowed_in_number kind) (swapped i s)
    → (checked_number (swapped i s) ≡ Ok kind) ↔ OneFollows (carry (take i s)) (value_of (symbol_at s i)) (value_of (symbol_at s (i + 1)))

-- Two accepted identcodes never differ in a single digit, the check digit included: every such slip is stopped.
abbrev pub IdentcodeSingleDigit : Type 0
IdentcodeSingleDigit =
    (s t : List ℕ) (i : ℕ) → checked_identcode s ≡ Ok tt → checked_identcode t ≡ Ok tt → AgreeBut i s t → s ≡ t

-- Swapping two unlike neighbours in an accepted identcode passes exactly when the two differ by 5. The check digit and the digit in front
-- of it are neighbours too.
abbrev pub IdentcodeSwap : Type 0
IdentcodeSwap =
    (s : List ℕ) (i : ℕ) → i + 1 < length s → (symbol_at s i ≡ symbol_at s (i + 1) → ⊥) → checked_identcode s ≡ Ok tt →
    (checked_identcode (swapped i s) ≡ Ok tt) ↔ FiveApart (value_of (symbol_at s i)) (value_of (symbol_at s (i + 1)))
