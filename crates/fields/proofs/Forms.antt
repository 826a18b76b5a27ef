-- Forms that are checks: their tests, and what an identcode's form tells of its bytes.
use Prim.Native.Nat.{ℕ}
use mathlib.Core.Path.{◌≡◌, refl}
use mathlib.Core.Bool.{true, false, false≢true}
use mathlib.Core.List.{List}
use lib.Dec.{eqb}
use lib.ListN.{length}
use borrow.Author.Tests.{eq-eqb}
use Rattle.text.specs.Byte.{digit}
use Rattle.text.proofs.Choices.{and_both}
use Rattle.text.proofs.Scans.{all_of}
use Rattle.forms.specs.Shape.{all_digits, digits}
use Rattle.check_digits.specs.Identcode.{checked_identcode}
use Rattle.check_digits.proofs.Identcodes.{code_digit, accepted_whole}
use Rattle.fields.specs.Form.{accepted, is_identcode}
use Rattle.std.specs.Prelude.{⊤, Result, Ok, Err}
use Rattle.refusal.specs.declared.Refusal.{Refusal}

pub accepted_is : (a : Result ⊤ Refusal) → accepted a ≡ true → a ≡ Ok tt
accepted_is (Ok _) e = refl
accepted_is (Err refusal) e = absurd (false≢true e)

pub not_accepted : (a : Result ⊤ Refusal) → (a ≡ Ok tt → ⊥) → accepted a ≡ false
not_accepted (Ok _) n = absurd (n refl)
not_accepted (Err refusal) n = refl

pub identcode_digits : (f : List ℕ) → is_identcode f ≡ true → digits 22 f ≡ true
unfolding digits all_digits
identcode_digits f e =
    let whole = accepted_whole f (accepted_is (checked_identcode f) e) in
    and_both (eqb (length f) 22) (all_digits f) (eq-eqb (length f) 22 whole.long) (all_of digit f (code_digit f whole.long whole.fine))
