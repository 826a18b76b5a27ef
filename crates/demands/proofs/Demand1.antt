-- Proofs of the statements in specs/Demand1.
use Prim.Native.Nat.{ℕ, ◌+◌}
use mathlib.Core.Path.{◌≡◌, sym, ap, ◌∙◌}
use mathlib.Core.List.{List}
use lib.ListN.{length, replicate}
use Rattle.text.specs.Placed.{placed}
use Rattle.check_characters.specs.Answer.{room_for, issued_to}
use Rattle.check_characters.specs.Mod37.{check_of}
use Rattle.check_characters.specs.Number.{issue_answer, checked_number}
use Rattle.check_characters.specs.Day.{answers_after}
use Rattle.check_characters.specs.Wedge.{next_carry}
use Rattle.check_characters.specs.Iban.{checked_iban}
use Rattle.check_digits.specs.Identcode.{check_digit_of, checked_identcode, parts_answer, issue_identcode_answer}
use Rattle.fields.specs.Profile.{profile}
use Rattle.fields.specs.Field.{tested}
use Rattle.line.specs.Line.{read_answer}
use Rattle.line.specs.Find.{find_answer}
use Rattle.file.specs.File.{judged}
use Rattle.writer.specs.Write.{record_numbered, between, written_to}
use Rattle.purpose.specs.Purpose.{purpose_of, list_after, output_after}
use Rattle.std.specs.Prelude.{Result}
use Rattle.refusal.specs.declared.Refusal.{Refusal}
use Rattle.demands.specs.Demand1.{
  CheckNumberUnique,
  CheckNumbersUnique,
  IssueNumberUnique,
  NextCarryUnique,
  CheckIbanUnique,
  CheckIdentcodeUnique,
  ReadIdentcodeUnique,
  IssueIdentcodeUnique,
  ReadLineUnique,
  FindFieldUnique,
  TestFieldUnique,
  JudgeUnique,
  PlaceUnique,
  IssueUnique,
  FindOrGrowUnique,
  ClearUnique,
  WriteLineUnique,
  WritePurposeUnique,
  JudgeCallUnique,
  ReadLineCallUnique,
  FindFieldCallUnique,
  WriteLineCallUnique,
  WritePurposeCallUnique,
  CheckNumberCallUnique,
  CheckNumbersCallUnique,
  IssueNumberCallUnique,
  NextCarryCallUnique,
  CheckIbanCallUnique,
  CheckIdentcodeCallUnique,
  ReadIdentcodeCallUnique,
  IssueIdentcodeCallUnique,
}

-- two answers that equal one definition of one input are equal
pub one_answer : {A B : Type 0} (definition : A → B) (input : A) (a b : B) → a ≡ definition input → b ≡ definition input → a ≡ b
one_answer definition input a b p q = p ∙ sym q

pub check_number_unique : CheckNumberUnique
check_number_unique s = one_answer checked_number s

pub check_numbers_unique : CheckNumbersUnique
check_numbers_unique numbers answers a b x y p q =
    let same : a ≡ b = p.0 ∙ sym q.0 in (same, p.1 ∙ ap (λ (r : Result ℕ Refusal). answers_after r numbers answers) same ∙ sym q.1)

-- and what they write is equal
one_output : (answer : ℕ → Result ℕ Refusal) (body out : List ℕ) (check : ℕ) (a b : Result ℕ Refusal) (x y : List ℕ) →
    (a ≡ answer (length out)) × (x ≡ issued_to a body check out) → (b ≡ answer (length out)) × (y ≡ issued_to b body check out) →
    (a ≡ b) × (x ≡ y)
one_output answer body out check a b x y p q =
    let same = one_answer answer (length out) a b p.0 q.0 in
    (same, p.1 ∙ ap (λ (r : Result ℕ Refusal). issued_to r body check out) same ∙ sym q.1)

pub issue_number_unique : IssueNumberUnique
issue_number_unique body out = one_output (issue_answer body) body out (check_of body)

pub next_carry_unique : NextCarryUnique
next_carry_unique carry = one_answer (next_carry carry)

pub check_iban_unique : CheckIbanUnique
check_iban_unique s = one_answer checked_iban s

pub check_identcode_unique : CheckIdentcodeUnique
check_identcode_unique code = one_answer checked_identcode code

pub read_identcode_unique : ReadIdentcodeUnique
read_identcode_unique code = one_answer parts_answer code

pub issue_identcode_unique : IssueIdentcodeUnique
issue_identcode_unique body out = one_output (issue_identcode_answer body) body out (check_digit_of body)

pub read_line_unique : ReadLineUnique
read_line_unique told s = one_answer (read_answer told s)

pub find_field_unique : FindFieldUnique
find_field_unique told s at = one_answer (find_answer told s at)

pub test_field_unique : TestFieldUnique
test_field_unique version kind n beside = one_answer (tested (profile version kind) n beside)

pub judge_unique : JudgeUnique
judge_unique s words a b x y p q = (p.0 ∙ sym q.0, p.1 ∙ sym q.1)

pub place_unique : PlaceUnique
place_unique out at = one_answer (placed out at)

pub issue_unique : IssueUnique
issue_unique body check out = one_output (room_for (length body + 1)) body out check

pub find_or_grow_unique : FindOrGrowUnique
find_or_grow_unique file tree parcels offset a b x y p q = (p.0 ∙ sym q.0, p.1 ∙ sym q.1)

pub clear_unique : ClearUnique
clear_unique words = one_answer (λ (w : List ℕ). replicate (length w) 0) words

pub write_line_unique : WriteLineUnique
write_line_unique told number text ends out fill a b x y p q =
    let same : a ≡ b = p.0 ∙ sym q.0 in
    (same, p.1 ∙ ap (λ (r : Result ℕ Refusal). written_to r (record_numbered number) (between text ends) out fill) same ∙ sym q.1)

pub write_purpose_unique : WritePurposeUnique
write_purpose_unique s n lent out a b list list₂ x y p q =
    let same : a ≡ b = p.0 ∙ sym q.0 in (
      same,
      p.1 ∙ ap (λ (r : Result ℕ Refusal). list_after r lent.words (judged s lent).starts) same ∙ sym q.1,
      p.2 ∙ ap (λ (r : Result ℕ Refusal). output_after r (purpose_of s n lent) out) same ∙ sym q.2,
    )

pub judge_call_unique : JudgeCallUnique
judge_call_unique file words n lines parcels cents place n₂ lines₂ parcels₂ cents₂ place₂ list list₂ p q =
    (p.0.0 ∙ sym q.0.0, p.1 ∙ sym q.1, p.2 ∙ sym q.2, p.3 ∙ sym q.3, p.0.1 ∙ sym q.0.1, p.4 ∙ sym q.4)

pub read_line_call_unique : ReadLineCallUnique
read_line_call_unique told file offset n kind fields next place n₂ kind₂ fields₂ next₂ place₂ p q =
    (p.0.0 ∙ sym q.0.0, p.1 ∙ sym q.1, p.2 ∙ sym q.2, p.3 ∙ sym q.3, p.0.1 ∙ sym q.0.1)

pub find_field_call_unique : FindFieldCallUnique
find_field_call_unique told file offset field n start long place n₂ start₂ long₂ place₂ p q =
    (p.0.0 ∙ sym q.0.0, p.1 ∙ sym q.1, p.2 ∙ sym q.2, p.0.1 ∙ sym q.0.1)

pub write_line_call_unique : WriteLineCallUnique
write_line_call_unique told kind text ends output fill n bytes place n₂ bytes₂ place₂ x y p q =
    (p.0.0 ∙ sym q.0.0, p.1 ∙ sym q.1, p.0.1 ∙ sym q.0.1, p.2 ∙ sym q.2)

pub write_purpose_call_unique : WritePurposeCallUnique
write_purpose_call_unique file line words output n bytes place n₂ bytes₂ place₂ list list₂ x y p q =
    (p.0.0 ∙ sym q.0.0, p.1 ∙ sym q.1, p.0.1 ∙ sym q.0.1, p.2 ∙ sym q.2, p.3 ∙ sym q.3)

pub check_number_call_unique : CheckNumberCallUnique
check_number_call_unique symbols n kind place n₂ kind₂ place₂ p q =
    (p.0.0 ∙ sym q.0.0, p.1 ∙ sym q.1, p.0.1 ∙ sym q.0.1)

pub check_numbers_call_unique : CheckNumbersCallUnique
check_numbers_call_unique numbers answers n passed place n₂ passed₂ place₂ x y p q =
    (p.0.0 ∙ sym q.0.0, p.1 ∙ sym q.1, p.0.1 ∙ sym q.0.1, p.2 ∙ sym q.2)

pub issue_number_call_unique : IssueNumberCallUnique
issue_number_call_unique body output n bytes place n₂ bytes₂ place₂ x y p q =
    (p.0.0 ∙ sym q.0.0, p.1 ∙ sym q.1, p.0.1 ∙ sym q.0.1, p.2 ∙ sym q.2)

pub next_carry_call_unique : NextCarryCallUnique
next_carry_call_unique carry key n next place n₂ next₂ place₂ p q =
    (p.0.0 ∙ sym q.0.0, p.1 ∙ sym q.1, p.0.1 ∙ sym q.0.1)

pub check_iban_call_unique : CheckIbanCallUnique
check_iban_call_unique symbols n place n₂ place₂ p q = (p.0 ∙ sym q.0, p.1 ∙ sym q.1)

pub check_identcode_call_unique : CheckIdentcodeCallUnique
check_identcode_call_unique code n place n₂ place₂ p q = (p.0 ∙ sym q.0, p.1 ∙ sym q.1)

pub read_identcode_call_unique : ReadIdentcodeCallUnique
read_identcode_call_unique code n place n₂ place₂ parts parts₂ p q = (p.0.0 ∙ sym q.0.0, p.1 ∙ sym q.1, p.0.1 ∙ sym q.0.1)

pub issue_identcode_call_unique : IssueIdentcodeCallUnique
issue_identcode_call_unique body output n bytes place n₂ bytes₂ place₂ x y p q =
    (p.0.0 ∙ sym q.0.0, p.1 ∙ sym q.1, p.0.1 ∙ sym q.0.1, p.2 ∙ sym q.2)
