-- What is told of an answer that is known to be of one case, and what an answer leaves in a lent buffer.
use Prim.Native.Nat.{ℕ}
use mathlib.Core.Path.{◌≡◌, sym, ap, ◌∙◌}
use mathlib.Core.List.{List}
use Rattle.std.specs.Prelude.{Option, Result}
use Rattle.refusal.specs.declared.Refusal.{Refusal}
use Rattle.refusal.specs.Table.{Verdict, number_told, place_told}
use Rattle.check_characters.specs.Answer.{issued_to}
use Rattle.check_characters.specs.Day.{answers_after}
use Rattle.records.specs.declared.record.Record.{Record}
use Rattle.writer.specs.Write.{written_to}
use Rattle.purpose.specs.Purpose.{list_after, output_after}

-- a value that is told of an answer is that of the answer's definition, where the answer's case is known
pub told : {A B : Type 0} (value : A → B) (answer definition known : A) (n : B) → answer ≡ definition → answer ≡ known → n ≡ value known →
    n ≡ value definition
told value answer definition known n e k t = t ∙ ap value (sym k ∙ e)

-- of every answer the number, and the place
pub told_number : {A : Type 0} (verdict : A → Verdict) (answer definition known : A) (n : ℕ) → answer ≡ definition → answer ≡ known →
    n ≡ number_told (verdict known) → n ≡ number_told (verdict definition)
told_number verdict = told (λ a. number_told (verdict a))

pub told_place : {A : Type 0} (verdict : A → Verdict) (answer definition known : A) (n : ℕ) → answer ≡ definition → answer ≡ known →
    n ≡ place_told (verdict known) → n ≡ place_told (verdict definition)
told_place verdict = told (λ a. place_told (verdict a))

-- a buffer that an answer leaves is the buffer that its definition leaves
pub left : {A : Type 0} (buffer : A → List ℕ) (answer definition : A) (after : List ℕ) → answer ≡ definition → after ≡ buffer answer →
    after ≡ buffer definition
left buffer answer definition after e t = t ∙ ap buffer e

pub line_left : (kind : Option Record) (fs : List (List ℕ)) (out : List ℕ) (fill : ℕ) (answer definition : Result ℕ Refusal) (after : List ℕ) →
    answer ≡ definition → after ≡ written_to answer kind fs out fill → after ≡ written_to definition kind fs out fill
line_left kind fs out fill = left (λ (a : Result ℕ Refusal). written_to a kind fs out fill)

pub list_left : (words : ℕ) (starts : List ℕ) (answer definition : Result ℕ Refusal) (after : List ℕ) → answer ≡ definition →
    after ≡ list_after answer words starts → after ≡ list_after definition words starts
list_left words starts = left (λ (a : Result ℕ Refusal). list_after a words starts)

pub purpose_left : (text out : List ℕ) (answer definition : Result ℕ Refusal) (after : List ℕ) → answer ≡ definition →
    after ≡ output_after answer text out → after ≡ output_after definition text out
purpose_left text out = left (λ (a : Result ℕ Refusal). output_after a text out)

pub number_left : (body : List ℕ) (check : ℕ) (out : List ℕ) (answer definition : Result ℕ Refusal) (after : List ℕ) → answer ≡ definition →
    after ≡ issued_to answer body check out → after ≡ issued_to definition body check out
number_left body check out = left (λ (a : Result ℕ Refusal). issued_to a body check out)

pub day_left : (numbers answers : List ℕ) (answer definition : Result ℕ Refusal) (after : List ℕ) → answer ≡ definition →
    after ≡ answers_after answer numbers answers → after ≡ answers_after definition numbers answers
day_left numbers answers = left (λ (a : Result ℕ Refusal). answers_after a numbers answers)
