-- A day's numbers are answered, or refused, exactly when the numbers and the room for their answers say so.
use Prim.Native.Nat.{ℕ, ◌+◌, ◌-◌, ◌*◌, ◌%◌, ◌≤◌, ◌<◌}
use mathlib.Core.Path.{◌≡◌, refl, sym, ap, subst, ◌∙◌}
use mathlib.Core.Bool.{not}
use mathlib.Core.List.{List, [], ◌∷◌, ◌++◌}
use mathlib.Core.Logic.{◌⊎◌, inl, inr, ◌↔◌, ⊎_elim}
use native.Mathlib.Nat.{zero-add}
use native.Mathlib.Omega.{arith}
use lib.Dec.{eqb, ltb}
use lib.ListN.{length, take, drop, get_or, length-append, length-drop, get_or-append}
use lib.Seq.{ext_get_or, get_or-append-add, get_or-drop, length-take-le, drop-append-add}
use borrow.Author.Tests.{ltb-true, ltb-false, eqb-true, eqb-false, not-true, not-false}
use Rattle.refusal.specs.Table.{because, number_of, number_told, verdict_on}
use Rattle.refusal.specs.declared.Refusal.{Refusal}
use Rattle.refusal.specs.declared.Reason.TheVariants.{OutputTooShort, WrongLength, WrongSymbol, WrongCheck}
use Rattle.refusal.proofs.Verdicts.{no_pass}
use Rattle.text.specs.Placed.{written}
use Rattle.text.proofs.Choices.{choice, true_or_false}
use Rattle.check_characters.specs.Number.{checked_number}
use Rattle.check_characters.specs.Day.{number_at, how_many, day_answers, zeros, day_answer, answers_after, ChecksDay}
use Rattle.check_characters.specs.declared.number.Kind.{Kind}
use Rattle.check_characters.specs.declared.number.Kind.TheVariants.{Tracking, Label}
use Rattle.check_characters.proofs.Days.{number_front, answers_long, answer_at, number_inside, front, day_length, day_short, day_answered}
use Rattle.slips.specs.Exactly.{SoundNumber}
use Rattle.slips.proofs.Numbers.{accepted_sound, sound_accepted}
use Rattle.refused.specs.Number.{RefusedNumber}
use Rattle.refused.specs.Day.{AnswerByte, AnsweredDay, RefusedDay}
use Rattle.refused.proofs.Numbers.{number_refused_exactly}
use Rattle.std.specs.Prelude.{Result, Ok, Err}

-- the byte of a number's answer alone
abbrev alone : List ℕ → ℕ
alone number = number_told (verdict_on (checked_number number))

module _ (s : List ℕ) (long : length s ≡ 15) where
  sound_byte : (kind : Kind) → SoundNumber kind s → AnswerByte s 0
  sound_byte Tracking g = AnswerByte.sound g
  sound_byte Label g = let z = g.long in absurd (omega arith)

  refused_byte : (refusal : Refusal) → RefusedNumber s refusal → AnswerByte s (number_of refusal.why)
  refused_byte refusal (RefusedNumber.wrong_length n) = absurd (n Tracking long)
  refused_byte refusal (RefusedNumber.wrong_symbol Tracking i n g) = AnswerByte.wrong_symbol i g
  refused_byte refusal (RefusedNumber.wrong_symbol Label i n g) = absurd (omega arith)
  refused_byte refusal (RefusedNumber.wrong_check Tracking n g p) = AnswerByte.wrong_check g p
  refused_byte refusal (RefusedNumber.wrong_check Label n g p) = absurd (omega arith)

  -- it means what it says,
  pub byte_means : AnswerByte s (alone s)
  byte_means = go (checked_number s) refl
    where
      go : (a : Result Kind Refusal) → checked_number s ≡ a → AnswerByte s (number_told (verdict_on a))
      go (Ok kind) e = sound_byte kind (accepted_sound kind s e)
      go (Err refusal) e = refused_byte refusal ((number_refused_exactly s refusal).0 e)

  by : (a : Result Kind Refusal) → checked_number s ≡ a → number_told (verdict_on a) ≡ alone s
  by a e = sym (ap (λ (x : Result Kind Refusal). number_told (verdict_on x)) e)

  -- and no other byte does
  pub means_byte : (b : ℕ) → AnswerByte s b → b ≡ alone s
  means_byte b (AnswerByte.sound g) = by (Ok Tracking) (sound_accepted Tracking s g)
  means_byte b (AnswerByte.wrong_symbol i g) =
      by (Err (because WrongSymbol i)) ((number_refused_exactly s (because WrongSymbol i)).1 (RefusedNumber.wrong_symbol Tracking i long g))
  means_byte b (AnswerByte.wrong_check g p) =
      by (Err (because WrongCheck (length s - 1)))
      ((number_refused_exactly s (because WrongCheck (length s - 1))).1 (RefusedNumber.wrong_check Tracking long g p))

-- what the bytes' number says of how many numbers there are
module _ (numbers : List ℕ) where
  multiple : length numbers % 15 ≡ 0 → length numbers ≡ 15 * how_many numbers
  multiple e = omega arith

  module _ (many : ℕ) (whole : length numbers ≡ 15 * many) where
    so_many : how_many numbers ≡ many
    so_many = omega arith

    no_rest : length numbers % 15 ≡ 0
    no_rest = omega arith

  fifteen : (i : ℕ) → i < how_many numbers → length (number_at numbers i) ≡ 15
  fifteen i h = length-take-le 15 (drop (15 * i) numbers) (simp length-drop (omega (arith, number_inside numbers i h)))

  -- the answers, written at the front of others
  module _ (answers : List ℕ) where
    at_front : (i : ℕ) → i < how_many numbers → get_or (written answers 0 (day_answers numbers)) i 0 ≡ alone (number_at numbers i)
    at_front i h =
        get_or-append (day_answers numbers) (drop (0 + length (day_answers numbers)) answers) 0 i (omega (arith, answers_long numbers))
        ∙ answer_at numbers i h

    past_them : (i : ℕ) → how_many numbers ≤ i → get_or (written answers 0 (day_answers numbers)) i 0 ≡ get_or answers i 0
    past_them i h =
        let n = length (day_answers numbers) in
        let e : n + (i - n) ≡ i = omega (arith, answers_long numbers) in
        let f : 0 + n + (i - n) ≡ i = omega (arith, answers_long numbers) in
        ap (λ k. get_or (written answers 0 (day_answers numbers)) k 0) (sym e)
        ∙ get_or-append-add (day_answers numbers) (drop (0 + n) answers) (i - n) 0 ∙ get_or-drop (0 + n) answers (i - n) 0
        ∙ ap (λ k. get_or answers k 0) f

    as_long : how_many numbers ≤ length answers → length (written answers 0 (day_answers numbers)) ≡ length answers
    as_long h = omega (
      arith,
      length-append (day_answers numbers) (drop (0 + length (day_answers numbers)) answers),
      length-drop (0 + length (day_answers numbers)) answers,
      answers_long numbers,
    )

module _ (numbers answers after : List ℕ) where
  module _ (passed : ℕ) where
    answered : length numbers % 15 ≡ 0 → how_many numbers ≤ length answers → passed ≡ zeros (day_answers numbers) →
        after ≡ written answers 0 (day_answers numbers) → AnsweredDay numbers answers passed after
    answered m h p e =
        record {
          many = how_many numbers;
          whole = multiple numbers m;
          room = h;
          each =
              λ i l. subst (AnswerByte (number_at numbers i)) (sym (ap (λ (a : List ℕ). get_or a i 0) e ∙ at_front numbers answers i l))
              (byte_means (number_at numbers i) (fifteen numbers i l));
          rest = λ i l. ap (λ (a : List ℕ). get_or a i 0) e ∙ past_them numbers answers i l;
          as_long = ap length e ∙ as_long numbers answers h;
          counted = p ∙ ap zeros (sym (front numbers answers after e));
        }

    day_answers_lem : ChecksDay numbers answers (Ok passed) after → AnsweredDay numbers answers passed after
    unfolding day_answer answers_after
    day_answers_lem (p, q) =
        choice (not (eqb (length numbers % 15) 0)) (Err (because WrongLength 0)) _ (Ok passed)
        (λ t e. absurd (no_pass verdict_on refl refl e))
        (λ t. choice (ltb (length answers) (how_many numbers)) (Err (because OutputTooShort 0)) (Ok (zeros (day_answers numbers)))
        (Ok passed) (λ u e. absurd (no_pass verdict_on refl refl e))
        (λ u e. let same : passed ≡ zeros (day_answers numbers) = cc in
        answered (eqb-true (length numbers % 15) 0 (not-false (eqb (length numbers % 15) 0) t))
        (ltb-false (length answers) (how_many numbers) u) same q)) (sym p)

    module _ (g : AnsweredDay numbers answers passed after) where
      pub many_is : how_many numbers ≡ g.many
      many_is = so_many numbers g.many g.whole

      as_written : after ≡ written answers 0 (day_answers numbers)
      as_written =
          let room : how_many numbers ≤ length answers = omega (arith, many_is, g.room) in
          ext_get_or 0 after (written answers 0 (day_answers numbers)) (g.as_long ∙ sym (as_long numbers answers room))
          (λ i l. ⊎_elim
          (λ t. let h : i < how_many numbers = ltb-true i (how_many numbers) t in
          means_byte (number_at numbers i) (fifteen numbers i h) (get_or after i 0) (g.each i (omega (arith, many_is)))
          ∙ sym (at_front numbers answers i h))
          (λ f. let h : how_many numbers ≤ i = ltb-false i (how_many numbers) f in
          g.rest i (omega (arith, many_is)) ∙ sym (past_them numbers answers i h))
          (true_or_false (ltb i (how_many numbers))))

      answers_day : ChecksDay numbers answers (Ok passed) after
      unfolding answers_after
      answers_day =
          let same : passed ≡ zeros (day_answers numbers) =
          g.counted ∙ ap (λ (n : ℕ). zeros (take n after)) (sym many_is) ∙ ap zeros (front numbers answers after as_written) in
          (day_answered numbers (length answers) passed (no_rest numbers g.many g.whole) (omega (arith, many_is, g.room)) same, as_written)

    pub day_exactly : ChecksDay numbers answers (Ok passed) after ↔ AnsweredDay numbers answers passed after
    day_exactly = (day_answers_lem, answers_day)

    pub each_alone : (i : ℕ) → i < how_many numbers → ChecksDay numbers answers (Ok passed) after →
        get_or after i 0 ≡ number_told (verdict_on (checked_number (number_at numbers i)))
    unfolding answers_after
    each_alone i h (p, q) = ap (λ (a : List ℕ). get_or a i 0) q ∙ at_front numbers answers i h

  module _ (refusal : Refusal) where
    is : (other : Refusal) → RefusedDay numbers (length answers) other → ◌≡◌ {A = Result ℕ Refusal} (Err other) (Err refusal) →
        RefusedDay numbers (length answers) refusal
    is other g e = let same : other ≡ refusal = cc in subst (RefusedDay numbers (length answers)) same g

    pub day_refuses : Err refusal ≡ day_answer numbers (length answers) → RefusedDay numbers (length answers) refusal
    unfolding day_answer
    day_refuses p =
        choice (not (eqb (length numbers % 15) 0)) (Err (because WrongLength 0)) _ (Err refusal)
        (λ t e. let n = eqb-false (length numbers % 15) 0 (not-true (eqb (length numbers % 15) 0) t) in
        is (because WrongLength 0) (RefusedDay.wrong_length (λ many whole. n (no_rest numbers many whole))) e)
        (λ t. let m = eqb-true (length numbers % 15) 0 (not-false (eqb (length numbers % 15) 0) t) in
        choice (ltb (length answers) (how_many numbers)) (Err (because OutputTooShort 0)) (Ok (zeros (day_answers numbers)))
        (Err refusal)
        (λ u e. is (because OutputTooShort 0)
        (RefusedDay.too_short (how_many numbers) (multiple numbers m) (ltb-true (length answers) (how_many numbers) u)) e)
        (λ u e. absurd (no_pass verdict_on refl refl (sym e)))) (sym p)

  refuses_day : (refusal : Refusal) → RefusedDay numbers (length answers) refusal → Err refusal ≡ day_answer numbers (length answers)
  refuses_day refusal (RefusedDay.wrong_length n) = day_length numbers (length answers) (λ m. n (how_many numbers) (multiple numbers m))
  refuses_day refusal (RefusedDay.too_short many whole h) =
      day_short numbers (length answers) (no_rest numbers many whole) (omega (arith, so_many numbers many whole))

  pub day_refused_exactly : (refusal : Refusal) →
      ChecksDay numbers answers (Err refusal) after ↔ (RefusedDay numbers (length answers) refusal × (after ≡ answers))
  unfolding answers_after
  day_refused_exactly refusal = ((λ (p, q). (day_refuses refusal p, q)), (λ (g, e). (refuses_day refusal g, e)))

-- whatever is asked, it is answered or refused, never both
module _ (numbers answers : List ℕ) where
  pub day_always_one :
      ((passed : ℕ) × ((after : List ℕ) × AnsweredDay numbers answers passed after)) ⊎
      ((refusal : Refusal) × RefusedDay numbers (length answers) refusal)
  day_always_one = go (day_answer numbers (length answers)) refl
    where
      go : (a : Result ℕ Refusal) → a ≡ day_answer numbers (length answers) →
          ((passed : ℕ) × ((after : List ℕ) × AnsweredDay numbers answers passed after)) ⊎
          ((refusal : Refusal) × RefusedDay numbers (length answers) refusal)
      go (Ok passed) e =
          let after = answers_after (Ok passed) numbers answers in inl (passed, (after, (day_exactly numbers answers after passed).0 (e, refl)))
      go (Err refusal) e = inr (refusal, day_refuses numbers answers answers refusal e)

  pub day_never_both : (passed : ℕ) (after : List ℕ) (refusal : Refusal) →
      AnsweredDay numbers answers passed after → RefusedDay numbers (length answers) refusal → ⊥
  day_never_both passed after refusal g r =
      no_pass verdict_on refl refl (refuses_day numbers answers after refusal r ∙ sym ((day_exactly numbers answers after passed).1 g).0)

-- a day in two pieces
module _ (first rest : List ℕ) (many : ℕ) (whole : length first ≡ 15 * many) where
  many_first : how_many first ≡ many
  many_first = so_many first many whole

  many_both : how_many (first ++ rest) ≡ how_many first + how_many rest
  many_both = omega (arith, length-append first rest)

  in_rest : (i : ℕ) → how_many first ≤ i → number_at (first ++ rest) i ≡ number_at rest (i - how_many first)
  in_rest i h =
      let e : 15 * i ≡ length first + 15 * (i - how_many first) = omega (arith, many_first) in
      ap (λ k. take 15 (drop k (first ++ rest))) e ∙ ap (take 15) (drop-append-add first rest (15 * (i - how_many first)))

  pub in_pieces : day_answers (first ++ rest) ≡ day_answers first ++ day_answers rest
  in_pieces =
      ext_get_or 0 (day_answers (first ++ rest)) (day_answers first ++ day_answers rest)
      (omega (arith, answers_long (first ++ rest), many_both, length-append (day_answers first) (day_answers rest), answers_long first, answers_long rest))
      (λ i l. let all : i < how_many (first ++ rest) = omega (arith, answers_long (first ++ rest)) in
      answer_at (first ++ rest) i all ∙ ⊎_elim
      (λ t. let h : i < how_many first = ltb-true i (how_many first) t in
      ap alone (number_front first rest i (number_inside first i h)) ∙ sym (answer_at first i h)
      ∙ sym (get_or-append (day_answers first) (day_answers rest) 0 i (omega (arith, answers_long first))))
      (λ f. let h : how_many first ≤ i = ltb-false i (how_many first) f in
      let e : length (day_answers first) + (i - how_many first) ≡ i = omega (arith, answers_long first) in
      ap alone (in_rest i h) ∙ sym (answer_at rest (i - how_many first) (omega (arith, many_both)))
      ∙ sym (get_or-append-add (day_answers first) (day_answers rest) (i - how_many first) 0)
      ∙ ap (λ k. get_or (day_answers first ++ day_answers rest) k 0) e)
      (true_or_false (ltb i (how_many first))))

  pub zeros_in_pieces : zeros (day_answers (first ++ rest)) ≡ zeros (day_answers first) + zeros (day_answers rest)
  zeros_in_pieces = ap zeros in_pieces ∙ zeros_append (day_answers first) (day_answers rest)
    where
      zeros_append : (a b : List ℕ) → zeros (a ++ b) ≡ zeros a + zeros b
      zeros_append [] b = sym (zero-add (zeros b))
      zeros_append (x ∷ a) b = omega (arith, zeros_append a b)
