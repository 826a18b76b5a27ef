-- The counts on their way over answers, and what they tell.
use Rattle.std.proofs.Common.{◌≡◌, ℕ, ◌+◌, ◌^◌, ◌<◌, ◌≤◌, Bool, true, false, eqb, List, [], ◌∷◌, ◌++◌, length, get_or, drop, sym}
use Rattle.std.proofs.Common.{refl, ap, ◌∙◌, mod-eq_of_lt, add-one, arith, drop_of_length-le, drop-cons}
use Rattle.std.specs.Prelude.{if◌then◌else◌}
use Rattle.scans.specs.declared.tally.Tally.{Tally}
use Rattle.scans.specs.Tallying.{one_more, with_answer, tallied, no_line, how_often}

-- one answer counted
pub with_answer_lem : (t : Tally) (answer l p n s c : ℕ) → l ≡ one_more t.lines true → p ≡ one_more t.passed (eqb answer 0) →
    n ≡ one_more t.length (eqb answer 16) → s ≡ one_more t.symbol (eqb answer 17) → c ≡ one_more t.check (eqb answer 18) →
    record { lines = l; passed = p; length = n; symbol = s; check = c } ≡ with_answer t answer
unfolding with_answer
with_answer_lem t answer l p n s c el ep en es ec = rw (el, ep, en, es, ec)

module _ (s : List ℕ) (i : ℕ) (t z : Tally) where
  pub tally_on : (next : Tally) → i < length s → next ≡ with_answer t (get_or s i 0) → tallied t (drop i s) ≡ z → tallied next (drop (i + 1) s) ≡ z
  tally_on next h e f =
      let g : tallied t (drop i s) ≡ tallied next (drop (i + 1) s) = rw (add-one, e, drop-cons s i 0) in
      sym g ∙ f

  pub tally_ends : length s ≤ i → tallied t (drop i s) ≡ z → t ≡ z
  tally_ends h f = sym (rw (drop_of_length-le s h)) ∙ f

-- answers behind others
pub tally_both : (t : Tally) (a b : List ℕ) → tallied t (a ++ b) ≡ tallied (tallied t a) b
tally_both t [] b = refl
tally_both t (x ∷ a) b = tally_both (with_answer t x) a b

-- a count that has not come to its end
one_more_lem : (n : ℕ) (counts : Bool) → n + 1 < 2 ^ 64 → one_more n counts ≡ n + (if counts then 1 else 0)
one_more_lem n true h = mod-eq_of_lt h
one_more_lem n false h = omega arith

one_more_le : (n m : ℕ) (counts : Bool) → n ≤ m → n + (if counts then 1 else 0) ≤ m + 1
one_more_le n m true h = omega arith
one_more_le n m false h = omega arith

alike : {a b c d e f g h i j : ℕ} → a ≡ f → b ≡ g → c ≡ h → d ≡ i → e ≡ j →
    ◌≡◌ {A = Tally} record { lines = a; passed = b; length = c; symbol = d; check = e }
    record { lines = f; passed = g; length = h; symbol = i; check = j }
alike p q r s t = rw (p, q, r, s, t)

-- the counts behind answers that come after a tally, where no count comes to its end
tally_from : (answers : List ℕ) (t : Tally) → t.lines + length answers < 2 ^ 64 → t.passed ≤ t.lines → t.length ≤ t.lines →
    t.symbol ≤ t.lines → t.check ≤ t.lines →
    tallied t answers
    ≡ record {
      lines = t.lines + length answers;
      passed = t.passed + how_often 0 answers;
      length = t.length + how_often 16 answers;
      symbol = t.symbol + how_often 17 answers;
      check = t.check + how_often 18 answers;
    }
tally_from [] t h p n s c = alike (omega arith) (omega arith) (omega arith) (omega arith) (omega arith)
tally_from (a ∷ answers) t h p n s c =
    let is : (answer : ℕ) → ℕ = λ answer. if eqb a answer then 1 else 0 in
    let next : Tally =
    record {
      lines = t.lines + 1;
      passed = t.passed + is 0;
      length = t.length + is 16;
      symbol = t.symbol + is 17;
      check = t.check + is 18;
    } in
    let e : with_answer t a ≡ next =
    sym (with_answer_lem t a (t.lines + 1) (t.passed + is 0) (t.length + is 16) (t.symbol + is 17) (t.check + is 18)
    (sym (one_more_lem t.lines true (omega arith))) (sym (one_more_lem t.passed (eqb a 0) (omega arith)))
    (sym (one_more_lem t.length (eqb a 16) (omega arith))) (sym (one_more_lem t.symbol (eqb a 17) (omega arith)))
    (sym (one_more_lem t.check (eqb a 18) (omega arith)))) in
    ap (λ u. tallied u answers) e
    ∙ tally_from answers next (omega arith) (one_more_le t.passed t.lines (eqb a 0) p)
    (one_more_le t.length t.lines (eqb a 16) n) (one_more_le t.symbol t.lines (eqb a 17) s)
    (one_more_le t.check t.lines (eqb a 18) c)
    ∙ alike (omega arith) (omega arith) (omega arith) (omega arith) (omega arith)

pub counts_told : (answers : List ℕ) → length answers < 2 ^ 64 →
    tallied no_line answers
    ≡ record {
      lines = length answers;
      passed = how_often 0 answers;
      length = how_often 16 answers;
      symbol = how_often 17 answers;
      check = how_often 18 answers;
    }
counts_told answers h =
    tally_from answers no_line (omega arith) (omega arith) (omega arith) (omega arith) (omega arith)
    ∙ alike (omega arith) (omega arith) (omega arith) (omega arith) (omega arith)
