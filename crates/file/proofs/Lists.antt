-- The lent list: what a list holds behind its first words.
use Prim.Native.Nat.{ℕ, suc, ◌+◌, ◌-◌, ◌≤◌, ◌<◌}
use mathlib.Core.Path.{◌≡◌, refl, sym, ap, ◌∙◌}
use mathlib.Core.Bool.{true, false}
use mathlib.Core.List.{List, [], ◌∷◌, ◌++◌}
use native.Mathlib.Numerals.{add-one}
use native.Mathlib.Omega.{arith}
use lib.ListN.{length, take, drop, set, get_or, replicate, length-take}
use lib.ListN.{take-append-drop}
use lib.Seq.{drop-cons, drop-set-lt, take-suc-set}
use borrow.Author.Tests.{lt-ltb, le-ltb, ltb-true, ltb-false}
use Rattle.file.specs.Step.{listed_so_far, has_word}

-- a word for the next line
pub word_left : (words lines : ℕ) → has_word words lines ≡ true → lines < words
unfolding has_word
word_left words lines e = ltb-true lines words e

pub left_word : (words lines : ℕ) → lines < words → has_word words lines ≡ true
unfolding has_word
left_word words lines h = lt-ltb lines words h

pub no_word : (words lines : ℕ) → words ≤ lines → has_word words lines ≡ false
unfolding has_word
no_word words lines h = le-ltb lines words h

pub word_none : (words lines : ℕ) → has_word words lines ≡ false → words ≤ lines
unfolding has_word
word_none words lines e = ltb-false lines words e

-- no line yet
pub listed_none : (words : List ℕ) → listed_so_far 0 words ≡ []
unfolding listed_so_far
listed_none words = refl

-- one line more is listed: n are, and m words are there
module _ (words : List ℕ) (n m v : ℕ) (long : length words ≡ m) (room : has_word m n ≡ true) (zeros : drop n words ≡ replicate (m - n) 0) where
  less : n < m
  less = word_left m n room

  pub listed_more : listed_so_far (n + 1) (set words n v) ≡ listed_so_far n words ++ (v ∷ [])
  unfolding listed_so_far
  listed_more = rw add-one (take-suc-set words n v (omega (arith, less)))

  pub unlisted_more : drop (n + 1) (set words n v) ≡ replicate (m - (n + 1)) 0
  unlisted_more =
      let k : m - n ≡ suc (m - (n + 1)) = omega (arith, less) in
      let both : get_or words n 0 ∷ drop (suc n) words ≡ replicate (suc (m - (n + 1))) 0 = sym (drop-cons words n 0 (omega (arith, less))) ∙ zeros
      ∙ ap (λ (j : ℕ). replicate j 0) k in
      drop-set-lt (n + 1) words n v (omega arith) ∙ ap (λ (j : ℕ). drop j words) (add-one n) ∙ ap (drop 1) both

-- a list whose words behind the first n lines are 0
pub list_whole : (words : List ℕ) (n m : ℕ) → length words ≡ m → n ≤ m → drop n words ≡ replicate (m - n) 0 →
    words ≡ listed_so_far n words ++ replicate (m - length (listed_so_far n words)) 0
unfolding listed_so_far
list_whole words n m long h zeros =
    let k : length (take n words) ≡ n = omega (arith, length-take n words) in
    sym (take-append-drop n words) ∙ ap (λ (w : List ℕ). take n words ++ w) (zeros ∙ ap (λ (j : ℕ). replicate (m - j) 0) (sym k))
