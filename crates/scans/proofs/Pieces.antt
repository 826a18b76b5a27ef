-- A text in pieces has the lines that it has as one.
use Rattle.std.proofs.Common.{◌≡◌, ℕ, zero, suc, ◌+◌, ◌-◌, ◌<◌, ◌≤◌, Bool, true, false, eqb, List, [], ◌∷◌, ◌++◌, map, length, get_or}
use Rattle.std.proofs.Common.{take, drop, sym, refl, ap, ◌∙◌, ⊎_elim, append_assoc, append-nil, arith, length-append, take-append-drop}
use Rattle.std.proofs.Common.{length-take-le, get_or-drop, take_all, take-take, drop_at, ne_eqb, eqb-true}
use lib.Seq.{append_snoc}
use borrow.Author.Tests.{not-true}
use Rattle.std.specs.Prelude.{if◌then◌else◌}
use Rattle.text.specs.Scan.{all, in_line}
use Rattle.text.proofs.Choices.{and_left, and_right, and_both}
use Rattle.text.proofs.Numbers.{le_or_lt}
use Rattle.text.proofs.Runs.{all_append}
use Rattle.scans.specs.Scans.{lines_from, whole_lines, number_on, line_answer, bytes_of}
use Rattle.scans.specs.Pieces.{rest_from, rest_of, joined, ended, last_answer, input_answers, bench_answers}
use Rattle.scans.proofs.Splitting.{lines_run, lines_feed}
use Rattle.scans.proofs.Laying.{map_both}

-- a text behind another
lines_both : (line a b : List ℕ) → lines_from line (a ++ b) ≡ lines_from line a ++ lines_from (rest_from line a) b
lines_both line [] b = refl
lines_both line (x ∷ a) b = go (eqb x 10) (lines_both [] a b) (lines_both (line ++ (x ∷ [])) a b)
  where
    go : (t : Bool) → lines_from [] (a ++ b) ≡ lines_from [] a ++ lines_from (rest_from [] a) b →
        lines_from (line ++ (x ∷ [])) (a ++ b) ≡ lines_from (line ++ (x ∷ [])) a ++ lines_from (rest_from (line ++ (x ∷ [])) a) b →
        (if t then line ∷ lines_from [] (a ++ b) else lines_from (line ++ (x ∷ [])) (a ++ b))
        ≡ (if t then line ∷ lines_from [] a else lines_from (line ++ (x ∷ [])) a)
        ++ lines_from (if t then rest_from [] a else rest_from (line ++ (x ∷ [])) a) b
    go true p q = ap (λ l. line ∷ l) p
    go false p q = q

rest_both : (line a b : List ℕ) → rest_from line (a ++ b) ≡ rest_from (rest_from line a) b
rest_both line [] b = refl
rest_both line (x ∷ a) b = go (eqb x 10) (rest_both [] a b) (rest_both (line ++ (x ∷ [])) a b)
  where
    go : (t : Bool) → rest_from [] (a ++ b) ≡ rest_from (rest_from [] a) b →
        rest_from (line ++ (x ∷ [])) (a ++ b) ≡ rest_from (rest_from (line ++ (x ∷ [])) a) b →
        (if t then rest_from [] (a ++ b) else rest_from (line ++ (x ∷ [])) (a ++ b))
        ≡ rest_from (if t then rest_from [] a else rest_from (line ++ (x ∷ [])) a) b
    go true p q = p
    go false p q = q

-- a line that is not ended grows
line_grows : (line : List ℕ) (x : ℕ) → all in_line line ≡ true → eqb x 10 ≡ false → all in_line (line ++ (x ∷ [])) ≡ true
line_grows line x e n = all_append in_line line (x ∷ []) e (rw n)

rest_plain : (line a : List ℕ) → all in_line line ≡ true → all in_line (rest_from line a) ≡ true
rest_plain line [] e = e
rest_plain line (x ∷ a) e = go (eqb x 10) refl (rest_plain [] a refl) (λ n. rest_plain (line ++ (x ∷ [])) a (line_grows line x e n))
  where
    go : (t : Bool) → eqb x 10 ≡ t → all in_line (rest_from [] a) ≡ true →
        (eqb x 10 ≡ false → all in_line (rest_from (line ++ (x ∷ [])) a) ≡ true) →
        all in_line (if t then rest_from [] a else rest_from (line ++ (x ∷ [])) a) ≡ true
    go true n p q = p
    go false n p q = q n

lines_plain : (line a : List ℕ) → all in_line line ≡ true → (i : ℕ) → all in_line (get_or (lines_from line a) i []) ≡ true
lines_plain line [] e i = refl
lines_plain line (x ∷ a) e i =
    go (eqb x 10) refl i (λ k. lines_plain [] a refl k) (λ n k. lines_plain (line ++ (x ∷ [])) a (line_grows line x e n) k)
  where
    go : (t : Bool) → eqb x 10 ≡ t → (k : ℕ) → ((k : ℕ) → all in_line (get_or (lines_from [] a) k []) ≡ true) →
        (eqb x 10 ≡ false → (k : ℕ) → all in_line (get_or (lines_from (line ++ (x ∷ [])) a) k []) ≡ true) →
        all in_line (get_or (if t then line ∷ lines_from [] a else lines_from (line ++ (x ∷ [])) a) k []) ≡ true
    go true n zero p q = e
    go true n (suc k) p q = p k
    go false n k p q = q n k

take_plain : (n : ℕ) (s : List ℕ) → all in_line s ≡ true → all in_line (take n s) ≡ true
take_plain zero s e = refl
take_plain (suc n) [] e = refl
take_plain (suc n) (x ∷ s) e =
    let here = and_left (in_line x) (all in_line s) e in
    let rest = and_right (in_line x) (all in_line s) e in
    and_both (in_line x) (all in_line (take n s)) here (take_plain n s rest)

pub rest_run : (line run : List ℕ) → all in_line run ≡ true → rest_from line run ≡ line ++ run
rest_run line [] e = sym (append-nil line)
rest_run line (x ∷ run) e =
    let n : eqb x 10 ≡ false = not-true (eqb x 10) (and_left (in_line x) (all in_line run) e) in
    rw n (rest_run (line ++ (x ∷ [])) run (and_right (in_line x) (all in_line run) e) ∙ append_snoc line x run)

pub no_feed_inside : (text : List ℕ) → ((i : ℕ) → all in_line (get_or (whole_lines text) i []) ≡ true) × (all in_line (rest_of text) ≡ true)
no_feed_inside text = (lines_plain [] text refl, rest_plain [] text refl)

pub last_line : (text : List ℕ) → whole_lines (rest_of text ++ (10 ∷ [])) ≡ rest_of text ∷ []
last_line text = lines_run [] (rest_of text) (10 ∷ []) (rest_plain [] text refl) ∙ lines_feed (rest_of text) 10 [] refl

-- the text is its lines, ended, and the rest
lost_from : (line text : List ℕ) → line ++ text ≡ ended (lines_from line text) ++ rest_from line text
lost_from line [] = append-nil line
lost_from line (x ∷ text) = go (eqb x 10) refl (lost_from [] text) (lost_from (line ++ (x ∷ [])) text)
  where
    go : (t : Bool) → eqb x 10 ≡ t → text ≡ ended (lines_from [] text) ++ rest_from [] text →
        line ++ (x ∷ []) ++ text ≡ ended (lines_from (line ++ (x ∷ [])) text) ++ rest_from (line ++ (x ∷ [])) text →
        line ++ (x ∷ text)
        ≡ ended (if t then line ∷ lines_from [] text else lines_from (line ++ (x ∷ [])) text)
        ++ (if t then rest_from [] text else rest_from (line ++ (x ∷ [])) text)
    go true n p q =
        let ten : x ≡ 10 = eqb-true x 10 n in
        ap (λ b. line ++ (b ∷ text)) ten ∙ ap (λ s. line ++ (10 ∷ s)) p
        ∙ sym (append_snoc line 10 (ended (lines_from [] text) ++ rest_from [] text))
        ∙ sym (append_assoc (line ++ (10 ∷ [])) (ended (lines_from [] text)) (rest_from [] text))
    go false n p q = sym (append_snoc line x text) ∙ q

pub nothing_lost : (text : List ℕ) → text ≡ ended (whole_lines text) ++ rest_of text
nothing_lost text = lost_from [] text

ended_long : (lines : List (List ℕ)) → length (ended lines) ≡ bytes_of lines
ended_long [] = refl
ended_long (line ∷ lines) =
    omega (arith, length-append (line ++ (10 ∷ [])) (ended lines), length-append line (10 ∷ []), ended_long lines)

ended_both : (a b : List (List ℕ)) → ended (a ++ b) ≡ ended a ++ ended b
ended_both [] b = refl
ended_both (line ∷ a) b = ap (λ s. line ++ (10 ∷ []) ++ s) (ended_both a b) ∙ sym (append_assoc (line ++ (10 ∷ [])) (ended a) (ended b))

pub rest_behind : (text : List ℕ) → drop (bytes_of (whole_lines text)) text ≡ rest_of text
rest_behind text =
    ap (λ s. drop (bytes_of (whole_lines text)) s) (nothing_lost text)
    ∙ drop_at (ended (whole_lines text)) (rest_of text) (bytes_of (whole_lines text)) (ended_long (whole_lines text))

-- lines that are ended are found again
lines_again : (lines : List (List ℕ)) (rest : List ℕ) → ((i : ℕ) → all in_line (get_or lines i []) ≡ true) →
    whole_lines (ended lines ++ rest) ≡ lines ++ whole_lines rest
lines_again [] rest p = refl
lines_again (line ∷ lines) rest p =
    ap whole_lines
    (append_assoc (line ++ (10 ∷ [])) (ended lines) rest ∙ append_snoc line 10 (ended lines ++ rest))
    ∙ lines_run [] line (10 ∷ (ended lines ++ rest)) (p 0)
    ∙ lines_feed line 10 (ended lines ++ rest) refl
    ∙ ap (λ l. line ∷ l) (lines_again lines rest (λ i. p (suc i)))

pub goes_on : (text : List ℕ) (n : ℕ) → whole_lines (drop (bytes_of (take n (whole_lines text))) text) ≡ drop n (whole_lines text)
goes_on text n =
    let lines = whole_lines text in
    let whole : text ≡ ended (take n lines) ++ (ended (drop n lines) ++ rest_of text) =
    nothing_lost text ∙ ap (λ l. ended l ++ rest_of text) (sym (take-append-drop n lines))
    ∙ ap (λ s. s ++ rest_of text) (ended_both (take n lines) (drop n lines))
    ∙ append_assoc (ended (take n lines)) (ended (drop n lines)) (rest_of text)
    in
    let none : whole_lines (rest_of text) ≡ [] =
    ap whole_lines (sym (append-nil (rest_of text))) ∙ lines_run [] (rest_of text) [] (rest_plain [] text refl) in
    let past = bytes_of (take n lines) in
    ap (λ s. whole_lines (drop past s)) whole
    ∙ ap whole_lines (drop_at (ended (take n lines)) (ended (drop n lines) ++ rest_of text) past (ended_long (take n lines)))
    ∙ lines_again (drop n lines) (rest_of text) (λ i. rw (get_or-drop n lines i []) (lines_plain [] text refl (n + i)))
    ∙ ap (λ l. drop n lines ++ l) none ∙ append-nil (drop n lines)

-- a line of 17 bytes or more is too long
number_long : (line : List ℕ) → length line - 1 ≤ length (number_on line)
unfolding number_on
number_long line = go (eqb (get_or line (length line - 1) 0) 13)
  where
    go : (t : Bool) → length line - 1 ≤ length (if t then take (length line - 1) line else line)
    go true = omega (arith, length-take-le (length line - 1) line (omega arith))
    go false = omega arith

too_long : (line : List ℕ) → 17 ≤ length line → line_answer line ≡ 16
unfolding line_answer
too_long line h = rw (ne_eqb (length (number_on line)) 15 (λ e. omega (arith, e, number_long line)))

pub seventeen_do : (line : List ℕ) → line_answer (take 17 line) ≡ line_answer line
seventeen_do line = ⊎_elim long short (le_or_lt 17 (length line))
  where
    long : 17 ≤ length line → line_answer (take 17 line) ≡ line_answer line
    long h = too_long (take 17 line) (omega (arith, length-take-le 17 line h)) ∙ sym (too_long line h)

    short : length line < 17 → line_answer (take 17 line) ≡ line_answer line
    short h = ap line_answer (take_all 17 line (omega arith))

-- two beginnings of a line that agree in their first 17 bytes
cut : (n : ℕ) (x z : List ℕ) → take n (take n x ++ z) ≡ take n (x ++ z)
cut zero x z = refl
cut (suc n) [] z = refl
cut (suc n) (a ∷ x) z = ap (λ l. a ∷ l) (cut n x z)

both_grow : (x y : List ℕ) (c : ℕ) → take 17 x ≡ take 17 y → take 17 (x ++ (c ∷ [])) ≡ take 17 (y ++ (c ∷ []))
both_grow x y c e = sym (cut 17 x (c ∷ [])) ∙ ap (λ l. take 17 (l ++ (c ∷ []))) e ∙ cut 17 y (c ∷ [])

lines_alike : (x y b : List ℕ) → take 17 x ≡ take 17 y → map line_answer (lines_from x b) ≡ map line_answer (lines_from y b)
lines_alike x y [] e = refl
lines_alike x y (c ∷ b) e = go (eqb c 10) (lines_alike (x ++ (c ∷ [])) (y ++ (c ∷ [])) b (both_grow x y c e))
  where
    go : (t : Bool) → map line_answer (lines_from (x ++ (c ∷ [])) b) ≡ map line_answer (lines_from (y ++ (c ∷ [])) b) →
        map line_answer (if t then x ∷ lines_from [] b else lines_from (x ++ (c ∷ [])) b)
        ≡ map line_answer (if t then y ∷ lines_from [] b else lines_from (y ++ (c ∷ [])) b)
    go true p = ap (λ a. a ∷ map line_answer (lines_from [] b)) (sym (seventeen_do x) ∙ ap line_answer e ∙ seventeen_do y)
    go false p = p

rest_alike : (x y b : List ℕ) → take 17 x ≡ take 17 y → take 17 (rest_from x b) ≡ take 17 (rest_from y b)
rest_alike x y [] e = e
rest_alike x y (c ∷ b) e = go (eqb c 10) (rest_alike (x ++ (c ∷ [])) (y ++ (c ∷ [])) b (both_grow x y c e))
  where
    go : (t : Bool) → take 17 (rest_from (x ++ (c ∷ [])) b) ≡ take 17 (rest_from (y ++ (c ∷ [])) b) →
        take 17 (if t then rest_from [] b else rest_from (x ++ (c ∷ [])) b)
        ≡ take 17 (if t then rest_from [] b else rest_from (y ++ (c ∷ [])) b)
    go true p = refl
    go false p = p

-- one piece behind what was kept of another
module _ (a b : List ℕ) where
  pub plain : all in_line (take 17 (rest_of a)) ≡ true
  plain = take_plain 17 (rest_of a) (rest_plain [] a refl)

  pub pieces_answered :
      map line_answer (whole_lines a) ++ map line_answer (whole_lines (take 17 (rest_of a) ++ b)) ≡ map line_answer (whole_lines (a ++ b))
  pieces_answered =
      ap (λ l. map line_answer (whole_lines a) ++ l)
      (ap (λ l. map line_answer l) (lines_run [] (take 17 (rest_of a)) b plain)
      ∙ lines_alike (take 17 (rest_of a)) (rest_of a) b (take-take 17 17 (rest_of a) (omega arith)))
      ∙ sym (map_both (whole_lines a) (lines_from (rest_of a) b))
      ∙ ap (λ l. map line_answer l) (sym (lines_both [] a b))

  pub pieces_kept : take 17 (rest_of (take 17 (rest_of a) ++ b)) ≡ take 17 (rest_of (a ++ b))
  pieces_kept =
      ap (λ l. take 17 l) (rest_both [] (take 17 (rest_of a)) b ∙ ap (λ l. rest_from l b) (rest_run [] (take 17 (rest_of a)) plain))
      ∙ rest_alike (take 17 (rest_of a)) (rest_of a) b (take-take 17 17 (rest_of a) (omega arith))
      ∙ ap (λ l. take 17 l) (sym (rest_both [] a b))

pub last_cut : (line : List ℕ) → last_answer (take 17 line) ≡ last_answer line
last_cut [] = refl
last_cut (b ∷ line) = ap (λ a. a ∷ []) (seventeen_do (b ∷ line))

-- the bench behind a text that it has answered
behind : (done : List ℕ) (pieces : List (List ℕ)) →
    map line_answer (whole_lines done) ++ bench_answers (take 17 (rest_of done)) pieces ≡ input_answers (done ++ joined pieces)
behind done [] =
    ap (λ l. map line_answer (whole_lines done) ++ l) (last_cut (rest_of done)) ∙ ap input_answers (sym (append-nil done))
behind done (piece ∷ pieces) =
    let waiting = take 17 (rest_of done) in
    sym (append_assoc (map line_answer (whole_lines done)) (map line_answer (whole_lines (waiting ++ piece)))
    (bench_answers (take 17 (rest_of (waiting ++ piece))) pieces))
    ∙ ap (λ l. l ++ bench_answers (take 17 (rest_of (waiting ++ piece))) pieces) (pieces_answered done piece)
    ∙ ap (λ k. map line_answer (whole_lines (done ++ piece)) ++ bench_answers k pieces) (pieces_kept done piece)
    ∙ behind (done ++ piece) pieces
    ∙ ap input_answers (append_assoc done piece (joined pieces))

pub any_pieces : (pieces : List (List ℕ)) → bench_answers [] pieces ≡ input_answers (joined pieces)
any_pieces pieces = behind [] pieces
