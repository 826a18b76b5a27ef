-- The parts of a line: how many there are, and how the library's `split` gives them one after the other.
use Prim.Native.Nat.{ℕ, zero, suc, ◌+◌, ◌-◌, ◌≤◌, ◌<◌}
use mathlib.Core.Path.{◌≡◌, refl, ap, subst, ◌∙◌}
use mathlib.Core.Bool.{Bool, true, false, not}
use mathlib.Core.List.{List, [], ◌∷◌, ◌++◌}
use mathlib.Core.Logic.{⊎_elim}
use native.Mathlib.Omega.{arith}
use lib.ListN.{length, take, drop, get_or, length-take, length-drop}
use lib.Dec.{leb, ltb}
use lib.Seq.{take_all, drop-drop}
use borrow.Author.Tests.{le-leb, lt-leb, ltb-false}
use denote.Ref.{Bor}
use denote.Param.Members.{Mut}
use Rattle.std.specs.Prelude.{Option, Some, None, slice_get, if◌then◌else◌}
use Rattle.std.specs.Bool.{MatchBool}
use Rattle.std.specs.Fn.{ComputesKey, CalledAt}
use Rattle.std.specs.List.{All, count_by, position, position_or_len, IsFirstMatchOrLen}
use Rattle.std.specs.Option.{unwrap_or, option_map}
use Rattle.std.specs.Slice.Iter.{split_rest, split_done, split_callee, split_steps}
use Rattle.std.specs.Iterator.Adapters.{take_source, take_count, take_steps}
use Rattle.std.specs.declared.slice.Split.{Split}
use Rattle.std.specs.declared.iter.Take.{Take}
use Rattle.std.proofs.lemmas.Fn.{always_returns_same}
use Rattle.std.proofs.lemmas.Grind.{common_steps}
use Rattle.std.proofs.lemmas.List.Splits.{slice_split_none, slice_split_at, slice_split_first, length-slice_split}
use Rattle.std.proofs.lemmas.List.Sums.{fails_before_first, prefix_len-le-length}
use Rattle.text.proofs.Numbers.{le_or_lt}
use Rattle.text.specs.Scan.{count}
use Rattle.line.proofs.Splits.{split_some}
use Rattle.line.specs.Parts.{semicolon, into_first, split, fields_of, start_in}

counted : (ok : ℕ → Bool) (s : List ℕ) → count_by ok s ≡ count ok s
counted ok [] = refl
counted ok (b ∷ s) = let h = counted ok s in grind (arith, common_steps)

pub fields_long : (line : List ℕ) → length (fields_of line) ≡ count semicolon line
fields_long line = omega (arith, length-drop 1 (split line), length-slice_split semicolon line, counted semicolon line)

got : (parts : List (List ℕ)) (n : ℕ) → unwrap_or (slice_get parts n) [] ≡ get_or parts n []
got [] n = refl
got (part ∷ parts) zero = refl
got (part ∷ parts) (suc n) = got parts n

-- a part that may be missing
pub part_or_none : (r : Option (Bor (List ℕ))) (d : Bor (List ℕ)) (parts : List (List ℕ)) (n : ℕ) → option_map (λ x. x.now) r ≡ slice_get parts n →
    d.now ≡ [] → (unwrap_or r d).now ≡ get_or parts n []
part_or_none r d parts n e z = go r ∙ ap (λ (o : Option (List ℕ)). unwrap_or o []) e ∙ got parts n
  where
    go : (o : Option (Bor (List ℕ))) → (unwrap_or o d).now ≡ unwrap_or (option_map (λ x. x.now) o) []
    go None = z
    go (Some x) = refl

-- how many bytes parts take, each with the semicolon behind it
abbrev pub long : List (List ℕ) → ℕ
long [] = 0
long (part ∷ parts) = length part + 1 + long parts

into_long : (b : ℕ) (parts : List (List ℕ)) → 0 < length parts → long (into_first b parts) ≡ suc (long parts)
into_long b [] h = absurd (omega arith)
into_long b (part ∷ parts) h = omega arith

pub long_split : (line : List ℕ) → long (split line) ≡ length line + 1
long_split [] = refl
long_split (b ∷ line) = go (semicolon b) (long_split line)
  where
    go : (t : Bool) → long (split line) ≡ length line + 1 → long (if t then [] ∷ split line else into_first b (split line)) ≡ length (b ∷ line) + 1
    go true e = omega arith
    go false e = into_long b (split line) (omega (arith, ap length (split_some line))) ∙ omega arith

-- the parts of a line that are left at a place
abbrev pub rest : List ℕ → ℕ → List (List ℕ)
rest line start = if leb start (length line) then split (drop start line) else []

-- the first of these bytes' parts, and those behind its semicolon
first_off : (s : List ℕ) → split s ≡ take (position_or_len semicolon s) s ∷ rest s (position_or_len semicolon s + 1)
first_off s = ⊎_elim more none (le_or_lt (position_or_len semicolon s + 1) (length s))
  where
    more : position_or_len semicolon s + 1 ≤ length s → split s ≡ take (position_or_len semicolon s) s ∷ rest s (position_or_len semicolon s + 1)
    more h = slice_split_first semicolon s 0 (omega arith) ∙ rw (le-leb (position_or_len semicolon s + 1) (length s) h)

    none : length s < position_or_len semicolon s + 1 → split s ≡ take (position_or_len semicolon s) s ∷ rest s (position_or_len semicolon s + 1)
    none h = slice_split_none semicolon s (λ k d l. fails_before_first semicolon s k d (omega arith))
        ∙ rw (lt-leb (position_or_len semicolon s + 1) (length s) h, take_all (position_or_len semicolon s) s (omega arith))

rest_behind : (line : List ℕ) (start n : ℕ) → start ≤ length line → rest (drop start line) n ≡ rest line (start + n)
rest_behind line start n h = ⊎_elim more none (le_or_lt (start + n) (length line))
  where
    more : start + n ≤ length line → rest (drop start line) n ≡ rest line (start + n)
    more l = rw (le-leb (start + n) (length line) l, le-leb n (length (drop start line)) (omega (arith, length-drop start line)), drop-drop n start line)

    none : length line < start + n → rest (drop start line) n ≡ rest line (start + n)
    none l = rw (lt-leb (start + n) (length line) l, lt-leb n (length (drop start line)) (omega (arith, length-drop start line)))

pub front_long : (line : List ℕ) (n : ℕ) → n ≤ length line → length (take (n + 1 - 1 - 0) line) ≡ n
front_long line n h = omega (arith, length-take (n + 1 - 1 - 0) line)

module _ (line : List ℕ) (name : ℕ) (e : name ≡ position_or_len semicolon line) where
  pub rest_starts : split line ≡ take (name + 1 - 1 - 0) line ∷ rest line (name + 1)
  rest_starts = let n : name + 1 - 1 - 0 ≡ position_or_len semicolon line = omega arith in rw (n, e) (first_off line)

module _ (line : List ℕ) (start n : ℕ) (h : start ≤ length line)
    (ep : n ≡ position_or_len semicolon (take (length line - start) (drop start line))) where
  e : n ≡ position_or_len semicolon (drop start line)
  e = ep ∙ ap (position_or_len semicolon) (take_all (length line - start) (drop start line) (omega (arith, length-drop start line)))

  pub rest_step : rest line start ≡ take (start + n - start) (drop start line) ∷ rest line (start + n + 1)
  rest_step =
      let m : start + n - start ≡ position_or_len semicolon (drop start line) = omega (arith, e) in
      let k : start + (position_or_len semicolon (drop start line) + 1) ≡ start + n + 1 = omega (arith, e) in
      rw (le-leb start (length line) h, m)
      (first_off (drop start line) ∙ ap (λ (ps : List (List ℕ)). take (position_or_len semicolon (drop start line)) (drop start line) ∷ ps)
      (rest_behind line start (position_or_len semicolon (drop start line) + 1) h ∙ ap (rest line) k))

  pub part_there : length (take (start + n - start) (drop start line)) ≡ n
  part_there = omega (arith, e, length-take (start + n - start) (drop start line), prefix_len-le-length (λ b. not (semicolon b)) (drop start line))

pub position_long : (p : ℕ → Bool) (s : List ℕ) → unwrap_or (position p s) (length s) ≡ position_or_len p s
position_long p s = go (ltb (position_or_len p s) (length s)) refl
  where
    go : (t : Bool) → ltb (position_or_len p s) (length s) ≡ t → unwrap_or (if t then Some (position_or_len p s) else None) (length s) ≡ position_or_len p s
    go true e = refl
    go false e = omega (arith, ltb-false (position_or_len p s) (length s) e, prefix_len-le-length (λ b. not (p b)) s)

-- the parts that an iterator still gives
abbrev pub left : {F : Type 0} → Split ℕ F → List (List ℕ)
left s = if split_done s then [] else split (split_rest s)

pub all_left : {F : Type 0} (s : Split ℕ F) (line : List ℕ) → split_done s ≡ false → split_rest s ≡ line → left s ≡ split line
all_left s line d e = ap (λ (b : Bool). if b then [] else split (split_rest s)) d ∙ ap split e

cut_off : (line part rest : List ℕ) (done : Bool) → MatchBool done (line ≡ part) ((b : ℕ) × (line ≡ part ++ (b ∷ rest))) →
    IsFirstMatchOrLen semicolon line (length part) → split line ≡ part ∷ (if done then [] else split rest)
cut_off line part rest true e h = ap split e ∙ slice_split_none semicolon part (λ k d l. subst (λ (ys : List ℕ). semicolon (get_or ys k d) ≡ false) e (h.0 k d (omega arith) l))
cut_off line part rest false e h =
    let front : All (λ z. semicolon z ≡ false) part = λ k d l. let a = h.0 k d (omega arith) l in let b = e.1 in grind (arith, common_steps) in
    let hit : semicolon e.0 ≡ true = let b = e.1 in let a = h.1 (grind (arith, common_steps)) e.0 in grind (arith, common_steps) in
    ap split e.1 ∙ slice_split_at semicolon part e.0 rest front hit

-- one step of it
module _ {F : Type 0} (g : Mut F (Bor ℕ × Unit {0}) Bool) (s t : Split ℕ F)
    (tests : (f : F) (b : ℕ) (r : Bool) (q : F) → CalledAt g f b r q → (q ≡ f) × (r ≡ semicolon b)) where
  computes : ComputesKey g semicolon (split_callee s)
  computes = always_returns_same g (λ a r. r ≡ semicolon a.0.now) (split_callee s)
      (λ a r q k. let m = tests (split_callee s) a.0.now r q (record { shown = a.0; shows = refl; called = k }) in (m.1, m.0))

  pub next_part : (x : Bor (List ℕ)) → split_steps g s (Some x) t → left s ≡ x.now ∷ left t
  next_part x k = ap (λ (b : Bool). if b then [] else split (split_rest s)) k.0
      ∙ cut_off (split_rest s) x.now (split_rest t) (split_done t) k.1 (k.2 semicolon computes).1

-- a step of an iterator over the first few parts
module _ {F : Type 0} (g : Mut F (Bor ℕ × Unit {0}) Bool) (s t : Take (Split ℕ F))
    (tests : (f : F) (b : ℕ) (r : Bool) (q : F) → CalledAt g f b r q → (q ≡ f) × (r ≡ semicolon b)) where
  pub taken_part : (x : Bor (List ℕ)) → take_steps (split_steps g) s (Some x) t → left (take_source s) ≡ x.now ∷ left (take_source t)
  taken_part x k = next_part g (take_source s) (take_source t) tests x k.0

  pub taken_start : (x : Bor (List ℕ)) → take_steps (split_steps g) s (Some x) t →
      start_in (left (take_source s)) (take_count s) ≡ length x.now + 1 + start_in (left (take_source t)) (take_count t)
  taken_start x k =
      let e = taken_part x k in
      let n : take_count s ≡ suc (take_count t) = omega (arith, k.1) in
      ap (λ (ps : List (List ℕ)). start_in ps (take_count s)) e ∙ ap (λ (m : ℕ). start_in (x.now ∷ left (take_source t)) m) n

  pub none_taken : take_steps (split_steps g) s None t → start_in (left (take_source s)) (take_count s) ≡ 0
  none_taken k = go (take_count s) k
    where
      go : (n : ℕ) → (0 < n → split_steps g (take_source s) None (take_source t)) → start_in (left (take_source s)) n ≡ 0
      go zero h = refl
      go (suc n) h = ap (λ (b : Bool). start_in (if b then [] else split (split_rest (take_source s))) (suc n)) (h (omega arith)).0
