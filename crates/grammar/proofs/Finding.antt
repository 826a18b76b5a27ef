-- One field: it is found exactly where an accepted line has it, and its bytes stand there.
use Prim.Native.Nat.{ℕ, zero, suc, ◌+◌, ◌-◌, ◌≤◌, ◌<◌}
use mathlib.Core.Path.{◌≡◌, refl, sym, ap, ◌∙◌}
use mathlib.Core.List.{List, [], ◌∷◌, ◌++◌, append_assoc}
use mathlib.Core.Logic.{◌↔◌, ⊎_elim}
use native.Mathlib.Omega.{arith}
use native.Mathlib.Nat.{not-suc-le-zero, le_of_suc-le-suc}
use lib.ListN.{length, take, drop, get_or, length-append}
use lib.Seq.{drop-drop, take-append_seam, drop-append_seam}
use borrow.Author.Tests.{le-ltb, lt-ltb, eq-eqb, ne_eqb}
use Rattle.text.specs.Quoted.{bytes}
use Rattle.text.proofs.Numbers.{le_or_lt}
use Rattle.refusal.specs.declared.Reason.TheVariants.{NotThere}
use Rattle.refusal.specs.Table.{because, verdict_on}
use Rattle.refusal.specs.declared.Refusal.{Refusal}
use Rattle.refusal.proofs.Verdicts.{no_pass}
use Rattle.records.specs.Record.{type_of}
use Rattle.fields.specs.Profile.{Rules}
use Rattle.line.specs.declared.find.Span.{Span}
use Rattle.line.specs.Parts.{start_in, start_of, fields_of, field_no}
use Rattle.line.specs.Render.{joined, text_of}
use Rattle.line.specs.Line.{text_at, line_answer, alone}
use Rattle.line.specs.Find.{in_line, field_answer}
use Rattle.line.specs.Told.{Told}
use Rattle.line.specs.declared.read.Line.{Line}
use Rattle.grammar.specs.Grammar.{Reads, FieldStands, StandsInLine}
use Rattle.grammar.proofs.Lines.{accepted_reads, reads_accepted, reads_alone, read_parts, read_field}
use Rattle.std.specs.Prelude.{Result, Ok, Err}

-- the bytes in front of a field
start_joined : (fs : List (List ℕ)) (m : ℕ) → start_in fs m ≡ length (joined (take m fs))
start_joined fs zero = refl
start_joined [] (suc m) = refl
start_joined (f ∷ fs) (suc m) = omega (arith, start_joined fs m, length-append f (joined (take m fs)))

-- the field with the number m + 1 between those in front of it and those behind it
joined_at : (fs : List (List ℕ)) (m : ℕ) → m < length fs → joined fs ≡ joined (take m fs) ++
    bytes ";" ++ (get_or fs m [] ++ joined (drop (suc m) fs))
joined_at [] m h = absurd (not-suc-le-zero h)
joined_at (f ∷ fs) zero h = refl
joined_at (f ∷ fs) (suc m) h =
    let front = joined (take m fs) in
    let back = get_or fs m [] ++ joined (drop (suc m) fs) in
    ap (λ (l : List ℕ). 59 ∷ l)
    (ap (λ (l : List ℕ). f ++ l) (joined_at fs m (le_of_suc-le-suc h)) ∙ sym (append_assoc f (front ++ bytes ";") back)
    ∙ ap (λ (l : List ℕ). l ++ back) (sym (append_assoc f front (bytes ";"))))

module _ {told : Told} {s : List ℕ} {at : ℕ} {line : Line} {fs : List (List ℕ)} (g : Reads told s at line fs) where
  -- what stands in front of the field with the number m + 1
  abbrev front : ℕ → List ℕ
  front m = text_of line.kind (take m fs) ++ bytes ";"

  start_is : (n m : ℕ) → n ≡ suc m → start_of (text_at s at) n ≡ length (front m)
  start_is n m e =
      rw (e, read_parts g)
      (omega (
        arith,
        start_joined fs m,
        length-append (type_of line.kind) (joined (take m fs)),
        length-append (text_of line.kind (take m fs)) (bytes ";"),
      ))

  accepted : line_answer (alone told.rules) s at ≡ Ok line
  accepted = reads_accepted (reads_alone g)

  there : (m : ℕ) → m < length fs → take (length (get_or fs m [])) (drop (at + length (front m)) s) ≡ get_or fs m []
  there m h =
      let back = joined (drop (suc m) fs) ++ bytes "\r\n" ++ g.rest in
      let cut : drop at s ≡ front m ++ (get_or fs m [] ++ back) = g.stands ∙ rw (joined_at fs m h) (simp append_assoc) in
      rw (← drop-drop (length (front m)) at s, cut, drop-append_seam) (take-append_seam (get_or fs m []) back)

  module _ (n : ℕ) where
    pub found : 1 ≤ n → n ≤ length fs → field_answer told.rules s at n ≡ Ok (record { start = at + length (front (n - 1)); long = length (field_no fs n) })
    unfolding field_answer in_line
    found h l =
        rw (
          accepted,
          ne_eqb n 0 (λ z. omega arith),
          le-ltb line.count n (omega (arith, g.count)),
          start_is n (n - 1) (omega arith),
          read_field g n h,
        )

    -- a number that no field has is 15 at 0
    pub field_not_there : (1 ≤ n → n ≤ length fs → ⊥) → field_answer told.rules s at n ≡ Err (because NotThere 0)
    unfolding field_answer in_line
    field_not_there h =
        ⊎_elim
        (λ (l : 1 ≤ n). ⊎_elim (λ (m : n ≤ length fs). absurd (h l m))
        (λ m. simp (accepted, ne_eqb n 0 (λ z. omega arith), lt-ltb line.count n (omega (arith, g.count)))) (le_or_lt n
        (length fs)))
        (λ l. simp (accepted, eq-eqb n 0 (omega arith)))
        (le_or_lt 1 n)

    module _ (start long : ℕ) where
      found_finds : field_answer told.rules s at n ≡ Ok (record { start = start; long = long }) → FieldStands line.kind fs s at n start long
      found_finds e =
          ⊎_elim
          (λ (l : 1 ≤ n). ⊎_elim (λ (m : n ≤ length fs). go l m (sym (found l m) ∙ e))
          (λ m. absurd (no_pass verdict_on refl refl (sym (field_not_there (λ x y. omega arith)) ∙ e))) (le_or_lt n (length fs)))
          (λ l. absurd (no_pass verdict_on refl refl (sym (field_not_there (λ x y. omega arith)) ∙ e)))
          (le_or_lt 1 n)
        where
          go : 1 ≤ n → n ≤ length fs →
              ◌≡◌ {A = Result Span Refusal} (Ok (record { start = at + length (front (n - 1)); long = length (field_no fs n) })) (Ok (record { start = start; long = long })) →
              FieldStands line.kind fs s at n start long
          go l m e =
              let same : ◌≡◌ {A = Span} (record { start = at + length (front (n - 1)); long = length (field_no fs n) }) (record { start = start; long = long }) = cc in
              let a : start ≡ at + length (front (n - 1)) = sym (ap (λ (s : Span). s.start) same) in
              let b : long ≡ length (field_no fs n) = sym (ap (λ (s : Span). s.long) same) in
              record { first = l; last = m; starts = a; measures = b; there = rw (a, b) (there (n - 1) (omega arith)) }

      finds_found : FieldStands line.kind fs s at n start long → field_answer told.rules s at n ≡ Ok (record { start = start; long = long })
      finds_found f = found f.first f.last ∙ rw (f.starts, f.measures)

      -- a field of an accepted line is found exactly where it stands
      pub field_exactly : (field_answer told.rules s at n ≡ Ok (record { start = start; long = long })) ↔ FieldStands line.kind fs s at n start long
      field_exactly = (found_finds, finds_found)

-- "hands its refusal on"
pub field_refused : (rules : Rules) (s : List ℕ) (at n : ℕ) (refusal : Refusal) → line_answer (alone rules) s at ≡ Err refusal →
    field_answer rules s at n ≡ Err refusal
unfolding field_answer in_line
field_refused rules s at n refusal e = rw e

-- a field is found exactly when an allowed line stands at the offset and the field stands in it
pub found_exactly :
    (rules : Rules) (s : List ℕ) (at n start long : ℕ) → (field_answer rules s at n ≡ Ok (record { start = start; long = long })) ↔
    StandsInLine rules s at n start long
found_exactly rules s at n start long = (λ e. go (line_answer (alone rules) s at) refl e, λ g. finds_found g.1.1.0 n start long g.1.1.1)
  where
    go : (a : Result Line Refusal) → line_answer (alone rules) s at ≡ a → field_answer rules s at n ≡ Ok (record { start = start; long = long }) →
        StandsInLine rules s at n start long
    go (Err refusal) q e = absurd (no_pass verdict_on refl refl (sym (field_refused rules s at n refusal q) ∙ e))
    go (Ok line) q e = let g = accepted_reads (alone rules) s at line q in (line, (fields_of (text_at s at), (g, found_finds g n start long e)))
