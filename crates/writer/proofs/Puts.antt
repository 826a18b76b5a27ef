-- A line put together piece by piece.
use Prim.Native.Nat.{ℕ, ◌+◌, ◌-◌, ◌≤◌, ◌<◌}
use mathlib.Core.Path.{◌≡◌, refl, sym, ap, ◌∙◌}
use mathlib.Core.Bool.{true}
use mathlib.Core.List.{List, [], ◌∷◌, ◌++◌}
use native.Mathlib.Numerals.{add-one}
use native.Mathlib.Omega.{arith}
use lib.ListN.{length, take, drop, get_or, length-append, length-drop, drop_of_length-le}
use lib.Seq.{drop-cons}
use Rattle.text.specs.Quoted.{bytes}
use Rattle.text.specs.Placed.{placed}
use Rattle.text.proofs.Placing.{placed_none, placed_long, placed_on}
use Rattle.records.specs.Record.{type_of}
use Rattle.records.specs.declared.record.Record.{Record}
use Rattle.records.proofs.Types.{type_long}
use Rattle.line.specs.Render.{joined, text_of, render}
use Rattle.line.proofs.Plain.{render_long}
use Rattle.writer.specs.Write.{rises_to, ends_hold, fields_from, between}
use Rattle.writer.proofs.Ends.{end_rises, rest_rises, end_inside, field_long, joined_long}

-- the record type, by the arm that places it
pub type_as : (out room : List ℕ) (kind case : Record) → kind ≡ case → out ≡ placed room 0 (type_of case) → out ≡ placed room 0 (type_of kind)
type_as out room kind case e f = rw e f

-- the loop at the field behind i others, which starts at start in the text: what is left, put now, gives the whole
pub record Putting (front text ends room : List ℕ) (start i : ℕ) : Type 0 where
  pub counted : i ≤ length ends
  pub inside : start ≤ length text
  pub size : length room ≡ length front
  pub rises : rises_to (length text) start (drop i ends) ≡ true
  pub left :
      placed room (start + i + 3) (joined (fields_from start text (drop i ends))) ≡ placed front 3 (joined (between text ends))

pub putting_none : (front text ends : List ℕ) → ends_hold ends (length text) ≡ true → Putting front text ends front 0 0
unfolding ends_hold between
putting_none front text ends e = record { counted = omega arith; inside = omega arith; size = refl; rises = e; left = refl }

module _ (front text ends room : List ℕ) (start i : ℕ) (g : Putting front text ends room start i) where
  pub putting_done : length ends ≤ i → room ≡ placed front 3 (joined (between text ends))
  putting_done h =
      let e : drop i ends ≡ [] = drop_of_length-le ends h in
      sym (ap (λ (l : List ℕ). placed room (start + i + 3) (joined (fields_from start text l))) e ∙ placed_none room (start + i + 3) [])
      ∙ g.left

  module _ (h : i < length ends) where
    pub next_rises : start ≤ get_or ends i 0
    next_rises = end_rises (length text) ends i start g.rises h

    pub next_inside : get_or ends i 0 ≤ length text
    next_inside = end_inside (length text) ends i start g.rises h

    pub putting_on :
        length text + length ends + 3 ≤ length front → (semi o : List ℕ) → semi ≡ placed room (start + i + 3) (bytes ";") →
        o ≡ placed semi (start + i + 4) (take (get_or ends i 0 - start) (drop start text)) →
        Putting front text ends o (get_or ends i 0) (i + 1)
    putting_on fits semi o es eo =
        let end = get_or ends i 0 in
        let f = take (get_or ends i 0 - start) (drop start text) in
        let r = joined (fields_from (get_or ends i 0) text (drop (i + 1) ends)) in
        let rises = rest_rises (length text) ends i start g.rises h in
        let n : length f ≡ end - start = field_long text start end next_rises next_inside in
        let m = joined_long end text (drop (i + 1) ends) rises in
        let d = length-drop (i + 1) ends in
        let a : end + (i + 1) + 3 ≡ start + i + 4 + length f = omega (arith, n, next_rises) in
        let b : start + i + 4 ≡ start + i + 3 + length (bytes ";") = omega arith in
        let k : length semi ≡ length front = ap length es ∙ placed_long room (start + i + 3) (bytes ";") ∙ g.size in
        let c : drop i ends ≡ get_or ends i 0 ∷ drop (i + 1) ends = rw add-one (drop-cons ends i 0 h) in
        record {
          counted = omega arith;
          inside = next_inside;
          size = ap length eo ∙ placed_long semi (start + i + 4) f ∙ k;
          rises = rises;
          left =
              ap (λ (p : ℕ). placed o p r) a
              ∙ ap (λ (l : List ℕ). placed l (start + i + 4 + length f) r) eo
              ∙ placed_on semi (start + i + 4) f r (omega (arith, n, m, d, next_rises, next_inside, k))
              ∙ ap (λ (p : ℕ). placed semi p (f ++ r)) b
              ∙ ap (λ (l : List ℕ). placed l (start + i + 3 + length (bytes ";")) (f ++ r)) es
              ∙ placed_on room (start + i + 3) (bytes ";") (f ++ r)
              (omega (arith, n, m, d, next_rises, next_inside, length-append f r, g.size))
              ∙ ap (λ (l : List ℕ). placed room (start + i + 3) (joined (fields_from start text l))) (sym c)
              ∙ g.left;
        }

-- the line as a whole
module _ (kind : Record) (text ends : List ℕ) (rises : ends_hold ends (length text) ≡ true) where
  pub together_long : length (joined (between text ends)) ≡ length text + length ends
  unfolding ends_hold between
  together_long = omega (arith, joined_long 0 text ends rises)

  pub line_long : length text + length ends + 3 + 2 ≡ length (render kind (between text ends))
  line_long =
      omega (
        arith,
        together_long,
        render_long kind (between text ends),
        length-append (type_of kind) (joined (between text ends)),
        type_long kind,
      )

  pub line_put : (room typed filled whole : List ℕ) → length text + length ends + 5 ≤ length room → typed ≡ placed room 0 (type_of kind) →
      filled ≡ placed typed 3 (joined (between text ends)) →
      whole ≡ placed filled (length text + length ends + 3) (bytes "\r\n") → whole ≡ placed room 0 (render kind (between text ends))
  line_put room typed filled whole h et ef ew =
      let fs = joined (between text ends) in
      let n = together_long in
      let k = type_long kind in
      let a : 3 ≡ 0 + length (type_of kind) = omega (arith, k) in
      let t : filled ≡ placed room 0 (text_of kind (between text ends)) =
      ef ∙ ap (λ (l : List ℕ). placed l 3 fs) et ∙ ap (λ (p : ℕ). placed (placed room 0 (type_of kind)) p fs) a
      ∙ placed_on room 0 (type_of kind) fs (omega (arith, n, k))
      in
      let l = length-append (type_of kind) fs in
      let b : length text + length ends + 3 ≡ 0 + length (text_of kind (between text ends)) = omega (arith, n, k, l) in
      ew
      ∙ ap (λ (l : List ℕ). placed l (length text + length ends + 3) (bytes "\r\n")) t
      ∙ ap (λ (p : ℕ). placed (placed room 0 (text_of kind (between text ends))) p (bytes "\r\n")) b
      ∙ placed_on room 0 (text_of kind (between text ends)) (bytes "\r\n") (omega (arith, n, k, l))
