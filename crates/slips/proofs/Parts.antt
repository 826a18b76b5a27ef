-- The parts of an identcode: read exactly from a sound code, laid one behind the other with the manual's widths, and joined the code again.
use Rattle.refusal.specs.Table.{verdict_on}
use Prim.Native.Nat.{ℕ, ◌+◌, ◌-◌}
use mathlib.Core.Path.{◌≡◌, refl, sym, ap, ◌∙◌}
use mathlib.Core.List.{List, [], ◌∷◌}
use mathlib.Core.Logic.{◌↔◌}
use native.Mathlib.Omega.{arith}
use lib.ListN.{length, take, drop}
use lib.Seq.{take_all, take-add, drop-drop}
use Rattle.refusal.proofs.Verdicts.{no_pass}
use Rattle.check_digits.specs.Identcode.{parts, checked_identcode, parts_where, parts_answer}
use Rattle.check_digits.specs.declared.identcode.Part.{Part}
use Rattle.check_digits.specs.declared.identcode.Parts.{Parts}
use Rattle.slips.specs.Exactly.{SoundIdentcode, in_order, without_check, Laid, Divides, digits_joined, body_of}
use Rattle.slips.proofs.Identcodes.{accepted_sound, sound_accepted}
use Rattle.std.specs.Prelude.{⊤, Result, Ok, Err}
use Rattle.refusal.specs.declared.Refusal.{Refusal}

-- the digits of parts that have these widths
abbrev total : List ℕ → ℕ
total [] = 0
total (w ∷ ws) = w + total ws

-- the places of the manual and its widths say the same
parts_divide : Divides parts
parts_divide = (refl, refl, (refl, refl, (refl, refl, (refl, refl, (refl, refl, (refl, refl, tt))))))

abbrev part_at : ℕ → ℕ → Part
part_at start long = record { start = start; length = long }

part_is : (part : Part) (start long : ℕ) → part.start ≡ start → part.length ≡ long → part ≡ part_at start long
part_is part start long e f = ap (λ (x : ℕ). part_at x part.length) e ∙ ap (part_at start) f

abbrev six : (a b c d e f : Part) → Parts
six a b c d e f = record { origin = a; customer = b; sequence = c; product = d; destination = e; check = f }

-- and they are the only ones
parts_are : (p : Parts) → Divides p → p ≡ parts
parts_are p (a, a', (b, b', (c, c', (d, d', (e, e', (f, f', t)))))) =
    let q : six p.origin p.customer p.sequence p.product p.destination p.check ≡ parts =
    rw (
      part_is p.origin 0 2 a a',
      part_is p.customer 2 5 b b',
      part_is p.sequence 7 8 c c',
      part_is p.product 15 2 d d',
      part_is p.destination 17 4 e e',
      part_is p.check 21 1 f f',
    )
    in q

parts_from : (a : Result ⊤ Refusal) (p : Parts) → parts_where a ≡ Ok p → (a ≡ Ok tt) × (parts ≡ p)
parts_from (Ok _) p e = (refl, cc)
parts_from (Err refusal) p e = absurd (no_pass verdict_on refl refl e)

pub parts_exactly : (code : List ℕ) (p : Parts) → (parts_answer code ≡ Ok p) ↔ (SoundIdentcode code × Divides p)
unfolding parts_answer
parts_exactly code p = (
  λ e. let r = parts_from (checked_identcode code) p e in (accepted_sound code r.0, rw (← r.1) parts_divide),
  λ g. ap parts_where (sound_accepted code g.0) ∙ ap Ok (sym (parts_are p g.1)),
)

-- parts that are laid one behind the other, joined, are what lies from the first on
laid_joined : (code : List ℕ) (at : ℕ) (ps : List Part) (ws : List ℕ) → Laid at ps ws → digits_joined code ps ≡ take (total ws) (drop at code)
laid_joined code at [] [] l = refl
laid_joined code at [] (w ∷ ws) l = absurd l
laid_joined code at (p ∷ ps) [] l = absurd l
laid_joined code at (p ∷ ps) (w ∷ ws) (e, f, l) =
    rw (e, f, laid_joined code (at + w) ps ws l, ← drop-drop w at code, ← take-add w (total ws) (drop at code))

-- without the check they are the body
pub parts_body : (code : List ℕ) (p : Parts) → parts_answer code ≡ Ok p → digits_joined code (without_check p) ≡ body_of code
parts_body code p e = go ((parts_exactly code p).0 e)
  where
    go : SoundIdentcode code × Divides p → digits_joined code (without_check p) ≡ body_of code
    go (g, (a, a', (b, b', (c, c', (d, d', (e, e', t)))))) =
        laid_joined code 0 (without_check p) (2 ∷ 5 ∷ 8 ∷ 2 ∷ 4 ∷ []) (a, a', (b, b', (c, c', (d, d', (e, e', tt)))))
        ∙ ap (λ (n : ℕ). take n code) short
      where
        short : 21 ≡ length code - 1
        short = omega (arith, g.long)

pub parts_joined : (code : List ℕ) (p : Parts) → parts_answer code ≡ Ok p → digits_joined code (in_order p) ≡ code
parts_joined code p e =
    let g = (parts_exactly code p).0 e in
    laid_joined code 0 (in_order p) (2 ∷ 5 ∷ 8 ∷ 2 ∷ 4 ∷ 1 ∷ []) g.1 ∙ take_all 22 code (omega (arith, g.0.long))
