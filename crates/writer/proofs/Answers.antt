-- The writer's answer and its output, by the cases of its refusals.
use Prim.Native.Nat.{ℕ, ◌+◌, ◌-◌, ◌≤◌, ◌<◌}
use mathlib.Core.Path.{◌≡◌, refl, sym, ap, ◌∙◌}
use mathlib.Core.Bool.{Bool, true, false, not}
use mathlib.Core.List.{List, ◌∷◌, ◌++◌, append_assoc}
use native.Mathlib.Omega.{arith}
use lib.ListN.{length, take, drop, length-take}
use lib.Seq.{take_at}
use borrow.Author.Tests.{le-leb, lt-leb, ne_eqb, not-false}
use Rattle.text.specs.Quoted.{bytes}
use Rattle.text.specs.Placed.{written, placed}
use Rattle.text.proofs.Placing.{placed_there}
use Rattle.refusal.specs.declared.Reason.TheVariants.{UnknownRecord, FieldCount, FeatureLacks, OutputTooShort, FieldEnds}
use Rattle.refusal.specs.Table.{because}
use Rattle.refusal.specs.declared.Refusal.{Refusal}
use Rattle.fields.specs.Profile.{Row, Rules, profile}
use Rattle.records.specs.declared.version.Version.{Version}
use Rattle.records.specs.Record.{type_of, count_fits}
use Rattle.records.specs.declared.record.Record.{Record}
use Rattle.line.specs.Parts.{split}
use Rattle.line.specs.Need.{lacks}
use Rattle.fields.proofs.Rules.{within, count_le, sound}
use Rattle.line.specs.Render.{text_of, render, plain, all_in}
use Rattle.line.proofs.Plain.{render_long, plain_split}
use Rattle.line.proofs.Passing.{Each, fine_each}
use Rattle.writer.specs.Write.{record_numbered, ends_hold, between, tested_to_write, next_number, walked, of_fields, after_walk}
use Rattle.writer.specs.Write.{of_record, answer_under, line_to, written_to}
use Rattle.writer.proofs.Ends.{between_count}
use Rattle.writer.proofs.Walks.{walked_plain, walked_le}
use Rattle.writer.proofs.Puts.{together_long}
use Rattle.std.specs.Prelude.{⊤, Option, Some, None, Result, Ok, Err}

-- the record's number, by the arm that names it
pub number_is : (n case : ℕ) (nd : Option Record) → n ≡ case → nd ≡ record_numbered case → nd ≡ record_numbered n
number_is n case nd e f = rw e f

pub number_none : (n : ℕ) → (n ≡ 10 → ⊥) → (n ≡ 20 → ⊥) → (n ≡ 30 → ⊥) → (n ≡ 40 → ⊥) → (n ≡ 50 → ⊥) → (n ≡ 60 → ⊥) →
    None ≡ record_numbered n
unfolding record_numbered
number_none n h1 h2 h3 h4 h5 h6 = simp (ne_eqb n 10 h1, ne_eqb n 20 h2, ne_eqb n 30 h3, ne_eqb n 40 h4, ne_eqb n 50 h5, ne_eqb n 60 h6)

-- each field of a fine walk passes
each : (rows : List Row) (kind : Record) (text ends : List ℕ) → walked rows 1 (type_of kind) (between text ends) ≡ Ok tt →
    Each (tested_to_write rows) 1 (type_of kind) (between text ends)
each rows kind text ends e = fine_each (tested_to_write rows) next_number 1 1 (type_of kind) (between text ends) e

-- good fields, put together as a line at the front of a room: 9, then 13
module _ (kind : Record) (text ends room line : List ℕ) (long : ℕ) (fits : length text + length ends + 5 ≤ length room)
    (en : long ≡ length (render kind (between text ends))) (em : long ≡ length text + length ends + 5)
    (el : line ≡ placed room 0 (render kind (between text ends))) where
  stands : line ≡ written room 0 (render kind (between text ends))
  stands = el ∙ placed_there room 0 (render kind (between text ends)) (omega arith)

  line_taken : take long line ≡ render kind (between text ends)
  line_taken = rw stands (take_at (render kind (between text ends)) (drop (0 + length (render kind (between text ends))) room) long
      (sym en))

  text_taken : take (long - 2) line ≡ text_of kind (between text ends)
  text_taken =
      let rest = drop (0 + length (render kind (between text ends))) room in
      ap (take (long - 2)) (stands ∙ append_assoc (text_of kind (between text ends)) (bytes "\r\n") rest)
      ∙ take_at (text_of kind (between text ends)) (bytes "\r\n" ++ rest) (long - 2)
      (omega (arith, render_long kind (between text ends), en))

  module _ (clean : all_in plain (between text ends) ≡ true) (t : Bool) (et : t ≡ lacks kind (split (take (long - 2) line)))
      (size fill : ℕ) where
    asked : t ≡ lacks kind (type_of kind ∷ between text ends)
    asked = et ∙ ap (λ (l : List ℕ). lacks kind (split l)) text_taken
        ∙ ap (lacks kind) (plain_split kind (between text ends) clean)

    pub fields_lack : t ≡ true → Err (because FeatureLacks 0) ≡ of_fields kind (between text ends) size fill
    unfolding of_fields
    fields_lack e = rw (← asked, e)

    module _ (has : t ≡ false) where
      pub fill_past : size < fill → Err (because OutputTooShort 0) ≡ of_fields kind (between text ends) size fill
      unfolding of_fields
      fill_past h = rw (← asked, has, ← en, lt-leb (fill + long) size (omega arith))

      pub too_short : fill ≤ size → size - fill < long → Err (because OutputTooShort 0) ≡ of_fields kind (between text ends) size fill
      unfolding of_fields
      too_short l h = rw (← asked, has, ← en, lt-leb (fill + long) size (omega arith))

      pub has_room : fill ≤ size → long ≤ size - fill → Ok long ≡ of_fields kind (between text ends) size fill
      unfolding of_fields
      has_room l h = rw (← asked, has, ← en, le-leb (fill + long) size (omega arith))

  pub line_there : (out after : List ℕ) (fill : ℕ) → fill ≤ length out → long ≤ length out - fill →
      after ≡ placed out fill (take long line) → after ≡ written out fill (render kind (between text ends))
  line_there out after fill l h e = e ∙ ap (placed out fill) line_taken
      ∙ placed_there out fill (render kind (between text ends)) (omega (arith, en))

-- the record
module _ (rules : Rules) (number : ℕ) (text ends : List ℕ) (size fill : ℕ) (nd : Option Record) (ed : nd ≡ record_numbered number) where
  pub number_unknown : nd ≡ None → Err (because UnknownRecord 0) ≡ answer_under rules number text ends size fill
  unfolding answer_under of_record
  number_unknown e = rw (← ed, e)

  pub number_known : (kind : Record) → nd ≡ Some kind → (a : Result ℕ Refusal) → a ≡ of_record rules (Some kind) text ends size fill →
      a ≡ answer_under rules number text ends size fill
  unfolding answer_under
  number_known kind e a ea = rw (← ed, e) ea

-- the ends, then the count
module _ (kind : Record) (text ends : List ℕ) (size fill : ℕ) (t : Bool) (et : t ≡ ends_hold ends (length text)) where
  pub ends_wrong : (rules : Rules) → not t ≡ true → Err (because FieldEnds 0) ≡ of_record rules (Some kind) text ends size fill
  unfolding of_record
  ends_wrong rules e = rw (← et, e)

  module _ (hold : not t ≡ false) where
    pub ends_held : ends_hold ends (length text) ≡ true
    ends_held = sym et ∙ not-false t hold

    module _ (u : Bool) (eu : u ≡ count_fits kind (length ends)) where
      pub count_wrong : (rules : Rules) → not u ≡ true → Err (because FieldCount 0) ≡ of_record rules (Some kind) text ends size fill
      unfolding of_record
      count_wrong rules e = rw (← et, hold, ← eu, e)

      module _ (right : not u ≡ false) where
        pub count_right : count_fits kind (length ends) ≡ true
        count_right = sym eu ∙ not-false u right

        pub counted : (rules : Rules) (a : Result ℕ Refusal) →
            a ≡ after_walk (walked (rules kind) 1 (type_of kind) (between text ends)) kind (between text ends) size fill →
            a ≡ of_record rules (Some kind) text ends size fill
        unfolding of_record
        counted rules a ea = rw (← et, hold, ← eu, right) ea

-- the fields
module _ (rows : List Row) (kind : Record) (text ends : List ℕ) (w : Result ⊤ Refusal) (ew : w ≡ walked rows 1 (type_of kind) (between text ends)) where
  pub field_wrong : (size fill : ℕ) (refusal : Refusal) → w ≡ Err refusal →
      Err refusal ≡ after_walk (walked rows 1 (type_of kind) (between text ends)) kind (between text ends) size fill
  field_wrong size fill refusal e = rw (← ew, e)

  module _ (fine : w ≡ Ok tt) where
    passing : Each (tested_to_write rows) 1 (type_of kind) (between text ends)
    passing = each rows kind text ends (sym ew ∙ fine)

    pub fields_plain : all_in plain (between text ends) ≡ true
    fields_plain = walked_plain rows 1 (type_of kind) (between text ends) passing

    pub fields_good : (size fill : ℕ) (a : Result ℕ Refusal) → a ≡ of_fields kind (between text ends) size fill →
        a ≡ after_walk (walked rows 1 (type_of kind) (between text ends)) kind (between text ends) size fill
    fields_good size fill a ea = rw (← ew, fine) ea

    pub fields_small : within rows ≡ true → ends_hold ends (length text) ≡ true → count_fits kind (length ends) ≡ true →
        length text + length ends + 5 ≤ 4096
    fields_small narrow hold right =
        let c = count_le kind (length ends) right in
        let f = walked_le rows narrow 1 (type_of kind) (between text ends) passing in
        omega (arith, c, f, between_count text ends, together_long kind text ends hold)

pub line_small : (version : Version) (kind : Record) (text ends : List ℕ) (w : Result ⊤ Refusal) →
    w ≡ walked (profile version kind) 1 (type_of kind) (between text ends) → w ≡ Ok tt → ends_hold ends (length text) ≡ true →
    count_fits kind (length ends) ≡ true → length text + length ends + 5 ≤ 4096
line_small version kind text ends w ew fine = fields_small (profile version kind) kind text ends w ew fine ((sound version).narrows kind)

-- the line put together: as much of it as is asked is there
module _ (text ends room line : List ℕ) (long : ℕ) (fits : length text + length ends + 5 ≤ length room) (kept : length line ≡ length room)
    (en : long ≡ length text + length ends + 5) where
  pub line_long : long ≡ length (take long line)
  line_long = omega (arith, length-take long line)

  pub text_long : long - 2 ≡ length (take (long - 2) line)
  text_long = omega (arith, length-take (long - 2) line)

-- the output
pub output_stays : (refusal : Refusal) (nd : Option Record) (fs : List (List ℕ)) (out : List ℕ) (fill : ℕ) →
    out ≡ written_to (Err refusal) nd fs out fill
unfolding written_to
output_stays refusal None fs out fill = refl
output_stays refusal (Some kind) fs out fill = refl

pub output_after_lem : (number : ℕ) (nd : Option Record) (kind : Record) (fs : List (List ℕ)) (out after : List ℕ) (fill : ℕ) (a : Result ℕ Refusal) →
    nd ≡ record_numbered number → nd ≡ Some kind → after ≡ line_to a kind fs out fill →
    after ≡ written_to a (record_numbered number) fs out fill
unfolding written_to
output_after_lem number nd kind fs out after fill a ed known e = rw (← ed, known) e
