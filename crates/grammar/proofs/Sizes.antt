-- How long an allowed line can be, and that its bytes by themselves read back as that line.
use Prim.Native.Nat.{ℕ, ◌*◌, ◌≤◌}
use mathlib.Core.Path.{◌≡◌, refl, sym}
use mathlib.Core.Bool.{true}
use mathlib.Core.List.{List, [], append-nil}
use native.Mathlib.Omega.{arith}
use lib.ListN.{length, length-append}
use Rattle.records.specs.Record.{type_of, may_come}
use Rattle.fields.specs.Profile.{Row, Rules}
use Rattle.fields.specs.Field.{tested}
use Rattle.records.specs.declared.record.Record.{Record}
use Rattle.records.proofs.Types.{type_long}
use Rattle.fields.proofs.Tests.{good_passed}
use Rattle.fields.proofs.Rules.{within, Sound, width_le, count_le}
use Rattle.line.specs.Render.{joined, render}
use Rattle.line.specs.Line.{line_answer, alone}
use Rattle.line.proofs.Plain.{render_long}
use Rattle.line.proofs.Passing.{each_le}
use Rattle.grammar.specs.Grammar.{FieldsOk, LineOk, Reads}
use Rattle.grammar.proofs.Fields.{fields_each}
use Rattle.grammar.proofs.Lines.{reads_accepted}
use Rattle.std.specs.Prelude.{Ok}

pub fields_le : (rows : List Row) (n : ℕ) (beside : List ℕ) (fs : List (List ℕ)) → within rows ≡ true → FieldsOk rows n beside fs →
    length (joined fs) ≤ 101 * length fs
fields_le rows n beside fs w g =
    each_le (tested rows) (λ m b f e. omega (arith, (good_passed rows m b f e).fits, width_le rows m b w)) n beside fs
    (fields_each rows n beside fs g)

pub render_le : {rules : Rules} → Sound rules → (kind : Record) (fs : List (List ℕ)) → LineOk rules kind fs → length (render kind fs) ≤ 4045
render_le {rules = rules} w kind fs g =
    omega (
      arith,
      fields_le (rules kind) 1 (type_of kind) fs (w.narrows kind) g.fields,
      count_le kind (length fs) g.counted,
      render_long kind fs,
      length-append (type_of kind) (joined fs),
      type_long kind,
    )

-- the bytes of an allowed line, as a file of their own
pub render_reads : {rules : Rules} → Sound rules → (kind : Record) (fs : List (List ℕ)) → LineOk rules kind fs →
    Reads (alone rules) (render kind fs) 0 (record { kind = kind; count = length fs; next = length (render kind fs) }) fs
unfolding may_come
render_reads {rules = rules} w kind fs g =
    record {
      in_limit = omega (arith, render_le w kind fs g);
      comes = refl;
      allowed = g;
      rest = [];
      stands = sym (append-nil (render kind fs));
      count = refl;
      next = omega arith;
    }

pub render_accepted : {rules : Rules} → Sound rules → (kind : Record) (fs : List (List ℕ)) → LineOk rules kind fs →
    line_answer (alone rules) (render kind fs) 0 ≡ Ok (record { kind = kind; count = length fs; next = length (render kind fs) })
render_accepted {rules = rules} w kind fs g = reads_accepted (render_reads w kind fs g)
