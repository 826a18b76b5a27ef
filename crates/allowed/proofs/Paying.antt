-- The line with a number is a 006 line of the file exactly when the purpose's source says so.
use Prim.Native.Nat.{ℕ}
use mathlib.Core.Path.{◌≡◌, sym, ap, ◌∙◌}
use mathlib.Core.Bool.{true}
use mathlib.Core.List.{List, []}
use native.Mathlib.Omega.{arith}
use lib.ListN.{length, get_or}
use borrow.Author.Tests.{lt-leb}
use Rattle.text.specs.Quoted.{bytes}
use Rattle.text.specs.Scan.{same}
use Rattle.text.proofs.Choices.{and_left, and_right, and_both}
use Rattle.text.proofs.Scans.{same_eq, same_refl}
use Rattle.records.specs.declared.record.Record.TheVariants.{Feature}
use Rattle.purpose.specs.At.{field_at, is_typed}
use Rattle.purpose.specs.Source.{is_cash_line, for_feature, source_of}
use Rattle.allowed.specs.Allowed.{FileLine, AllowedFile, line_starts}
use Rattle.allowed.specs.Sentence.{LineNo, CashLine}
use Rattle.allowed.proofs.Files.{starts_count}
use Rattle.allowed.proofs.Placed.{line_counted, parts_at, kind_told_lem, is_typed_lem}
use Rattle.std.specs.Prelude.{Some}

module _ {countries : List ℕ} (s : List ℕ) (ls : List FileLine) (g : AllowedFile countries s ls) (n : ℕ) (l : FileLine) (h : LineNo ls n l) where
  abbrev at : ℕ
  at = get_or (line_starts 0 ls) n 0

  code_there : field_at s at 1 ≡ get_or l.fields 0 []
  code_there = ap (λ (parts : List (List ℕ)). get_or parts 1 []) (parts_at s ls g n l h)

  pub cash_told : is_cash_line s at ≡ true → CashLine l
  unfolding is_cash_line
  cash_told e =
      let typed = and_left (is_typed s at (bytes "060")) (same (field_at s at 1) (bytes "006")) e in
      let coded = and_right (is_typed s at (bytes "060")) (same (field_at s at 1) (bytes "006")) e in
      record {
        feature = kind_told_lem s ls g n l h Feature typed;
        code = sym code_there ∙ same_eq (field_at s at 1) (bytes "006") coded;
      }

  is_cash_lem : CashLine l → is_cash_line s at ≡ true
  unfolding is_cash_line
  is_cash_lem c =
      and_both (is_typed s at (bytes "060")) (same (field_at s at 1) (bytes "006")) (is_typed_lem s ls g n l h Feature c.feature)
      (ap (λ (f : List ℕ). same f (bytes "006")) (code_there ∙ c.code) ∙ same_refl (bytes "006"))

  pub cash_source : CashLine l → source_of s (line_starts 0 ls) n ≡ Some (for_feature s (line_starts 0 ls) n)
  unfolding source_of
  cash_source c = rw (lt-leb (length (line_starts 0 ls)) n (omega (arith, starts_count 0 ls, line_counted ls n l h)), is_cash_lem c)
