-- The lines of an allowed file where the list says that they start: their types, and whether a line is of a record.
use Prim.Native.Nat.{ℕ, zero, suc, ◌+◌, ◌≤◌, ◌<◌}
use mathlib.Core.Path.{◌≡◌, refl, sym, ap, ◌∙◌}
use mathlib.Core.Bool.{true, false}
use mathlib.Core.List.{List, [], ◌∷◌, ◌++◌}
use mathlib.Core.Logic.{⊎_elim}
use native.Mathlib.Omega.{arith}
use lib.ListN.{length, drop, get_or}
use lib.Seq.{drop-drop, drop-append_seam}
use Rattle.text.specs.Scan.{same}
use Rattle.text.proofs.Choices.{true_or_false}
use Rattle.text.proofs.Scans.{same_eq, same_refl}
use Rattle.records.specs.Record.{type_of, may_come}
use Rattle.records.specs.declared.record.Record.{Record}
use Rattle.fields.specs.Profile.{Rules, profile}
use Rattle.line.specs.Parts.{split}
use Rattle.line.specs.Line.{text_at, alone, file_limit}
use Rattle.line.specs.declared.read.Line.{Line}
use Rattle.grammar.specs.Grammar.{LineOk, Reads}
use Rattle.records.proofs.Types.{type_tells}
use Rattle.grammar.proofs.Lines.{read_parts}
use Rattle.allowed.specs.Allowed.{FileLine, line_bytes, file_bytes, LinesOk, version_on, AllowedFile, line_starts}
use Rattle.purpose.specs.At.{is_typed}
use Rattle.allowed.specs.Sentence.{LineNo}

pub line_there : (ls : List FileLine) (i : ℕ) → i < length ls → (l : FileLine) × LineNo ls i l
line_there [] i h = absurd (omega arith)
line_there (k ∷ ls) zero h = (k, refl)
line_there (k ∷ ls) (suc i) h = line_there ls i (omega arith)

pub line_counted : (ls : List FileLine) (i : ℕ) (l : FileLine) → LineNo ls i l → i < length ls
line_counted [] i l h = absurd h
line_counted (k ∷ ls) zero l h = omega arith
line_counted (k ∷ ls) (suc i) l h = omega (arith, line_counted ls i l h)

module _ (rules : Rules) (s : List ℕ) (in_limit : length s ≤ file_limit) where
  pub first_parts : (at : ℕ) (l : FileLine) (rest : List ℕ) → LineOk rules l.kind l.fields → drop at s ≡ line_bytes l ++ rest →
      split (text_at s at) ≡ type_of l.kind ∷ l.fields
  unfolding may_come
  first_parts at l rest ok e = read_parts reads
    where
      line : Line
      line = record { kind = l.kind; count = length l.fields; next = at + length (line_bytes l) }

      reads : Reads (alone rules) s at line l.fields
      reads = record { in_limit = in_limit; comes = refl; allowed = ok; rest = rest; stands = e; count = refl; next = refl }

  -- lines that stand from here on
  parts_from :
      (ls : List FileLine) (at : ℕ) → LinesOk rules ls → drop at s ≡ file_bytes ls → (i : ℕ) (l : FileLine) → LineNo ls i l →
      split (text_at s (get_or (line_starts at ls) i 0)) ≡ type_of l.kind ∷ l.fields
  parts_from [] at ok e i l h = absurd h
  parts_from (k ∷ ls) at ok e zero l h = first_parts at k (file_bytes ls) ok.0 e ∙ ap (λ (x : FileLine). type_of x.kind ∷ x.fields) h
  parts_from (k ∷ ls) at ok e (suc i) l h =
      parts_from ls (at + length (line_bytes k)) ok.1 (sym (drop-drop (length (line_bytes k)) at s) ∙ ap (drop (length (line_bytes k))) e
      ∙ drop-append_seam (line_bytes k) (file_bytes ls)) i l h

module _ {countries : List ℕ} (s : List ℕ) (ls : List FileLine) (g : AllowedFile countries s ls) where
  pub parts_at : (i : ℕ) (l : FileLine) → LineNo ls i l → split (text_at s (get_or (line_starts 0 ls) i 0)) ≡ type_of l.kind ∷ l.fields
  parts_at i l h = parts_from (profile (version_on ls)) s g.in_limit ls 0 g.lines g.bytes i l h

  module _ (i : ℕ) (l : FileLine) (h : LineNo ls i l) (kind : Record) where
    typed : is_typed s (get_or (line_starts 0 ls) i 0) (type_of kind) ≡ same (type_of l.kind) (type_of kind)
    unfolding is_typed
    typed = rw (parts_at i l h)

    pub is_typed_lem : l.kind ≡ kind → is_typed s (get_or (line_starts 0 ls) i 0) (type_of kind) ≡ true
    is_typed_lem e = typed ∙ ap (λ (k : Record). same (type_of k) (type_of kind)) e ∙ same_refl (type_of kind)

    pub kind_told_lem : is_typed s (get_or (line_starts 0 ls) i 0) (type_of kind) ≡ true → l.kind ≡ kind
    kind_told_lem e = type_tells l.kind kind (same_eq (type_of l.kind) (type_of kind) (sym typed ∙ e))

    pub not_typed : (l.kind ≡ kind → ⊥) → is_typed s (get_or (line_starts 0 ls) i 0) (type_of kind) ≡ false
    not_typed n = ⊎_elim (λ e. absurd (n (kind_told_lem e))) (λ e. e) (true_or_false (is_typed s (get_or (line_starts 0 ls) i 0) (type_of kind)))
