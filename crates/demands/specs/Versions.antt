-- Document 02, request 5, 'Version 7 files': what the version does that a header names or a line call is told.
use Rattle.std.specs.Prelude.{ℕ, ◌≡◌, List, ◌∷◌, ◌↔◌, Some, None, Ok}
use Rattle.records.specs.Version.{numeral, version_numbered}
use Rattle.records.specs.declared.version.Version.{Version}
use Rattle.records.specs.declared.version.Version.TheVariants.{Five, Seven}
use Rattle.records.specs.declared.record.Record.TheVariants.{Header}
use Rattle.line.specs.Parts.{field_no}
use Rattle.line.specs.Line.{read_answer}
use Rattle.line.specs.declared.read.Line.{Line}
use Rattle.file.specs.Lent.{Lent}
use Rattle.file.specs.Version.{version_of}
use Rattle.file.specs.File.{Judges}
use Rattle.file.specs.declared.whole.Totals.{Totals}
use Rattle.allowed.specs.Allowed.{FileLine, version_on, AllowedUnder, AllowedFile, Accepts}
use Rattle.allowed.specs.Version.{SaysSeven}

-- "The version on the header decides for the whole file": it is 7 exactly when the first line is a 010 line whose field 6 is the one byte
-- `7`, and every other file is judged as 5.
abbrev pub VersionExactly : Type 0
VersionExactly = (file : List ℕ) → (version_of file ≡ Seven) ↔ SaysSeven file

-- "Demand 2 reads per version": a file of this version is accepted, with these totals and this list, exactly when the version's rules
-- allow it.
abbrev pub FileExactlyUnder : Type 0
FileExactlyUnder =
    (version : Version) (file : List ℕ) (lent : Lent) (totals : Totals) (list : List ℕ) →
    (Judges file lent (Ok totals) list × (version_of file ≡ version)) ↔
    ((a : Accepts file lent totals list) × AllowedUnder version lent.countries file a.lines)

-- One file has one version: the rules of no two allow it, with whichever countries and whatever lines.
abbrev pub OneVersion : Type 0
OneVersion =
    (version other : Version) (countries others file : List ℕ) (ls ks : List FileLine) → AllowedUnder version countries file ls →
    AllowedUnder other others file ks → version ≡ other

-- It is the version on its own header: a file is allowed exactly when the rules of some version allow it,
abbrev pub AllowedExactlyUnder : Type 0
AllowedExactlyUnder =
    (countries file : List ℕ) (ls : List FileLine) → AllowedFile countries file ls ↔ ((version : Version) × AllowedUnder version countries file ls)

-- and what its header has in field 6 is that version: "010.6 must be it".
abbrev pub HeaderHasVersion : Type 0
HeaderHasVersion =
    (version : Version) (countries file : List ℕ) (ls : List FileLine) → AllowedUnder version countries file ls →
    (header : FileLine) × ((more : List FileLine) × ((ls ≡ header ∷ more) × ((header.kind ≡ Header) ×
    (field_no header.fields 6 ≡ numeral version))))

-- A caller who reads the lines of an allowed file has to tell its version: it is 7 exactly when the call that is told 7 accepts the first
-- line.
abbrev pub FirstReadsSeven : Type 0
FirstReadsSeven =
    (countries file : List ℕ) (ls : List FileLine) → AllowedFile countries file ls →
    (version_on ls ≡ Seven) ↔ ((line : Line) × (read_answer 7 file 0 ≡ Ok line))

-- "Line calls are told the version": 5, 7, or neither.
abbrev pub ToldExactly : Type 0
ToldExactly =
    (told : ℕ) → ((version_numbered told ≡ Some Five) ↔ (told ≡ 5)) × ((version_numbered told ≡ Some Seven) ↔ (told ≡ 7)) ×
    ((version_numbered told ≡ None) ↔ ((told ≡ 5 → ⊥) × (told ≡ 7 → ⊥)))
