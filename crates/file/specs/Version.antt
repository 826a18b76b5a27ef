-- Document 02, request 5: "The version on the header decides for the whole file which field rules hold."
use Rattle.std.specs.Prelude.{ℕ, ◌&&◌, List, if◌then◌else◌}
use Rattle.text.specs.Scan.{same}
use Rattle.records.specs.Record.{type_of}
use Rattle.records.specs.Version.{is_version}
use Rattle.records.specs.declared.version.Version.{Version}
use Rattle.records.specs.declared.version.Version.TheVariants.{Five, Seven}
use Rattle.records.specs.declared.record.Record.TheVariants.{Header}
use Rattle.line.specs.Parts.{name_of, part_at}
use Rattle.line.specs.Line.{text_at}

-- the version that the text of a file's first line names: 7 on a 010 line whose field 6 is `7`; "a file header with neither is judged as
-- 5", and so is a file that has no header
unfoldable pub version_in : List ℕ → Version
version_in line = if same (name_of line) (type_of Header) && is_version Seven (part_at line 6) then Seven else Five

unfoldable pub version_of : List ℕ → Version
version_of file = version_in (text_at file 0)
