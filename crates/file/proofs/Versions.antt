-- The version of a file, by the cases that the code meets.
use Prim.Native.Nat.{ℕ}
use mathlib.Core.Path.{◌≡◌, ap, ◌∙◌}
use mathlib.Core.Bool.{Bool, true, false, not}
use mathlib.Core.List.{List}
use borrow.Author.Tests.{not-false, not-true}
use Rattle.text.specs.Scan.{same}
use Rattle.records.specs.Record.{type_of}
use Rattle.records.specs.Version.{is_version}
use Rattle.records.specs.declared.version.Version.{Version}
use Rattle.records.specs.declared.version.Version.TheVariants.{Five, Seven}
use Rattle.records.specs.declared.record.Record.TheVariants.{Header}
use Rattle.line.specs.Parts.{part_at}
use Rattle.line.specs.Line.{text_at}
use Rattle.file.specs.Version.{version_in, version_of}

module _ (line name : List ℕ) (en : name ≡ part_at line 0) (t : Bool) (et : t ≡ same name (type_of Header)) where
  pub no_header : not t ≡ true → Five ≡ version_in line
  unfolding version_in
  no_header e = rw (← en, ← et, not-true t e)

  module _ (header : not t ≡ false) (f : List ℕ) (ef : f ≡ part_at line 6) (u : Bool) (eu : u ≡ is_version Seven f) where
    pub header_seven : u ≡ true → Seven ≡ version_in line
    unfolding version_in
    header_seven e = rw (← en, ← et, not-false t header, ← ef, ← eu, e)

    pub header_other : u ≡ false → Five ≡ version_in line
    unfolding version_in
    header_other e = rw (← en, ← et, not-false t header, ← ef, ← eu, e)

pub version_there : (file line : List ℕ) (version : Version) → line ≡ text_at file 0 → version ≡ version_in line → version ≡ version_of file
unfolding version_of
version_there file line version el e = e ∙ ap version_in el
