-- Document 02, request 5: the two versions of a file, and what a line call is told.
use Rattle.std.specs.Prelude.{ℕ, ◌≡◌, Bool, true, false, List, eqb, if◌then◌else◌, Option, Some, None}
use Rattle.text.specs.Quoted.{bytes}
use Rattle.text.specs.Scan.{same}
use Rattle.refusal.specs.Table.{because}
use Rattle.refusal.specs.declared.Refusal.{Refusal}
use Rattle.refusal.specs.declared.Reason.TheVariants.{UnknownVersion}
use Rattle.records.specs.declared.version.Version.{Version}
use Rattle.records.specs.declared.version.Version.TheVariants.{Five, Seven}

abbrev pub is_seven : Version → Bool
is_seven Five = false
is_seven Seven = true

-- what stands in 010.6
abbrev pub numeral : Version → List ℕ
numeral Five = bytes "5"
numeral Seven = bytes "7"

-- "010.6 must be it, else 8"
unfoldable pub is_version : Version → List ℕ → Bool
is_version version f = same f (numeral version)

-- "Line calls are told the version", as a number
unfoldable pub version_numbered : ℕ → Option Version
version_numbered n =
    if eqb n 5 then Some Five
    else if eqb n 7 then Some Seven
    else None

-- "22, a line call told neither 5 nor 7, place 0, before all others"; else the answer under the version
abbrev pub under_version : {A : Type 0} → Option Version → (Refusal → A) → (Version → A) → A
under_version None refused answer = refused (because UnknownVersion 0)
under_version (Some version) refused answer = answer version

-- a call is told a version, and under it this holds
abbrev pub UnderVersion : ℕ → (Version → Type 0) → Type 0
UnderVersion told holds = (version : Version) × ((version_numbered told ≡ Some version) × holds version)
