-- Document 02, request 1: a list of countries as a reader sees it, its parts, and senders that no list asks anything of.
use Rattle.std.specs.Prelude.{ℕ, ◌≡◌, true, List, [], ◌∷◌, ◌++◌, length}
use Rattle.countries.specs.List.{is_paired}
use Rattle.records.specs.declared.record.Record.TheVariants.{Sender}
use Rattle.fields.specs.Profile.{profile}
use Rattle.file.specs.Version.{version_of}
use Rattle.allowed.specs.Allowed.{FileLine, file_bytes, LinesOk, HasContacts}

-- a country stands in a list: two bytes, with whole pairs in front of them
pub record InList (countries country : List ℕ) : Type 0 where
  pub front : List ℕ
  pub back : List ℕ
  pub there : countries ≡ front ++ (country ++ back)
  pub pairs : is_paired front ≡ true
  pub two : length country ≡ 2

-- a part of a list that keeps whole pairs: of each pair both bytes, or neither
pub data PartOf : List ℕ → List ℕ → Type 0 where
  nothing : PartOf [] []
  kept : (a b : ℕ) (part countries : List ℕ) → PartOf part countries → PartOf (a ∷ b ∷ part) (a ∷ b ∷ countries)
  left_out : (a b : ℕ) (part countries : List ℕ) → PartOf part countries → PartOf part (a ∷ b ∷ countries)

-- each sender among these lines has both contacts
abbrev pub AllReachable : List FileLine → Type 0
AllReachable [] = Unit {0}
AllReachable (l ∷ ls) = (l.kind ≡ Sender → HasContacts l) × AllReachable ls

-- so has each sender of a file: with whichever allowed lines it begins
abbrev pub SendersReachable : List ℕ → Type 0
SendersReachable file = (ls : List FileLine) (left : List ℕ) → file ≡ file_bytes ls ++ left → LinesOk (profile (version_of file)) ls → AllReachable ls
