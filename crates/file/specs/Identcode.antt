-- Document 01, 'The file': "No identcode (040.1) occurs twice in a file."
use Rattle.std.specs.Prelude.{ℕ, ◌≡◌, Bool, true, false, ◌&&◌, ◌||◌, List, [], ◌∷◌, take, drop, if◌then◌else◌}
use Rattle.text.specs.Quoted.{bytes}
use Rattle.text.specs.Scan.{same}
use Rattle.forms.specs.Shape.{digits}
use Rattle.identcodes.specs.Tree.{identcode_at, is_there, grown}
use Rattle.identcodes.proofs.Slots.{Tree}
use Rattle.records.specs.Record.{◌is_a◌}
use Rattle.records.specs.declared.record.Record.{Record}
use Rattle.records.specs.declared.record.Record.TheVariants.{Parcel}

-- a parcel line with the same identcode starts at the place earlier
unfoldable pub same_parcel : List ℕ → ℕ → ℕ → Bool
same_parcel file earlier offset = same (take 3 (drop earlier file)) (bytes "040") && same (identcode_at file earlier) (identcode_at file offset)

-- "identcode already on an earlier line": one of those that start at these places
abbrev pub on_earlier : List ℕ → List ℕ → ℕ → Bool
on_earlier file [] offset = false
on_earlier file (earlier ∷ starts) offset = same_parcel file earlier offset || on_earlier file starts offset

unfoldable pub repeats : Record → List ℕ → List ℕ → ℕ → Bool
repeats kind file starts offset = kind is_a Parcel && on_earlier file starts offset

-- what the tree of identcodes tells of a line, and the tree then: only a parcel has an identcode
unfoldable pub is_there_for : Record → List ℕ → List ℕ → ℕ → ℕ → Bool
is_there_for kind file tree parcels offset = kind is_a Parcel && is_there file tree parcels offset

unfoldable pub grown_for : Record → List ℕ → List ℕ → ℕ → ℕ → List ℕ
grown_for kind file tree parcels offset = if kind is_a Parcel then grown file tree parcels offset else tree

-- "At most 65,535 bytes", and a parcel line has at least 28: more parcels no file has, and a tree of so many has room in so many words
abbrev pub parcels_most : ℕ
parcels_most = 2340

abbrev pub tree_words : ℕ
tree_words = 4681

-- the tree of so many parcels tells which identcodes stand on the lines that start at these places. No promise to a caller speaks of
-- it: it holds from line to line.
pub record Sown (file starts : List ℕ) (parcels : ℕ) (tree : List ℕ) : Type 0 where
  pub whole : Tree file parcels tree
  pub tells : (offset : ℕ) → digits 22 (identcode_at file offset) ≡ true → on_earlier file starts offset ≡ is_there file tree parcels offset
