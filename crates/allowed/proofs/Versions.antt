-- The version of a file, on its own lines and in its bytes: lines that keep a version's rules have it on their header.
use Prim.Native.Nat.{ℕ, ◌≤◌}
use mathlib.Core.Path.{◌≡◌, refl, subst}
use mathlib.Core.Bool.{true, false≢true}
use mathlib.Core.List.{List, [], ◌∷◌, ◌++◌}
use lib.ListN.{length}
use Rattle.std.specs.Prelude.{if◌then◌else◌}
use Rattle.records.specs.Record.{may_come, may_end}
use Rattle.fields.specs.Profile.{profile}
use Rattle.records.specs.Version.{numeral, is_version}
use Rattle.records.specs.declared.version.Version.{Version}
use Rattle.records.specs.declared.version.Version.TheVariants.{Five, Seven}
use Rattle.records.specs.declared.record.Record.{Record}
use Rattle.records.specs.declared.record.Record.TheVariants.{Header, Sender, Shipment, Parcel, Product, Feature}
use Rattle.records.specs.declared.record.Due.TheVariants.{First}
use Rattle.fields.proofs.Rules.{header_version, header_versioned}
use Rattle.line.specs.Parts.{field_no}
use Rattle.line.specs.Line.{file_limit}
use Rattle.grammar.specs.Grammar.{LineOk}
use Rattle.file.specs.Version.{version_in, version_of}
use Rattle.allowed.specs.Allowed.{FileLine, line_bytes, file_bytes, LinesOk, InOrder, version_on, AllowedUnder}
use Rattle.allowed.proofs.Placed.{first_parts}

pub first_header : (kind : Record) → may_come First kind ≡ true → kind ≡ Header
unfolding may_come
first_header Header e = refl
first_header Sender e = absurd (false≢true e)
first_header Shipment e = absurd (false≢true e)
first_header Parcel e = absurd (false≢true e)
first_header Product e = absurd (false≢true e)
first_header Feature e = absurd (false≢true e)

-- 010.6 of a header that keeps a version's rules
pub header_says : (version : Version) (fs : List (List ℕ)) → LineOk (profile version) Header fs → field_no fs 6 ≡ numeral version
header_says version [] g = absurd (false≢true g.counted)
header_says version (a ∷ []) g = absurd (false≢true g.counted)
header_says version (a ∷ b ∷ []) g = absurd (false≢true g.counted)
header_says version (a ∷ b ∷ c ∷ []) g = absurd (false≢true g.counted)
header_says version (a ∷ b ∷ c ∷ d ∷ []) g = absurd (false≢true g.counted)
header_says version (a ∷ b ∷ c ∷ d ∷ e ∷ []) g = absurd (false≢true g.counted)
header_says version (a ∷ b ∷ c ∷ d ∷ e ∷ f ∷ fs) g =
    let six = g.fields.1.1.1.1.1.0 in
    header_version version e f (six.formed (six.filled (header_versioned version)))

-- on the lines, and in the bytes
chosen : (version : Version) → (if is_version Seven (numeral version) then Seven else Five) ≡ version
unfolding is_version
chosen Five = refl
chosen Seven = refl

pub version_on_lem : (version : Version) (ls : List FileLine) → LinesOk (profile version) ls → InOrder First ls → version_on ls ≡ version
unfolding may_end
version_on_lem version [] g o = absurd (false≢true o)
version_on_lem version (l ∷ ls) g o =
    let kind = first_header l.kind o.0 in
    let says = header_says version l.fields (subst (λ (k : Record). LineOk (profile version) k l.fields) kind g.0) in
    rw (kind, says) (chosen version)

pub version_in_lem : (version : Version) (s : List ℕ) (l : FileLine) (rest : List ℕ) → length s ≤ file_limit →
    LineOk (profile version) l.kind l.fields → may_come First l.kind ≡ true → s ≡ line_bytes l ++ rest → version_of s ≡ version
unfolding version_of version_in
version_in_lem version s l rest in_limit g o e =
    let kind = first_header l.kind o in
    let says = header_says version l.fields (subst (λ (k : Record). LineOk (profile version) k l.fields) kind g) in
    rw (first_parts (profile version) s in_limit 0 l rest g e, kind, says) (chosen version)

-- an allowed file is of one version
pub under_one : {version : Version} {countries s : List ℕ} (ls : List FileLine) → AllowedUnder version countries s ls → version_of s ≡ version
unfolding may_end
under_one [] a = absurd (false≢true a.order)
under_one {version = version} {s = s} (l ∷ ls) a = version_in_lem version s l (file_bytes ls) a.in_limit a.lines.0 a.order.0 a.bytes

pub version_found : {countries s : List ℕ} {ls : List FileLine} → AllowedUnder (version_on ls) countries s ls → version_of s ≡ version_on ls
version_found {ls = ls} a = under_one ls a
