-- Proofs of the statements in specs/Demand2.
use Rattle.refusal.specs.Table.{verdict_on}
use Prim.Native.Nat.{ℕ}
use mathlib.Core.Path.{refl, sym, ◌∙◌}
use mathlib.Core.List.{List, [], ◌∷◌, ◌++◌}
use lib.ListN.{take}
use Rattle.fields.specs.Profile.{profile}
use Rattle.records.specs.declared.record.Record.{Record}
use Rattle.records.specs.declared.record.Record.TheVariants.{Header, Sender, Shipment, Parcel, Product, Feature}
use Rattle.line.specs.Line.{alone, line_answer, read_answer}
use Rattle.line.specs.Find.{field_answer, find_answer}
use Rattle.writer.specs.Write.{answer_under, write_answer}
use Rattle.refusal.proofs.Verdicts.{no_pass}
use Rattle.grammar.specs.Written.{Writable}
use Rattle.refused.proofs.Told.{told_exactly}
use Rattle.grammar.specs.Grammar.{LineOk, Reads, StandsInLine}
use Rattle.allowed.specs.Allowed.{FileLine, LinesOk, version_on, codes_on, identcodes as identcodesOf}
use Rattle.grammar.proofs.Lines as lines
use Rattle.grammar.proofs.Finding as finding
use Rattle.grammar.proofs.Back as writing
use Rattle.allowed.proofs.Files.{one_division}
use Rattle.refused.proofs.Deciding.{judge_exactly}
use Rattle.slips.proofs.Numbers as numbers
use Rattle.slips.proofs.Ibans as ibans
use Rattle.slips.proofs.Issues.{issued_sound, sound_issued}
use Rattle.slips.proofs.Identcodes as identcodes
use Rattle.slips.proofs.IdentcodeIssues as codes
use Rattle.slips.proofs.Parts as parts
use Rattle.refused.proofs.Parcels.{parcel_passes}
use Rattle.std.specs.Prelude.{Ok, Err}
use Rattle.demands.specs.Demand2.{
  FileExactly,
  OneDivisionIntoLines,
  LineExactly,
  FieldExactly,
  FoundExactly,
  OneReading,
  WrittenReadsBack,
  AcceptedWritesAgain,
  WrittenExactly,
  NumberExactly,
  IbanExactly,
  IssuedIsAccepted,
  AcceptedIsIssued,
  IdentcodeExactly,
  PartsExactly,
  PartsJoined,
  IssuedIdentcodeIsAccepted,
  AcceptedIdentcodeIsIssued,
  PartsIssuedAgain,
  EachPasses,
  CodesPass,
}

pub file_exactly : FileExactly
file_exactly s lent totals list = judge_exactly s lent (Ok totals) list

pub one_division_into_lines : OneDivisionIntoLines
one_division_into_lines countries others s ls ks a b =
    one_division (profile (version_on ls)) (profile (version_on ks)) ls ks a.lines b.lines (sym a.bytes ∙ b.bytes)

pub line_exactly : LineExactly
unfolding read_answer
line_exactly told s at line =
    told_exactly told Err (λ version. line_answer (alone (profile version)) s at) (Ok line) (no_pass verdict_on refl refl)
    (λ version. (fs : List (List ℕ)) × Reads (alone (profile version)) s at line fs) (λ version. lines.line_exactly (alone (profile version)) s at line)

pub field_exactly : FieldExactly
unfolding find_answer
field_exactly told version e s at line fs n start long g = rw e (finding.field_exactly g n start long)

pub found_exactly : FoundExactly
unfolding find_answer
found_exactly told s at n start long =
    told_exactly told Err (λ version. field_answer (profile version) s at n) (Ok (record { start = start; long = long })) (no_pass verdict_on refl refl)
    (λ version. StandsInLine (profile version) s at n start long) (λ version. finding.found_exactly (profile version) s at n start long)

pub one_reading : OneReading
one_reading version another due late s at line other fs gs g h = lines.one_reading g h

pub written_reads_back : WrittenReadsBack
written_reads_back = writing.reads_back

pub accepted_writes_again : AcceptedWritesAgain
accepted_writes_again version s at line fs g = writing.writes_again g

pub written_exactly : WrittenExactly
unfolding write_answer
written_exactly told number text ends size fill n =
    told_exactly told Err (λ version. answer_under (profile version) number text ends size fill) (Ok n)
    (no_pass verdict_on refl refl) (λ version. Writable (profile version) number text ends size fill n)
    (λ version. writing.written_exactly (profile version) number text ends size fill n)

pub number_exactly : NumberExactly
number_exactly k s = (numbers.accepted_sound k s, numbers.sound_accepted k s)

pub iban_exactly : IbanExactly
iban_exactly s = (ibans.accepted_sound s, ibans.sound_accepted s)

pub issued_is_accepted : IssuedIsAccepted
issued_is_accepted body out after n h = let g = issued_sound body out after n h in
    (g.0, numbers.sound_accepted g.0 (take n after) g.1)

pub accepted_is_issued : AcceptedIsIssued
accepted_is_issued k s out after answer e room h = sound_issued k s out after answer (numbers.accepted_sound k s e) room h

pub identcode_exactly : IdentcodeExactly
identcode_exactly code = (identcodes.accepted_sound code, identcodes.sound_accepted code)

pub parts_exactly : PartsExactly
parts_exactly = parts.parts_exactly

pub parts_joined : PartsJoined
parts_joined = parts.parts_joined

pub issued_identcode_is_accepted : IssuedIdentcodeIsAccepted
issued_identcode_is_accepted body out after n h = identcodes.sound_accepted (take n after) (codes.issued_sound body out after n h)

pub accepted_identcode_is_issued : AcceptedIdentcodeIsIssued
accepted_identcode_is_issued code out after answer e room h =
    codes.sound_issued code out after answer (identcodes.accepted_sound code e) room h

pub parts_issued_again : PartsIssuedAgain
parts_issued_again code out after p answer e room h =
    codes.sound_issued code out after answer ((parts.parts_exactly code p).0 e).0 room (rw (parts.parts_body code p e) at h)

pub codes_pass : CodesPass
codes_pass countries s ks g = go ks g.lines
  where
    more : (kind : Record) (fs : List (List ℕ)) → LineOk (profile (version_on ks)) kind fs → (codes : List (List ℕ)) → EachPasses codes →
        EachPasses (codes_on kind fs ++ codes)
    more Parcel fs ok codes each = (parcel_passes (version_on ks) fs ok, each)
    more Header fs ok codes each = each
    more Sender fs ok codes each = each
    more Shipment fs ok codes each = each
    more Product fs ok codes each = each
    more Feature fs ok codes each = each

    go : (ls : List FileLine) → LinesOk (profile (version_on ks)) ls → EachPasses (identcodesOf ls)
    go [] ok = tt
    go (l ∷ ls) ok = more l.kind l.fields ok.0 (identcodesOf ls) (go ls ok.1)
