-- Proofs of the statements in specs/Refusals.
use Prim.Native.Nat.{ℕ}
use mathlib.Core.Path.{◌≡◌, refl}
use mathlib.Core.List.{List}
use Rattle.refusal.specs.declared.Refusal.{Refusal}
use Rattle.line.specs.Find.{field_answer, find_answer}
use Rattle.line.specs.declared.read.Line.{Line}
use Rattle.grammar.specs.Grammar.{Reads, StandsInLine}
use Rattle.grammar.specs.Written.{Writable}
use Rattle.refused.specs.Line.{RefusedAt, RefusedFind}
use Rattle.refused.specs.Write.{RefusedWrite}
use Rattle.refused.proofs.Told.{told_refused_exactly, told_always_one, told_never_both}
use Rattle.fields.specs.Profile.{profile}
use Rattle.line.specs.Line.{alone, line_answer, read_answer}
use Rattle.refused.proofs.Lines as lines
use Rattle.refused.proofs.Seeking as seeking
use Rattle.refused.proofs.Files as files
use Rattle.refused.proofs.Deciding as deciding
use Rattle.refused.proofs.Writing as writing
use Rattle.refused.proofs.Purposes as purposes
use Rattle.refused.proofs.Numbers as numbers
use Rattle.refused.proofs.Days as days
use Rattle.refused.proofs.Keys as keys
use Rattle.refused.proofs.Identcodes as identcodes
use Rattle.refused.proofs.Parcels as parcels
use Rattle.refused.proofs.Either as either
use Rattle.std.specs.Prelude.{Err, Result}
use Rattle.line.specs.declared.find.Span.{Span}
use Rattle.demands.specs.Refusals.{
  FileRefusedExactly,
  JudgeExactly,
  AlwaysOne,
  NeverBoth,
  OneRefusal,
  AllowedBegins,
  LineRefusedExactly,
  FieldRefusedExactly,
  WriteRefusedExactly,
  PurposeRefusedExactly,
  NumberRefusedExactly,
  IbanRefusedExactly,
  IssueRefusedExactly,
  DayRefusedExactly,
  KeyRefusedExactly,
  IdentcodeRefusedExactly,
  PartsRefusedExactly,
  IssueIdentcodeRefusedExactly,
  FailingCodeRefused,
  FailingCodeRefusesFile,
  LineAlwaysOne,
  LineNeverBoth,
  FieldAlwaysOne,
  FieldNeverBoth,
  WriteAlwaysOne,
  WriteNeverBoth,
  NumberAlwaysOne,
  NumberNeverBoth,
  IbanAlwaysOne,
  IbanNeverBoth,
  IdentcodeAlwaysOne,
  IdentcodeNeverBoth,
  KeyAlwaysOne,
  KeyNeverBoth,
  DayAlwaysOne,
  DayNeverBoth,
}

pub file_refused_exactly : FileRefusedExactly
file_refused_exactly = files.refused_exactly

pub judge_exactly : JudgeExactly
judge_exactly = deciding.judge_exactly

pub always_one : AlwaysOne
always_one = deciding.always_one

pub never_both : NeverBoth
never_both = deciding.never_both

pub one_refusal : OneRefusal
one_refusal = deciding.one_refusal

pub allowed_begins : AllowedBegins
allowed_begins = deciding.allowed_begins

pub line_refused_exactly : LineRefusedExactly
unfolding read_answer
line_refused_exactly told s at refusal =
    told_refused_exactly told (λ version. RefusedAt (alone (profile version)) s at) Err (λ version. line_answer (alone (profile version)) s at)
    (λ a b e. line_told e) (λ version. lines.line_refused_exactly (alone (profile version)) s at) refusal
  where
    line_told : {a b : Refusal} → ◌≡◌ {A = Result Line Refusal} (Err a) (Err b) → a ≡ b
    line_told e = cc

pub field_refused_exactly : FieldRefusedExactly
unfolding find_answer
field_refused_exactly told s at n refusal =
    told_refused_exactly told (λ version. RefusedFind (profile version) s at n) Err (λ version. field_answer (profile version) s at n)
    (λ a b e. field_told e) (λ version. seeking.field_refused_exactly (profile version) s at n) refusal
  where
    field_told : {a b : Refusal} → ◌≡◌ {A = Result Span Refusal} (Err a) (Err b) → a ≡ b
    field_told e = cc

pub write_refused_exactly : WriteRefusedExactly
write_refused_exactly = writing.write_refused_exactly

pub purpose_refused_exactly : PurposeRefusedExactly
purpose_refused_exactly = purposes.purpose_refused_exactly

pub number_refused_exactly : NumberRefusedExactly
number_refused_exactly = numbers.number_refused_exactly

pub iban_refused_exactly : IbanRefusedExactly
iban_refused_exactly = numbers.iban_refused_exactly

pub issue_refused_exactly : IssueRefusedExactly
issue_refused_exactly = numbers.issue_refused_exactly

pub day_refused_exactly : DayRefusedExactly
day_refused_exactly = days.day_refused_exactly

pub key_refused_exactly : KeyRefusedExactly
key_refused_exactly = keys.key_refused_exactly

pub identcode_refused_exactly : IdentcodeRefusedExactly
identcode_refused_exactly = identcodes.identcode_refused_exactly

pub parts_refused_exactly : PartsRefusedExactly
parts_refused_exactly = identcodes.parts_refused_exactly

pub issue_identcode_refused_exactly : IssueIdentcodeRefusedExactly
issue_identcode_refused_exactly = identcodes.identcode_issue_refused_exactly

pub failing_code_refused : FailingCodeRefused
failing_code_refused = parcels.failing_code

pub failing_code_refuses_file : FailingCodeRefusesFile
failing_code_refuses_file s lent ls left code more begins room counted filled narrow fails =
    (files.refused_exactly s lent _ _).1 (parcels.failing_file s lent ls left code more begins room counted filled narrow fails, refl)

pub line_always_one : LineAlwaysOne
line_always_one told s at =
    told_always_one told (λ version. RefusedAt (alone (profile version)) s at)
    (λ version. (line : Line) × ((fs : List (List ℕ)) × Reads (alone (profile version)) s at line fs))
    (λ version. either.line_always_one (alone (profile version)) s at)

pub line_never_both : LineNeverBoth
line_never_both told s at refusal =
    told_never_both told (λ version. RefusedAt (alone (profile version)) s at)
    (λ version. (line : Line) × ((fs : List (List ℕ)) × Reads (alone (profile version)) s at line fs))
    (λ version why. either.line_never_both (alone (profile version)) s at why) refusal

pub field_always_one : FieldAlwaysOne
field_always_one told s at n =
    told_always_one told (λ version. RefusedFind (profile version) s at n)
    (λ version. (start : ℕ) × ((long : ℕ) × StandsInLine (profile version) s at n start long))
    (λ version. either.field_always_one (profile version) s at n)

pub field_never_both : FieldNeverBoth
field_never_both told s at n refusal =
    told_never_both told (λ version. RefusedFind (profile version) s at n)
    (λ version. (start : ℕ) × ((long : ℕ) × StandsInLine (profile version) s at n start long))
    (λ version why g. either.field_never_both (profile version) s at n g.0 g.1.0 why g.1.1) refusal

pub write_always_one : WriteAlwaysOne
write_always_one told number text ends size fill =
    told_always_one told (λ version. RefusedWrite (profile version) number text ends size fill)
    (λ version. (n : ℕ) × Writable (profile version) number text ends size fill n)
    (λ version. either.write_always_one (profile version) number text ends size fill)

pub write_never_both : WriteNeverBoth
write_never_both told number text ends size fill refusal =
    told_never_both told (λ version. RefusedWrite (profile version) number text ends size fill)
    (λ version. (n : ℕ) × Writable (profile version) number text ends size fill n)
    (λ version why g. either.write_never_both (profile version) number text ends size fill g.0 why g.1) refusal

pub number_always_one : NumberAlwaysOne
number_always_one = either.number_always_one

pub number_never_both : NumberNeverBoth
number_never_both = either.number_never_both

pub iban_always_one : IbanAlwaysOne
iban_always_one = either.iban_always_one

pub iban_never_both : IbanNeverBoth
iban_never_both = either.iban_never_both

pub identcode_always_one : IdentcodeAlwaysOne
identcode_always_one = identcodes.identcode_always_one

pub identcode_never_both : IdentcodeNeverBoth
identcode_never_both = identcodes.identcode_never_both

pub key_always_one : KeyAlwaysOne
key_always_one = keys.key_always_one

pub key_never_both : KeyNeverBoth
key_never_both = keys.key_never_both

pub day_always_one : DayAlwaysOne
day_always_one = days.day_always_one

pub day_never_both : DayNeverBoth
day_never_both = days.day_never_both
