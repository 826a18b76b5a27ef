-- Document 01, 'Refusal numbers', and those that document 02 adds: the number of each refusal, and when it is given.
use Rattle.std.specs.Prelude.{ℕ, Result, Ok, Err}
use Rattle.refusal.specs.declared.Reason.{Reason}
use Rattle.refusal.specs.declared.Refusal.{Refusal}
use Rattle.refusal.specs.declared.Reason.TheVariants.{
  FileTooLong,
  NoLineEnd,
  UnknownRecord,
  OutOfOrder,
  FieldCount,
  FieldTooLong,
  FieldEmpty,
  FieldForm,
  FeatureLacks,
  IdentcodeRepeated,
  ListFull,
  FileEnds,
  OutputTooShort,
  FieldEnds,
  NotThere,
  WrongLength,
  WrongSymbol,
  WrongCheck,
  ContactMissing,
  CountriesOdd,
  UnknownVersion,
}

abbrev pub number_of : Reason → ℕ
-- "file over 65,535 bytes"
number_of FileTooLong = 1
-- "a line's first non-text byte is missing or not CR LF, or an offset lies past the file"
number_of NoLineEnd = 2
-- "unknown record type"
number_of UnknownRecord = 3
-- "record out of order"
number_of OutOfOrder = 4
-- "wrong number of fields"
number_of FieldCount = 5
-- "field too long"
number_of FieldTooLong = 6
-- "required field empty"
number_of FieldEmpty = 7
-- "field form wrong"
number_of FieldForm = 8
-- "feature lacks a needed field"
number_of FeatureLacks = 9
-- "identcode already on an earlier line"
number_of IdentcodeRepeated = 10
-- "no word left in the line list"
number_of ListFull = 11
-- "file ends where a record is due"
number_of FileEnds = 12
-- "output too short"
number_of OutputTooShort = 13
-- "field ends fall, or the last is not the text's length, or no ends with text"
number_of FieldEnds = 14
-- "no such field or line, or not a 006 line"
number_of NotThere = 15
-- "wrong length of a number"
number_of WrongLength = 16
-- "symbol not allowed at its place"
number_of WrongSymbol = 17
-- "check wrong"
number_of WrongCheck = 18
-- document 02, request 1: "either contact field is empty under a sender who needs both"
number_of ContactMissing = 19
-- "the list's length is odd"
number_of CountriesOdd = 20
-- document 02, request 5: "a line call told neither 5 nor 7"
number_of UnknownVersion = 22

-- "Given when", and "Place": why, and where
abbrev pub because : Reason → ℕ → Refusal
because why place = record { why = why; place = place }

-- what the paper says of an input: it passes, or it is refused by a number and at a place
pub data Verdict : Type 0 where
  passes : Verdict
  refused : ℕ → ℕ → Verdict

abbrev pub verdict_of : Refusal → Verdict
verdict_of refusal = Verdict.refused (number_of refusal.why) refusal.place

-- the paper's number and place for an answer
abbrev pub verdict_on : {T : Type 0} → Result T Refusal → Verdict
verdict_on (Ok answer) = Verdict.passes
verdict_on (Err refusal) = verdict_of refusal

-- the number that a call tells: the refusal's, 0 for accepted
abbrev pub number_told : Verdict → ℕ
number_told Verdict.passes = 0
number_told (Verdict.refused number place) = number

-- and the refusal's place
abbrev pub place_told : Verdict → ℕ
place_told Verdict.passes = 0
place_told (Verdict.refused number place) = place
