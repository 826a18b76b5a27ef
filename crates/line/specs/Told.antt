-- What the judge of a line is told beside the file: the rules of the fields, and which record is due.
use Rattle.fields.specs.Profile.{Rules}
use Rattle.records.specs.declared.record.Due.{Due}

pub record Told : Type 0 where
  pub rules : Rules
  pub due : Due
