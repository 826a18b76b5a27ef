-- What the test programs print of a refusal.
use Rattle.std.specs.Prelude.{ℕ, List, ◌++◌, codes}
use Rattle.std.specs.Fmt.{decimal}
use Rattle.refusal.specs.Table.{number_of}
use Rattle.refusal.specs.declared.Refusal.{Refusal}

-- `no NUMBER PLACE`
abbrev pub refusal_text : Refusal → List ℕ
refusal_text refusal = codes "no " ++ decimal (number_of refusal.why) ++ codes " " ++ decimal refusal.place
