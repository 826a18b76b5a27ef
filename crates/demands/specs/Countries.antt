-- Document 02, request 1, 'Domestic shippers without a phone': what the list of countries does that a caller lends.
use Rattle.std.specs.Prelude.{ℕ, ◌≡◌, true, List, [], ◌↔◌, Result, Ok}
use Rattle.countries.specs.List.{is_paired, is_listed}
use Rattle.file.specs.File.{Judges}
use Rattle.file.specs.declared.whole.Totals.{Totals}
use Rattle.allowed.specs.Allowed.{FileLine, ContactsKept}
use Rattle.allowed.specs.Countries.{InList, PartOf, SendersReachable}
use Rattle.refusal.specs.declared.Refusal.{Refusal}

-- "a consignee country on a list the caller lends (pairs of capitals)": it stands there, with whole pairs in front of it.
abbrev pub ListedExactly : Type 0
ListedExactly = (countries country : List ℕ) → (is_listed countries country ≡ true) ↔ InList countries country

-- "With an empty list, which the program lends, nobody needs them": the rule asks for nothing.
abbrev pub EmptyListAsksNothing : Type 0
EmptyListAsksNothing = (ls : List FileLine) → ContactsKept [] ls

-- A file that is accepted with a list is accepted with each part of it that keeps whole pairs, with the same answers.
abbrev pub PartAcceptsToo : Type 0
PartAcceptsToo =
    (file countries part : List ℕ) (words : ℕ) (totals : Totals) (list : List ℕ) → PartOf part countries →
    Judges file (record { countries = countries; words = words }) (Ok totals) list →
    Judges file (record { countries = part; words = words }) (Ok totals) list

-- A file whose senders all have both contacts gets the same answer, accepted or refused, with every list of pairs.
abbrev pub ReachableAlwaysSame : Type 0
ReachableAlwaysSame =
    (file countries others : List ℕ) (words : ℕ) → is_paired countries ≡ true → is_paired others ≡ true → SendersReachable file →
    (answer : Result Totals Refusal) (list : List ℕ) → Judges file (record { countries = countries; words = words }) answer list →
    Judges file (record { countries = others; words = words }) answer list
