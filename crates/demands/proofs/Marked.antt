-- The marked cases of document 01 hold, all of them. So the promises are not empty: a file is allowed.
use mathlib.Core.Path.{◌≡◌, refl, sym, subst, ◌∙◌}
use mathlib.Core.List.{[], ◌∷◌}
use Rattle.check_characters.specs.Symbol.{value_of, symbol_of}
use Rattle.check_characters.specs.Answer.{room_for, issued_to}
use Rattle.check_characters.specs.Mod37.{step, passes}
use Rattle.check_characters.specs.Number.{shape_of, checked_as, allowed_in_number, checked_number}
use Rattle.check_characters.specs.Iban.{digits_of, barred, sound_of, allowed_in_iban, checked_iban}
use Rattle.check_digits.specs.Identcode.{weight_at, check_digit, passes as codePasses, checked_identcode, parts_answer, issue_identcode_answer}
use Rattle.forms.specs.Shape.{all_digits, digits, capitals, customer, bic, mail, purpose_text}
use Rattle.forms.specs.Amount.{cents, pointed, leading_zero, amount}
use Rattle.forms.specs.Date.{stands_for, like, leap, days_in, calendar, good_day, good_time, date_time}
use Rattle.forms.specs.Feature.{feature_codes, is_feature, code_of}
use Rattle.records.specs.Record.{named, may_follow, may_come, may_end}
use Rattle.fields.specs.Form.{is_cash}
use Rattle.records.specs.Version.{is_version}
use Rattle.records.specs.declared.version.Version.{Version}
use Rattle.records.specs.declared.version.Version.TheVariants.{Seven}
use Rattle.file.specs.Version.{version_in, version_of}
use Rattle.fields.specs.Profile.{profile, width_in_table, width_of, is_required, has_form}
use Rattle.fields.specs.Field.{tested}
use Rattle.line.specs.Need.{is_filled, serves, is_served, lacks}
use Rattle.line.specs.Line.{ends_well, text_answer, after_walk, of_kind, of_named, of_text, line_answer}
use Rattle.purpose.specs.At.{is_typed}
use Rattle.countries.specs.List.{is_paired}
use Rattle.file.specs.Contact.{has_contacts, contacts_behind, lacks_contact}
use Rattle.file.specs.Cash.{cash_in, cash_of}
use Rattle.file.specs.Identcode.{same_parcel, repeats}
use Rattle.file.specs.Step.{has_word, listing, on_line, step_answer}
use Rattle.file.specs.File.{judged}
use Rattle.purpose.specs.Source.{is_cash_line, from_shipment, for_feature, source_of}
use Rattle.allowed.specs.Allowed.{AllowedUnder}
use Rattle.allowed.proofs.Files.{accepted_allowed}
use Rattle.allowed.proofs.Versions.{version_found}
use Rattle.demands.specs.Marked.{example, versioned, seven, lent_with, MarkedHold, AFileIsAllowed, AFileOfSevenIsAllowed}

pub marked_hold : MarkedHold
unfolding value_of symbol_of room_for issued_to weight_at check_digit codePasses checked_identcode parts_answer issue_identcode_answer step passes
    shape_of allowed_in_number checked_as checked_number digits_of barred sound_of allowed_in_iban checked_iban amount pointed leading_zero cents
    digits all_digits date_time like stands_for good_day good_time calendar days_in leap capitals customer bic mail purpose_text
    feature_codes is_feature code_of named may_follow may_come may_end is_cash profile width_in_table width_of is_required has_form tested is_version version_in version_of
    is_filled serves is_served lacks ends_well text_answer after_walk of_kind of_named of_text line_answer is_typed cash_in cash_of same_parcel
    repeats is_paired has_contacts contacts_behind lacks_contact has_word listing on_line step_answer judged is_cash_line from_shipment
    for_feature source_of
marked_hold = (refl, (refl, (refl, (refl, (refl, (refl, (refl, (refl, (refl, (refl, (refl, (refl, (refl, (refl, (refl, (refl, (refl, (refl, (refl, (refl, (refl, (refl, (refl, (refl, (refl, (refl, (refl, (refl, (refl, (refl, (refl, (refl, (refl, (refl, (refl, (refl, (refl, (refl, (refl, tt)))))))))))))))))))))))))))))))))))))))

pub a_file_is_allowed : AFileIsAllowed
a_file_is_allowed =
    let g = accepted_allowed example (lent_with "") (record { lines = 6; parcels = 1; cents = 1250 }) (0 ∷ 74 ∷ 116 ∷ 178 ∷ 208 ∷ 216 ∷ [])
    marked_hold.1.1.1.1.1.1.1.1.1.1.1.1.1.1.1.1.0 in
    (g.lines, g.allowed)

pub a_file_of_seven_is_allowed : AFileOfSevenIsAllowed
unfolding is_version version_in version_of
a_file_of_seven_is_allowed =
    let file = versioned seven "040;1000000000000000000007;;;C" in
    let g = accepted_allowed file (lent_with "") (record { lines = 6; parcels = 1; cents = 1250 }) (0 ∷ 64 ∷ 106 ∷ 168 ∷ 200 ∷ 208 ∷ [])
    marked_hold.1.1.1.1.1.1.1.1.1.1.1.1.1.1.1.1.1.1.1.1.1.1.1.1.1.1.1.1.1.1.1.1.1.1.1.0 in
    let version : version_of (versioned seven "040;1000000000000000000007;;;C") ≡ Seven = refl in
    (g.lines, subst (λ (v : Version). AllowedUnder v [] file g.lines) (sym (version_found g.allowed) ∙ version) g.allowed)
