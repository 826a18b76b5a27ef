-- Other lists of countries: a part of a list accepts what the list accepts, and senders with both contacts get one answer with every list.
use Prim.Native.Nat.{ℕ}
use mathlib.Core.Path.{◌≡◌, sym, subst, ◌∙◌}
use mathlib.Core.Bool.{true}
use mathlib.Core.List.{List, [], ◌∷◌, ◌++◌, append-nil}
use Rattle.refusal.specs.declared.Refusal.{Refusal}
use Rattle.countries.specs.List.{is_paired}
use Rattle.records.specs.declared.record.Record.TheVariants.{Sender}
use Rattle.fields.specs.Profile.{profile}
use Rattle.records.specs.declared.version.Version.{Version}
use Rattle.file.specs.Lent.{Lent}
use Rattle.file.specs.File.{Judges}
use Rattle.file.specs.declared.whole.Totals.{Totals}
use Rattle.allowed.specs.Allowed.{FileLine, line_bytes, file_bytes, LinesOk, HasContacts, ContactsKept, AllowedFile, Accepts}
use Rattle.allowed.specs.Countries.{PartOf, AllReachable, SendersReachable}
use Rattle.allowed.proofs.Versions.{version_found}
use Rattle.allowed.proofs.Countries.{part_paired, kept_part, kept_reachable}
use Rattle.text.proofs.Choices.{clash}
use Rattle.refused.specs.File.{Begins, NextLine, Unreachable, RefusedFile, Means}
use Rattle.refused.proofs.Deciding.{judge_exactly}
use Rattle.std.specs.Prelude.{Result, Ok, Err}

abbrev lent_with : List ℕ → ℕ → Lent
lent_with countries words = record { countries = countries; words = words }

-- an allowed file is allowed with each list of pairs with which its senders keep their contacts
allowed_with : (countries others file : List ℕ) (ls : List FileLine) → AllowedFile countries file ls → is_paired others ≡ true →
    ContactsKept others ls → AllowedFile others file ls
allowed_with countries others file ls a paired kept =
    record {
      paired = paired;
      bytes = a.bytes;
      in_limit = a.in_limit;
      lines = a.lines;
      order = a.order;
      codes = a.codes;
      contacts = kept;
    }

accepts_with : (countries others file : List ℕ) (words : ℕ) (totals : Totals) (list : List ℕ)
    (g : Accepts file (lent_with countries words) totals list) →
    is_paired others ≡ true → ContactsKept others g.lines → Accepts file (lent_with others words) totals list
accepts_with countries others file words totals list g paired kept =
    record {
      lines = g.lines;
      allowed = allowed_with countries others file g.lines g.allowed paired kept;
      room = g.room;
      counts = g.counts;
      starts = g.starts;
    }

-- a part of a list
pub part_accepts : (file countries part : List ℕ) (words : ℕ) (totals : Totals) (list : List ℕ) → PartOf part countries →
    Judges file (lent_with countries words) (Ok totals) list → Judges file (lent_with part words) (Ok totals) list
part_accepts file countries part words totals list p j =
    let g = (judge_exactly file (lent_with countries words) (Ok totals) list).0 j in
    (judge_exactly file (lent_with part words) (Ok totals) list).1
    (accepts_with countries part file words totals list g (part_paired part countries p)
    (kept_part part countries p g.lines g.allowed.contacts))

-- senders with both contacts
reachable_at : (front : List FileLine) (l : FileLine) (ls : List FileLine) → AllReachable (front ++ (l ∷ ls)) → l.kind ≡ Sender → HasContacts l
reachable_at [] l ls a = a.0
reachable_at (k ∷ front) l ls a = reachable_at front l ls a.1

module _ (file countries others : List ℕ) (words : ℕ) (even : is_paired countries ≡ true) (paired : is_paired others ≡ true)
    (reachable : SendersReachable file) where
  begins_with : (ls : List FileLine) (left : List ℕ) → Begins countries file ls left → Begins others file ls left
  begins_with ls left b =
      record {
        in_limit = b.in_limit;
        paired = paired;
        there = b.there;
        lines = b.lines;
        order = b.order;
        codes = b.codes;
        contacts = kept_reachable others ls (reachable ls left b.there b.lines);
      }

  next_with : (ls : List FileLine) (l : FileLine) (left : List ℕ) → NextLine countries file ls l left → NextLine others file ls l left
  next_with ls l left n = record { begins = begins_with ls (line_bytes l ++ left) n.begins; ok = n.ok; comes = n.comes }

  never_away : (ls : List FileLine) (left : List ℕ) → Begins countries file ls left → Unreachable ls → ⊥
  never_away ls left b u =
      u.lacks (reachable_at u.front u.sender u.under (subst AllReachable u.there (reachable ls left b.there b.lines)) u.sends)

  refused_with : (refusal : Refusal) → RefusedFile file (lent_with countries words) refusal → RefusedFile file (lent_with others words) refusal
  refused_with refusal (RefusedFile.file_too_long h) = RefusedFile.file_too_long h
  refused_with refusal (RefusedFile.countries_odd h odd) = clash even odd
  refused_with refusal (RefusedFile.line_refused ls left other b room some r) =
      RefusedFile.line_refused ls left other (begins_with ls left b) room some r
  refused_with refusal (RefusedFile.contact_missing ls l left n room k listed u) = absurd (never_away ls (line_bytes l ++ left) n.begins u)
  refused_with refusal (RefusedFile.identcode_repeated ls l left n room k twice) =
      RefusedFile.identcode_repeated ls l left (next_with ls l left n) room k twice
  refused_with refusal (RefusedFile.list_full ls l left b full) = RefusedFile.list_full ls l left (begins_with (ls ++ (l ∷ [])) left b) full
  refused_with refusal (RefusedFile.file_ends ls b room e) = RefusedFile.file_ends ls (begins_with ls [] b) room e

  means_with : (answer : Result Totals Refusal) (list : List ℕ) → Means file (lent_with countries words) answer list →
      Means file (lent_with others words) answer list
  means_with (Ok totals) list g =
      accepts_with countries others file words totals list g paired
      (kept_reachable others g.lines
      (reachable g.lines [] (g.allowed.bytes ∙ sym (append-nil (file_bytes g.lines)))
      (subst (λ (v : Version). LinesOk (profile v) g.lines) (sym (version_found g.allowed)) g.allowed.lines)))
  means_with (Err refusal) list g = (refused_with refusal g.0, g.1)

  pub same_answer : (answer : Result Totals Refusal) (list : List ℕ) → Judges file (lent_with countries words) answer list →
      Judges file (lent_with others words) answer list
  same_answer answer list j =
      (judge_exactly file (lent_with others words) answer list).1
      (means_with answer list ((judge_exactly file (lent_with countries words) answer list).0 j))
