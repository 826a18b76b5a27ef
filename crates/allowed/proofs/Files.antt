-- A file is accepted exactly when it is allowed and the list has a word for each line; list, parcels and cash are its own lines'.
use Prim.Native.Nat.{ℕ, suc, ◌+◌, ◌≤◌}
use mathlib.Core.Path.{◌≡◌, refl, sym, ap, subst, ◌∙◌}
use mathlib.Core.Bool.{Bool, true, not}
use mathlib.Core.List.{List, [], ◌∷◌, ◌++◌, append_assoc, append-nil}
use native.Mathlib.Nat.{zero-add}
use native.Mathlib.Omega.{arith}
use lib.Dec.{ltb}
use lib.ListN.{length, length-append}
use borrow.Author.Tests.{ltb-false, le-ltb, not-false}
use Rattle.std.specs.Prelude.{if◌then◌else◌, Ok, Err, Result}
use Rattle.text.proofs.Choices.{came_else}
use Rattle.refusal.specs.declared.Reason.TheVariants.{FileTooLong, CountriesOdd}
use Rattle.refusal.specs.declared.Refusal.{Refusal}
use Rattle.refusal.specs.Table.{because, verdict_on}
use Rattle.refusal.proofs.Verdicts.{no_pass}
use Rattle.records.specs.declared.record.Record.{Record}
use Rattle.records.specs.declared.record.Due.{Due}
use Rattle.records.specs.declared.record.Due.TheVariants.{First, After}
use Rattle.line.proofs.Plain.{render_long}
use Rattle.grammar.proofs.Lines.{one_line}
use Rattle.countries.specs.List.{is_paired}
use Rattle.fields.specs.Profile.{Rules, profile}
use Rattle.records.specs.declared.version.Version.{Version}
use Rattle.file.specs.Lent.{Lent}
use Rattle.file.specs.Version.{version_of}
use Rattle.file.specs.Contact.{contacts_behind}
use Rattle.file.specs.File.{Judged, begin, file_from, judged}
use Rattle.file.specs.declared.whole.Totals.{Totals}
use Rattle.allowed.specs.Allowed.{FileLine, line_bytes, file_bytes, LinesOk, InOrder, codes_on, identcodes, NoneTwice}
use Rattle.allowed.specs.Allowed.{AllowedFile, parcel_count, cash_total, totals_of, line_starts}
use Rattle.allowed.proofs.Contacts.{parts_of, Asked, asked_all, all_asked}
use Rattle.allowed.proofs.Twice.{none_more, fresh_before}
use Rattle.allowed.proofs.Versions.{version_on_lem, version_found}
use Rattle.allowed.proofs.Runs.{AllowedFrom, judged_with, ran, runs}
use Rattle.line.specs.Line.{file_limit}

-- the lines that are left, asked of each as it comes or of all of them
record Whole (version : Version) (countries left : List ℕ) (codes : List (List ℕ)) (due : Due) (contacts : Bool) (ls : List FileLine) : Type 0 where
  bytes : left ≡ file_bytes ls
  lines : LinesOk (profile version) ls
  order : InOrder due ls
  none : NoneTwice (codes ++ identcodes ls)
  asked : Asked countries contacts ls

module _ (version : Version) (countries : List ℕ) where
  whole : (ls : List FileLine) (left : List ℕ) (codes : List (List ℕ)) (due : Due) (contacts : Bool) → NoneTwice codes →
      AllowedFrom version countries left codes due contacts ls → Whole version countries left codes due contacts ls
  whole [] left codes due contacts n a = record { bytes = a.0; lines = tt; order = a.1; none = rw (append-nil codes) n; asked = tt }
  whole (l ∷ ls) left codes due contacts n a =
      let c = codes_on l.kind l.fields in
      let w = whole ls a.0 (codes ++ c) (After l.kind) (contacts_behind l.kind (parts_of l) contacts)
      (none_more l.kind l.fields codes n a.5) a.6 in
      record {
        bytes = a.1 ∙ ap (λ (r : List ℕ). line_bytes l ++ r) w.bytes;
        lines = (a.2, w.lines);
        order = (a.3, w.order);
        none = rw (append_assoc codes c (identcodes ls)) at w.none;
        asked = (a.4, w.asked);
      }

  each : (ls : List FileLine) (left : List ℕ) (codes : List (List ℕ)) (due : Due) (contacts : Bool) →
      Whole version countries left codes due contacts ls → AllowedFrom version countries left codes due contacts ls
  each [] left codes due contacts w = (w.bytes, w.order)
  each (l ∷ ls) left codes due contacts w =
      let c = codes_on l.kind l.fields in (
        file_bytes ls,
        w.bytes,
        w.lines.0,
        w.order.0,
        w.asked.0,
        fresh_before l.kind l.fields codes (identcodes ls) w.none,
        each ls (file_bytes ls) (codes ++ c) (After l.kind) (contacts_behind l.kind (parts_of l) contacts) (record {
          bytes = refl;
          lines = w.lines.1;
          order = w.order.1;
          none =
              rw append_assoc w.none;
          asked = w.asked.1;
        }),
      )

-- a line has bytes
pub line_some : (l : FileLine) → 2 ≤ length (line_bytes l)
line_some l = omega (arith, render_long l.kind l.fields)

few_lines : (ls : List FileLine) → length ls ≤ length (file_bytes ls)
few_lines [] = omega arith
few_lines (l ∷ ls) = omega (arith, few_lines ls, line_some l, length-append (line_bytes l) (file_bytes ls))

pub record AllowedWith (s : List ℕ) (lent : Lent) (totals : Totals) (starts : List ℕ) : Type 0 where
  pub lines : List FileLine
  pub allowed : AllowedFile lent.countries s lines
  pub room : length lines ≤ lent.words
  pub counts : totals ≡ totals_of lines
  pub list : starts ≡ line_starts 0 lines

from_begin : (version : Version) (ls : List FileLine) → judged_with [] (begin version) ls ≡ record { answer = Ok (totals_of ls); starts = line_starts 0 ls }
from_begin version ls = rw (zero-add (length ls), zero-add (parcel_count ls), zero-add (cash_total ls))

-- a file of which this is said is refused, not accepted
abbrev refused : Refusal → Judged
refused refusal = record { answer = Err refusal; starts = [] }

not_refused : {refusal : Refusal} {totals : Totals} {starts : List ℕ} → refused refusal ≡ record { answer = Ok totals; starts = starts } → ⊥
not_refused q = no_pass verdict_on refl refl (ap (λ (j : Judged). j.answer) q)

totals_told : {a b : Totals} → ◌≡◌ {A = Result Totals Refusal} (Ok a) (Ok b) → a ≡ b
totals_told e = cc

module _ (s : List ℕ) (lent : Lent) (totals : Totals) (starts : List ℕ) where
  abbrev result : Judged
  result = record { answer = Ok totals; starts = starts }

  -- neither 1 nor 20
  came_on : judged s lent ≡ result →
      (length s ≤ file_limit) × (is_paired lent.countries ≡ true) × (file_from (length s + 1) s lent [] (begin (version_of s)) ≡ result)
  unfolding judged
  came_on e =
      let on = file_from (length s + 1) s lent [] (begin (version_of s)) in
      let odd = not (is_paired lent.countries) in
      let a = came_else (ltb file_limit (length s)) (refused (because FileTooLong file_limit))
      (if odd then refused (because CountriesOdd 0) else on) result not_refused e in
      let b = came_else odd (refused (because CountriesOdd 0)) on result not_refused a.1 in
      (ltb-false file_limit (length s) a.0, not-false (is_paired lent.countries) b.0, b.1)

  pub accepted_allowed : judged s lent ≡ result → AllowedWith s lent totals starts
  accepted_allowed e =
      let c = came_on e in
      let r = ran s lent c.0 totals starts (length s + 1) [] [] (begin (version_of s)) (omega arith) (omega arith) (omega arith) (λ at. refl) c.2 in
      let w = whole (version_of s) lent.countries r.lines s [] First true tt r.allowed in
      let same = r.same ∙ from_begin (version_of s) r.lines in
      let on = version_on_lem (version_of s) r.lines w.lines w.order in
      record {
        lines = r.lines;
        allowed = record {
          paired = c.1;
          bytes = w.bytes;
          in_limit = c.0;
          lines = subst (λ (v : Version). LinesOk (profile v) r.lines) (sym on) w.lines;
          order = w.order;
          codes = w.none;
          contacts = asked_all lent.countries r.lines w.asked;
        };
        room = omega (arith, r.room);
        counts = totals_told (ap (λ (j : Judged). j.answer) same);
        list = ap (λ (j : Judged). j.starts) same;
      }

  pub allowed_accepted : AllowedWith s lent totals starts → judged s lent ≡ result
  unfolding judged
  allowed_accepted g =
      let ls = g.lines in
      let a = g.allowed in
      rw (le-ltb file_limit (length s) a.in_limit, a.paired)
      (runs s lent a.in_limit ls (length s + 1) [] [] (begin (version_of s)) (omega (arith, few_lines ls, ap length a.bytes)) (omega arith)
      (omega (arith, g.room)) (λ at. refl)
      (each (version_of s) lent.countries ls s [] First true (record {
        bytes = a.bytes;
        lines = subst (λ (v : Version). LinesOk (profile v) ls) (sym (version_found a)) a.lines;
        order = a.order;
        none = a.codes;
        asked = all_asked lent.countries ls a.contacts;
      }))
      ∙ from_begin (version_of s) ls
      ∙ ap (λ (t : Totals). record { answer = Ok t; starts = line_starts 0 ls }) (sym g.counts)
      ∙ ap (λ (l : List ℕ). record { answer = Ok totals; starts = l }) (sym g.list))

-- no other division of the bytes into lines
empty_not : (l : FileLine) (rest : List ℕ) → [] ≡ line_bytes l ++ rest → ⊥
empty_not l rest e = omega (arith, ap length e, length-append (line_bytes l) rest, line_some l)

line_with : List (List ℕ) → Record → FileLine
line_with fs kind = record { kind = kind; fields = fs }

pub one_division : (rules others : Rules) (ls ks : List FileLine) → LinesOk rules ls → LinesOk others ks → file_bytes ls ≡ file_bytes ks → ls ≡ ks
unfolding line_with
one_division rules others [] [] p q e = refl
one_division rules others [] (k ∷ ks) p q e = absurd (empty_not k (file_bytes ks) e)
one_division rules others (l ∷ ls) [] p q e = absurd (empty_not l (file_bytes ls) (sym e))
one_division rules others (l ∷ ls) (k ∷ ks) p q e =
    let o = one_line l.kind k.kind l.fields k.fields (file_bytes ls) (file_bytes ks) p.0 q.0 e in
    let first : l ≡ k = ap (line_with l.fields) o.0 ∙ ap (λ (fs : List (List ℕ)). line_with fs k.kind) o.1.0 in
    let more = one_division rules others ls ks p.1 q.1 o.1.1 in
    ap (λ (x : FileLine). x ∷ ls) first ∙ ap (λ (xs : List FileLine). k ∷ xs) more

-- the list has a word for each line
pub starts_count : (at : ℕ) (ls : List FileLine) → length (line_starts at ls) ≡ length ls
starts_count at [] = refl
starts_count at (l ∷ ls) = ap suc (starts_count (at + length (line_bytes l)) ls)
