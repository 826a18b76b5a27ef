-- What is written reads back as what was handed over, and a line that was read is written again with its own bytes.
use Prim.Native.Nat.{ℕ, suc, ◌+◌, ◌-◌, ◌≤◌}
use mathlib.Core.Path.{◌≡◌, refl, sym, ap, ◌∙◌}
use mathlib.Core.Bool.{true, not}
use mathlib.Core.List.{List, [], ◌∷◌, ◌++◌, append_assoc}
use mathlib.Core.Logic.{◌↔◌}
use native.Mathlib.Omega.{arith}
use lib.Dec.{leb}
use lib.ListN.{length, take, drop, length-append}
use lib.Seq.{take-append_seam, drop_at, take_at, length-take-le}
use borrow.Author.Tests.{le-leb, leb-true, eq-eqb, not-false}
use Rattle.std.specs.Prelude.{if◌then◌else◌, ⊤, Option, Some, None, Result, Ok, Err}
use Rattle.text.specs.Placed.{written}
use Rattle.text.proofs.Choices.{and_both, came_then, came_else}
use Rattle.refusal.specs.declared.Reason.TheVariants.{FieldCount, FeatureLacks, OutputTooShort, FieldEnds}
use Rattle.refusal.specs.Table.{because, verdict_on}
use Rattle.refusal.proofs.Verdicts.{no_pass}
use Rattle.fields.specs.Profile.{Row, Rules, profile}
use Rattle.records.specs.Version.{version_numbered, UnderVersion}
use Rattle.records.specs.declared.version.Version.{Version}
use Rattle.records.specs.Record.{type_of, count_fits}
use Rattle.records.specs.declared.record.Record.{Record}
use Rattle.line.specs.Need.{lacks}
use Rattle.records.specs.declared.record.Due.{Due}
use Rattle.line.specs.declared.read.Line.{Line}
use Rattle.line.specs.Parts.{field_no}
use Rattle.line.specs.Render.{render}
use Rattle.line.proofs.Passing.{Each, fine_each, each_fine}
use Rattle.line.specs.Line.{line_answer, alone, read_answer}
use Rattle.line.specs.Find.{field_answer, find_answer}
use Rattle.fields.proofs.Rules.{sound}
use Rattle.records.proofs.Versions.{under_is, under_passes}
use Rattle.writer.specs.Write.{record_numbered, rises_to, ends_hold, fields_from, between, tested_to_write, next_number, walked, of_fields}
use Rattle.writer.specs.Write.{after_walk}
use Rattle.writer.specs.Write.{of_record, answer_under, write_answer, written_to, Writes}
use Rattle.writer.proofs.Ends.{between_count}
use Rattle.writer.proofs.Walks.{test_passes, passes_test}
use Rattle.grammar.specs.Grammar.{FieldsOk, LineOk, Reads}
use Rattle.grammar.specs.Written.{in_one, ends_from, Writable, ReadsBack}
use Rattle.grammar.proofs.Needs.{lacks_not}
use Rattle.grammar.proofs.Fields.{good_field, field_good}
use Rattle.grammar.proofs.Sizes.{render_reads, render_accepted}
use Rattle.grammar.proofs.Finding.{found, field_exactly}
use Rattle.refusal.specs.declared.Refusal.{Refusal}

-- the writer's walk passes exactly the fields that are allowed
pub walked_fields : (rows : List Row) (n : ℕ) (beside : List ℕ) (fs : List (List ℕ)) → Each (tested_to_write rows) n beside fs → FieldsOk rows n beside fs
walked_fields rows n beside [] g = tt
walked_fields rows n beside (f ∷ fs) g =
    let p = test_passes rows n beside f g.0 in
    (good_field rows n beside f p.1 p.0, walked_fields rows (suc n) f fs g.1)

pub fields_walked : (rows : List Row) (n : ℕ) (beside : List ℕ) (fs : List (List ℕ)) → FieldsOk rows n beside fs → Each (tested_to_write rows) n beside fs
fields_walked rows n beside [] g = tt
fields_walked rows n beside (f ∷ fs) g =
    (passes_test rows n beside f (field_good rows n beside f g.0) g.0.clean, fields_walked rows (suc n) f fs g.1)

-- a line that was written could be
module _ (rules : Rules) (number : ℕ) (text ends : List ℕ) (size fill n : ℕ) where
  wrote : (nd : Option Record) → record_numbered number ≡ nd → of_record rules nd text ends size fill ≡ Ok n → Writable rules number text ends size fill n
  unfolding of_record of_fields
  wrote None k e = absurd (no_pass verdict_on refl refl e)
  wrote (Some kind) k e =
      let held = ends_hold ends (length text) in
      let fits = count_fits kind (length ends) in
      let w = walked (rules kind) 1 (type_of kind) (between text ends) in
      let after = after_walk w kind (between text ends) size fill in
      let a = came_else (not held) (Err (because FieldEnds 0)) (if not fits then Err (because FieldCount 0) else after)
      (Ok n) (no_pass verdict_on refl refl) e in
      let b = came_else (not fits) (Err (because FieldCount 0)) after (Ok n) (no_pass verdict_on refl refl) a.1 in
      go w refl (not-false held a.0) (not-false fits b.0) b.1
    where
      go :
          (w : Result ⊤ Refusal) → walked (rules kind) 1 (type_of kind) (between text ends) ≡ w → ends_hold ends (length text) ≡ true →
          count_fits kind (length ends) ≡ true →
          after_walk w kind (between text ends) size fill ≡ Ok n → Writable rules number text ends size fill n
      go (Err refusal) ew eh ec e = absurd (no_pass verdict_on refl refl e)
      go (Ok tt) ew eh ec e =
          let line = render kind (between text ends) in
          let room = if leb (fill + length line) size then Ok (length line) else Err (because OutputTooShort 0) in
          let a = came_else (lacks kind (type_of kind ∷ between text ends)) (Err (because FeatureLacks 0)) room (Ok n)
          (no_pass verdict_on refl refl) e in
          let b = came_then (leb (fill + length line) size) (Ok (length line)) (Err (because OutputTooShort 0)) (Ok n)
          (no_pass verdict_on refl refl)
          a.1 in
          record {
            kind = kind;
            known = k;
            held = eh;
            allowed = record {
              counted = ap (count_fits kind) (between_count text ends) ∙ ec;
              fields =
                  walked_fields (rules kind) 1 (type_of kind) (between text ends)
                  (fine_each (tested_to_write (rules kind)) next_number 1 1 (type_of kind) (between text ends) ew);
              served = (lacks_not kind (between text ends)).0 a.0;
            };
            fits = leb-true (fill + length line) size b.0;
            long = cc;
          }

  writable : Writable rules number text ends size fill n → answer_under rules number text ends size fill ≡ Ok n
  unfolding answer_under of_record of_fields
  writable g =
      rw (
        g.known,
        g.held,
        ← between_count text ends,
        g.allowed.counted,
        each_fine (tested_to_write (rules g.kind)) next_number 1 1 (type_of g.kind) (between text ends)
            (fields_walked (rules g.kind) 1 (type_of g.kind) (between text ends) g.allowed.fields),
        (lacks_not g.kind (between text ends)).1 g.allowed.served,
        le-leb (fill + length (render g.kind (between text ends))) size g.fits,
        g.long,
      )

  -- a line is written exactly when it is allowed, as it is handed over, and has room
  pub written_exactly : (answer_under rules number text ends size fill ≡ Ok n) ↔ Writable rules number text ends size fill n
  unfolding answer_under
  written_exactly = (λ e. wrote (record_numbered number) refl e, writable)

-- the bytes at the fill of an output that was written
there : (out line : List ℕ) (fill n : ℕ) → fill + length line ≤ length out → n ≡ length line →
    take n (drop fill (written out fill line)) ≡ line
there out line fill n h e =
    let cut : drop fill (take fill out ++ line ++ drop (fill + length line) out) ≡ line ++ drop (fill + length line) out =
    ap (drop fill) (append_assoc (take fill out) line (drop (fill + length line) out))
    ∙ drop_at (take fill out) (line ++ drop (fill + length line) out) fill (length-take-le fill out (omega arith))
    in
    rw cut (take_at line (drop (fill + length line) out) n (sym e))

-- told a version, a line is read and a field found under its rules
read_under : (told : ℕ) (version : Version) (s : List ℕ) (at : ℕ) → version_numbered told ≡ Some version →
    read_answer told s at ≡ line_answer (alone (profile version)) s at
unfolding read_answer
read_under told version s at e = rw e

find_under : (told : ℕ) (version : Version) (s : List ℕ) (at n : ℕ) → version_numbered told ≡ Some version →
    find_answer told s at n ≡ field_answer (profile version) s at n
unfolding find_answer
find_under told version s at n e = rw e

rendered_back : (told : ℕ) (version : Version) → version_numbered told ≡ Some version → (kind : Record) (fs : List (List ℕ)) →
    LineOk (profile version) kind fs → ReadsBack told version kind fs (render kind fs)
rendered_back told version et kind fs g =
    record {
      allowed = g;
      rendered = refl;
      read = read_under told version (render kind fs) 0 et ∙ render_accepted (sound version) kind fs g;
      found = λ n h l.
          let r = render_reads (sound version) kind fs g in
          let f = found r n h l in
          (_, (find_under told version (render kind fs) 0 n et ∙ f, ((field_exactly r n _ (length (field_no fs n))).0 f).there));
    }

-- what was written, read by itself, is the line of the record with that number and of the fields that were handed over
pub reads_back :
    (told number : ℕ) (text ends out : List ℕ) (fill n : ℕ) (after : List ℕ) → Writes told number text ends out fill (Ok n) after →
    UnderVersion told (λ version. (kind : Record) × ((record_numbered number ≡ Some kind) × ((length (take n (drop fill after)) ≡ n) ×
    ReadsBack told version kind (between text ends) (take n (drop fill after)))))
unfolding written_to write_answer
reads_back told number text ends out fill n after g =
    let u = under_passes told Err (λ version. answer_under (profile version) number text ends (length out) fill) (Ok n)
    (no_pass verdict_on refl refl) (sym g.0) in
    let w = (written_exactly (profile u.0) number text ends (length out) fill n).0 u.1.1 in
    let line = render w.kind (between text ends) in
    let e : after ≡ written out fill line = g.1 ∙ ap (λ (nd : Option Record). written_to (Ok n) nd (between text ends) out fill) w.known in
    let t : take n (drop fill after) ≡ line = ap (λ (l : List ℕ). take n (drop fill l)) e ∙ there out line fill n w.fits w.long in
    let back = rendered_back told u.0 u.1.0 w.kind (between text ends) w.allowed in
    (u.0, (u.1.0, (w.kind, (w.known, (ap length t ∙ sym w.long, rw t back)))))

-- a caller's text and ends give the fields back
fields_again : (start : ℕ) (front : List ℕ) (fs : List (List ℕ)) → length front ≡ start →
    fields_from start (front ++ in_one fs) (ends_from start fs) ≡ fs
fields_again start front [] e = refl
fields_again start front (f ∷ fs) e =
    let here : take (start + length f - start) (drop start (front ++ (f ++ in_one fs))) ≡ f =
    let n : start + length f - start ≡ length f = omega arith in
    rw (n, drop_at front (f ++ in_one fs) start e) (take-append_seam f (in_one fs))
    in
    let rest : fields_from (start + length f) (front ++ (f ++ in_one fs)) (ends_from (start + length f) fs) ≡ fs =
    ap (λ (l : List ℕ). fields_from (start + length f) l (ends_from (start + length f) fs)) (sym (append_assoc front f (in_one fs)))
    ∙ fields_again (start + length f) (front ++ f) fs (length-append front f ∙ ap (λ (n : ℕ). n + length f) e)
    in
    rw (here, rest)

ends_rise : (long start : ℕ) (fs : List (List ℕ)) → long ≡ start + length (in_one fs) → rises_to long start (ends_from start fs) ≡ true
ends_rise long start [] e = eq-eqb start long (omega arith)
ends_rise long start (f ∷ fs) e =
    and_both (leb start (start + length f)) (rises_to long (start + length f) (ends_from (start + length f) fs))
    (le-leb start (start + length f) (omega arith)) (ends_rise long (start + length f) fs (omega (arith, length-append f (in_one fs))))

pub handed_over : (fs : List (List ℕ)) → between (in_one fs) (ends_from 0 fs) ≡ fs
unfolding between
handed_over fs = fields_again 0 [] fs refl

pub handed_ends : (fs : List (List ℕ)) → ends_hold (ends_from 0 fs) (length (in_one fs)) ≡ true
unfolding ends_hold
handed_ends fs = ends_rise (length (in_one fs)) 0 fs (omega arith)

-- a line that stands in a file, its fields handed to the writer, is written with its own bytes
pub writes_again :
    {version : Version} {due : Due} {s : List ℕ} {at : ℕ} {line : Line} {fs : List (List ℕ)} →
    Reads (record { rules = profile version; due = due }) s at line fs → (told : ℕ) → version_numbered told ≡ Some version →
    (number : ℕ) (out : List ℕ) (fill : ℕ) → record_numbered number ≡ Some line.kind → fill + (line.next - at) ≤ length out →
    (answer : Result ℕ Refusal) (after : List ℕ) → Writes told number (in_one fs) (ends_from 0 fs) out fill answer after →
    (answer ≡ Ok (line.next - at)) × (after ≡ written out fill (take (line.next - at) (drop at s)))
unfolding written_to write_answer
writes_again {version = version} {s = s} {at = at} {line = line} {fs = fs} g told et number out fill k h answer after w =
    let n : line.next - at ≡ length (render line.kind fs) = omega (arith, g.next) in
    let e : between (in_one fs) (ends_from 0 fs) ≡ fs = handed_over fs in
    let u : Writable (profile version) number (in_one fs) (ends_from 0 fs) (length out) fill (length (render line.kind fs)) =
    record { kind = line.kind; known = k; held = handed_ends fs; allowed = rw e g.allowed; fits = rw e (omega (arith, n)); long = rw e }
    in
    let a : answer ≡ Ok (length (render line.kind fs)) =
    w.0 ∙ under_is told Err (λ v. answer_under (profile v) number (in_one fs) (ends_from 0 fs) (length out) fill) version et
    ∙ (written_exactly (profile version) number (in_one fs) (ends_from 0 fs) (length out) fill (length (render line.kind fs))).1 u in
    let own : take (line.next - at) (drop at s) ≡ render line.kind fs =
    rw g.stands (take_at (render line.kind fs) g.rest (line.next - at) (sym n)) in
    let b : after ≡ written out fill (render line.kind fs) =
    w.1
    ∙ ap (λ (r : Result ℕ Refusal). written_to r (record_numbered number) (between (in_one fs) (ends_from 0 fs)) out fill) a
    ∙ ap (λ (nd : Option Record). written_to (Ok (length (render line.kind fs))) nd (between (in_one fs) (ends_from 0 fs)) out fill) k
    ∙ ap (λ (l : List (List ℕ)). written out fill (render line.kind l)) e
    in
    (a ∙ ap Ok (sym n), b ∙ ap (λ (l : List ℕ). written out fill l) (sym own))
