-- A file names version 7 exactly when its first line is a header that says so; what a caller sees of it.
use Prim.Native.Nat.{ℕ, ◌+◌, ◌-◌}
use mathlib.Core.Path.{◌≡◌, refl, sym, ap, subst, ◌∙◌}
use mathlib.Core.Bool.{◌&&◌, false≢true}
use mathlib.Core.List.{List, [], ◌∷◌, ◌++◌}
use mathlib.Core.Logic.{◌↔◌}
use native.Mathlib.Omega.{arith}
use lib.ListN.{length, take, get_or}
use lib.Seq.{take-append_seam}
use Rattle.text.specs.Byte.{text_byte}
use Rattle.text.specs.Quoted.{bytes}
use Rattle.text.specs.Scan.{all, first_failing, same}
use Rattle.text.proofs.Choices.{and_left, and_right, came_then}
use Rattle.text.proofs.Scans.{same_eq}
use Rattle.text.proofs.Runs.{Fails, front, run_to}
use Rattle.records.specs.Record.{type_of, may_come, may_end}
use Rattle.fields.specs.Profile.{profile}
use Rattle.records.specs.Version.{is_version, version_numbered}
use Rattle.records.specs.declared.version.Version.{Version}
use Rattle.records.specs.declared.version.Version.TheVariants.{Five, Seven}
use Rattle.records.specs.declared.record.Record.{Record}
use Rattle.records.specs.declared.record.Record.TheVariants.{Header}
use Rattle.line.specs.Parts.{split, name_of, fields_of, part_at, field_no}
use Rattle.line.specs.Render.{joined, text_of, plain, all_in}
use Rattle.line.specs.Line.{text_at, alone, line_answer, read_answer}
use Rattle.line.specs.declared.read.Line.{Line}
use Rattle.line.proofs.Splits.{split_some, join_split}
use Rattle.line.proofs.Plain.{split_plain, parts_split, parts_bytes}
use Rattle.grammar.specs.Grammar.{LineOk, Reads}
use Rattle.grammar.proofs.Lines.{accepted_reads, reads_accepted, one_reading}
use Rattle.file.specs.Version.{version_in, version_of}
use Rattle.allowed.specs.Allowed.{FileLine, line_bytes, file_bytes, version_on, AllowedUnder, AllowedFile}
use Rattle.allowed.specs.Version.{EndsText, SaysSeven}
use Rattle.allowed.proofs.Versions.{version_in_lem, version_found}
use Rattle.std.specs.Prelude.{Ok}

fails_ends : (behind : List ℕ) → Fails text_byte behind → EndsText behind
fails_ends [] f = tt
fails_ends (b ∷ behind) f = f

ends_fails : (behind : List ℕ) → EndsText behind → Fails text_byte behind
ends_fails [] f = tt
ends_fails (b ∷ behind) f = f

pub unlike : Five ≡ Seven → ⊥
unlike e = let z : ◌≡◌ {A = ℕ} 0 1 = cc in omega arith

module _ (s : List ℕ) where
  abbrev text : List ℕ
  text = text_at s 0

  -- the text of a first line whose version is 7
  header_text : version_in text ≡ Seven → (name_of text ≡ type_of Header) × (field_no (fields_of text) 6 ≡ bytes "7")
  unfolding version_in is_version
  header_text e =
      let named = same (name_of text) (type_of Header) in
      let says = same (part_at text 6) (bytes "7") in
      let both = (came_then (named && says) Seven Five Seven unlike e).0 in (
        same_eq (name_of text) (type_of Header) (and_left named says both),
        ap (λ (parts : List (List ℕ)). get_or parts 6 []) (sym (split_some text)) ∙ same_eq (part_at text 6) (bytes "7") (and_right named says both),
      )

  pub version_says : version_of s ≡ Seven → SaysSeven s
  unfolding version_of
  version_says e =
      let r = front text_byte 0 s in
      let long : first_failing (λ _ b. text_byte b) 0 s - 0 ≡ length r.run = omega (arith, r.ends) in
      let run : text ≡ r.run =
      ap (λ (n : ℕ). take n s) long ∙ ap (take (length r.run)) r.whole ∙ take-append_seam r.run r.behind in
      let h = header_text e in
      let whole : text_of Header (fields_of text) ≡ r.run =
      ap (λ (n : List ℕ). n ++ joined (fields_of text)) (sym h.0) ∙ join_split text ∙ run in
      record {
        fields = fields_of text;
        behind = r.behind;
        there = r.whole ∙ ap (λ (t : List ℕ). t ++ r.behind) (sym whole);
        clean = ap (λ (n : List ℕ). all_in plain (n ∷ fields_of text)) (sym h.0) ∙ ap (all_in plain) (sym (split_some text))
            ∙ split_plain text (ap (all text_byte) run ∙ r.passes);
        ends = fails_ends r.behind r.fails;
        says = h.1;
      }

  pub says_version : SaysSeven s → version_of s ≡ Seven
  unfolding version_of version_in is_version
  says_version g =
      let line = text_of Header g.fields in
      let run = run_to text_byte 0 line g.behind (parts_bytes (type_of Header) g.fields g.clean) (ends_fails g.behind g.ends) in
      let long : first_failing (λ _ b. text_byte b) 0 s - 0 ≡ length line =
      omega (arith, ap (λ (l : List ℕ). first_failing (λ _ b. text_byte b) 0 l) g.there, run) in
      let there : text ≡ line =
      ap (λ (n : ℕ). take n s) long ∙ ap (take (length line)) g.there ∙ take-append_seam line g.behind in
      let parts : split text ≡ type_of Header ∷ g.fields = ap split there ∙ parts_split (type_of Header) g.fields g.clean in
      rw (parts, g.says)

-- an allowed file is of version 7 exactly when the call that is told 7 accepts its first line
read_seven : (s : List ℕ) → read_answer 7 s 0 ≡ line_answer (alone (profile Seven)) s 0
unfolding read_answer version_numbered
read_seven s = refl

own : {version : Version} {countries s : List ℕ} (l : FileLine) (ls : List FileLine) → AllowedUnder version countries s (l ∷ ls) →
    Reads (alone (profile version)) s 0 (record { kind = l.kind; count = length l.fields; next = 0 + length (line_bytes l) }) l.fields
unfolding may_come
own l ls a =
    record {
      in_limit = a.in_limit;
      comes = refl;
      allowed = a.lines.0;
      rest = file_bytes ls;
      stands = a.bytes;
      count = refl;
      next = refl;
    }

pub first_reads_seven : (countries s : List ℕ) (ls : List FileLine) → AllowedFile countries s ls →
    (version_on ls ≡ Seven) ↔ ((line : Line) × (read_answer 7 s 0 ≡ Ok line))
unfolding may_end
first_reads_seven countries s [] a = absurd (false≢true a.order)
first_reads_seven countries s (l ∷ ls) a = (
  λ e. (_, read_seven s ∙ reads_accepted (own l ls (subst (λ (v : Version). AllowedUnder v countries s (l ∷ ls)) e a))),
  λ r.
      let g = accepted_reads (alone (profile Seven)) s 0 r.0 (sym (read_seven s) ∙ r.1) in
      let o = one_reading g (own l ls a) in
      let kind : r.0.kind ≡ l.kind = ap (λ (x : Line). x.kind) o.0 in
      let ok = subst (λ (fs : List (List ℕ)). LineOk (profile Seven) l.kind fs) o.1
      (subst (λ (k : Record). LineOk (profile Seven) k (fields_of (text_at s 0))) kind g.allowed) in
      sym (version_found a) ∙ version_in_lem Seven s l (file_bytes ls) a.in_limit ok a.order.0 a.bytes,
)
