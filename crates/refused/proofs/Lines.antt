-- One line: it is refused, by a number and at a place, exactly when its own bytes and fields say so.
use Prim.Native.Nat.{ℕ, ◌+◌, ◌-◌, ◌≤◌}
use mathlib.Core.Path.{◌≡◌, refl, sym, ap, subst, ◌∙◌}
use mathlib.Core.Bool.{true, false, not}
use mathlib.Core.List.{List, [], ◌∷◌, ◌++◌}
use mathlib.Core.Logic.{◌↔◌}
use lib.Dec.{ltb}
use lib.ListN.{length, take, drop}
use lib.Seq.{drop-drop, drop-append_seam}
use borrow.Author.Tests.{ltb-true, ltb-false, lt-ltb, le-ltb, not-true}
use Rattle.std.specs.Prelude.{if◌then◌else◌, Result, Ok, Err}
use Rattle.text.specs.Byte.{text_byte}
use Rattle.text.specs.Quoted.{bytes}
use Rattle.text.specs.Scan.{first_failing, all, same}
use Rattle.text.proofs.Choices.{choice, clash}
use Rattle.text.proofs.Runs.{Fails, front, run_to}
use Rattle.text.proofs.Scans.{unlike}
use Rattle.refusal.specs.Table.{because, verdict_on}
use Rattle.refusal.specs.declared.Refusal.{Refusal}
use Rattle.refusal.specs.declared.Reason.TheVariants.{FileTooLong, NoLineEnd}
use Rattle.refusal.proofs.Verdicts.{no_pass}
use Rattle.records.specs.Record.{type_of}
use Rattle.records.specs.declared.record.Record.TheVariants.{Feature}
use Rattle.line.specs.Parts.{name_of, fields_of}
use Rattle.line.specs.Render.{joined, plain, all_in}
use Rattle.line.specs.Told.{Told}
use Rattle.line.specs.Line.{line_end, ends_well, text_at, file_limit, text_answer, of_text, on_text, line_answer}
use Rattle.line.proofs.Splits.{split_some, join_split}
use Rattle.line.proofs.Plain.{split_plain, parts_bytes}
use Rattle.line.proofs.Ends.{ended, ends_well_lem, text_there}
use Rattle.line.proofs.Accepting.{text_ends}
use Rattle.grammar.proofs.Needs.{lacks_some}
use Rattle.refused.specs.Line.{NoEnd, Stands, RefusedLine, RefusedAt}
use Rattle.refused.proofs.Texts.{of_text_lem, text_unknown, text_order, text_count, text_lacks, text_bad}
use Rattle.line.specs.declared.read.Line.{Line}

-- what stands behind the text of a line
no_end_fails : (behind : List ℕ) → NoEnd behind → Fails text_byte behind
no_end_fails [] n = tt
no_end_fails (b ∷ behind) n = n.0

ill : (file : List ℕ) (end : ℕ) (behind : List ℕ) → drop end file ≡ behind → NoEnd behind → ends_well file end ≡ false
unfolding ends_well
ill file end [] d n = rw d
ill file end (b ∷ behind) d n = rw d (unlike (take 2 (b ∷ behind)) (bytes "\r\n") n.1)

ill_end : (file : List ℕ) (end : ℕ) (behind : List ℕ) → drop end file ≡ behind → Fails text_byte behind → ends_well file end ≡ false →
    NoEnd behind
unfolding ends_well
ill_end file end [] d f e = tt
ill_end file end (b ∷ behind) d f e =
    (f, λ q. clash (ap (λ (l : List ℕ). same (take 2 l) (bytes "\r\n")) d ∙ ap (λ (l : List ℕ). same l (bytes "\r\n")) q) e)

refused_same : {T : Type 0} {refusal other : Refusal} → ◌≡◌ {A = Result T Refusal} (Err refusal) (Err other) → refusal ≡ other
refused_same e = cc

module _ (told : Told) (file : List ℕ) (offset : ℕ) where
  -- what the text of a line that ends well is made of
  stands : ends_well file (line_end file offset) ≡ true →
      Stands (drop offset file) (name_of (text_at file offset)) (fields_of (text_at file offset))
  stands w =
      let d = ended file offset w in
      let text = text_at file offset in
      record {
        behind = d.rest;
        there = d.whole ∙ ap (λ (l : List ℕ). l ++ bytes "\r\n" ++ d.rest) (sym (join_split text));
        clean = ap (all_in plain) (sym (split_some text)) ∙ split_plain text d.text;
      }

  -- a line that does not end
  open_line : ends_well file (line_end file offset) ≡ false →
      RefusedLine told offset (drop offset file) (because NoLineEnd (line_end file offset))
  open_line w =
      let r = front text_byte offset (drop offset file) in
      let d : drop (line_end file offset) file ≡ r.behind =
      ap (λ (i : ℕ). drop i file) r.ends ∙ sym (drop-drop (length r.run) offset file) ∙ ap (drop (length r.run)) r.whole
      ∙ drop-append_seam r.run r.behind in
      subst (λ (p : ℕ). RefusedLine told offset (drop offset file) (because NoLineEnd p)) (sym r.ends)
      (RefusedLine.no_line_end r.run r.behind r.whole r.passes (ill_end file (line_end file offset) r.behind d r.fails w))

  -- 1, then 2
  text_refused : (refusal : Refusal) → text_answer file offset ≡ Err refusal → RefusedAt told file offset refusal
  unfolding text_answer
  text_refused refusal e =
      let end = line_end file offset in
      let found = if not (ends_well file end) then Err (because NoLineEnd end) else Ok end in
      choice (ltb file_limit (length file)) (Err (because FileTooLong file_limit))
      (if ltb (length file) offset then Err (because NoLineEnd (length file)) else found) (Err refusal)
      (λ t q. is q (RefusedAt.file_too_long (ltb-true file_limit (length file) t)))
      (λ t. choice (ltb (length file) offset) (Err (because NoLineEnd (length file))) found (Err refusal)
      (λ u q. is q (RefusedAt.past_the_file (ltb-false file_limit (length file) t) (ltb-true (length file) offset u)))
      (λ u. choice (not (ends_well file end)) (Err (because NoLineEnd end)) (Ok end) (Err refusal)
      (λ w q. is q (RefusedAt.line_refused (because NoLineEnd end) (ltb-false file_limit (length file) t) (ltb-false (length file) offset u)
      (open_line (not-true (ends_well file end) w))))
      (λ w q. absurd (no_pass verdict_on refl refl (sym q)))))
      e
    where
      is : {other : Refusal} → ◌≡◌ {A = Result ℕ Refusal} (Err other) (Err refusal) → RefusedAt told file offset other → RefusedAt told file offset refusal
      is q g = subst (RefusedAt told file offset) (refused_same q) g

  pub answer_refused : (refusal : Refusal) → line_answer told file offset ≡ Err refusal → RefusedAt told file offset refusal
  unfolding line_answer
  answer_refused refusal e = go (text_answer file offset) refl e
    where
      go : (a : Result ℕ Refusal) → text_answer file offset ≡ a → on_text a told file offset ≡ Err refusal → RefusedAt told file offset refusal
      go (Err other) q e = subst (RefusedAt told file offset) (refused_same e) (text_refused other q)
      go (Ok end) q e =
          let t = text_ends file offset end q in
          let text = text_at file offset in
          let e' : of_text told offset text ≡ Err refusal =
          ap (λ (i : ℕ). of_text told offset (take (i - offset) (drop offset file))) (sym t.is) ∙ e in
          RefusedAt.line_refused refusal t.short t.inside
          (of_text_lem told offset (drop offset file) refusal (name_of text) (fields_of text) (stands t.well)
          (ap (of_text told offset) (join_split text) ∙ e'))

  module _ (small : length file ≤ file_limit) (in-file : offset ≤ length file) where
    text_answer_lem : (name : List ℕ) (fs : List (List ℕ)) → Stands (drop offset file) name fs → (a : Result Line Refusal) →
        of_text told offset (name ++ joined fs) ≡ a → line_answer told file offset ≡ a
    unfolding line_answer text_answer
    text_answer_lem name fs g a e =
        let p = parts_bytes name fs g.clean in
        rw (
          le-ltb file_limit (length file) small,
          le-ltb (length file) offset in-file,
          ends_well_lem file offset (name ++ joined fs) g.behind p g.there,
          text_there file offset (name ++ joined fs) g.behind p g.there,
        ) e

    open_answer : (text behind : List ℕ) → drop offset file ≡ text ++ behind → all text_byte text ≡ true → NoEnd behind →
        line_answer told file offset ≡ Err (because NoLineEnd (offset + length text))
    unfolding line_answer text_answer
    open_answer text behind d p n =
        let e : line_end file offset ≡ offset + length text =
        ap (λ (l : List ℕ). first_failing (λ _ b. text_byte b) offset l) d ∙ run_to text_byte offset text behind p (no_end_fails behind n) in
        let q : drop (line_end file offset) file ≡ behind =
        ap (λ (i : ℕ). drop i file) e ∙ sym (drop-drop (length text) offset file) ∙ ap (drop (length text)) d ∙ drop-append_seam text behind in
        rw (le-ltb file_limit (length file) small, le-ltb (length file) offset in-file, ill file (line_end file offset) behind q n, e)

    pub line_answer_lem : (refusal : Refusal) → RefusedLine told offset (drop offset file) refusal →
        line_answer told file offset ≡ Err refusal
    line_answer_lem refusal (RefusedLine.no_line_end text behind d p n) = open_answer text behind d p n
    line_answer_lem refusal (RefusedLine.unknown_record name fs g n) = text_answer_lem name fs g _ (text_unknown told offset name fs g.clean n)
    line_answer_lem refusal (RefusedLine.out_of_order kind fs g m) = text_answer_lem (type_of kind) fs g _ (text_order told offset kind fs g.clean m)
    line_answer_lem refusal (RefusedLine.field_count kind fs g m c) =
        text_answer_lem (type_of kind) fs g _ (text_count told offset kind fs g.clean m c)
    line_answer_lem refusal (RefusedLine.bad_field kind front f more w g b) =
        text_answer_lem (type_of kind) (front ++ f ∷ more) g.stands _ (text_bad told offset (drop offset file) kind front f more w g b)
    line_answer_lem refusal (RefusedLine.feature_lacks fs g k l) =
        text_answer_lem (type_of Feature) fs g.stands _
        (text_lacks told offset Feature fs g.stands.clean g.comes g.counted k ((lacks_some fs).1 l))

  pub refused_answer : (refusal : Refusal) → RefusedAt told file offset refusal → line_answer told file offset ≡ Err refusal
  unfolding line_answer text_answer
  refused_answer refusal (RefusedAt.file_too_long h) = rw (lt-ltb file_limit (length file) h)
  refused_answer refusal (RefusedAt.past_the_file h l) = rw (le-ltb file_limit (length file) h, lt-ltb (length file) offset l)
  refused_answer refusal (RefusedAt.line_refused other h l g) = line_answer_lem h l other g

  -- a line is refused, by this number and at this place, exactly when its own bytes and fields say so
  pub line_refused_exactly : (refusal : Refusal) → (line_answer told file offset ≡ Err refusal) ↔ RefusedAt told file offset refusal
  line_refused_exactly refusal = (answer_refused refusal, refused_answer refusal)
