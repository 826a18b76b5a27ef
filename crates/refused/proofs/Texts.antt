-- The text of a line: it is refused exactly as its record type and its fields say.
use Prim.Native.Nat.{ℕ, ◌+◌}
use mathlib.Core.Path.{◌≡◌, refl, sym, ap, subst, ◌∙◌}
use mathlib.Core.Bool.{true, false, not}
use mathlib.Core.List.{List, ◌∷◌, ◌++◌}
use native.Mathlib.Omega.{arith}
use lib.ListN.{length, length-append}
use borrow.Author.Tests.{not-true, not-false}
use Rattle.text.specs.Quoted.{bytes}
use Rattle.text.specs.Scan.{all}
use Rattle.text.proofs.Choices.{choice, and_right}
use Rattle.refusal.specs.Table.{because, verdict_on}
use Rattle.refusal.specs.declared.Refusal.{Refusal}
use Rattle.refusal.specs.declared.Reason.{Reason}
use Rattle.refusal.specs.declared.Reason.TheVariants.{UnknownRecord, OutOfOrder, FieldCount, FeatureLacks}
use Rattle.refusal.proofs.Verdicts.{no_pass}
use Rattle.records.specs.Record.{type_of, named, count_fits, may_come}
use Rattle.fields.specs.Field.{tested}
use Rattle.records.specs.declared.record.Record.{Record}
use Rattle.records.proofs.Types.{type_named, named_type}
use Rattle.line.specs.Parts.{split}
use Rattle.line.specs.Render.{joined, text_of, plain, all_in}
use Rattle.line.specs.Told.{Told}
use Rattle.line.specs.Walk.{behind, walk}
use Rattle.line.specs.Need.{lacks}
use Rattle.line.specs.Line.{after_walk, of_kind, of_named, of_text}
use Rattle.line.proofs.Splits.{all_in_front}
use Rattle.line.proofs.Plain.{parts_split}
use Rattle.line.proofs.Passing.{fine_each, each_fine}
use Rattle.grammar.specs.Grammar.{FieldsOk}
use Rattle.grammar.proofs.Needs.{lacks_feature}
use Rattle.grammar.proofs.Fields.{each_fields, fields_each}
use Rattle.refused.specs.Line.{Stands, FirstBad, Counted, RefusedLine}
use Rattle.line.proofs.Stopping.{stopped_stops, stops_stopped}
use Rattle.refused.proofs.Fields.{bad_refused, refused_bad, starts_behind}
use Rattle.std.specs.Prelude.{⊤, Option, Some, None, Result, Ok, Err}
use Rattle.line.specs.declared.read.Line.{Line}

unknown : {kind : Record} → ◌≡◌ {A = Option Record} None (Some kind) → ⊥
unknown e = let z : ◌≡◌ {A = ℕ} 0 1 = cc in omega arith

unnamed : (name : List ℕ) → ((kind : Record) → name ≡ type_of kind → ⊥) → named name ≡ None
unnamed name none = go (named name) refl
  where
    go : (m : Option Record) → named name ≡ m → m ≡ None
    go None e = refl
    go (Some kind) e = absurd (none kind (named_type name kind e))

-- where a field starts, behind the record type, the fields in front of it and its semicolon
starts_there : (kind : Record) (offset : ℕ) (front : List (List ℕ)) →
    offset + length (type_of kind) + 1 + length (joined front) ≡ offset + length (text_of kind front ++ bytes ";")
starts_there kind offset front =
    omega (arith, length-append (type_of kind) (joined front), length-append (text_of kind front) (bytes ";"))

module _ (told : Told) (offset : ℕ) (left : List ℕ) (refusal : Refusal) where
  pub same_line : (other : Refusal) → RefusedLine told offset left other → ◌≡◌ {A = Result Line Refusal} (Err other) (Err refusal) →
      RefusedLine told offset left refusal
  same_line other g e = let same : other ≡ refusal = cc in subst (RefusedLine told offset left) same g

  module _ (kind : Record) (fs : List (List ℕ)) (g : Stands left (type_of kind) fs) where
    abbrev text : List ℕ
    text = type_of kind ++ joined fs

    fields_plain : all_in plain fs ≡ true
    fields_plain = and_right (all plain (type_of kind)) (all_in plain fs) g.clean

    abbrev walks : Result ⊤ Refusal
    walks = walk (told.rules kind) 1 (offset + length (type_of kind) + 1) (type_of kind) fs

    of_walk : may_come told.due kind ≡ true → count_fits kind (length fs) ≡ true → after_walk walks kind offset text ≡ Err refusal →
        RefusedLine told offset left refusal
    unfolding after_walk
    of_walk m c e = go walks refl e
      where
        good : Counted told left kind fs
        good = record { stands = g; comes = m; counted = c }

        go : (w : Result ⊤ Refusal) → walks ≡ w → after_walk w kind offset text ≡ Err refusal → RefusedLine told offset left refusal
        go (Err other) ew ea =
            let rows = told.rules kind in
            let place = offset + length (type_of kind) + 1 in
            let r = stopped_stops (tested rows) behind 1 place (type_of kind) fs other ew in
            let there = starts_behind rows place r.front ∙ starts_there kind offset r.front in
            let first : FirstBad rows (type_of kind) r.front r.field r.why = record {
              before =
                  each_fields rows 1 (type_of kind) r.front
                  (all_in_front plain r.front (r.field ∷ r.more) (sym (ap (all_in plain) r.parts) ∙ fields_plain)) r.before;
              here = bad_refused rows (1 + length r.front) _ r.field r.why r.here;
            } in
            same_line other
            (subst (RefusedLine told offset left) (sym (r.is ∙ ap (because r.why) there))
            (RefusedLine.bad_field kind r.front r.field r.more r.why (subst (Counted told left kind) r.parts good) first))
            ea
        go (Ok tt) ew ea =
            choice (lacks kind (split text)) (Err (because FeatureLacks offset)) _ (Err refusal)
            (λ l q. let known =
            lacks_feature (λ (k : Record). Counted told left k fs × FieldsOk (told.rules k) 1 (type_of k) fs) kind fs
            (ap (lacks kind) (sym (parts_split (type_of kind) fs g.clean)) ∙ l) (
              good,
              each_fields (told.rules kind) 1 (type_of kind) fs fields_plain
                  (fine_each (tested (told.rules kind)) behind 1 (offset + length (type_of kind) + 1) (type_of kind) fs ew),
            ) in
            same_line (because FeatureLacks offset) (RefusedLine.feature_lacks fs known.0.0 known.0.1 known.1) q)
            (λ l q. absurd (no_pass verdict_on refl refl (sym q)))
            ea

    of_kind_lem : may_come told.due kind ≡ true → of_kind told.rules kind offset text ≡ Err refusal →
        RefusedLine told offset left refusal
    unfolding of_kind
    of_kind_lem m e =
        choice (not (count_fits kind (length fs))) (Err (because FieldCount offset)) (after_walk walks kind offset text) (Err refusal)
        (λ n q. same_line (because FieldCount offset) (RefusedLine.field_count kind fs g m (not-true (count_fits kind (length fs)) n)) q)
        (λ n q. of_walk m (not-false (count_fits kind (length fs)) n) q)
        (rw (parts_split (type_of kind) fs g.clean) at e)

  -- a refused text
  pub of_text_lem : (name : List ℕ) (fs : List (List ℕ)) → Stands left name fs → of_text told offset (name ++ joined fs) ≡ Err refusal →
      RefusedLine told offset left refusal
  unfolding of_text of_named
  of_text_lem name fs g e = go (named name) refl (rw (parts_split name fs g.clean) at e)
    where
      go : (m : Option Record) → named name ≡ m → of_named m told offset (name ++ joined fs) ≡ Err refusal → RefusedLine told offset left refusal
      go None en q =
          same_line (because UnknownRecord offset)
          (RefusedLine.unknown_record name fs g (λ kind x. unknown (sym en ∙ ap named x ∙ type_named kind))) q
      go (Some kind) en q =
          let is = named_type name kind en in
          let h : Stands left (type_of kind) fs = subst (λ (x : List ℕ). Stands left x fs) is g in
          let q' = subst (λ (x : List ℕ). of_named (Some kind) told offset (x ++ joined fs) ≡ Err refusal) is q in
          choice (not (may_come told.due kind)) (Err (because OutOfOrder offset)) (of_kind told.rules kind offset (type_of kind ++ joined fs))
          (Err refusal)
          (λ n r. same_line (because OutOfOrder offset) (RefusedLine.out_of_order kind fs h (not-true (may_come told.due kind) n)) r)
          (λ n r. of_kind_lem kind fs h (not-false (may_come told.due kind) n) r) q'

-- and the other way round
module _ (told : Told) (offset : ℕ) where
  pub text_unknown : (name : List ℕ) (fs : List (List ℕ)) → all_in plain (name ∷ fs) ≡ true → ((kind : Record) → name ≡ type_of kind → ⊥) →
      of_text told offset (name ++ joined fs) ≡ Err (because UnknownRecord offset)
  unfolding of_text of_named
  text_unknown name fs p none = rw (parts_split name fs p, unnamed name none)

  module _ (kind : Record) (fs : List (List ℕ)) (p : all_in plain (type_of kind ∷ fs) ≡ true) where
    pub text_order : may_come told.due kind ≡ false → of_text told offset (type_of kind ++ joined fs) ≡ Err (because OutOfOrder offset)
    unfolding of_text of_named
    text_order m = rw (parts_split (type_of kind) fs p, type_named kind, m)

    module _ (m : may_come told.due kind ≡ true) where
      pub text_count : count_fits kind (length fs) ≡ false →
          of_text told offset (type_of kind ++ joined fs) ≡ Err (because FieldCount offset)
      unfolding of_text of_named of_kind
      text_count c = rw (parts_split (type_of kind) fs p, type_named kind, m, parts_split (type_of kind) fs p, c)

      module _ (c : count_fits kind (length fs) ≡ true) where
        text_stops : (refusal : Refusal) → walk (told.rules kind) 1 (offset + length (type_of kind) + 1) (type_of kind) fs ≡ Err refusal →
            of_text told offset (type_of kind ++ joined fs) ≡ Err refusal
        unfolding of_text of_named of_kind after_walk
        text_stops refusal w = simp (parts_split (type_of kind) fs p, type_named kind, m, c, w)

        pub text_lacks : FieldsOk (told.rules kind) 1 (type_of kind) fs → lacks kind (type_of kind ∷ fs) ≡ true →
            of_text told offset (type_of kind ++ joined fs) ≡ Err (because FeatureLacks offset)
        unfolding of_text of_named of_kind after_walk
        text_lacks g l =
            simp (
              parts_split (type_of kind) fs p,
              type_named kind,
              m,
              c,
              each_fine (tested (told.rules kind)) behind 1 (offset + length (type_of kind) + 1) (type_of kind) fs
                  (fields_each (told.rules kind) 1 (type_of kind) fs g),
              l,
            )

  -- the first bad field
  pub text_bad : (left : List ℕ) (kind : Record) (front : List (List ℕ)) (f : List ℕ) (more : List (List ℕ)) (why : Reason) →
      Counted told left kind (front ++ f ∷ more) → FirstBad (told.rules kind) (type_of kind) front f why →
      of_text told offset (type_of kind ++ joined (front ++ f ∷ more)) ≡ Err (because why (offset + length (text_of kind front ++ bytes ";")))
  text_bad left kind front f more why g b =
      let rows = told.rules kind in
      let place = offset + length (type_of kind) + 1 in
      text_stops kind (front ++ f ∷ more) g.stands.clean g.comes g.counted (because why (offset + length (text_of kind front ++ bytes ";")))
      (stops_stopped (tested rows) behind 1 place (type_of kind) front f more why (fields_each rows 1 (type_of kind) front b.before)
      (refused_bad rows (1 + length front) _ f why b.here)
      ∙ ap (λ (p : ℕ). Err (because why p)) (starts_behind rows place front ∙ starts_there kind offset front))
