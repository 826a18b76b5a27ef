-- The judge answers exactly what the file's own lines mean: every file is allowed or refused, never both, and refused in one way only.
use Rattle.refusal.specs.Table.{verdict_on}
use Prim.Native.Nat.{ℕ, ◌≤◌}
use mathlib.Core.Path.{◌≡◌, refl, sym, ap, subst, ◌∙◌}
use mathlib.Core.Bool.{true}
use mathlib.Core.List.{List, [], ◌∷◌, append-nil}
use mathlib.Core.Logic.{◌⊎◌, inl, inr, ◌↔◌}
use lib.ListN.{length}
use Rattle.refusal.specs.declared.Refusal.{Refusal}
use Rattle.refusal.proofs.Verdicts.{no_pass}
use Rattle.records.specs.Record.{may_end}
use Rattle.fields.specs.Profile.{profile}
use Rattle.records.specs.declared.version.Version.{Version}
use Rattle.records.specs.declared.record.Due.{Due}
use Rattle.records.specs.declared.record.Due.TheVariants.{First, After}
use Rattle.file.specs.Lent.{Lent}
use Rattle.file.specs.Version.{version_of}
use Rattle.file.specs.File.{Judged, judged, list_of, Judges}
use Rattle.allowed.specs.Allowed.{FileLine, file_bytes, LinesOk, AllowedFile, InOrder, totals_of, line_starts}
use Rattle.allowed.proofs.Files.{accepted_allowed, allowed_accepted}
use Rattle.allowed.proofs.Versions.{version_on_lem, version_found}
use Rattle.refused.specs.File.{Come, due_behind, Begins, RefusedFile, Means}
use Rattle.refused.proofs.Refusing.{judged_refused}
use Rattle.refused.proofs.Reaching.{refused_judged}
use Rattle.refused.proofs.Files.{refused_exactly}
use Rattle.std.specs.Prelude.{Result, Ok, Err}
use Rattle.file.specs.declared.whole.Totals.{Totals}

said : Result Totals Refusal → List ℕ → Judged
said answer starts = record { answer = answer; starts = starts }

module _ (s : List ℕ) (lent : Lent) where
  pub judge_exactly : (answer : Result Totals Refusal) (list : List ℕ) → Judges s lent answer list ↔ Means s lent answer list
  unfolding said
  judge_exactly (Err refusal) list = refused_exactly s lent refusal list
  judge_exactly (Ok totals) list = (forth, back)
    where
      forth : Judges s lent (Ok totals) list → Means s lent (Ok totals) list
      forth j =
          let g = accepted_allowed s lent totals (judged s lent).starts (ap (λ (a : Result Totals Refusal). said a (judged s lent).starts) (sym j.0)) in
          record { lines = g.lines; allowed = g.allowed; room = g.room; counts = g.counts; starts = j.1 ∙ ap (list_of lent.words) g.list }

      back : Means s lent (Ok totals) list → Judges s lent (Ok totals) list
      back g =
          let e = allowed_accepted s lent totals (line_starts 0 g.lines)
          (record { lines = g.lines; allowed = g.allowed; room = g.room; counts = g.counts; list = refl }) in
          (sym (ap (λ (j : Judged). j.answer) e), g.starts ∙ sym (ap (λ (j : Judged). list_of lent.words j.starts) e))

  pub always_one : ((ls : List FileLine) × AllowedFile lent.countries s ls × (length ls ≤ lent.words)) ⊎ ((refusal : Refusal) × RefusedFile s lent refusal)
  always_one = go (judged s lent).answer refl
    where
      go : (a : Result Totals Refusal) → (judged s lent).answer ≡ a →
          ((ls : List FileLine) × AllowedFile lent.countries s ls × (length ls ≤ lent.words)) ⊎ ((refusal : Refusal) × RefusedFile s lent refusal)
      go (Ok totals) e =
          let g = (judge_exactly (Ok totals) (list_of lent.words (judged s lent).starts)).0 (sym e, refl) in
          inl (g.lines, g.allowed, g.room)
      go (Err refusal) e = inr (refusal, judged_refused s lent refusal e)

  pub never_both : (ls : List FileLine) (refusal : Refusal) → AllowedFile lent.countries s ls → length ls ≤ lent.words → RefusedFile s lent refusal → ⊥
  never_both ls refusal a room r =
      let g = (judge_exactly (Ok (totals_of ls)) (list_of lent.words (line_starts 0 ls))).1
      (record { lines = ls; allowed = a; room = room; counts = refl; starts = refl }) in
      no_pass verdict_on refl refl (sym (refused_judged s lent refusal r) ∙ sym g.0)

  pub one_refusal : (refusal other : Refusal) → RefusedFile s lent refusal → RefusedFile s lent other → refusal ≡ other
  one_refusal refusal other r q =
      let e : ◌≡◌ {A = Result Totals Refusal} (Err refusal) (Err other) = sym (refused_judged s lent refusal r) ∙ refused_judged s lent other q in
      cc

-- an allowed file is one that begins with its lines, has nothing left behind them, and may end there
order_is : (due : Due) (ls : List FileLine) → InOrder due ls ↔ (Come due ls × (may_end (due_behind due ls) ≡ true))
order_is due [] = (λ e. (tt, e), λ g. g.1)
order_is due (l ∷ ls) = (
  λ e. ((e.0, ((order_is (After l.kind) ls).0 e.1).0), ((order_is (After l.kind) ls).0 e.1).1),
  λ g. (g.0.0, (order_is (After l.kind) ls).1 (g.0.1, g.1)),
)

pub allowed_begins : (countries s : List ℕ) (ls : List FileLine) →
    AllowedFile countries s ls ↔ (Begins countries s ls [] × (may_end (due_behind First ls) ≡ true))
allowed_begins countries s ls = (
  λ a. (
    record {
      in_limit = a.in_limit;
      paired = a.paired;
      there = a.bytes ∙ sym (append-nil (file_bytes ls));
      lines = subst (λ (v : Version). LinesOk (profile v) ls) (sym (version_found a)) a.lines;
      order = ((order_is First ls).0 a.order).0;
      codes = a.codes;
      contacts = a.contacts;
    },
    ((order_is First ls).0 a.order).1,
  ),
  λ g.
      let order = (order_is First ls).1 (g.0.order, g.1) in
      record {
        paired = g.0.paired;
        bytes = g.0.there ∙ append-nil (file_bytes ls);
        in_limit = g.0.in_limit;
        lines = subst (λ (v : Version). LinesOk (profile v) ls) (sym (version_on_lem (version_of s) ls g.0.lines order)) g.0.lines;
        order = order;
        codes = g.0.codes;
        contacts = g.0.contacts;
      },
)
