-- The call's answer, list and output, by cases.
use Prim.Native.Nat.{ℕ, ◌-◌, ◌≤◌, ◌<◌}
use mathlib.Core.Path.{◌≡◌, sym, ap, ◌∙◌}
use mathlib.Core.List.{List, []}
use native.Mathlib.Omega.{arith}
use lib.ListN.{length, take, replicate}
use lib.Seq.{take_at}
use borrow.Author.Tests.{lt-ltb, le-ltb}
use Rattle.text.specs.Placed.{written}
use Rattle.refusal.specs.declared.Reason.TheVariants.{OutputTooShort, NotThere}
use Rattle.refusal.specs.Table.{because}
use Rattle.refusal.specs.declared.Refusal.{Refusal}
use Rattle.file.specs.Lent.{Lent}
use Rattle.file.specs.File.{judged, list_of}
use Rattle.file.specs.declared.whole.Totals.{Totals}
use Rattle.file.proofs.Listing.{none_listed, lines_listed, lines_fit as words-fit}
use Rattle.purpose.specs.Source.{source_of}
use Rattle.purpose.specs.Purpose.{purpose_long, cut, source_text, text_from, on_source, on_file, purpose_answer, purpose_of}
use Rattle.purpose.specs.declared.source.Source.{Source}
use Rattle.std.specs.Prelude.{Option, Some, None, Result, Ok, Err}

-- the file is refused
module _ (s : List ℕ) (lent : Lent) (a : Result Totals Refusal) (ea : a ≡ (judged s lent).answer) (refusal : Refusal) (e : a ≡ Err refusal) where
  pub file_answer : (n room : ℕ) → Err refusal ≡ purpose_answer s n lent room
  unfolding on_file
  file_answer n room = rw (← ea, e)

  pub file_list : (m : ℕ) → m ≡ lent.words → (list : List ℕ) → list ≡ list_of lent.words (judged s lent).starts → list ≡ replicate m 0
  file_list m em list el =
      let none : (judged s lent).starts ≡ [] = none_listed s lent (sym ea ∙ e) in
      let k : lent.words - 0 ≡ m = omega (arith, em) in
      el ∙ ap (list_of lent.words) none ∙ ap (λ (n : ℕ). replicate n 0) k

-- the file is accepted
module _ (s : List ℕ) (lent : Lent) (a : Result Totals Refusal) (ea : a ≡ (judged s lent).answer) (totals : Totals) (et : a ≡ Ok totals) where
  accepts : (judged s lent).answer ≡ Ok totals
  accepts = sym ea ∙ et

  pub lines_fit : (list : List ℕ) → length list ≡ lent.words → totals.lines ≤ length list
  lines_fit list long = omega (arith, words-fit s lent totals accepts)

  module _ (list : List ℕ) (el : list ≡ list_of lent.words (judged s lent).starts) (n : ℕ) (found : Option Source)
      (ef : found ≡ source_of s (take totals.lines list) n) where
    listed : take totals.lines list ≡ (judged s lent).starts
    listed = ap (take totals.lines) el ∙ take_at (judged s lent).starts (replicate (lent.words - length (judged s lent).starts) 0)
        totals.lines (lines_listed s lent totals accepts)

    source_is : found ≡ source_of s (judged s lent).starts n
    source_is = ef ∙ ap (λ (starts : List ℕ). source_of s starts n) listed

    answered : (room : ℕ) (r : Result ℕ Refusal) → r ≡ on_source found s room → r ≡ purpose_answer s n lent room
    unfolding on_file
    answered room r er = rw (← ea, et, ← source_is) er

    pub not_there : (room : ℕ) → found ≡ None → Err (because NotThere 0) ≡ purpose_answer s n lent room
    unfolding on_source
    not_there room e = answered room (Err (because NotThere 0)) (rw e)

    module _ (source : Source) (es : found ≡ Some source) (out : List ℕ) where
      pub too_short : length out < purpose_long → Err (because OutputTooShort 0) ≡ purpose_answer s n lent (length out)
      unfolding on_source
      too_short h = answered (length out) (Err (because OutputTooShort 0)) (rw (es, lt-ltb (length out) purpose_long h))

      pub was_written : purpose_long ≤ length out → (r : ℕ) → r ≡ length (cut (source_text s source)) → Ok r ≡ purpose_answer s n lent (length out)
      unfolding on_source
      was_written h r er = answered (length out) (Ok r) (rw (es, le-ltb (length out) purpose_long h, er))

      pub text_there : (o : List ℕ) → o ≡ written out 0 (cut (source_text s source)) → o ≡ written out 0 (purpose_of s n lent)
      text_there o eo = eo ∙ ap (λ (x : Option Source). written out 0 (text_from s x)) (sym es ∙ source_is)

pub cleared : (m : ℕ) (list list2 : List ℕ) → length list ≡ m → list2 ≡ replicate (length list) 0 → list2 ≡ replicate m 0
cleared m list list2 long e = e ∙ ap (λ (k : ℕ). replicate k 0) long
