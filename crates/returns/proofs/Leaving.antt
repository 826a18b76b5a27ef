-- What a turn leaves, by the promises of what it calls.
use Rattle.std.proofs.Common.{◌≡◌, ℕ, ◌+◌, ◌<◌, ◌≤◌, List, [], ◌∷◌, ◌++◌, map, length, take, sym, ap, subst, ◌∙◌, add-one}
use Rattle.std.proofs.Common.{arith, length-take-le}
use Rattle.std.proofs.Math.ListN.{set}
use Rattle.std.proofs.Math.Seq.{take-suc-set}
use Rattle.std.specs.Prelude.{Option, Some, Result, Ok, OnOk}
use Rattle.std.proofs.lemmas.Result.{on_ok_weaker}
use Rattle.std.specs.declared.io.Error.{Error}
use Rattle.std.specs.Io.KnownBytes.{Appends}
use Rattle.std.proofs.KnownBytes.{Appends-trans}
use Rattle.scans.specs.Scans.{whole_lines, line_answer, bytes_of, printed, Keeps}
use borrow.Rule.Slice.PartMut.{put_mid}
use Rattle.streams.specs.Reads.{HeldPiece, TookPiece}
use Rattle.streams.proofs.Filling.{filled_on}
use Rattle.scans.specs.Pieces.{rest_of}
use Rattle.scans.specs.Tallying.{tallied}
use Rattle.scans.specs.declared.tally.Tally.{Tally}
use Rattle.scans.proofs.Repeating.{rest_kept}
use Rattle.returns.specs.Output.{counts_line, ending}
use Rattle.returns.specs.Turns.{Leaves, Turns, waiting_answers}
use Rattle.returns.specs.declared.Bench.{Bench}
use Rattle.returns.specs.declared.Told.{Told}
use Rattle.returns.proofs.Saying.{some_wait}

pub leaves_on : (buffer text : List ℕ) (there : ℕ) (before : Tally) (told : Told) (waiting : ℕ) (after : List ℕ) → text ≡ take there buffer
    → told.next ≡ bytes_of (whole_lines text) → told.counts ≡ tallied before (map line_answer (whole_lines text))
    → Keeps buffer told.next there waiting after
    → Leaves (take there buffer) before (record { waiting = waiting; counts = told.counts }) after
leaves_on buffer text there before told waiting after et ends counted keeps = (
  counted ∙ ap (λ s. tallied before (map line_answer (whole_lines s))) et,
  rest_kept buffer there told.next waiting after (ends ∙ ap (λ s. bytes_of (whole_lines s)) et) keeps,
)

-- the line feed ends what waits
pub line_ended : (buffer text : List ℕ) (waiting : ℕ) → waiting < length buffer → text ≡ take (waiting + 1) (set buffer waiting 10)
    → text ≡ take waiting buffer ++ (10 ∷ [])
line_ended buffer text waiting h e = e ∙ rw add-one (take-suc-set buffer waiting 10 h)

pub ends_on : (buffer text : List ℕ) (waiting : ℕ) (output between after : Option (List ℕ)) (before : Tally) (told : Told)
    (last : Result (Unit {0}) Error) → 0 < waiting → waiting < length buffer → text ≡ take (waiting + 1) (set buffer waiting 10)
    → told.counts ≡ tallied before (map line_answer (whole_lines text))
    → Appends output between (printed (map line_answer (whole_lines text)))
    → OnOk last (Appends between after (counts_line told.counts))
    → OnOk last (Appends output after (ending before (waiting_answers (take waiting buffer))))
ends_on buffer text waiting output between after before told last some h et counted said counts =
    let line = take waiting buffer in
    let full : text ≡ line ++ (10 ∷ []) = line_ended buffer text waiting h et in
    let answers : map line_answer (whole_lines text) ≡ waiting_answers line =
    ap (λ s. map line_answer (whole_lines s)) full
    ∙ sym (some_wait line (omega (arith, length-take-le waiting buffer (omega arith)))) in
    let all : told.counts ≡ tallied before (waiting_answers line) = counted ∙ ap (λ l. tallied before l) answers in
    on_ok_weaker last
    (λ grown. Appends-trans output between after (printed (waiting_answers line)) (counts_line (tallied before (waiting_answers line)))
    (subst (λ l. Appends output between (printed l)) answers said) (subst (λ k. Appends between after (counts_line k)) all grown))
    counts

pub turns_on : (input input' output output' : Option (List ℕ)) (waiting room n : ℕ) (buffer part : List ℕ) (read : Result (Option ℕ) Error)
    (before : Tally) (bench : Bench) (after : List ℕ) → waiting ≤ length buffer → read ≡ Ok (Some n) → HeldPiece read part
    → TookPiece input input' read part → Leaves (take (waiting + n) (put_mid waiting room buffer part)) before bench after
    → Appends output output' (printed (map line_answer (whole_lines (take (waiting + n) (put_mid waiting room buffer part)))))
    → Turns input output input' output' (take waiting buffer) before bench after
turns_on input input' output output' waiting room n buffer part read before bench after within is held took left said =
    let fits = (subst (λ r. HeldPiece r part) is held).0 in
    let same = filled_on waiting room n buffer part within fits in
    record {
      piece = take n part;
      lost = subst (λ r. TookPiece input input' r part) is took;
      said = subst (λ s. Appends output output' (printed (map line_answer (whole_lines s)))) (sym same) said;
      counted = subst (λ s. bench.counts ≡ tallied before (map line_answer (whole_lines s))) (sym same) left.0;
      kept = subst (λ s. take bench.waiting after ≡ take 17 (rest_of s)) (sym same) left.1;
    }
