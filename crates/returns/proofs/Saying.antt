-- What was printed: the answers of a text call after call, of an input turn after turn, and behind them the counts.
use Rattle.std.proofs.Common.{◌≡◌, ℕ, ◌+◌, ◌-◌, ◌/◌, ◌<◌, ◌≤◌, List, [], ◌∷◌, ◌++◌, map, length, take, drop, sym, refl, ap, ◌∙◌, subst}
use Rattle.std.proofs.Common.{append-nil, append_assoc, arith, take-append-drop, take_all, drop_of_length-le, drop-drop}
use Rattle.std.proofs.lemmas.List.{take_at}
use Rattle.std.specs.Prelude.{Option, IfSome, true, Result, OnOk}
use Rattle.std.specs.declared.io.Error.{Error}
use Rattle.std.proofs.lemmas.Result.{on_ok_weaker}
use Rattle.std.specs.Io.KnownBytes.{Appends, Consumes, Keeps, IsAtEnd}
use Rattle.std.proofs.KnownBytes.{Appends-nil, Appends-trans, Consumes-nil, Consumes-trans, Consumes-kept, Consumes-whole}
use borrow.Author.Tests.{le-ltb}
use Rattle.text.specs.Placed.{placed}
use Rattle.text.proofs.Placing.{placed_there, placed_long}
use Rattle.scans.specs.declared.Answered.{Answered}
use Rattle.scans.specs.declared.tally.Tally.{Tally}
use Rattle.scans.specs.Scans.{whole_lines, line_answer, at_once, due_lines, bytes_of, printed, AnswersLines, Prints}
use Rattle.scans.specs.Pieces.{rest_of, last_answer}
use Rattle.scans.specs.Tallying.{tallied, no_line}
use Rattle.scans.proofs.Laying.{map_both}
use Rattle.text.specs.Scan.{all, in_line}
use Rattle.scans.proofs.Pieces.{goes_on, pieces_answered, pieces_kept, last_line, no_feed_inside, rest_run}
use Rattle.scans.proofs.Splitting.{lines_run}
use Rattle.scans.proofs.Printing.{printed_both}
use Rattle.scans.proofs.Repeating.{Going, front, bytes_due}
use Rattle.scans.proofs.Tallying.{tally_both}
use Rattle.returns.specs.declared.Bench.{Bench}
use Rattle.returns.specs.Output.{ending, printed_of, counts_line}
use Rattle.returns.specs.Turns.{Turns, waiting_answers}

-- answers of at most 1,024 lines have room
prints_whole : (answers output after : List ℕ) (count : ℕ) → Prints answers output count after → length answers ≤ 1024 → length output ≡ 3072
    → take count after ≡ printed answers
prints_whole answers output after count prints few long =
    let third : length output / 3 ≡ 1024 = ap (λ n. n / 3) long in
    let room = le-ltb (length output / 3) (length answers) (omega arith) in
    let many : count ≡ length (printed answers) = prints.0 ∙ rw room in
    let put : after ≡ placed output 0 (printed answers) = prints.1 ∙ rw room in
    let fits : 0 + length (printed answers) ≤ length output =
    omega (arith, prints.2, many, ap length put, placed_long output 0 (printed answers)) in
    let is : after ≡ printed answers ++ drop (0 + length (printed answers)) output = put ∙ placed_there output 0 (printed answers) fits in
    ap (λ l. take count l) is ∙ take_at (printed answers) (drop (0 + length (printed answers)) output) count (sym many)

pub prints_all : (before after : Option (List ℕ)) (answers output lines : List ℕ) (count : ℕ) (written : Result (Unit {0}) Error)
    → Prints answers output count lines → length output ≡ 3072 → OnOk written (Appends before after (take count lines))
    → OnOk written (length answers ≤ 1024 → Appends before after (printed answers))
prints_all before after answers output lines count written prints long =
    on_ok_weaker written (λ grown few. subst (Appends before after) (prints_whole answers output lines count prints few long) grown)

-- some answers of a text are printed, and those of the lines from a place on are the others
pub record Said (text : List ℕ) (at : ℕ) (output after : Option (List ℕ)) : Type 0 where
  pub said : List ℕ
  pub grown : Appends output after (printed said)
  pub others : said ++ map line_answer (whole_lines (drop at text)) ≡ map line_answer (whole_lines text)

pub said_none : (text : List ℕ) (output : Option (List ℕ)) → Said text 0 output output
said_none text output = record { said = []; grown = Appends-nil output; others = refl }

no_more : (text : List ℕ) → whole_lines (drop (bytes_of (whole_lines text)) text) ≡ []
no_more text =
    let lines = whole_lines text in
    let all : take (length lines) lines ≡ lines = take_all (length lines) lines (omega arith) in
    ap (λ l. whole_lines (drop (bytes_of l) text)) (sym all) ∙ goes_on text (length lines) ∙ drop_of_length-le lines (omega arith)

pub said_all : {text : List ℕ} {at : ℕ} {output after : Option (List ℕ)} → Said text at output after → at ≡ bytes_of (whole_lines text)
    → Appends output after (printed (map line_answer (whole_lines text)))
said_all {text} {at} {output} {after} s end =
    let none : whole_lines (drop at text) ≡ [] = ap (λ k. whole_lines (drop k text)) end ∙ no_more text in
    let all : s.said ≡ map line_answer (whole_lines text) =
    sym (append-nil s.said) ∙ ap (λ l. s.said ++ map line_answer l) (sym none) ∙ s.others in
    subst (λ l. Appends output after (printed l)) all s.grown

-- one call more, on the part from here to the text's end
pub said_on : {text : List ℕ} {before : Tally} {at : ℕ} {counts : Tally} (s : Going text before at counts) (output between after : Option (List ℕ))
    (answers : List ℕ) (answered : Answered) (told : List ℕ) → Said text at output between
    → AnswersLines (take (length text - at) (drop at text)) answers answered told
    → Appends between after (printed (take answered.lines told)) → Said text (at + answered.next) output after
said_on {text} {before} {at} {counts} s output between after answers answered told p call more =
    let k = at_once (length answers) in
    let lines = whole_lines (drop at text) in
    let due = due_lines (drop at text) (length answers) in
    let put : take answered.lines told ≡ map line_answer due = front s answers answered told call in
    let next : answered.next ≡ bytes_of due = bytes_due s answers answered told call in
    let left : whole_lines (drop (at + answered.next) text) ≡ drop k lines =
    ap whole_lines (sym (drop-drop answered.next at text)) ∙ ap (λ n. whole_lines (drop n (drop at text))) next ∙ goes_on (drop at text) k in
    let both : map line_answer due ++ map line_answer (drop k lines) ≡ map line_answer lines =
    sym (map_both due (drop k lines)) ∙ ap (λ l. map line_answer l) (take-append-drop k lines) in
    record {
      said = p.said ++ map line_answer due;
      grown =
          subst (Appends output after) (sym (printed_both p.said (map line_answer due)))
          (Appends-trans output between after (printed p.said) (printed (map line_answer due)) p.grown
          (subst (λ l. Appends between after (printed l)) put more));
      others =
          ap (λ l. p.said ++ map line_answer due ++ map line_answer l) left
          ∙ append_assoc p.said (map line_answer due) (map line_answer (drop k lines))
          ∙ ap (λ l. p.said ++ l) both
          ∙ p.others;
    }

-- the answer of a last line, where bytes wait
pub some_wait : (line : List ℕ) → 0 < length line → waiting_answers line ≡ map line_answer (whole_lines (line ++ (10 ∷ [])))
some_wait [] h = absurd (omega arith)
some_wait (b ∷ line) h = refl

-- Turn after turn: the bytes so far, those that wait among them, are lost by the input, and the answers of their lines are printed and
-- counted.
pub record Done (input input' output output' : Option (List ℕ)) (waiting : List ℕ) (counts : Tally) : Type 0 where
  pub bytes : List ℕ
  pub lost : Consumes input input' bytes
  pub said : Appends output output' (printed (map line_answer (whole_lines bytes)))
  pub counted : counts ≡ tallied no_line (map line_answer (whole_lines bytes))
  pub kept : waiting ≡ take 17 (rest_of bytes)

pub nothing_done : (input output : Option (List ℕ)) (waiting : ℕ) (buffer : List ℕ) (counts : Tally) → waiting ≡ 0 → counts ≡ no_line
    → Done input input output output (take waiting buffer) counts
nothing_done input output waiting buffer counts none start =
    record {
      bytes = [];
      lost = Consumes-nil input;
      said = Appends-nil output;
      counted = start;
      kept = ap (λ n. take n buffer) none;
    }

pub done_on : (i₀ i i' o₀ o o' : Option (List ℕ)) (waiting : List ℕ) (counts : Tally) (bench : Bench) (buffer : List ℕ)
    → Done i₀ i o₀ o waiting counts → Turns i o i' o' waiting counts bench buffer → Done i₀ i' o₀ o' (take bench.waiting buffer) bench.counts
done_on i₀ i i' o₀ o o' waiting counts bench buffer d t =
    let first = map line_answer (whole_lines d.bytes) in
    let text : waiting ++ t.piece ≡ take 17 (rest_of d.bytes) ++ t.piece = ap (λ l. l ++ t.piece) d.kept in
    let next = map line_answer (whole_lines (waiting ++ t.piece)) in
    let all : first ++ next ≡ map line_answer (whole_lines (d.bytes ++ t.piece)) =
    ap (λ l. first ++ map line_answer (whole_lines l)) text ∙ pieces_answered d.bytes t.piece in
    record {
      bytes = d.bytes ++ t.piece;
      lost = Consumes-trans i₀ i i' d.bytes t.piece d.lost t.lost;
      said =
          subst (Appends o₀ o') (sym (printed_both first next) ∙ ap printed all)
          (Appends-trans o₀ o o' (printed first) (printed next) d.said t.said);
      counted =
          t.counted ∙ ap (λ k. tallied k next) d.counted ∙ sym (tally_both no_line first next) ∙ ap (λ l. tallied no_line l) all;
      kept = t.kept ∙ ap (λ l. take 17 (rest_of l)) text ∙ pieces_kept d.bytes t.piece;
    }

-- what waits is answered as the last line, of which it may be the beginning
module _ (bytes : List ℕ) where
  plain_rest : all in_line (rest_of bytes) ≡ true
  plain_rest = (no_feed_inside bytes).1

  last_cut : map line_answer (whole_lines (take 17 (rest_of bytes) ++ (10 ∷ []))) ≡ line_answer (rest_of bytes) ∷ []
  last_cut =
      let r = rest_of bytes in
      let none : whole_lines r ≡ [] = ap whole_lines (sym (append-nil r)) ∙ lines_run [] r [] plain_rest in
      let same : rest_of r ≡ r = rest_run [] r plain_rest in
      ap (λ l. map line_answer (whole_lines (take 17 l ++ (10 ∷ [])))) (sym same)
      ∙ ap (λ l. map line_answer l ++ map line_answer (whole_lines (take 17 (rest_of r) ++ (10 ∷ [])))) (sym none)
      ∙ pieces_answered r (10 ∷ [])
      ∙ ap (λ l. map line_answer l) (last_line bytes)

last_as : (r : List ℕ) → map line_answer (whole_lines (take 17 r ++ (10 ∷ []))) ≡ line_answer r ∷ [] → waiting_answers (take 17 r) ≡ last_answer r
last_as [] h = refl
last_as (b ∷ line) h = h

last_waits : (bytes : List ℕ) → waiting_answers (take 17 (rest_of bytes)) ≡ last_answer (rest_of bytes)
last_waits bytes = last_as (rest_of bytes) (last_cut bytes)

pub done_all : (i₀ i i' o₀ o o' : Option (List ℕ)) (waiting : List ℕ) (counts : Tally)
    → Done i₀ i o₀ o waiting counts → Keeps i i' × IsAtEnd i' → Appends o o' (ending counts (waiting_answers waiting))
    → IfSome i₀ (λ bytes. Appends o₀ o' (printed_of bytes))
done_all i₀ i i' o₀ o o' waiting counts d end more =
    let first = map line_answer (whole_lines d.bytes) in
    let last = last_answer (rest_of d.bytes) in
    let waits : waiting_answers waiting ≡ last = ap waiting_answers d.kept ∙ last_waits d.bytes in
    let counted : tallied counts last ≡ tallied no_line (first ++ last) =
    ap (λ k. tallied k last) d.counted ∙ sym (tally_both no_line first last) in
    let ends : ending counts (waiting_answers waiting) ≡ printed last ++ counts_line (tallied no_line (first ++ last)) =
    ap (ending counts) waits ∙ ap (λ k. printed last ++ counts_line k) counted in
    let whole : printed first ++ ending counts (waiting_answers waiting) ≡ printed_of d.bytes =
    ap (λ l. printed first ++ l) ends
    ∙ sym (append_assoc (printed first) (printed last) (counts_line (tallied no_line (first ++ last))))
    ∙ ap (λ l. l ++ counts_line (tallied no_line (first ++ last))) (sym (printed_both first last)) in
    Consumes-whole i₀ i' d.bytes (λ bytes. Appends o₀ o' (printed_of bytes)) (Consumes-kept i₀ i i' d.bytes d.lost end.0) end.1
    (subst (Appends o₀ o') whole (Appends-trans o₀ o o' (printed first) (ending counts (waiting_answers waiting)) d.said more))
