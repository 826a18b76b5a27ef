-- What the returns bench prints.
use Rattle.std.specs.Prelude.{ℕ, List, [], ◌∷◌, ◌++◌, codes}
use Rattle.streams.specs.Lines.{numbers}
use Rattle.scans.specs.Scans.{printed}
use Rattle.scans.specs.Pieces.{input_answers}
use Rattle.scans.specs.Tallying.{tallied, no_line}
use Rattle.scans.specs.declared.tally.Tally.{Tally}

-- `counts LINES PASSED LENGTH SYMBOL CHECK`
abbrev pub counts_line : Tally → List ℕ
counts_line counts =
    codes "counts" ++ numbers (counts.lines ∷ counts.passed ∷ counts.length ∷ counts.symbol ∷ counts.check ∷ [])

-- answers, and behind them their counts, where some were counted before
abbrev pub ending : Tally → List ℕ → List ℕ
ending before answers = printed answers ++ counts_line (tallied before answers)

-- all that is printed of an input: the answer of each line, in their order, and their counts
abbrev pub printed_of : List ℕ → List ℕ
printed_of input = ending no_line (input_answers input)
