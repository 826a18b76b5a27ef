-- What was read of a file is enough to judge it: all of it, or more than a file may have.
use Rattle.std.proofs.Common.{◌≡◌, ℕ, ◌<◌, ◌≤◌, List, [], ◌++◌, length, take, sym, ap, ◌∙◌, subst, ⊎_elim, arith, append-nil}
use Rattle.std.proofs.Common.{length-append, length-take-le}
use Rattle.std.specs.Prelude.{Option, None, Some, IfSome, Result, Ok, Err, OnOk}
use Rattle.std.specs.Io.KnownBytes.{Appends, Consumes, IsAtEnd}
use Rattle.std.proofs.lemmas.Result.{on_ok_weaker}
use Rattle.std.specs.declared.io.Error.{Error}
use Rattle.streams.specs.Reads.{Held, Took}
use borrow.Author.Tests.{lt-ltb}
use Rattle.text.proofs.Numbers.{le_or_lt}
use Rattle.refusal.specs.Table.{because}
use Rattle.refusal.specs.declared.Reason.TheVariants.{FileTooLong}
use Rattle.file.specs.File.{judged}
use Rattle.dispatch.specs.Answer.{answer_to, line_of, lent}

-- a file that is too long is refused, whatever it is
too_long : (file : List ℕ) → 65535 < length file → judged file lent ≡ record { answer = Err (because FileTooLong 65535); starts = [] }
unfolding judged
too_long file h = simp (lt-ltb 65535 (length file) h)

-- so what stands behind the bytes that were read makes no difference, where they are too many
module _ (read rest : List ℕ) where
  cut : 65535 < length read → answer_to (read ++ rest) ≡ answer_to read
  cut h =
      let longer : 65535 < length (read ++ rest) = omega (arith, length-append read rest) in
      ap (λ j. line_of j.answer) (too_long (read ++ rest) longer ∙ sym (too_long read h))

  enough : (m : ℕ) → m ≡ length read → (m < 65536 → rest ≡ []) → answer_to (read ++ rest) ≡ answer_to read
  enough m long end = ⊎_elim over within (le_or_lt 65536 m)
    where
      over : 65536 ≤ m → answer_to (read ++ rest) ≡ answer_to read
      over h = cut (omega (arith, long))

      within : m < 65536 → answer_to (read ++ rest) ≡ answer_to read
      within h = ap (λ r. answer_to (read ++ r)) (end h) ∙ ap answer_to (append-nil read)

judged_read : (before after output output' : Option (List ℕ)) (n : ℕ) (buffer : List ℕ) → length buffer ≡ 65536 → n ≤ length buffer
    → Consumes before after (take n buffer) → (n < length buffer → IsAtEnd after) → Appends output output' (answer_to (take n buffer))
    → IfSome before (λ file. Appends output output' (answer_to file))
judged_read None after output output' n buffer long fits lost end told = tt
judged_read (Some file) None output output' n buffer long fits lost end told = absurd lost
judged_read (Some file) (Some rest) output output' n buffer long fits lost end told =
    let read = take n buffer in
    let many : n ≡ length read = sym (length-take-le n buffer fits) in
    let all : answer_to file ≡ answer_to read =
    ap answer_to lost ∙ enough read rest n many (λ h. end (omega (arith, long, h))) in
    subst (Appends output output') (sym all) told

pub judged_all : (before after output output' : Option (List ℕ)) (n : ℕ) (buffer line : List ℕ) (read : Result ℕ Error)
    (written : Result (Unit {0}) Error) → read ≡ Ok n → length buffer ≡ 65536 → Held read buffer → Took before after read buffer
    → line ≡ answer_to (take n buffer) → OnOk written (Appends output output' line)
    → OnOk written (IfSome before (λ file. Appends output output' (answer_to file)))
judged_all before after output output' n buffer line read written is long held took answer told =
    let fits = (subst (λ r. Held r buffer) is held).0 in
    let lost = subst (λ r. Took before after r buffer) is took in
    on_ok_weaker written
    (λ grown. judged_read before after output output' n buffer long fits lost.0 lost.1 (subst (Appends output output') answer grown)) told
