-- What the file's own lines refuse the judge refuses: it reaches the end of the lines with which the file begins, and stops there.
use Prim.Native.Nat.{ℕ, zero, suc, ◌+◌, ◌≤◌, ◌<◌}
use mathlib.Core.Path.{◌≡◌, refl, sym, ap, subst, ◌∙◌}
use mathlib.Core.Bool.{true, false}
use mathlib.Core.List.{List, [], ◌∷◌, ◌++◌, append-nil}
use native.Mathlib.Omega.{arith}
use lib.ListN.{length, length-append}
use lib.Seq.{append_snoc}
use borrow.Author.Tests.{lt-ltb, le-ltb}
use Rattle.text.specs.Quoted.{bytes}
use Rattle.refusal.specs.Table.{because}
use Rattle.refusal.specs.declared.Refusal.{Refusal}
use Rattle.refusal.specs.declared.Reason.TheVariants.{IdentcodeRepeated, ListFull, FileEnds, ContactMissing}
use Rattle.records.specs.Record.{may_end}
use Rattle.line.specs.Line.{file_limit}
use Rattle.countries.specs.List.{is_paired}
use Rattle.file.specs.Lent.{Lent}
use Rattle.file.specs.Version.{version_of}
use Rattle.file.specs.Step.{behind, on_line, told_by, step_answer}
use Rattle.file.specs.File.{Judged, begin, file_from, judged}
use Rattle.file.specs.declared.step.State.{State}
use Rattle.allowed.specs.Allowed.{FileLine, line_bytes, file_bytes, identcodes}
use Rattle.allowed.proofs.Files.{line_some}
use Rattle.refused.specs.File.{Begins, RefusedFile}
use Rattle.refused.proofs.Lines.{line_answer_lem}
use Rattle.refused.proofs.Beginning.{Next, next_at, left_long}
use Rattle.refused.proofs.Standing.{Here, line_of, there, inside, here_line, before_end, behind_line}
use Rattle.refused.proofs.Standing.{step_lacks, step_repeats, step_full, step_on, repeats_code}
use Rattle.refused.proofs.Missing.{away_lacks, parcel_spared}
use Rattle.std.specs.Prelude.{Err}

module _ (s : List ℕ) (lent : Lent) where
  -- the judge reaches the end of the lines with which a file begins
  record Reached (ls : List FileLine) : Type 0 where
    turns : ℕ
    starts : List ℕ
    state : State
    enough : length s < turns + state.at
    here : Here s ls starts state
    same : file_from (length s + 1) s lent [] (begin (version_of s)) ≡ file_from turns s lent starts state

  module _ (ls : List FileLine) (l : FileLine) (left : List ℕ) (n : Next lent.countries s ls l left) where
    reach_one : length ls < lent.words → Reached ls → Reached (ls ++ (l ∷ []))
    unfolding line_of
    reach_one room r = go r.turns r.enough r.same
      where
        h : Here s ls r.starts r.state
        h = r.here

        inner : r.state.at < length s
        inner = before_end s ls r.starts r.state h lent l left n.follows

        go : (turns : ℕ) → length s < turns + r.state.at →
            file_from (length s + 1) s lent [] (begin (version_of s)) ≡ file_from turns s lent r.starts r.state → Reached (ls ++ (l ∷ []))
        go zero enough same = absurd (omega (arith, inner))
        go (suc turns) enough same =
            record {
              turns = turns;
              starts = r.starts ++ (r.state.at ∷ []);
              state = behind s r.state (line_of r.state.at l);
              enough = omega (arith, line_some l);
              here = behind_line s ls r.starts r.state h lent l left n.follows;
              same =
                  same
                  ∙ rw (
                    lt-ltb r.state.at (length s) inner,
                    step_on s ls r.starts r.state h lent l left n.follows n.reached n.fresh (omega (arith, h.count)),
                  );
            }

  reach : (todo : List FileLine) (done : List FileLine) (left : List ℕ) → Begins lent.countries s (done ++ todo) left →
      length done + length todo ≤ lent.words →
      Reached done → Reached (done ++ todo)
  reach [] done left b room r = subst Reached (sym (append-nil done)) r
  reach (l ∷ todo) done left b room r =
      let n = next_at lent.countries s done l todo left b in
      let one = reach_one done l (file_bytes todo ++ left) n (omega arith) r in
      subst Reached (append_snoc done l todo)
      (reach todo (done ++ (l ∷ [])) left (subst (λ (x : List FileLine). Begins lent.countries s x left) (sym (append_snoc done l todo)) b)
      (omega (arith, length-append done (l ∷ []))) one)

  reached : (ls : List FileLine) (left : List ℕ) → Begins lent.countries s ls left → length ls ≤ lent.words → Reached ls
  reached ls left b room =
      reach ls [] left b (omega arith)
      (record {
        turns = length s + 1;
        starts = [];
        state = begin (version_of s);
        enough = omega arith;
        here = record { place = refl; count = refl; version = refl; next = refl; seen = λ at. refl; contacts = refl };
        same = refl;
      })

  from_begin : length s ≤ file_limit → is_paired lent.countries ≡ true → judged s lent ≡ file_from (length s + 1) s lent [] (begin (version_of s))
  unfolding judged
  from_begin in_limit paired = rw (le-ltb file_limit (length s) in_limit, paired)

  -- a step that stops there
  stops_there : (turns : ℕ) (starts : List ℕ) (state : State) (refusal : Refusal) → length s < turns + state.at → state.at < length s →
      step_answer s lent starts state ≡ Err refusal → (file_from turns s lent starts state).answer ≡ Err refusal
  stops_there zero starts state refusal enough some e = absurd (omega arith)
  stops_there (suc turns) starts state refusal enough some e = rw (lt-ltb state.at (length s) some, e)

  ends_there : (turns : ℕ) (starts : List ℕ) (state : State) → length s ≤ state.at → may_end state.due ≡ false →
      (file_from turns s lent starts state).answer ≡ Err (because FileEnds (length s))
  ends_there zero starts state h e = rw e
  ends_there (suc turns) starts state h e = rw (le-ltb state.at (length s) h, e)

  -- the answer at the place reached
  answer_there : (ls : List FileLine) (r : Reached ls) → length s ≤ file_limit → is_paired lent.countries ≡ true → (refusal : Refusal) →
      r.state.at < length s →
      step_answer s lent r.starts r.state ≡ Err refusal → (judged s lent).answer ≡ Err refusal
  answer_there ls r in_limit paired refusal some e =
      ap (λ (j : Judged). j.answer) (from_begin in_limit paired ∙ r.same) ∙ stops_there r.turns r.starts r.state refusal r.enough some e

  pub refused_judged : (refusal : Refusal) → RefusedFile s lent refusal → (judged s lent).answer ≡ Err refusal
  unfolding judged step_answer on_line
  refused_judged refusal (RefusedFile.file_too_long h) = rw (lt-ltb file_limit (length s) h)
  refused_judged refusal (RefusedFile.countries_odd h odd) = rw (le-ltb file_limit (length s) h, odd)
  refused_judged refusal (RefusedFile.line_refused ls left other b room some g) =
      let r = reached ls left b room in
      let h = r.here in
      let e = line_answer_lem (told_by r.state) s r.state.at b.in_limit (inside s ls r.starts r.state h left b) other
      (here_line s ls r.starts r.state h left b other g) in
      answer_there ls r b.in_limit b.paired other (left_some left some (omega (arith, h.place, left_long s ls left b))) (rw e)
    where
      left_some : (left : List ℕ) → (left ≡ [] → ⊥) → {at : ℕ} → length s ≡ at + length left → at < length s
      left_some [] n e = absurd (n refl)
      left_some (x ∷ left) n e = omega arith
  refused_judged refusal (RefusedFile.contact_missing ls l left f room k listed away) =
      let r = reached ls (line_bytes l ++ left) f.begins room in
      let h = r.here in
      answer_there ls r f.begins.in_limit f.begins.paired (because ContactMissing r.state.at)
      (before_end s ls r.starts r.state h lent l left f)
      (step_lacks s ls r.starts r.state h lent l left f (away_lacks lent.countries ls l k listed away))
      ∙ ap (λ (x : ℕ). Err (because ContactMissing x)) h.place
  refused_judged refusal (RefusedFile.identcode_repeated ls l left f room k e) =
      let r = reached ls (line_bytes l ++ left) f.begins room in
      let h = r.here in
      let at-line = there s ls r.starts r.state h (line_bytes l ++ left) f.begins in
      let t = repeats_code (version_of s) l.kind s r.starts r.state.at (identcodes ls) l.fields left h.seen k at-line f.ok ∙ e in
      let p : r.state.at + 4 ≡ length (file_bytes ls ++ bytes "040;") = omega (arith, h.place, length-append (file_bytes ls) (bytes "040;")) in
      answer_there ls r f.begins.in_limit f.begins.paired (because IdentcodeRepeated (r.state.at + 4))
      (before_end s ls r.starts r.state h lent l left f)
      (step_repeats s ls r.starts r.state h lent l left f (parcel_spared lent.countries ls l k) t)
      ∙ ap (λ (x : ℕ). Err (because IdentcodeRepeated x)) p
  refused_judged refusal (RefusedFile.list_full ls l left b full) =
      let n = next_at lent.countries s ls l [] left b in
      let r = reached ls (line_bytes l ++ left) n.follows.begins (omega arith) in
      let h = r.here in
      answer_there ls r b.in_limit b.paired (because ListFull r.state.at)
      (before_end s ls r.starts r.state h lent l left n.follows)
      (step_full s ls r.starts r.state h lent l left n.follows n.reached n.fresh (omega (arith, h.count)))
      ∙ ap (λ (x : ℕ). Err (because ListFull x)) h.place
  refused_judged refusal (RefusedFile.file_ends ls b room e) =
      let r = reached ls [] b room in
      let h = r.here in
      ap (λ (j : Judged). j.answer) (from_begin b.in_limit b.paired ∙ r.same)
      ∙ ends_there r.turns r.starts r.state (omega (arith, h.place, left_long s ls [] b)) (ap may_end h.next ∙ e)
