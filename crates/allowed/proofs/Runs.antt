-- The judge from a state on: what it accepts is what is allowed from there on, and the other way round.
use Prim.Native.Nat.{ℕ, zero, suc, ◌+◌, ◌≤◌, ◌<◌}
use mathlib.Core.Path.{◌≡◌, refl, sym, ap, subst, ◌∙◌}
use mathlib.Core.Bool.{Bool, true, false}
use mathlib.Core.List.{List, [], ◌∷◌, ◌++◌, append-nil}
use mathlib.Core.Logic.{⊎_elim}
use native.Mathlib.Nat.{add-zero}
use native.Mathlib.Omega.{arith}
use lib.Dec.{ltb}
use lib.ListN.{length, drop, length-drop, drop_of_length-le}
use lib.Seq.{append_snoc}
use borrow.Author.Tests.{ltb-false, lt-ltb, le-ltb}
use Rattle.text.proofs.Choices.{came_then, true_or_false}
use Rattle.refusal.specs.declared.Reason.TheVariants.{FileEnds}
use Rattle.refusal.specs.Table.{because, verdict_on}
use Rattle.refusal.proofs.Verdicts.{no_pass}
use Rattle.records.specs.Record.{type_of, may_come, may_end}
use Rattle.records.specs.declared.record.Due.{Due}
use Rattle.records.specs.declared.record.Due.TheVariants.{After}
use Rattle.fields.specs.Profile.{profile}
use Rattle.records.specs.declared.version.Version.{Version}
use Rattle.fields.proofs.Rules.{sound}
use Rattle.line.specs.Parts.{fields_of}
use Rattle.line.specs.Line.{text_at, file_limit}
use Rattle.line.specs.declared.read.Line.{Line}
use Rattle.grammar.specs.Grammar.{LineOk, Reads}
use Rattle.grammar.proofs.Lines.{accepted_reads, reads_accepted, next_inside, next_far, rest_is, read_parts}
use Rattle.file.specs.Lent.{Lent}
use Rattle.file.specs.Contact.{contacts_behind, lacks_contact}
use Rattle.file.specs.Cash.{cash_of}
use Rattle.file.specs.Step.{behind, listing, on_line, step_answer, told_by}
use Rattle.file.specs.File.{Judged, ended, on_step, file_from}
use Rattle.file.specs.declared.step.State.{State}
use Rattle.file.specs.declared.whole.Totals.{Totals}
use Rattle.file.proofs.Lists.{word_left, left_word}
use Rattle.file.proofs.Stepping.{went}
use Rattle.allowed.specs.Allowed.{FileLine, line_bytes, codes_on, parcel_count, cash_total, line_starts}
use Rattle.allowed.proofs.Contacts.{parts_of}
use Rattle.allowed.proofs.Cash.{line_cash}
use Rattle.allowed.proofs.Codes.{Seen, seen_more, Fresh, fresh_not, not_fresh}
use Rattle.std.specs.Prelude.{Result, Ok, Err}
use Rattle.refusal.specs.declared.Refusal.{Refusal}

-- the lines that are left, behind lines with these codes, where this record is due, under a sender that has both contacts or has not
abbrev pub AllowedFrom : Version → List ℕ → List ℕ → List (List ℕ) → Due → Bool → List FileLine → Type 0
AllowedFrom version countries left codes due contacts [] = (left ≡ []) × (may_end due ≡ true)
AllowedFrom version countries left codes due contacts (l ∷ ls) =
    (rest : List ℕ) × (left ≡ line_bytes l ++ rest) × LineOk (profile version) l.kind l.fields × (may_come due l.kind ≡ true) ×
    (lacks_contact l.kind (parts_of l) countries contacts ≡ false) ×
    Fresh codes (codes_on l.kind l.fields) ×
    AllowedFrom version countries rest (codes ++ codes_on l.kind l.fields) (After l.kind) (contacts_behind l.kind (parts_of l) contacts) ls

-- what is then said of the file
abbrev pub totals_with : State → List FileLine → Totals
totals_with state ls = record {
  lines = state.lines + length ls;
  parcels = state.parcels + parcel_count ls;
  cents =
      state.cents + cash_total ls;
}

abbrev pub judged_with : List ℕ → State → List FileLine → Judged
judged_with starts state ls = record { answer = Ok (totals_with state ls); starts = starts ++ line_starts state.at ls }

-- no lines more
judged_none : (starts : List ℕ) (state : State) → record {
  answer =
      Ok (record { lines = state.lines; parcels = state.parcels; cents = state.cents });
  starts =
      starts;
} ≡ judged_with starts state []
judged_none starts state = rw (add-zero state.lines, add-zero state.parcels, add-zero state.cents, append-nil starts)

-- the same numbers and the same starts say the same
said : (lines parcels cents : ℕ) (starts : List ℕ) → Judged
said lines parcels cents starts = record { answer = Ok (record { lines = lines; parcels = parcels; cents = cents }); starts = starts }

said_same : {a b p q c d : ℕ} {x y : List ℕ} → a ≡ b → p ≡ q → c ≡ d → x ≡ y → said a p c x ≡ said b q d y
said_same {a} {b} {p} {q} {c} {d} {x} {y} e f g h =
    ap (λ (n : ℕ). said n p c x) e ∙ ap (λ (n : ℕ). said b n c x) f ∙ ap (λ (n : ℕ). said b q n x) g ∙ ap (said b q d) h

-- one line more
module _ (s starts : List ℕ) (state : State) (line : Line) (fs : List (List ℕ)) (g : Reads (told_by state) s state.at line fs)
    (ls : List FileLine) where
  judged_more : judged_with (starts ++ (state.at ∷ [])) (behind s state line) ls ≡ judged_with starts state
      (record { kind = line.kind; fields = fs } ∷ ls)
  unfolding said
  judged_more =
      said_same (omega arith) (omega arith)
      (omega (arith, ap (cash_of line.kind) (read_parts g), line_cash (sound state.version) line.kind fs g.allowed))
      (append_snoc starts state.at (line_starts line.next ls) ∙ ap (λ (n : ℕ). starts ++ (state.at ∷ line_starts n ls)) g.next)

-- what is accepted is allowed
pub record Ran (s : List ℕ) (lent : Lent) (starts : List ℕ) (codes : List (List ℕ)) (state : State) (said : Judged) : Type 0 where
  pub lines : List FileLine
  pub allowed : AllowedFrom state.version lent.countries (drop state.at s) codes state.due state.contacts lines
  pub room : state.lines + length lines ≤ lent.words
  pub same : said ≡ judged_with starts state lines

module _ (s : List ℕ) (lent : Lent) (in_limit : length s ≤ file_limit) (totals : Totals) (list : List ℕ) where
  abbrev pub result : Judged
  result = record { answer = Ok totals; starts = list }

  ran_none : (starts : List ℕ) (codes : List (List ℕ)) (state : State) → length s ≤ state.at → state.lines ≤ lent.words →
      ended s starts state ≡ result → Ran s lent starts codes state result
  ran_none starts codes state h room e =
      let a = came_then (may_end state.due) (record {
        answer =
            Ok (record { lines = state.lines; parcels = state.parcels; cents = state.cents });
        starts = starts;
      })
      (record { answer = Err (because FileEnds (length s)); starts = [] }) result (λ q. (no_pass verdict_on refl refl)
      (ap (λ (j : Judged). j.answer) q)) e in
      record {
        lines = [];
        allowed = (drop_of_length-le s {i = state.at} h, a.0);
        room = omega arith;
        same = sym a.1 ∙ judged_none starts state;
      }

  abbrev pub Rans : ℕ → Type 0
  Rans turns =
      (starts : List ℕ) (codes : List (List ℕ)) (state : State) → length s < turns + state.at → state.at ≤ length s → state.lines ≤ lent.words →
      Seen s starts codes → file_from turns s lent starts state ≡ result → Ran s lent starts codes state result

  ran_step :
      (turns : ℕ) → Rans turns → (starts : List ℕ) (codes : List (List ℕ)) (state : State) → length s < suc turns + state.at →
      Seen s starts codes →
      (step : Result State Refusal) → step_answer s lent starts state ≡ step → on_step step
      (λ next. file_from turns s lent (starts ++ (state.at ∷ [])) next) ≡ result → Ran s lent starts codes state result
  ran_step turns more starts codes state h seen (Err refusal) es e = absurd (no_pass verdict_on refl refl (ap (λ (j : Judged). j.answer) e))
  ran_step turns more starts codes state h seen (Ok next) es e =
      let w = went s lent starts state next es in
      let line = w.line in
      let fs = fields_of (text_at s state.at) in
      let g = accepted_reads (told_by state) s state.at line w.accepted in
      let codes' = codes ++ codes_on line.kind fs in
      let kept = contacts_behind line.kind (type_of line.kind ∷ fs) state.contacts in
      let r = more (starts ++ (state.at ∷ [])) codes' (behind s state line) (omega (arith, next_far g)) (next_inside g)
      (omega (arith, word_left lent.words state.lines w.room))
      (seen_more (sound state.version) s starts codes state.at line.kind fs g.rest seen g.stands g.allowed) (rw
      (← w.there) at e) in
      record {
        lines = record { kind = line.kind; fields = fs } ∷ r.lines;
        allowed = (
          g.rest,
          g.stands,
          g.allowed,
          g.comes,
          ap (λ (parts : List (List ℕ)). lacks_contact line.kind parts lent.countries state.contacts) (sym (read_parts g)) ∙ w.reached,
          fresh_not s starts codes state.at fs g.rest seen (sound state.version)
              line.kind g.stands g.allowed w.fresh,
          subst (λ (left : List ℕ). AllowedFrom state.version lent.countries left codes' (After line.kind) kept r.lines) (sym (rest_is g))
              (subst (λ (parts : List (List ℕ)). AllowedFrom state.version lent.countries (drop line.next s) codes' (After line.kind)
              (contacts_behind line.kind parts state.contacts) r.lines) (read_parts g) r.allowed),
        );
        room = omega (arith, r.room);
        same = r.same ∙ judged_more s starts state line fs g r.lines;
      }

  pub ran : (turns : ℕ) → Rans turns
  ran zero starts codes state h inside room seen e = absurd (omega arith)
  ran (suc turns) starts codes state h inside room seen e =
      ⊎_elim
      (λ (t : ltb state.at (length s) ≡ true). ran_step turns (ran turns) starts codes state h seen (step_answer s lent starts state) refl
      (rw t at e))
      (λ (f : ltb state.at (length s) ≡ false). ran_none starts codes state (ltb-false state.at (length s) f) room (rw f at e))
      (true_or_false (ltb state.at (length s)))

-- what is allowed is accepted
module _ (s : List ℕ) (lent : Lent) (in_limit : length s ≤ file_limit) where
  end_there : (turns : ℕ) (starts : List ℕ) (state : State) → length s ≤ state.at → may_end state.due ≡ true →
      file_from turns s lent starts state ≡ judged_with starts state []
  end_there zero starts state h e = rw e (judged_none starts state)
  end_there (suc turns) starts state h e = rw (le-ltb state.at (length s) h, e) (judged_none starts state)

  step_there :
      (starts : List ℕ) (codes : List (List ℕ)) (state : State) (line : Line) (fs : List (List ℕ))
      (g : Reads (told_by state) s state.at line fs) →
      lacks_contact line.kind (type_of line.kind ∷ fs) lent.countries state.contacts ≡ false →
      Seen s starts codes → Fresh codes (codes_on line.kind fs) → state.lines < lent.words →
      step_answer s lent starts state ≡ Ok (behind s state line)
  unfolding step_answer on_line listing
  step_there starts codes state line fs g reached seen fresh room =
      rw (
        reads_accepted g,
        ap (λ (parts : List (List ℕ)). lacks_contact line.kind parts lent.countries state.contacts) (read_parts g) ∙ reached,
        not_fresh s starts codes state.at fs g.rest seen (sound state.version) line.kind g.stands g.allowed fresh,
        left_word lent.words state.lines room,
      )

  pub runs : (ls : List FileLine) (turns : ℕ) (starts : List ℕ) (codes : List (List ℕ)) (state : State) → length ls ≤ turns →
      state.at ≤ length s → state.lines + length ls ≤ lent.words → Seen s starts codes →
      AllowedFrom state.version lent.countries (drop state.at s) codes state.due state.contacts ls →
      file_from turns s lent starts state ≡ judged_with starts state ls
  runs [] turns starts codes state few inside room seen a = end_there turns starts state
      (omega (arith, length-drop state.at s, ap length a.0)) a.1
  runs (l ∷ ls) zero starts codes state few inside room seen a = absurd (omega arith)
  runs (l ∷ ls) (suc turns) starts codes state few inside room seen a =
      let line : Line = record { kind = l.kind; count = length l.fields; next = state.at + length (line_bytes l) } in
      let g : Reads (told_by state) s state.at (record {
        kind = l.kind;
        count = length l.fields;
        next =
            state.at + length (line_bytes l);
      }) l.fields =
      record { in_limit = in_limit; comes = a.3; allowed = a.2; rest = a.0; stands = a.1; count = refl; next = refl } in
      let far = next_far g in
      let in-file = next_inside g in
      let on = runs ls turns (starts ++ (state.at ∷ [])) (codes ++ codes_on l.kind l.fields) (behind s state line)
      (omega arith) in-file (omega arith) (seen_more (sound state.version) s starts codes state.at l.kind l.fields a.0 seen a.1 a.2)
      (rw (← rest_is g, read_parts g) a.6) in
      rw (
        lt-ltb state.at (length s) (omega (arith, far, in-file)),
        step_there starts codes state line l.fields g a.4 seen a.5 (omega arith),
      ) (on
      ∙ judged_more s starts state line l.fields g ls)
