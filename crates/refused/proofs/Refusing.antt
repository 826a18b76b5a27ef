-- What the judge refuses is refused by the file's own lines.
use Prim.Native.Nat.{ℕ, zero, suc, ◌+◌, ◌≤◌, ◌<◌}
use mathlib.Core.Path.{◌≡◌, refl, sym, ap, subst, ◌∙◌}
use mathlib.Core.Bool.{Bool, true, false, not}
use mathlib.Core.List.{List, [], ◌∷◌, ◌++◌}
use native.Mathlib.Omega.{arith}
use lib.Dec.{ltb}
use lib.ListN.{length, drop, length-append}
use borrow.Author.Tests.{ltb-true, ltb-false}
use Rattle.std.specs.Prelude.{if◌then◌else◌, Result, Ok, Err}
use Rattle.text.specs.Quoted.{bytes}
use Rattle.text.proofs.Scans.{no_bytes}
use Rattle.refusal.specs.Table.{because, verdict_on}
use Rattle.refusal.specs.declared.Refusal.{Refusal}
use Rattle.refusal.specs.declared.Reason.TheVariants.{FileTooLong, IdentcodeRepeated, ListFull, FileEnds, ContactMissing, CountriesOdd}
use Rattle.refusal.proofs.Verdicts.{no_pass}
use Rattle.records.specs.Record.{may_come, may_end}
use Rattle.records.specs.declared.record.Due.{Due}
use Rattle.line.specs.Parts.{split, fields_of}
use Rattle.line.specs.Told.{Told}
use Rattle.line.specs.Line.{text_at, line_answer, file_limit}
use Rattle.line.specs.declared.read.Line.{Line}
use Rattle.grammar.specs.Grammar.{LineOk, Reads}
use Rattle.grammar.proofs.Lines.{accepted_reads}
use Rattle.countries.specs.List.{is_paired}
use Rattle.fields.specs.Profile.{profile}
use Rattle.fields.proofs.Rules.{sound}
use Rattle.records.specs.declared.version.Version.{Version}
use Rattle.file.specs.Lent.{Lent}
use Rattle.file.specs.Version.{version_of}
use Rattle.file.specs.Contact.{lacks_contact}
use Rattle.file.specs.Identcode.{repeats}
use Rattle.file.specs.Step.{behind, has_word, listing, on_line, told_by, step_answer}
use Rattle.file.specs.File.{Judged, begin, passed, ended, on_step, file_from, judged}
use Rattle.file.specs.declared.step.State.{State}
use Rattle.file.proofs.Lists.{word_left, word_none}
use Rattle.allowed.specs.Allowed.{FileLine, file_bytes, identcodes}
use Rattle.allowed.proofs.Files.{line_some}
use Rattle.allowed.proofs.Contacts.{parts_of, contacts_after}
use Rattle.allowed.proofs.Codes.{fresh_not}
use Rattle.refused.specs.Line.{RefusedLine, RefusedAt}
use Rattle.refused.specs.File.{Begins, NextLine, RefusedFile}
use Rattle.refused.proofs.Lines.{answer_refused}
use Rattle.refused.proofs.Beginning.{Next, begins_more, left_long}
use Rattle.refused.proofs.Standing.{Here, line_of, there, inside, line_here, behind_line}
use Rattle.refused.proofs.Standing.{asks, repeats_parcel, repeats_code}
use Rattle.refused.proofs.Missing.{lacks_told}
use Rattle.file.specs.declared.whole.Totals.{Totals}

-- a refusal at an offset in a file that is not too long is one of the line there
in_line_lem : (told : Told) (s : List ℕ) (at : ℕ) → length s ≤ file_limit → at ≤ length s → (refusal : Refusal) → RefusedAt told s at refusal →
    RefusedLine told at (drop at s) refusal
in_line_lem told s at small l refusal (RefusedAt.file_too_long h) = absurd (omega arith)
in_line_lem told s at small l refusal (RefusedAt.past_the_file h k) = absurd (omega arith)
in_line_lem told s at small l refusal (RefusedAt.line_refused other h k g) = g

module _ (s : List ℕ) (lent : Lent) where
  -- what is refused, from the lines so far on
  module _ (refusal : Refusal) where
    is : (other : Refusal) → ◌≡◌ {A = Result Totals Refusal} (Err other) (Err refusal) → RefusedFile s lent other → RefusedFile s lent refusal
    is other e g = let same : other ≡ refusal = cc in subst (RefusedFile s lent) same g

    abbrev Refuses : ℕ → Type 0
    Refuses turns =
        (ls : List FileLine) (left : List ℕ) (starts : List ℕ) (state : State) → length s < turns + state.at → Begins lent.countries s ls left →
        length ls ≤ lent.words → Here s ls starts state → (file_from turns s lent starts state).answer ≡ Err refusal → RefusedFile s lent refusal

    -- one step
    module _ (turns : ℕ) (more : Refuses turns) (ls : List FileLine) (left : List ℕ) (starts : List ℕ) (state : State)
        (enough : length s < suc turns + state.at) (b : Begins lent.countries s ls left) (room : length ls ≤ lent.words) (h : Here s ls starts state)
        (some : state.at < length s) where
      abbrev on : State → Judged
      on next = file_from turns s lent (starts ++ (state.at ∷ [])) next

      -- the line there is accepted
      module _ (line : Line) (ea : line_answer (told_by state) s state.at ≡ Ok line) where
        g : Reads (told_by state) s state.at line (fields_of (text_at s state.at))
        g = accepted_reads (told_by state) s state.at line ea

        abbrev l : FileLine
        l = record { kind = line.kind; fields = fields_of (text_at s state.at) }

        follows : NextLine lent.countries s ls l g.rest
        follows =
            record {
              begins = subst (Begins lent.countries s ls) (sym (there s ls starts state h left b) ∙ g.stands) b;
              ok = subst (λ (v : Version). LineOk (profile v) line.kind l.fields) h.version g.allowed;
              comes = ap (λ (d : Due). may_come d l.kind) (sym h.next) ∙ g.comes;
            }

        abbrev lacks : Bool
        lacks = lacks_contact line.kind (parts_of l) lent.countries (contacts_after true ls)

        missing : lacks ≡ true → ◌≡◌ {A = Result Totals Refusal} (Err (because ContactMissing state.at)) (Err refusal) → RefusedFile s lent refusal
        missing m e =
            let away = lacks_told lent.countries ls l m in
            is (because ContactMissing state.at) e
            (subst (λ (x : ℕ). RefusedFile s lent (because ContactMissing x)) (sym h.place)
            (RefusedFile.contact_missing ls l g.rest follows room away.0 away.1 away.2))

        repeated : repeats line.kind s starts state.at ≡ true →
            ◌≡◌ {A = Result Totals Refusal} (Err (because IdentcodeRepeated (state.at + 4))) (Err refusal) →
            RefusedFile s lent refusal
        repeated r e =
            let k = repeats_parcel line.kind s starts state.at r in
            let p : length (file_bytes ls ++ bytes "040;") ≡ state.at + 4 = omega (arith, h.place, length-append (file_bytes ls) (bytes "040;")) in
            is (because IdentcodeRepeated (state.at + 4)) e
            (subst (λ (x : ℕ). RefusedFile s lent (because IdentcodeRepeated x)) p
            (RefusedFile.identcode_repeated ls l g.rest follows room k
            (sym
            (repeats_code state.version line.kind s starts state.at (identcodes ls) l.fields g.rest h.seen k g.stands
            g.allowed) ∙ r)))

        module _ (reached : lacks ≡ false) (fresh : repeats line.kind s starts state.at ≡ false) where
          next : Next lent.countries s ls l g.rest
          next =
              record {
                follows = follows;
                reached = reached;
                fresh = fresh_not s starts (identcodes ls) state.at l.fields g.rest h.seen (sound state.version) line.kind
                    g.stands g.allowed fresh;
              }

          full : lent.words ≤ state.lines → ◌≡◌ {A = Result Totals Refusal} (Err (because ListFull state.at)) (Err refusal) → RefusedFile s lent refusal
          full f e =
              is (because ListFull state.at) e
              (subst (λ (x : ℕ). RefusedFile s lent (because ListFull x)) (sym h.place)
              (RefusedFile.list_full ls l g.rest (begins_more lent.countries s ls l g.rest next) (omega (arith, h.count))))

          goes_on : state.lines < lent.words → (on (behind s state line)).answer ≡ Err refusal → RefusedFile s lent refusal
          unfolding line_of
          goes_on f e =
              let same : line_of state.at l ≡ line = same_line (sym g.count) (sym g.next) in
              let e' : (on (behind s state (line_of state.at l))).answer ≡ Err refusal =
              ap (λ (x : Line). (on (behind s state x)).answer) same ∙ e in
              more (ls ++ (l ∷ [])) g.rest (starts ++ (state.at ∷ [])) (behind s state (line_of state.at l))
              (omega (arith, line_some l)) (begins_more lent.countries s ls l g.rest next) (omega (arith, h.count, length-append ls (l ∷ [])))
              (behind_line s ls starts state h lent l g.rest follows) e'
            where
              same_line : {count count' next next' : ℕ} → count ≡ count' → next ≡ next' →
                  ◌≡◌ {A = Line} (record { kind = line.kind; count = count; next = next }) (record { kind = line.kind; count = count'; next = next' })
              same_line c n = rw (c, n)

      step_refused : (a : Result Line Refusal) → line_answer (told_by state) s state.at ≡ a →
          (on_step (on_line a s lent starts state) on).answer ≡ Err refusal →
          RefusedFile s lent refusal
      unfolding on_line listing
      step_refused (Err other) ea e =
          let r = in_line_lem (told_by state) s state.at b.in_limit (inside s ls starts state h left b) other
          (answer_refused (told_by state) s state.at other ea) in
          is other e (RefusedFile.line_refused ls left other b room (λ z. omega (arith, h.place, left_long s ls left b, ap length z))
          (line_here s ls starts state h left b other r))
      step_refused (Ok line) ea e =
          go (lacks_contact line.kind (split (text_at s state.at)) lent.countries state.contacts)
          (repeats line.kind s starts state.at) (has_word lent.words state.lines)
          (sym (asks s ls starts state h lent.countries line (fields_of (text_at s state.at)) (g line ea))) refl refl e
        where
          go : (v t u : Bool) → lacks line ea ≡ v → repeats line.kind s starts state.at ≡ t → has_word lent.words state.lines ≡ u →
              (on_step (if v then Err (because ContactMissing state.at)
              else (if t then Err (because IdentcodeRepeated (state.at + 4))
              else (if not u then Err (because ListFull state.at) else Ok (behind s state line)))) on).answer ≡ Err refusal →
              RefusedFile s lent refusal
          go true t u v r f q = missing line ea v q
          go false true u v r f q = repeated line ea r q
          go false false false v r f q = full line ea v r (word_none lent.words state.lines f) q
          go false false true v r f q = goes_on line ea v r (word_left lent.words state.lines f) q

    at_end : (ls : List FileLine) (left : List ℕ) (starts : List ℕ) (state : State) → Begins lent.countries s ls left → length ls ≤ lent.words →
        Here s ls starts state →
        length s ≤ state.at → (ended s starts state).answer ≡ Err refusal → RefusedFile s lent refusal
    at_end ls left starts state b room h e q = go (may_end state.due) refl q
      where
        go : (t : Bool) → may_end state.due ≡ t →
            (if t then passed starts state else record { answer = Err (because FileEnds (length s)); starts = [] }).answer ≡ Err refusal →
            RefusedFile s lent refusal
        go true m q = absurd (no_pass verdict_on refl refl (sym q))
        go false m q =
            is (because FileEnds (length s)) q
            (RefusedFile.file_ends ls (subst (Begins lent.countries s ls) (no_bytes left (omega (arith, h.place, left_long s ls left b))) b) room
            (ap may_end (sym h.next) ∙ m))

    from_refused : (turns : ℕ) → Refuses turns
    unfolding step_answer
    from_refused zero ls left starts state enough b room h e = absurd (omega (arith, inside s ls starts state h left b))
    from_refused (suc turns) ls left starts state enough b room h e =
        go (ltb state.at (length s)) refl (from_refused turns) e
      where
        go : (t : Bool) → ltb state.at (length s) ≡ t → Refuses turns →
            (if t then on_step (step_answer s lent starts state) (λ next. file_from turns s lent (starts ++ (state.at ∷ [])) next)
            else ended s starts state).answer ≡ Err refusal → RefusedFile s lent refusal
        go true t more q =
            step_refused turns more ls left starts state enough b room h (ltb-true state.at (length s) t)
            (line_answer (told_by state) s state.at) refl q
        go false t more q = at_end ls left starts state b room h (ltb-false state.at (length s) t) q

    pub judged_refused : (judged s lent).answer ≡ Err refusal → RefusedFile s lent refusal
    unfolding judged
    judged_refused e = go (ltb file_limit (length s)) (is_paired lent.countries) refl refl e
      where
        go : (t p : Bool) → ltb file_limit (length s) ≡ t → is_paired lent.countries ≡ p →
            (if t then record { answer = Err (because FileTooLong file_limit); starts = [] }
            else (if not p then record { answer = Err (because CountriesOdd 0); starts = [] }
            else file_from (length s + 1) s lent [] (begin (version_of s)))).answer ≡ Err refusal → RefusedFile s lent refusal
        go true p t ep q = is (because FileTooLong file_limit) q (RefusedFile.file_too_long (ltb-true file_limit (length s) t))
        go false false t ep q = is (because CountriesOdd 0) q (RefusedFile.countries_odd (ltb-false file_limit (length s) t) ep)
        go false true t ep q =
            from_refused (length s + 1) [] s [] (begin (version_of s)) (omega arith)
            (record {
              in_limit = ltb-false file_limit (length s) t;
              paired = ep;
              there = refl;
              lines = tt;
              order = tt;
              codes = tt;
              contacts = tt;
            }) (omega arith)
            (record { place = refl; count = refl; version = refl; next = refl; seen = λ at. refl; contacts = refl }) q
