-- The purpose of a 006 line of an allowed file is the text that the paper's sentence names.
use Prim.Native.Nat.{ℕ, zero, suc, ◌+◌, ◌-◌, ◌≤◌, ◌<◌}
use mathlib.Core.Path.{◌≡◌, refl, sym, ap, ◌∙◌}
use mathlib.Core.Bool.{Bool, true, false, not}
use mathlib.Core.List.{List, [], ◌∷◌, ◌++◌}
use mathlib.Core.Logic.{⊎_elim}
use native.Mathlib.Nat.{le_of_suc-le-suc, eq-or-lt_of_le}
use native.Mathlib.Omega.{arith}
use lib.Dec.{eqb}
use lib.ListN.{length, drop, get_or, length-drop}
use lib.Seq.{get_or-drop}
use borrow.Author.Tests.{le-ltb, ne_eqb}
use Rattle.std.specs.Prelude.{if◌then◌else◌, Option, Some, Result, Ok}
use Rattle.text.specs.Placed.{written}
use Rattle.text.specs.Quoted.{bytes}
use Rattle.records.specs.Record.{type_of}
use Rattle.records.specs.declared.record.Record.TheVariants.{Shipment, Parcel}
use Rattle.line.specs.Parts.{split, part_at, field_no}
use Rattle.line.specs.Need.{is_filled}
use Rattle.line.specs.Line.{text_at}
use Rattle.file.specs.Lent.{Lent}
use Rattle.file.specs.File.{Judged, judged, list_of}
use Rattle.allowed.specs.Allowed.{FileLine, AllowedFile, line_starts, totals_of}
use Rattle.allowed.proofs.Files.{allowed_accepted, starts_count}
use Rattle.purpose.specs.At.{is_typed}
use Rattle.purpose.specs.Source.{shipment_above, first_parcel, from_shipment, in_shipment, for_feature, source_of}
use Rattle.purpose.specs.Purpose.{purpose_long, cut, source_text, text_from, on_source, on_file, purpose_answer, purpose_of, list_after}
use Rattle.purpose.specs.Purpose.{output_after, Purposes}
use Rattle.allowed.specs.Sentence.{LineNo, CashLine, Belongs, first_filled, named_text}
use Rattle.purpose.specs.declared.source.Source.{Source}
use Rattle.purpose.specs.declared.source.Source.TheVariants.{Field, Joined}
use Rattle.allowed.proofs.Placed.{line_there, line_counted, parts_at, is_typed_lem, not_typed}
use Rattle.allowed.proofs.Paying.{cash_source}
use Rattle.refusal.specs.declared.Refusal.{Refusal}

-- the nearest above is the only one between itself and the line
nearest_found :
    (s starts : List ℕ) (n ship : ℕ) → ship < n → is_typed s (get_or starts ship 0) (bytes "030") ≡ true →
    ((i : ℕ) → ship < i → i < n → is_typed s (get_or starts i 0) (bytes "030") ≡ false) → shipment_above s starts n ≡ ship
nearest_found s starts zero ship h t none = absurd (omega arith)
nearest_found s starts (suc n) ship h t none =
    ⊎_elim (λ e. here e) (λ l. rw (none n l (omega arith)) (nearest_found s starts n ship l t (λ i a b. none i a (omega arith))))
    (eq-or-lt_of_le (le_of_suc-le-suc h))
  where
    here : ship ≡ n → shipment_above s starts (suc n) ≡ ship
    here e = let u : is_typed s (get_or starts n 0) (bytes "030") ≡ true = ap (λ (k : ℕ). is_typed s (get_or starts k 0) (bytes "030")) (sym e)
        ∙ t in rw u (sym e)

first_found :
    (s starts : List ℕ) (j : ℕ) → j < length starts → is_typed s (get_or starts j 0) (bytes "040") ≡ true →
    ((i : ℕ) → i < j → is_typed s (get_or starts i 0) (bytes "040") ≡ false) → first_parcel s starts ≡ get_or starts j 0
first_found s [] j h t none = absurd (omega arith)
first_found s (at ∷ starts) zero h t none = rw t
first_found s (at ∷ starts) (suc j) h t none = rw (none 0 (omega arith))
    (first_found s starts j (omega arith) t (λ i l. none (suc i) (omega arith)))

-- a field is taken where it is filled, and otherwise the next source is
or_next :
    (s : List ℕ) (at n : ℕ) (next : Source) (f : List ℕ) (fs : List (List ℕ)) (last : List ℕ) → part_at (text_at s at) n ≡ f →
    source_text s next ≡ first_filled fs last →
    source_text s (if is_filled (split (text_at s at)) n then Field at n else next) ≡ first_filled (f ∷ fs) last
unfolding is_filled
or_next s at n next [] fs last e q =
    let t : not (eqb (length (get_or (split (text_at s at)) n [])) 0) ≡ false = ap (λ (x : List ℕ). not (eqb (length x) 0)) e in rw t q
or_next s at n next (b ∷ f) fs last e q =
    let t : not (eqb (length (get_or (split (text_at s at)) n [])) 0) ≡ true =
    ap (λ (x : List ℕ). not (eqb (length x) 0)) e ∙ ap not (ne_eqb (suc (length f)) 0 (λ z. omega arith))
    in
    rw t e

pub whole : (s : List ℕ) (lent : Lent) (ls : List FileLine) → AllowedFile lent.countries s ls → length ls ≤ lent.words →
    judged s lent ≡ record { answer = Ok (totals_of ls); starts = line_starts 0 ls }
whole s lent ls g room = allowed_accepted s lent (totals_of ls) (line_starts 0 ls)
    (record { lines = ls; allowed = g; room = room; counts = refl; list = refl })

module _ (s countries : List ℕ) (ls : List FileLine) (g : AllowedFile countries s ls) (n : ℕ) (l : FileLine) (el : LineNo ls n l) (cash : CashLine l)
    (shipment parcel : FileLine) (b : Belongs ls n shipment parcel) where
  abbrev starts : List ℕ
  starts = line_starts 0 ls

  -- the parts of a line that has its number in the file
  part_of : (i k : ℕ) (x : FileLine) → LineNo ls i x → part_at (text_at s (get_or starts i 0)) k ≡ get_or (type_of x.kind ∷ x.fields) k []
  part_of i k x h = ap (λ (parts : List (List ℕ)). get_or parts k []) (parts_at s ls g i x h)

  is_above : shipment_above s starts n ≡ b.ship
  is_above =
      nearest_found s starts n b.ship b.above (is_typed_lem s ls g b.ship shipment b.there Shipment b.shipped)
      (λ i p q. let k = line_there ls i (omega (arith, line_counted ls n l el)) in
      not_typed s ls g i k.0 k.1 Shipment (b.nearest i k.0 p q k.1))

  -- the lines behind the shipment, counted from the first of them
  behind_it : (i : ℕ) → get_or (drop (b.ship + 1) starts) i 0 ≡ get_or starts (b.ship + 1 + i) 0
  behind_it i = get_or-drop (b.ship + 1) starts i 0

  is_there_lem : get_or (drop (b.ship + 1) starts) (b.first - (b.ship + 1)) 0 ≡ get_or starts b.first 0
  is_there_lem = let k : b.ship + 1 + (b.first - (b.ship + 1)) ≡ b.first = omega (arith, b.behind) in
      behind_it (b.first - (b.ship + 1)) ∙ ap (λ (j : ℕ). get_or starts j 0) k

  is_first : first_parcel s (drop (b.ship + 1) starts) ≡ get_or starts b.first 0
  is_first =
      first_found s (drop (b.ship + 1) starts) (b.first - (b.ship + 1))
      (omega (arith, b.behind, length-drop (b.ship + 1) starts, starts_count 0 ls, line_counted ls b.first parcel b.here))
      (ap (λ (o : ℕ). is_typed s o (bytes "040")) is_there_lem ∙ is_typed_lem s ls g b.first parcel b.here Parcel b.parcelled)
      (λ i h.
      let k = line_there ls (b.ship + 1 + i) (omega (arith, line_counted ls b.first parcel b.here)) in
      ap (λ (o : ℕ). is_typed s o (bytes "040")) (behind_it i)
      ∙ not_typed s ls g (b.ship + 1 + i) k.0 k.1 Parcel (b.foremost (b.ship + 1 + i) k.0 (omega arith) (omega arith) k.1))
      ∙ is_there_lem

  shipment_text : source_text s (from_shipment s (get_or starts b.ship 0) (get_or starts b.first 0)) ≡ first_filled
      (field_no shipment.fields 1 ∷ field_no shipment.fields 34 ∷ field_no shipment.fields 36 ∷ field_no parcel.fields 3 ∷
      []) (field_no parcel.fields 1 ++ bytes "/" ++ field_no shipment.fields 16)
  unfolding from_shipment
  shipment_text =
      let up = get_or starts b.ship 0 in
      let down = get_or starts b.first 0 in
      let filled : ℕ → ℕ → Bool = λ at k. is_filled (split (text_at s at)) k in
      let last = field_no parcel.fields 1 ++ bytes "/" ++ field_no shipment.fields 16 in
      let f1 = field_no shipment.fields 1 in
      let f34 = field_no shipment.fields 34 in
      let f36 = field_no shipment.fields 36 in
      let p3 = field_no parcel.fields 3 in
      let join : source_text s (Joined down up) ≡ first_filled [] last =
      rw (part_of b.first 1 parcel b.here, part_of b.ship 16 shipment b.there) in
      let d : Source = if is_filled (split (text_at s down)) 3 then Field down 3 else Joined down up in
      let c : Source = if is_filled (split (text_at s up)) 36 then Field up 36 else d in
      let a : Source = if is_filled (split (text_at s up)) 34 then Field up 34 else c in
      or_next s up 1 a f1 (f34 ∷ f36 ∷ p3 ∷ []) last (part_of b.ship 1 shipment b.there)
      (or_next s up 34 c f34 (f36 ∷ p3 ∷ []) last (part_of b.ship 34 shipment b.there)
      (or_next s up 36 d f36 (p3 ∷ []) last (part_of b.ship 36 shipment b.there)
      (or_next s down 3 (Joined down up) p3 [] last (part_of b.first 3 parcel b.here) join)))

  text_is : source_text s (for_feature s starts n) ≡ named_text l shipment parcel
  unfolding for_feature
  text_is =
      or_next s (get_or starts n 0) 8 (in_shipment s starts (shipment_above s starts n)) (field_no l.fields 8)
      (field_no shipment.fields 1 ∷ field_no shipment.fields 34 ∷ field_no shipment.fields 36 ∷ field_no parcel.fields 3 ∷ [])
      (field_no parcel.fields 1 ++ bytes "/" ++ field_no shipment.fields 16)
      (part_of n 8 l el)
      (ap (λ (k : ℕ). source_text s (in_shipment s starts k)) is_above
      ∙ ap (λ (p : ℕ). source_text s (from_shipment s (get_or starts b.ship 0) p)) is_first
      ∙ shipment_text)

  source_is : source_of s starts n ≡ Some (for_feature s starts n)
  source_is = cash_source s ls g n l el cash

  module _ (words : ℕ) (room : length ls ≤ words) where
    abbrev lent : Lent
    lent = record { countries = countries; words = words }

    named_text_lem : purpose_of s n lent ≡ cut (named_text l shipment parcel)
    named_text_lem =
        ap (λ (j : Judged). text_from s (source_of s j.starts n)) (whole s lent ls g room)
        ∙ ap (text_from s) source_is
        ∙ ap cut text_is

    named_answer : (long : ℕ) → purpose_long ≤ long → purpose_answer s n lent long ≡ Ok (length (cut (named_text l shipment parcel)))
    unfolding on_file on_source
    named_answer long h =
        ap (λ (j : Judged). on_file j.answer (source_of s j.starts n) s long) (whole s lent ls g room)
        ∙ ap (λ (x : Option Source). on_source x s long) source_is
        ∙ rw (le-ltb long purpose_long h, text_is)

    -- the line's text is written, the list is the file's, and every other byte of the output stays
    pub purpose_named :
        (out : List ℕ) → purpose_long ≤ length out → (answer : Result ℕ Refusal) (list after : List ℕ) → Purposes s n lent out answer list after →
        (answer ≡ Ok (length (cut (named_text l shipment parcel)))) × (list ≡ list_of words (line_starts 0 ls)) ×
        (after ≡ written out 0 (cut (named_text l shipment parcel)))
    purpose_named out h answer list after p =
        let e : answer ≡ Ok (length (cut (named_text l shipment parcel))) = p.0 ∙ named_answer (length out) h in (
          e,
          p.1 ∙ ap (λ (a : Result ℕ Refusal). list_after a words (judged s lent).starts) e
              ∙ ap (λ (j : Judged). list_of words j.starts) (whole s lent ls g room),
          p.2 ∙ ap (λ (a : Result ℕ Refusal). output_after a (purpose_of s n lent) out) e ∙ ap (written out 0) named_text_lem,
        )
