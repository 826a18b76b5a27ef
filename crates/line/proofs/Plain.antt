-- Bytes that may stand in a field, and the text of a line made of them: it falls into its fields again.
use Prim.Native.Nat.{ℕ, ◌+◌}
use mathlib.Core.Path.{◌≡◌, refl}
use mathlib.Core.Bool.{Bool, true, false}
use mathlib.Core.List.{List, [], ◌∷◌, ◌++◌}
use lib.ListN.{length, length-append}
use Rattle.std.specs.Prelude.{if◌then◌else◌}
use Rattle.text.specs.Byte.{text_byte}
use Rattle.text.specs.Quoted.{bytes}
use Rattle.text.specs.Scan.{all}
use Rattle.text.proofs.Choices.{and_left, and_right, and_both}
use Rattle.text.proofs.Runs.{all_append}
use Rattle.records.specs.Record.{type_of}
use Rattle.records.specs.declared.record.Record.{Record}
use Rattle.records.specs.declared.record.Record.TheVariants.{Header, Sender, Shipment, Parcel, Product, Feature}
use Rattle.line.specs.Parts.{semicolon, into_first, split, in_field}
use Rattle.line.specs.Render.{joined, text_of, render, plain, all_in}
use Rattle.line.proofs.Splits.{split_joined}

pub render_long : (kind : Record) (fs : List (List ℕ)) → length (render kind fs) ≡ length (text_of kind fs) + 2
render_long kind fs = length-append (text_of kind fs) (bytes "\r\n")

type_plain : (kind : Record) → all plain (type_of kind) ≡ true
type_plain Header = refl
type_plain Sender = refl
type_plain Shipment = refl
type_plain Parcel = refl
type_plain Product = refl
type_plain Feature = refl

module _ (p q : ℕ → Bool) (w : (b : ℕ) → p b ≡ true → q b ≡ true) where
  pub all_also : (f : List ℕ) → all p f ≡ true → all q f ≡ true
  all_also [] e = refl
  all_also (b ∷ f) e = and_both (q b) (all q f) (w b (and_left (p b) (all p f) e)) (all_also f (and_right (p b) (all p f) e))

  pub all_in_also : (fs : List (List ℕ)) → all_in p fs ≡ true → all_in q fs ≡ true
  all_in_also [] e = refl
  all_in_also (f ∷ fs) e = and_both (all q f) (all_in q fs) (all_also f (and_left (all p f) (all_in p fs) e))
      (all_in_also fs (and_right (all p f) (all_in p fs) e))

pub plain_text : (b : ℕ) → plain b ≡ true → text_byte b ≡ true
plain_text b e = and_left (text_byte b) (in_field b) e

pub plain_in_field : (b : ℕ) → plain b ≡ true → in_field b ≡ true
plain_in_field b e = and_right (text_byte b) (in_field b) e

pub joined_text : (fs : List (List ℕ)) → all_in text_byte fs ≡ true → all text_byte (joined fs) ≡ true
joined_text [] e = refl
joined_text (f ∷ fs) e = all_append text_byte f (joined fs) (and_left (all text_byte f) (all_in text_byte fs) e)
    (joined_text fs (and_right (all text_byte f) (all_in text_byte fs) e))

-- a text that is split has only plain bytes in its parts
into_plain : (b : ℕ) (parts : List (List ℕ)) → plain b ≡ true → all_in plain parts ≡ true → all_in plain (into_first b parts) ≡ true
into_plain b [] e d = simp e
into_plain b (part ∷ parts) e d =
    and_both (all plain (b ∷ part)) (all_in plain parts) (and_both (plain b) (all plain part) e
    (and_left (all plain part) (all_in plain parts) d)) (and_right (all plain part) (all_in plain parts) d)

pub split_plain : (line : List ℕ) → all text_byte line ≡ true → all_in plain (split line) ≡ true
split_plain [] e = refl
split_plain (b ∷ line) e = go (semicolon b) refl (split_plain line (and_right (text_byte b) (all text_byte line) e))
  where
    go : (t : Bool) → semicolon b ≡ t → all_in plain (split line) ≡ true →
        all_in plain (if t then [] ∷ split line else into_first b (split line)) ≡ true
    go true d h = h
    go false d h = into_plain b (split line) (and_both (text_byte b) (in_field b) (and_left (text_byte b) (all text_byte line) e) (rw d)) h

-- a text with plain parts falls into them again
module _ (name : List ℕ) (fs : List (List ℕ)) (p : all_in plain (name ∷ fs) ≡ true) where
  front_plain : all plain name ≡ true
  front_plain = and_left (all plain name) (all_in plain fs) p

  rest_plain : all_in plain fs ≡ true
  rest_plain = and_right (all plain name) (all_in plain fs) p

  pub parts_split : split (name ++ joined fs) ≡ name ∷ fs
  parts_split = split_joined name fs (all_also plain in_field plain_in_field name front_plain) (all_in_also plain in_field plain_in_field fs rest_plain)

  pub parts_bytes : all text_byte (name ++ joined fs) ≡ true
  parts_bytes =
      all_append text_byte name (joined fs) (all_also plain text_byte plain_text name front_plain)
      (joined_text fs (all_in_also plain text_byte plain_text fs rest_plain))

-- so does the text of a line whose fields are plain
module _ (kind : Record) (fs : List (List ℕ)) (clean : all_in plain fs ≡ true) where
  all_plain : all_in plain (type_of kind ∷ fs) ≡ true
  all_plain = and_both (all plain (type_of kind)) (all_in plain fs) (type_plain kind) clean

  pub plain_split : split (text_of kind fs) ≡ type_of kind ∷ fs
  plain_split = parts_split (type_of kind) fs all_plain

  pub plain_bytes : all text_byte (text_of kind fs) ≡ true
  plain_bytes = parts_bytes (type_of kind) fs all_plain
