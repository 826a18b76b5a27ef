-- The lines with which a file begins: one of them between those in front and those behind, and one line more.
use Prim.Native.Nat.{ℕ, ◌+◌}
use mathlib.Core.Path.{◌≡◌, refl, sym, ap, subst, ◌∙◌}
use mathlib.Core.Bool.{true, false}
use mathlib.Core.List.{List, [], ◌∷◌, ◌++◌, append_assoc, append-nil}
use lib.ListN.{length, drop, length-append}
use lib.Seq.{drop-append_seam}
use Rattle.text.proofs.Choices.{or_neither}
use Rattle.records.specs.Record.{may_come}
use Rattle.fields.specs.Profile.{Rules, profile}
use Rattle.file.specs.Version.{version_of}
use Rattle.records.specs.declared.record.Due.{Due}
use Rattle.records.specs.declared.record.Due.TheVariants.{First, After}
use Rattle.grammar.specs.Grammar.{LineOk}
use Rattle.allowed.specs.Allowed.{FileLine, line_bytes, file_bytes, LinesOk, codes_on, identcodes, one_of_codes, NoneTwice}
use Rattle.allowed.proofs.Codes.{Fresh, codes_append}
use Rattle.file.specs.Contact.{lacks_contact}
use Rattle.allowed.proofs.Contacts.{parts_of, contacts_after, asked_all, all_asked, asked_front, asked_at, asked_more}
use Rattle.allowed.proofs.Twice.{none_more, fresh_before}
use Rattle.refused.specs.File.{Come, due_behind, Begins, NextLine}

pub bytes_append : (ls ks : List FileLine) → file_bytes (ls ++ ks) ≡ file_bytes ls ++ file_bytes ks
bytes_append [] ks = refl
bytes_append (l ∷ ls) ks = ap (λ (r : List ℕ). line_bytes l ++ r) (bytes_append ls ks) ∙ sym (append_assoc (line_bytes l) (file_bytes ls) (file_bytes ks))

pub identcodes_append : (ls ks : List FileLine) → identcodes (ls ++ ks) ≡ identcodes ls ++ identcodes ks
identcodes_append [] ks = refl
identcodes_append (l ∷ ls) ks =
    ap (λ (r : List (List ℕ)). codes_on l.kind l.fields ++ r) (identcodes_append ls ks)
    ∙ sym (append_assoc (codes_on l.kind l.fields) (identcodes ls) (identcodes ks))

-- one more
pub bytes_more : (ls : List FileLine) (l : FileLine) (left : List ℕ) →
    file_bytes (ls ++ (l ∷ [])) ++ left ≡ file_bytes ls ++ (line_bytes l ++ left)
bytes_more ls l left =
    ap (λ (r : List ℕ). r ++ left) (bytes_append ls (l ∷ []) ∙ ap (λ (r : List ℕ). file_bytes ls ++ r) (append-nil (line_bytes l)))
    ∙ append_assoc (file_bytes ls) (line_bytes l) left

pub codes_more : (ls : List FileLine) (l : FileLine) → identcodes (ls ++ (l ∷ [])) ≡ identcodes ls ++ codes_on l.kind l.fields
codes_more ls l = identcodes_append ls (l ∷ []) ∙ ap (λ (r : List (List ℕ)). identcodes ls ++ r) (append-nil (codes_on l.kind l.fields))

pub due_more : (due : Due) (ls : List FileLine) (l : FileLine) → due_behind due (ls ++ (l ∷ [])) ≡ After l.kind
due_more due [] l = refl
due_more due (k ∷ ls) l = due_more (After k.kind) ls l

lines_more : (rules : Rules) (ls : List FileLine) (l : FileLine) → LinesOk rules ls → LineOk rules l.kind l.fields →
    LinesOk rules (ls ++ (l ∷ []))
lines_more rules [] l a g = (g, tt)
lines_more rules (k ∷ ls) l a g = (a.0, lines_more rules ls l a.1 g)

come_more : (due : Due) (ls : List FileLine) (l : FileLine) → Come due ls → may_come (due_behind due ls) l.kind ≡ true →
    Come due (ls ++ (l ∷ []))
come_more due [] l a g = (g, tt)
come_more due (k ∷ ls) l a g = (a.0, come_more (After k.kind) ls l a.1 g)

-- an allowed line behind the lines with which a file begins, which lacks no contact and repeats none of their codes
pub record Next (countries s : List ℕ) (ls : List FileLine) (l : FileLine) (left : List ℕ) : Type 0 where
  pub follows : NextLine countries s ls l left
  pub reached : lacks_contact l.kind (parts_of l) countries (contacts_after true ls) ≡ false
  pub fresh : Fresh (identcodes ls) (codes_on l.kind l.fields)

pub begins_more : (countries s : List ℕ) (ls : List FileLine) (l : FileLine) (left : List ℕ) → Next countries s ls l left →
    Begins countries s (ls ++ (l ∷ [])) left
begins_more countries s ls l left n =
    let b = n.follows.begins in
    record {
      in_limit = b.in_limit;
      paired = b.paired;
      there = b.there ∙ sym (bytes_more ls l left);
      lines = lines_more (profile (version_of s)) ls l b.lines n.follows.ok;
      order = come_more First ls l b.order n.follows.comes;
      codes = subst NoneTwice (sym (codes_more ls l)) (none_more l.kind l.fields (identcodes ls) b.codes n.fresh);
      contacts =
          asked_all countries (ls ++ (l ∷ []))
          (asked_more countries ls l true (all_asked countries ls b.contacts) n.reached);
    }

-- a line in the middle
lines_front : (rules : Rules) (ls ks : List FileLine) → LinesOk rules (ls ++ ks) → LinesOk rules ls
lines_front rules [] ks a = tt
lines_front rules (l ∷ ls) ks a = (a.0, lines_front rules ls ks a.1)

lines_at : (rules : Rules) (ls : List FileLine) (l : FileLine) (ks : List FileLine) → LinesOk rules (ls ++ l ∷ ks) → LineOk rules l.kind l.fields
lines_at rules [] l ks a = a.0
lines_at rules (k ∷ ls) l ks a = lines_at rules ls l ks a.1

come_front : (due : Due) (ls ks : List FileLine) → Come due (ls ++ ks) → Come due ls
come_front due [] ks a = tt
come_front due (l ∷ ls) ks a = (a.0, come_front (After l.kind) ls ks a.1)

come_at : (due : Due) (ls : List FileLine) (l : FileLine) (ks : List FileLine) → Come due (ls ++ l ∷ ks) →
    may_come (due_behind due ls) l.kind ≡ true
come_at due [] l ks a = a.0
come_at due (k ∷ ls) l ks a = come_at (After k.kind) ls l ks a.1

none_front : (xs ys : List (List ℕ)) → NoneTwice (xs ++ ys) → NoneTwice xs
none_front [] ys n = tt
none_front (x ∷ xs) ys n =
    ((or_neither (one_of_codes x xs) (one_of_codes x ys) (sym (codes_append x xs ys) ∙ n.0)).0, none_front xs ys n.1)

pub next_at : (countries s : List ℕ) (ls : List FileLine) (l : FileLine) (ks : List FileLine) (left : List ℕ) →
    Begins countries s (ls ++ l ∷ ks) left → Next countries s ls l (file_bytes ks ++ left)
next_at countries s ls l ks left b =
    let asked = all_asked countries (ls ++ l ∷ ks) b.contacts in
    let none = subst NoneTwice (identcodes_append ls (l ∷ ks)) b.codes in
    record {
      follows = record {
        begins = record {
          in_limit = b.in_limit;
          paired = b.paired;
          there =
              b.there ∙ ap (λ (r : List ℕ). r ++ left) (bytes_append ls (l ∷ ks))
              ∙ append_assoc (file_bytes ls) (line_bytes l ++ file_bytes ks) left
              ∙ ap (λ (r : List ℕ). file_bytes ls ++ r) (append_assoc (line_bytes l) (file_bytes ks) left);
          lines = lines_front (profile (version_of s)) ls (l ∷ ks) b.lines;
          order = come_front First ls (l ∷ ks) b.order;
          codes = none_front (identcodes ls) (identcodes (l ∷ ks)) none;
          contacts = asked_all countries ls (asked_front countries ls (l ∷ ks) true asked);
        };
        ok = lines_at (profile (version_of s)) ls l ks b.lines;
        comes = come_at First ls l ks b.order;
      };
      reached = asked_at countries ls l ks true asked;
      fresh = fresh_before l.kind l.fields (identcodes ls) (identcodes ks) none;
    }

-- where the bytes that are left stand
module _ {countries : List ℕ} (s : List ℕ) (ls : List FileLine) (left : List ℕ) (b : Begins countries s ls left) where
  pub left_there : drop (length (file_bytes ls)) s ≡ left
  left_there = ap (drop (length (file_bytes ls))) b.there ∙ drop-append_seam (file_bytes ls) left

  pub left_long : length s ≡ length (file_bytes ls) + length left
  left_long = ap length b.there ∙ length-append (file_bytes ls) left
