-- A crit-bit tree of identcodes, kept in a row of words. A word below 65,536 is a leaf, the offset of a parcel line. Any other is a
-- fork: it names a digit of the identcode, a byte, and a pair of words. A code whose digit there is below the byte goes on at the first
-- of the pair, any other at the second. A new code parts the leaf to which it comes.
--
-- Of the three parcel lines below, which start at the offsets 0, 30 and 60, the row is 338755585 3276803 30 0 60 (`example_grows`):
-- word 0 asks digit 20 for `1` and has the pair 1 and 2, word 1 asks digit 0 for `2` and has the pair 3 and 4.
use Rattle.std.specs.Prelude.{ℕ, zero, suc, ◌+◌, ◌*◌, ◌-◌, ◌/◌, ◌%◌, ◌≡◌, Bool, false, ◌&&◌, List, leb, ltb, eqb, length, take, drop}
use Rattle.std.specs.Prelude.{get_or, set, if◌then◌else◌}
use Rattle.text.specs.Quoted.{bytes}
use Rattle.identcodes.specs.declared.CodeAnswer.{CodeAnswer}
use Rattle.identcodes.specs.declared.CodeAnswer.TheVariants.{Known, New, NoRoom}

abbrev pub example : List ℕ
example = bytes "040;1000000000000000000007;;\r\n040;1000000000000000000014;;\r\n040;2000000000000000000004;;\r\n"

-- the identcode of the parcel line that starts here: the 22 digits behind `040;`
abbrev pub identcode_at : List ℕ → ℕ → List ℕ
identcode_at file offset = take 22 (drop (offset + 4) file)

-- a fork's digit, byte and pair, in one word
unfoldable pub fork : ℕ → ℕ → ℕ → ℕ
fork digit byte pair = (digit * 256 + byte) * 65536 + pair

unfoldable pub digit_of : ℕ → ℕ
digit_of word = word / 16777216

unfoldable pub byte_of : ℕ → ℕ
byte_of word = word / 65536 % 256

unfoldable pub pair_of : ℕ → ℕ
pair_of word = word % 65536

-- where a fork leads a code
abbrev pub leads_to : ℕ → List ℕ → ℕ
leads_to word code = if ltb (get_or code (digit_of word) 0) (byte_of word) then pair_of word else pair_of word + 1

-- the place of the leaf to which a code comes from the word at this place on, in at most so many turns
abbrev pub slot_from : ℕ → List ℕ → List ℕ → ℕ → ℕ
slot_from zero tree code slot = slot
slot_from (suc turns) tree code slot =
    if leb 65536 (get_or tree slot 0) then slot_from turns tree code (leads_to (get_or tree slot 0) code) else slot

-- so many parcels have a leaf each, and a pair of words for each but the first
abbrev pub words_of : ℕ → ℕ
words_of parcels = 2 * parcels - 1

abbrev pub slot_of : List ℕ → ℕ → List ℕ → ℕ
slot_of tree parcels code = slot_from (words_of parcels) tree code 0

-- the first of so many digits, from this one on, at which two codes are unlike, or the one behind them
abbrev pub unlike_from : ℕ → List ℕ → List ℕ → ℕ → ℕ
unlike_from zero a b digit = digit
unlike_from (suc left) a b digit = if eqb (get_or a digit 0) (get_or b digit 0) then unlike_from left a b (suc digit) else digit

unfoldable pub unlike_at : List ℕ → List ℕ → ℕ
unlike_at a b = unlike_from 22 a b 0

-- the words of a pair, and the fork that leads to them where the leaf was
abbrev pub planted : List ℕ → ℕ → ℕ → ℕ → ℕ → ℕ → List ℕ
planted tree slot pair first second word = set (set (set tree pair first) (pair + 1) second) slot word

-- the leaf at a place parted: a fork stands there now, and its pair are the old leaf and the new one. The byte is the larger of the
-- two codes' digits.
unfoldable pub parted : List ℕ → ℕ → ℕ → ℕ → ℕ → ℕ → ℕ → List ℕ
parted tree slot pair digit earlier here offset =
    if ltb earlier here then planted tree slot pair (get_or tree slot 0) offset (fork digit here pair)
    else planted tree slot pair offset (get_or tree slot 0) (fork digit earlier pair)

-- the code of the leaf to which a code comes
abbrev pub leaf_code : List ℕ → List ℕ → ℕ → List ℕ → List ℕ
leaf_code file tree parcels code = identcode_at file (get_or tree (slot_of tree parcels code) 0)

-- whether the tree of so many parcels has the code of the parcel line that starts here
unfoldable pub is_there : List ℕ → List ℕ → ℕ → ℕ → Bool
is_there file tree parcels offset =
    if eqb parcels 0 then false
    else leb 22 (unlike_at (leaf_code file tree parcels (identcode_at file offset)) (identcode_at file offset))

-- the tree with the code of that line
unfoldable pub grown : List ℕ → List ℕ → ℕ → ℕ → List ℕ
grown file tree parcels offset =
    let code = identcode_at file offset in
    let slot = slot_of tree parcels code in
    let earlier = leaf_code file tree parcels code in
    let digit = unlike_at earlier code in
    if eqb parcels 0 then set tree 0 offset
    else if leb 22 digit then tree
    else parted tree slot (words_of parcels) digit (get_or earlier digit 0) (get_or code digit 0) offset

-- one parcel more has its words in the row, and their places and its offset are below 65,536
unfoldable pub has_room : List ℕ → ℕ → ℕ → Bool
has_room tree parcels offset =
    ltb offset 65536 && (leb (words_of (parcels + 1)) 65536 && leb (words_of (parcels + 1)) (length tree))

-- what is answered of the parcel line that starts here, and the tree then
unfoldable pub code_answer : List ℕ → List ℕ → ℕ → ℕ → CodeAnswer
code_answer file tree parcels offset =
    if has_room tree parcels offset then (if is_there file tree parcels offset then Known else New) else NoRoom

unfoldable pub tree_after : List ℕ → List ℕ → ℕ → ℕ → List ℕ
tree_after file tree parcels offset = if has_room tree parcels offset then grown file tree parcels offset else tree

-- the answer and the tree that the call allows
abbrev pub Finds : List ℕ → List ℕ → ℕ → ℕ → CodeAnswer → List ℕ → Type 0
Finds file tree parcels offset answer after =
    (answer ≡ code_answer file tree parcels offset) × (after ≡ tree_after file tree parcels offset)
