-- What the tree of identcodes answers of a line, as the code meets it.
use Prim.Native.Nat.{ℕ, ◌≤◌}
use mathlib.Core.Path.{◌≡◌, sym, ◌∙◌}
use mathlib.Core.Bool.{Bool, true, false}
use mathlib.Core.List.{List}
use native.Mathlib.Omega.{arith}
use lib.ListN.{length}
use Rattle.records.specs.declared.record.Record.{Record}
use Rattle.identcodes.specs.declared.CodeAnswer.{CodeAnswer}
use Rattle.identcodes.specs.declared.CodeAnswer.TheVariants.{Known, New, NoRoom}
use Rattle.identcodes.specs.Tree.{is_there, grown, has_room, code_answer, tree_after}
use Rattle.identcodes.proofs.Answers.{room_there, answer_tells, room_answers, room_grows}
use Rattle.line.specs.Line.{file_limit}
use Rattle.file.specs.Identcode.{is_there_for, grown_for, parcels_most, tree_words}

-- a file's tree has room for every parcel
module _ (s codes : List ℕ) (parcels at : ℕ) (long : tree_words ≤ length codes) (few : parcels ≤ parcels_most) (in_limit : at ≤ file_limit) where
  room : has_room codes parcels at ≡ true
  room = room_there codes parcels at (omega arith) (omega arith) (omega arith)

  module _ (answer : CodeAnswer) (ea : answer ≡ code_answer s codes parcels at) where
    pub is_there_lem : answer ≡ Known → true ≡ is_there s codes parcels at
    is_there_lem e = answer_tells s codes parcels at room true (sym ea ∙ e)

    pub is_new : answer ≡ New → false ≡ is_there s codes parcels at
    is_new e = answer_tells s codes parcels at room false (sym ea ∙ e)

    pub has_room_lem : answer ≡ NoRoom → false ≡ is_there s codes parcels at
    has_room_lem e = absurd (room_answers s codes parcels at room (sym ea ∙ e))

  pub is_grown : (after : List ℕ) → after ≡ tree_after s codes parcels at → after ≡ grown s codes parcels at
  is_grown after e = e ∙ room_grows s codes parcels at room

-- an arm of a match is a case of the rule
pub there_as : (kind case : Record) (s tree : List ℕ) (parcels at : ℕ) (t : Bool) → kind ≡ case → t ≡ is_there_for case s tree parcels at →
    t ≡ is_there_for kind s tree parcels at
there_as kind case s tree parcels at t e f = rw e f

pub grown_as : (kind case : Record) (s tree after : List ℕ) (parcels at : ℕ) → kind ≡ case → after ≡ grown_for case s tree parcels at →
    after ≡ grown_for kind s tree parcels at
grown_as kind case s tree after parcels at e f = rw e f
