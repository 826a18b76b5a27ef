-- What a read means, and what is in the buffer once the reading is over: so many bytes, or an error, which is never that of a signal.
use Rattle.std.specs.Prelude.{◌≡◌, ◌≢◌, ℕ, ◌<◌, ◌≤◌, List, length, take, Option, Some, None, Result, Ok, Err}
use Rattle.std.specs.Io.KnownBytes.{Keeps, Consumes, IsAtEnd}
use Rattle.std.specs.IoError.{error_kind}
use Rattle.std.specs.declared.io.Error.{Error}
use Rattle.std.specs.declared.io.ErrorKind.{ErrorKind}
use Rattle.streams.specs.Counts.{IsPrefixLen}

-- A read that succeeds and gives nothing is the end of the input, and so many bytes are handed on as so many. One that a signal
-- interrupted has given none, and is made again; any other failure is handed on as it is.
abbrev pub Means : Result ℕ Error → Result (Option ℕ) Error → Type 0
Means (Ok n) meant = (n ≡ 0 → meant ≡ Ok None) × (0 < n → meant ≡ Ok (Some n))
Means (Err error) meant =
    (error_kind error ≡ ErrorKind.Interrupted → meant ≡ Ok (Some 0)) × (error_kind error ≢ ErrorKind.Interrupted → meant ≡ Err error)

-- the input lies at the front of the buffer
abbrev pub Held : Result ℕ Error → List ℕ → Type 0
Held (Ok n) buffer = IsPrefixLen n buffer
Held (Err error) buffer = Unit {0}

-- so do the bytes of one read
abbrev pub HeldPiece : Result (Option ℕ) Error → List ℕ → Type 0
HeldPiece (Ok (Some n)) buffer = IsPrefixLen n buffer
HeldPiece (Ok None) buffer = Unit {0}
HeldPiece (Err error) buffer = Unit {0}

-- What a reader whose bytes are known, before and after, has lost to the buffer. An input that is whole is all of them, or as many as
-- the buffer takes; where the reading failed, those that it gave before lie at the buffer's front, and no others are lost.
abbrev pub Took : Option (List ℕ) → Option (List ℕ) → Result ℕ Error → List ℕ → Type 0
Took before after (Ok n) buffer = Consumes before after (take n buffer) × (n < length buffer → IsAtEnd after)
Took before after (Err error) buffer =
    (error_kind error ≢ ErrorKind.Interrupted) × ((n : ℕ) × (n ≤ length buffer) × Consumes before after (take n buffer))

-- The same of one read. Only a reader that is at its end has ended, and no signal makes a read fail.
abbrev pub TookPiece : Option (List ℕ) → Option (List ℕ) → Result (Option ℕ) Error → List ℕ → Type 0
TookPiece before after (Ok (Some n)) buffer = Consumes before after (take n buffer)
TookPiece before after (Ok None) buffer = Keeps before after × (0 < length buffer → IsAtEnd after)
TookPiece before after (Err error) buffer = Keeps before after × (error_kind error ≢ ErrorKind.Interrupted)
