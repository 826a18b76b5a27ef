-- Document 01, 'The file': "Date-time (010.3 and 010.4 only): `YYYY-MM-DDThh:mm:ss`, year 2000 to 2099, Gregorian, hour to 23, minute
-- and second to 59."
use Rattle.std.specs.Prelude.{ℕ, ◌%◌, Bool, ◌&&◌, ◌||◌, not, List, [], ◌∷◌, leb, eqb, take, drop, if◌then◌else◌}
use Rattle.text.specs.Byte.{digit}
use Rattle.text.specs.Decimal.{number}
use Rattle.text.specs.Quoted.{byte, bytes}
use Rattle.text.specs.Scan.{among, paired}

-- a byte of a pattern: 0 stands for any digit, every other byte for itself
unfoldable pub stands_for : ℕ → ℕ → Bool
stands_for p b = if eqb p (byte "0") then digit b else eqb b p

-- s follows the pattern
unfoldable pub like : List ℕ → List ℕ → Bool
like pattern s = paired stands_for pattern s

-- the number that n digits write from a place on
abbrev pub number_at : ℕ → ℕ → List ℕ → ℕ
number_at place n s = number (take n (drop place s))

-- "Gregorian": a leap year is every fourth year, not every hundredth, but every four hundredth
unfoldable pub leap : ℕ → Bool
leap year = eqb (year % 4) 0 && (not (eqb (year % 100) 0) || eqb (year % 400) 0)

-- how many days a month has
unfoldable pub days_in : ℕ → ℕ → ℕ
days_in year month =
    if eqb month 2 then (if leap year then 29 else 28) else (if among month (4 ∷ 6 ∷ 9 ∷ 11 ∷ []) then 30 else 31)

-- a day of the calendar
unfoldable pub calendar : ℕ → ℕ → ℕ → Bool
calendar year month day = leb 1 month && (leb month 12 && (leb 1 day && leb day (days_in year month)))

-- "year 2000 to 2099, Gregorian"
unfoldable pub good_day : List ℕ → Bool
good_day s = leb 2000 (number_at 0 4 s) && (leb (number_at 0 4 s) 2099 && calendar (number_at 0 4 s) (number_at 5 2 s) (number_at 8 2 s))

-- "hour to 23, minute and second to 59"
unfoldable pub good_time : List ℕ → Bool
good_time s = leb (number_at 11 2 s) 23 && (leb (number_at 14 2 s) 59 && leb (number_at 17 2 s) 59)

-- "`YYYY-MM-DDThh:mm:ss`", and both of these
unfoldable pub date_time : List ℕ → Bool
date_time s = like (bytes "0000-00-00T00:00:00") s && (good_day s && good_time s)
