-- docs/BENCH.md, `command` and `scsi`: the page or the data that follows an answer, and the line `touched`.
use Rattle.std.specs.Prelude.{ℕ, zero, suc, ◌+◌, ◌-◌, ◌*◌, ◌/◌, Bool, cond, List, [], ◌∷◌, ◌++◌, eqb, leb, length, take, drop}
use Rattle.slices.specs.Lists.{all, flat}
use Rattle.text.specs.Digits.{digits}
use Rattle.text.specs.Text.{ascii}
use Rattle.writing.specs.Writing.{number_line}

-- ## A page

-- row k of a page: 32 bytes
abbrev pub row_at : List ℕ → ℕ → List ℕ
row_at s k = take 32 (drop (32 * k) s)

-- "a line of 64 upper hex digits for each 32 bytes"
abbrev pub row_line : List ℕ → List ℕ
row_line row = flat (digits 16 2) row ++ ascii "\n"

-- the first n rows
unfoldable pub rows_below : List ℕ → ℕ → List ℕ
rows_below s zero = []
rows_below s (suc n) = rows_below s n ++ row_line (row_at s n)

abbrev pub is_zero : List ℕ → Bool
is_zero row = all (λ (b : ℕ). eqb b 0) row

-- how many of the first n rows come before "the run of all-zero rows at its end"
unfoldable pub rows_shown : List ℕ → ℕ → ℕ
rows_shown s zero = zero
rows_shown s (suc n) = cond (is_zero (row_at s n)) (rows_shown s n) (suc n)

-- "is one line `zeros N` (N decimal; no such line without such a row)"
abbrev pub zeros_line : ℕ → List ℕ
zeros_line n = cond (eqb n 0) [] (number_line (ascii "zeros ") n)

abbrev pub rows_of : List ℕ → ℕ → List ℕ
rows_of s n = rows_below s (rows_shown s n) ++ zeros_line (n - rows_shown s n)

-- of a page's whole rows, up to 65,536 bytes
unfoldable pub page_text : List ℕ → List ℕ
page_text s = rows_of (take 65536 s) (length (take 65536 s) / 32)

-- ## Data

-- "a line `bytes N` (decimal) follows, and a line of 64 upper hex digits for each 32 bytes, the last one shorter, all-zero rows too"
abbrev pub data_lines : List ℕ → List ℕ
data_lines s = number_line (ascii "bytes ") (length s) ++ rows_below s ((length s + 31) / 32)

-- up to 65,536 bytes
unfoldable pub data_text : List ℕ → List ℕ
data_text s = data_lines (take 65536 s)

-- ## What was left alone

-- the place of the first byte that is not A5h, of bytes that stand from a place on; the place after them if there is none
abbrev pub first_touched : ℕ → List ℕ → ℕ
first_touched place [] = place
first_touched place (b ∷ bs) = cond (eqb b 0xA5) (first_touched (suc place) bs) place

-- "Should a byte that the answer leaves alone not be A5h any more, a line `touched PLACE` (decimal) follows"
unfoldable pub touched_text : List ℕ → ℕ → List ℕ
touched_text lent from =
    let place = first_touched from (drop from lent) in
    cond (leb (length lent) place) [] (number_line (ascii "touched ") place)
