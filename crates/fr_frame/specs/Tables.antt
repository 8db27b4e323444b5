-- The tables of a CRC, for private functions. No public contract cites it.
use Rattle.std.specs.Prelude.{ℕ, suc, ◌*◌, ◌==◌, ◌&&◌, Bool, true, false, List, [], ◌∷◌, ◌++◌, length, replicate}
use Rattle.fr_frame.specs.Bits.{bits_of}
use Rattle.fr_frame.specs.Register.{left_by}

-- each number of a row passes the test at its place, counted from here
abbrev pub row_passes : (ℕ → ℕ → Bool) → ℕ → List ℕ → Bool
row_passes test place [] = true
row_passes test place (n ∷ row) = test place n && row_passes test (suc place) row

-- each row has 256 numbers, and each passes the test at its row, counted from here, and its place
abbrev pub rows_pass : (ℕ → ℕ → ℕ → Bool) → ℕ → List (List ℕ) → Bool
rows_pass test place [] = true
rows_pass test place (row ∷ rows) = (length row == 256 && row_passes (test place) 0 row)
    && rows_pass test (suc place) rows

-- all entries pass the test, with their number of zeros and their byte
abbrev pub are_all : (ℕ → ℕ → ℕ → Bool) → List (List ℕ) → Bool
are_all test rows = rows_pass test 0 rows

abbrev pub are_same : List Bool → List Bool → Bool
are_same [] [] = true
are_same [] (y ∷ ys) = false
are_same (x ∷ xs) [] = false
are_same (true ∷ xs) (true ∷ ys) = are_same xs ys
are_same (true ∷ xs) (false ∷ ys) = false
are_same (false ∷ xs) (true ∷ ys) = false
are_same (false ∷ xs) (false ∷ ys) = are_same xs ys

-- the bits of an entry are the register after the byte and so many bytes of zeros, from an empty register
abbrev pub is_entry : List Bool → ℕ → ℕ → ℕ → ℕ → Bool
is_entry divisor width zeros byte n = are_same (bits_of width n)
    (left_by divisor width (bits_of 8 byte ++ replicate (8 * zeros) false))
