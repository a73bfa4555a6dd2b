-- Numbers in a row.
use Rattle.std.specs.Prelude.{ℕ, ◌+◌, List, ◌++◌, length, take, drop}

-- a list with these numbers over those from a place on
abbrev pub overwritten : List ℕ → ℕ → List ℕ → List ℕ
overwritten row at numbers = take at row ++ (numbers ++ drop (at + length numbers) row)
