-- A name between quotation marks, byte by byte.
use Rattle.std.proofs.Common.{◌≡◌, ℕ, ◌+◌, ◌<◌, ◌≤◌, List, [], ◌++◌, length, drop, get_or}
use Rattle.std.proofs.lemmas.List.{at_drop_all, at_drop_more}
use Rattle.witness.specs.Shell.{quoted, quoted_byte}

pub quoted_more : (xs : List ℕ) (k : ℕ) → k < length xs → quoted (drop k xs) ≡ quoted_byte (get_or xs k 0) ++ quoted (drop (k + 1) xs)
quoted_more xs k h = at_drop_more quoted xs k 0 h

pub quoted_ends : (xs : List ℕ) (k : ℕ) → length xs ≤ k → quoted (drop k xs) ≡ []
quoted_ends xs k h = at_drop_all quoted xs k h
