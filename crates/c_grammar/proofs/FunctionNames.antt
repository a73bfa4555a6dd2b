-- The names that no source can spell differ from each other, by computation.
use Rattle.std.proofs.Common.{◌≡◌, ◌+◌, ℕ, zero, suc, Bool, true, List, [], ◌∷◌, refl}
use Rattle.std.specs.Prelude.{◌&&◌, ◌==◌, if◌then◌else◌, take}
use Rattle.std.specs.Str.{bytes_eq}
use Rattle.c_grammar.specs.Unspelled.{digits, most_names, unspelled}

-- the place where three digits in a row first are these
abbrev first_place : ℕ → List ℕ → List ℕ → ℕ
first_place n x [] = n
first_place n x (d ∷ ds) = if bytes_eq x (take 3 (d ∷ ds)) then n else first_place (n + 1) x ds

-- the first so many names stand at their places, and not before them
abbrev stand_once : ℕ → Bool
stand_once zero = true
stand_once (suc k) = (first_place 0 (unspelled k) digits == k) && stand_once k

names_differ : stand_once most_names ≡ true
names_differ = refl
