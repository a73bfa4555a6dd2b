-- The innermost of the open blocks.
use Rattle.std.proofs.Common.{◌≡◌, ℕ, ◌-◌, ◌≤◌, List, [], ◌∷◌, ◌++◌, length, take, drop, sym, ap, arith}
use Rattle.std.proofs.lemmas.List.{length-take-le}
use Rattle.c_terminals.proofs.Stacks.{stack_pushed}
use Rattle.c_descents.specs.declared.blocks.Open.{Open as Given}
use Rattle.c_descents.specs.Blocks.{blocks_of, seen_open}

pub pushed : (xs ys : List Given) (x : Given) → ys ≡ xs ++ x ∷ [] → blocks_of ys ≡ seen_open x ∷ blocks_of xs
pushed xs ys x e = stack_pushed seen_open xs ys x e

-- without the last
pub closed : (xs ys : List Given) (x : Given) → ys ≡ xs ++ x ∷ [] → blocks_of xs ≡ drop 1 (blocks_of ys)
closed xs ys x e = sym (ap (drop 1) (pushed xs ys x e))

-- fewer
pub fewer : (xs : List Given) (n : ℕ) → length xs ≤ n → length (take (length xs - 1) xs) ≤ n
fewer xs n h = omega (arith, length-take-le (length xs - 1) xs (omega arith), h)
