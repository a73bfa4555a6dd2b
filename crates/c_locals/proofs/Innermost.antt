-- The innermost of the open blocks.
use Rattle.std.proofs.Common.{◌≡◌, ℕ, ◌-◌, ◌≤◌, List, [], ◌∷◌, ◌++◌, length, take, arith}
use Rattle.std.proofs.lemmas.List.{length-take-le}
use Rattle.c_terminals.proofs.Stacks.{stack_pushed}
use Rattle.c_locals.specs.declared.blocks.Open.{Open as Given}
use Rattle.c_locals.specs.declared.indices.Join.{Join as GivenJoin}
use Rattle.c_locals.specs.Blocks.{blocks_of, seen_open}
use Rattle.c_locals.specs.Indices.{seen_join, waiting_of}

pub pushed : (xs ys : List Given) (x : Given) → ys ≡ xs ++ x ∷ [] → blocks_of ys ≡ seen_open x ∷ blocks_of xs
pushed xs ys x e = stack_pushed seen_open xs ys x e

-- fewer
pub fewer : (xs : List Given) (n : ℕ) → length xs ≤ n → length (take (length xs - 1) xs) ≤ n
fewer xs n h = omega (arith, length-take-le (length xs - 1) xs (omega arith), h)

pub waits : (xs ys : List GivenJoin) (x : GivenJoin) → ys ≡ xs ++ x ∷ [] → waiting_of ys ≡ seen_join x ∷ waiting_of xs
waits xs ys x e = stack_pushed seen_join xs ys x e
