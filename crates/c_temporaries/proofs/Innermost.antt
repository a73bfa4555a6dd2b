-- The names that are known, the last one first.
use Rattle.std.proofs.Common.{◌≡◌, ℕ, ◌-◌, ◌≤◌, List, [], ◌∷◌, ◌++◌, length, map, take, sym, ◌∙◌, arith}
use Rattle.std.proofs.lemmas.List.{length-map, length-reverse, length-take-le}
use Rattle.c_terminals.proofs.Stacks.{stack_pushed}
use Rattle.c_temporaries.specs.declared.knowns.Known.{Known}
use Rattle.c_temporaries.specs.Parts.{knowns_of, seen_known}

pub pushed : (xs ys : List Known) (x : Known) → ys ≡ xs ++ x ∷ [] → knowns_of ys ≡ seen_known x ∷ knowns_of xs
pushed xs ys x e = stack_pushed seen_known xs ys x e

-- fewer
pub fewer : (xs : List Known) (n : ℕ) → length xs ≤ n → length (take (length xs - 1) xs) ≤ n
fewer xs n h = omega (arith, length-take-le (length xs - 1) xs (omega arith), h)

pub as_many : (xs : List Known) → length xs ≡ length (knowns_of xs)
as_many xs = sym (length-reverse (map seen_known xs) ∙ length-map xs seen_known)
