-- The innermost of the open blocks.
use Rattle.std.proofs.Common.{◌≡◌, ◌∙◌, ℕ, ◌+◌, ◌-◌, ◌≤◌, Bool, true, false, List, [], ◌∷◌, ◌++◌, length, get_or, take, drop, map, reverse, refl, sym, ap, arith}
use Rattle.std.proofs.lemmas.List.{take_all, take_more}
use Rattle.c_grammar.specs.Loops.{Open, is_branch, is_turn}
use Rattle.c_terminals.proofs.Stacks.{stack_more, stack_pushed}
use Rattle.c_loops.specs.declared.blocks.Open.{Open as Given}
use Rattle.c_loops.specs.declared.blocks.Open.TheVariants as given
use Rattle.c_loops.specs.Blocks.{seen_open}

pub pushed : (xs ys : List Given) (x : Given) → ys ≡ xs ++ x ∷ [] →
    reverse (map seen_open ys) ≡ seen_open x ∷ reverse (map seen_open xs)
pushed xs ys x e = stack_pushed seen_open xs ys x e

first : (os rest : List Open) (o : Open) → os ≡ o ∷ rest → os ≡ o ∷ drop 1 os
first os rest o e = e ∙ ap (λ (r : List Open). o ∷ r) (sym (ap (drop 1) e))

pub innermost : (xs : List Given) (x : Given) → 1 ≤ length xs → x ≡ get_or xs (length xs - 1) x →
    reverse (map seen_open xs) ≡ seen_open x ∷ drop 1 (reverse (map seen_open xs))
innermost xs x h e =
    let n : ℕ = length xs - 1 in
    first (reverse (map seen_open xs)) (reverse (map seen_open (take n xs))) (seen_open x)
    (ap (λ (ys : List Given). reverse (map seen_open ys)) (sym (take_all (n + 1) xs (omega arith)) ∙ take_more xs n x (omega arith))
    ∙ stack_more seen_open (take n xs) (get_or xs n x)
    ∙ ap (λ (y : Given). seen_open y ∷ reverse (map seen_open (take n xs))) (sym e))

abbrev is_turn_of : Given → Bool
is_turn_of (given.Turn n) = true
is_turn_of _ = false

abbrev is_branch_of : Given → Bool
is_branch_of given.Branch = true
is_branch_of _ = false

turn_in : (o : Given) (os : List Open) → is_turn (seen_open o ∷ os) ≡ is_turn_of o
turn_in (given.Plain n) os = refl
turn_in (given.Turn n) os = refl
turn_in given.Branch os = refl
turn_in given.Left os = refl

branch_in : (o : Given) (os : List Open) → is_branch (seen_open o ∷ os) ≡ is_branch_of o
branch_in (given.Plain n) os = refl
branch_in (given.Turn n) os = refl
branch_in given.Branch os = refl
branch_in given.Left os = refl

pub turn_of : (os rest : List Open) (o : Given) → os ≡ seen_open o ∷ rest → is_turn os ≡ is_turn_of o
turn_of os rest o e = ap is_turn e ∙ turn_in o rest

pub branch_of : (os rest : List Open) (o : Given) → os ≡ seen_open o ∷ rest → is_branch os ≡ is_branch_of o
branch_of os rest o e = ap is_branch e ∙ branch_in o rest
