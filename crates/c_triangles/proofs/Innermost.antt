-- The innermost of the open blocks.
use Rattle.std.proofs.Common.{◌≡◌, ◌∙◌, ℕ, ◌+◌, ◌-◌, ◌≤◌, ◌<◌, Bool, true, false, List, [], ◌∷◌, ◌++◌, length, get_or, take, drop, map, reverse, refl, sym, ap, arith}
use Rattle.std.proofs.lemmas.List.{length-take-le, take_all, take_more}
use Rattle.c_grammar.specs.Triangles.{Open, range_in}
use Rattle.c_terminals.proofs.Stacks.{stack_more, stack_pushed}
use Rattle.c_triangles.specs.declared.blocks.Open.{Open as Given}
use Rattle.c_triangles.specs.declared.blocks.Open.TheVariants as given
use Rattle.c_triangles.specs.Blocks.{blocks_of, is_guarded, seen_open}

pub pushed : (xs ys : List Given) (x : Given) → ys ≡ xs ++ x ∷ [] → blocks_of ys ≡ seen_open x ∷ blocks_of xs
pushed xs ys x e = stack_pushed seen_open xs ys x e

first : (os rest : List Open) (o : Open) → os ≡ o ∷ rest → os ≡ o ∷ drop 1 os
first os rest o e = e ∙ ap (λ (r : List Open). o ∷ r) (sym (ap (drop 1) e))

pub innermost : (xs : List Given) (x : Given) → 1 ≤ length xs → x ≡ get_or xs (length xs - 1) x →
    blocks_of xs ≡ seen_open x ∷ drop 1 (blocks_of xs)
innermost xs x h e =
    let n : ℕ = length xs - 1 in
    first (blocks_of xs) (blocks_of (take n xs)) (seen_open x)
    (ap blocks_of (sym (take_all (n + 1) xs (omega arith)) ∙ take_more xs n x (omega arith))
    ∙ stack_more seen_open (take n xs) (get_or xs n x)
    ∙ ap (λ (y : Given). seen_open y ∷ blocks_of (take n xs)) (sym e))

-- without the last
pub fewer : (xs : List Given) (n : ℕ) → length xs ≤ n → length (take (length xs - 1) xs) ≤ n
fewer xs n h = omega (arith, length-take-le (length xs - 1) xs (omega arith), h)

abbrev is_guarded_of : Given → Bool
is_guarded_of given.Plain = false
is_guarded_of (given.Named n) = n.guarded

guarded_in : (o : Given) (os : List Open) → is_guarded (seen_open o ∷ os) ≡ is_guarded_of o
guarded_in given.Plain os = refl
guarded_in (given.Named n) os = refl

pub guarded_of : (os rest : List Open) (o : Given) → os ≡ seen_open o ∷ rest → is_guarded os ≡ is_guarded_of o
guarded_of os rest o e = ap is_guarded e ∙ guarded_in o rest
