-- The last range of a name.
use Rattle.std.proofs.Common.{◌≡◌, ◌∙◌, ℕ, ◌+◌, ◌<◌, ◌≤◌, true, false, List, ◌∷◌, length, get_or, take, sym, ap, arith}
use Rattle.std.specs.Str.{bytes_eq}
use Rattle.std.proofs.lemmas.List.{take_more, take_all}
use Rattle.c_grammar.specs.Grids.{Ranges, range_of}
use Rattle.c_written.specs.declared.indices.Named.{Named}
use Rattle.c_written.specs.Indices.{ranges_in, seen_named}
use Rattle.c_written.specs.Ranges.{seen_range}
use Rattle.c_terminals.proofs.Stacks.{stack_more}

newest : (xs ys : List Named) (k : ℕ) (d : Named) → ys ≡ xs → k < length ys → d ≡ get_or ys k d →
    ranges_in (take (k + 1) xs) ≡ seen_named d ∷ ranges_in (take k xs)
newest xs ys k d e h i = ap (λ (zs : List Named). ranges_in (take (k + 1) zs)) (sym e)
    ∙ ap ranges_in (take_more ys k d h) ∙ stack_more seen_named (take k ys) (get_or ys k d)
    ∙ ap (λ (n : Named). seen_named n ∷ ranges_in (take k ys)) (sym i)
    ∙ ap (λ (zs : List Named). seen_named d ∷ ranges_in (take k zs)) e

pub range_is : (xs ys : List Named) (k : ℕ) (d : Named) (x : List ℕ) → ys ≡ xs → k < length ys → d ≡ get_or ys k d →
    bytes_eq d.name.now x ≡ true → range_of (ranges_in (take (k + 1) xs)) x ≡ seen_range d.range
range_is xs ys k d x e h i b = ap (λ (rs : Ranges). range_of rs x) (newest xs ys k d e h i) ∙ rw b

pub range_not : (xs ys : List Named) (k : ℕ) (d : Named) (x : List ℕ) → ys ≡ xs → k < length ys → d ≡ get_or ys k d →
    bytes_eq d.name.now x ≡ false → range_of (ranges_in (take (k + 1) xs)) x ≡ range_of (ranges_in (take k xs)) x
range_not xs ys k d x e h i b = ap (λ (rs : Ranges). range_of rs x) (newest xs ys k d e h i) ∙ rw b

pub all_names : (xs ys : List Named) (k : ℕ) → ys ≡ xs → length ys ≤ k → ranges_in (take k xs) ≡ ranges_in xs
all_names xs ys k e h = ap ranges_in (take_all k xs (omega (arith, h, ap (λ (zs : List Named). length zs) e)))
