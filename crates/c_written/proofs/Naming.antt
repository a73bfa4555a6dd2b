-- The last constant of a name.
use Rattle.std.proofs.Common.{◌≡◌, ◌∙◌, ℕ, ◌+◌, ◌<◌, ◌≤◌, true, false, List, ◌∷◌, length, get_or, take, Some, refl, sym, ap, arith}
use Rattle.std.specs.Str.{bytes_eq}
use Rattle.std.proofs.lemmas.List.{take_more, take_all}
use Rattle.c_grammar.specs.Expressions.{Values, value_of}
use Rattle.c_written.specs.declared.values.Constant.{Constant}
use Rattle.c_written.specs.Values.{seen_constant, values_of}
use Rattle.c_terminals.proofs.Stacks.{stack_more}

newest : (cs : List Constant) (k : ℕ) (d : Constant) → k < length cs →
    values_of (take (k + 1) cs) ≡ seen_constant (get_or cs k d) ∷ values_of (take k cs)
newest cs k d h = ap values_of (take_more cs k d h) ∙ stack_more seen_constant (take k cs) (get_or cs k d)

pub newest_is : (xs ys : List Constant) (k : ℕ) (d : Constant) (x : List ℕ) → ys ≡ xs → k < length ys →
    bytes_eq (get_or ys k d).name.now x ≡ true → value_of (values_of (take (k + 1) xs)) x ≡ Some (get_or ys k d).value
newest_is xs ys k d x e h b = ap (λ (zs : List Constant). value_of (values_of (take (k + 1) zs)) x) (sym e)
    ∙ ap (λ (vs : Values). value_of vs x) (newest ys k d h) ∙ rw b refl

pub newest_not : (xs ys : List Constant) (k : ℕ) (d : Constant) (x : List ℕ) → ys ≡ xs → k < length ys →
    bytes_eq (get_or ys k d).name.now x ≡ false →
    value_of (values_of (take (k + 1) xs)) x ≡ value_of (values_of (take k xs)) x
newest_not xs ys k d x e h b = ap (λ (zs : List Constant). value_of (values_of (take (k + 1) zs)) x) (sym e)
    ∙ ap (λ (vs : Values). value_of vs x) (newest ys k d h)
    ∙ rw b (ap (λ (zs : List Constant). value_of (values_of (take k zs)) x) e)

pub all_constants : (xs ys : List Constant) (k : ℕ) → ys ≡ xs → length ys ≤ k → values_of (take k xs) ≡ values_of xs
all_constants xs ys k e h = ap values_of (take_all k xs (omega (arith, h, ap (λ (zs : List Constant). length zs) e)))
