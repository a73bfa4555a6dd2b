-- Whether a name is among others.
use Rattle.std.proofs.Common.{◌≡◌, ◌∙◌, ℕ, ◌+◌, ◌<◌, ◌≤◌, true, false, List, [], ◌∷◌, length, get_or, take, map, reverse, refl, sym, ap, arith}
use Rattle.std.specs.Borrow.{Bor}
use Rattle.std.specs.Prelude.{◌||◌}
use Rattle.std.specs.Str.{bytes_eq}
use Rattle.std.proofs.lemmas.List.{take_more, take_all}
use Rattle.c_grammar.specs.Constants.{Names, is_among}
use Rattle.c_grammar.specs.LineRules.{is_among as is_listed}
use Rattle.c_terminals.proofs.Stacks.{stack_more}

abbrev pub names_in : List (Bor (List ℕ)) → Names
names_in xs = reverse (map (λ x. x.now) xs)

newest : (xs : List (Bor (List ℕ))) (k : ℕ) (d : Bor (List ℕ)) → k < length xs →
    names_in (take (k + 1) xs) ≡ (get_or xs k d).now ∷ names_in (take k xs)
newest xs k d h = ap names_in (take_more xs k d h) ∙ stack_more (λ x. x.now) (take k xs) (get_or xs k d)

pub among_is : (xs ys : List (Bor (List ℕ))) (k : ℕ) (d : Bor (List ℕ)) (x : List ℕ) → ys ≡ xs → k < length ys →
    bytes_eq (get_or ys k d).now x ≡ true → is_among (names_in (take (k + 1) xs)) x ≡ true
among_is xs ys k d x e h b = ap (λ (zs : List (Bor (List ℕ))). is_among (names_in (take (k + 1) zs)) x) (sym e)
    ∙ ap (λ (vs : Names). is_among vs x) (newest ys k d h) ∙ rw b refl

pub among_not : (xs ys : List (Bor (List ℕ))) (k : ℕ) (d : Bor (List ℕ)) (x : List ℕ) → ys ≡ xs → k < length ys →
    bytes_eq (get_or ys k d).now x ≡ false →
    is_among (names_in (take (k + 1) xs)) x ≡ is_among (names_in (take k xs)) x
among_not xs ys k d x e h b = ap (λ (zs : List (Bor (List ℕ))). is_among (names_in (take (k + 1) zs)) x) (sym e)
    ∙ ap (λ (vs : Names). is_among vs x) (newest ys k d h)
    ∙ rw b (ap (λ (zs : List (Bor (List ℕ))). is_among (names_in (take k zs)) x) e)

pub all_names : (xs ys : List (Bor (List ℕ))) (k : ℕ) → ys ≡ xs → length ys ≤ k → names_in (take k xs) ≡ names_in xs
all_names xs ys k e h = ap names_in (take_all k xs (omega (arith, h, ap (λ (zs : List (Bor (List ℕ))). length zs) e)))

pub among_same : (xs : Names) (x : List ℕ) → is_listed xs x ≡ is_among xs x
among_same [] x = refl
among_same (y ∷ ys) x = ap (λ b. bytes_eq y x || b) (among_same ys x)
