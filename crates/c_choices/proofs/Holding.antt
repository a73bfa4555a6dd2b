-- A statement whose value a local holds, in its two parts.
use Rattle.std.proofs.Common.{◌≡◌, ◌∙◌, ℕ, zero, suc, List, [], ◌∷◌, ◌++◌, take, drop, refl, ap, append_assoc}
use Rattle.c_grammar.specs.Terminal.{Terminal}
use Rattle.c_grammar.specs.Texts.{Item}
use Rattle.c_grammar.specs.Blocks.{Items}
use Rattle.c_grammar.specs.Choices.{held}
use Rattle.c_terminals.specs.declared.token.Token.{Token}
use Rattle.c_terminals.specs.Seen.{seen, seen_all}
use Rattle.c_choices.specs.Held.{cell_put, value_put}

seen_take : (n : ℕ) (ts : List Token) → seen_all (take n ts) ≡ take n (seen_all ts)
seen_take zero ts = refl
seen_take (suc n) [] = refl
seen_take (suc n) (t ∷ ts) = ap (λ (is : Items). seen t ∷ is) (seen_take n ts)

seen_drop : (n : ℕ) (ts : List Token) → seen_all (drop n ts) ≡ drop n (seen_all ts)
seen_drop zero ts = refl
seen_drop (suc n) [] = refl
seen_drop (suc n) (t ∷ ts) = seen_drop n ts

pub held_done : (i : Item Terminal) (ts : List Token) (n : ℕ) (d e f : Items) → e ≡ d ++ value_put i (seen_all (drop n ts)) →
    f ≡ e ++ cell_put i (seen_all (take n ts)) → f ≡ d ++ held i (seen_all ts) n
held_done i ts n d e f g h =
    h ∙ ap (λ (js : Items). js ++ cell_put i (seen_all (take n ts))) g
    ∙ append_assoc d (value_put i (seen_all (drop n ts))) (cell_put i (seen_all (take n ts)))
    ∙ ap (λ (js : Items). d ++ (value_put i js ++ cell_put i (seen_all (take n ts)))) (seen_drop n ts)
    ∙ ap (λ (js : Items). d ++ (value_put i (drop n (seen_all ts)) ++ cell_put i js)) (seen_take n ts)
