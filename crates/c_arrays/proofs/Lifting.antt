-- One token after another, with the arrays that main declares.
use Rattle.std.proofs.Common.{◌≡◌, ◌∙◌, ◌<◌, List, [], ◌∷◌, ◌++◌, length, refl, ap, append_assoc, arith}
use Rattle.c_grammar.specs.Blocks.{Items}
use Rattle.c_grammar.specs.Allocations.{joined, nothing_read}
use Rattle.c_grammar.specs.MainArrays.{all_lifted, lifted}
use Rattle.c_terminals.specs.declared.token.Token.{Token}
use Rattle.c_terminals.specs.Seen.{seen, seen_all}
use Rattle.c_arrays.specs.declared.arrays.Arrays.{Arrays}
use Rattle.c_arrays.specs.Arrays.{with_arrays}

seen_both : (ts us : List Token) → seen_all (ts ++ us) ≡ seen_all ts ++ seen_all us
seen_both [] us = refl
seen_both (t ∷ ts) us = ap (λ (is : Items). seen t ∷ is) (seen_both ts us)

pub all_joined : (a : Arrays) (rest vs ws : List Token) (is : Items) → length rest < 1 →
    with_arrays a (seen_all rest) ≡ all_lifted nothing_read is → vs ≡ a.before.items ++ a.arrays.items →
    ws ≡ vs ++ a.done.items → seen_all ws ≡ lifted is
all_joined a [] vs ws is h e f g =
    ap seen_all (g ∙ ap (λ (ts : List Token). ts ++ a.done.items) f ∙ append_assoc a.before.items a.arrays.items a.done.items)
    ∙ seen_both a.before.items (a.arrays.items ++ a.done.items)
    ∙ ap (λ (js : Items). seen_all a.before.items ++ js) (seen_both a.arrays.items a.done.items)
    ∙ ap joined e
all_joined a (t ∷ ts) vs ws is h e f g = absurd (omega arith)
