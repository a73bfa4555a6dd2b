-- The tokens of a value are put in one after another.
use Rattle.std.proofs.Common.{◌≡◌, ◌∙◌, ◌≤◌, ◌<◌, ◌+◌, ◌++◌, ℕ, List, [], ◌∷◌, append_assoc, ap, get_or, length, map, refl, sym, take}
use Rattle.std.proofs.lemmas.List.{take_all, take_more}
use Rattle.c_grammar.specs.Blocks.{Items, at}
use Rattle.c_grammar.specs.Terminal.{Terminal}
use Rattle.c_grammar.specs.Texts.{Item}
use Rattle.c_terminals.specs.declared.token.Token.{Token}
use Rattle.c_terminals.specs.Seen.{seen, seen_all}
use Rattle.c_terminals.proofs.Lists.{seen_more}
use Rattle.c_temporaries.specs.declared.parts.Part.{Part}
use Rattle.c_temporaries.specs.Parts.{seen_part, seen_parts}

more_at : (i : Item Terminal) (ps : List Part) (p : Part) →
    map (at i) (seen_parts (ps ++ p ∷ [])) ≡ map (at i) (seen_parts ps) ++ at i (seen_part p) ∷ []
more_at i [] p = refl
more_at i (q ∷ ps) p = ap (λ (is : Items). at i (seen_part q) ∷ is) (more_at i ps p)

pub part_put : (i : Item Terminal) (ds ts us : List Token) (ps : List Part) (k : ℕ) (t : Token) (d : Part) → us ≡ ts ++ t ∷ [] →
    seen_all ts ≡ seen_all ds ++ map (at i) (seen_parts (take k ps)) → k < length ps → seen t ≡ at i (seen_part (get_or ps k d)) →
    seen_all us ≡ seen_all ds ++ map (at i) (seen_parts (take (k + 1) ps))
part_put i ds ts us ps k t d e f h g =
    ap seen_all e ∙ seen_more ts t
    ∙ ap (λ (is : Items). is ++ seen t ∷ []) f
    ∙ append_assoc (seen_all ds) (map (at i) (seen_parts (take k ps))) (seen t ∷ [])
    ∙ ap (λ (j : Item Terminal). seen_all ds ++ (map (at i) (seen_parts (take k ps)) ++ j ∷ [])) g
    ∙ ap (λ (is : Items). seen_all ds ++ is)
    (sym (ap (λ (qs : List Part). map (at i) (seen_parts qs)) (take_more ps k d h) ∙ more_at i (take k ps) (get_or ps k d)))

pub all_put : (i : Item Terminal) (ds ts : List Token) (ps : List Part) (k : ℕ) →
    seen_all ts ≡ seen_all ds ++ map (at i) (seen_parts (take k ps)) → length ps ≤ k →
    seen_all ts ≡ seen_all ds ++ map (at i) (seen_parts ps)
all_put i ds ts ps k e h =
    e ∙ ap (λ (qs : List Part). seen_all ds ++ map (at i) (seen_parts qs)) (take_all k ps h)
