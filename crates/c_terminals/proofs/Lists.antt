-- Tokens that are written one after another.
use Rattle.std.proofs.Common.{◌≡◌, ◌∙◌, ◌<◌, arith, length, List, [], ◌∷◌, ◌++◌, refl, sym, ap, append_assoc}
use Rattle.std.proofs.lemmas.List.{append-nil}
use Rattle.c_grammar.specs.Blocks.{Items}
use Rattle.c_terminals.specs.declared.token.Token.{Token}
use Rattle.c_terminals.specs.Seen.{seen, seen_all}

-- the tokens before, and then one more
pub seen_more : (ts : List Token) (t : Token) → seen_all (ts ++ t ∷ []) ≡ seen_all ts ++ seen t ∷ []
seen_more [] t = refl
seen_more (u ∷ us) t = ap (λ (is : Items). seen u ∷ is) (seen_more us t)

-- the first of what is to be written is written
pub written_one : (ts us : List Token) (t : Token) (is js : Items) → us ≡ ts ++ t ∷ [] → is ≡ seen t ∷ js →
    seen_all ts ++ is ≡ seen_all us ++ js
written_one ts us t is js e f =
    ap (λ (ks : Items). seen_all ts ++ ks) f
    ∙ sym (append_assoc (seen_all ts) (seen t ∷ []) js)
    ∙ ap (λ (ks : Items). ks ++ js) (sym (seen_more ts t))
    ∙ ap (λ (vs : List Token). seen_all vs ++ js) (sym e)

-- nothing is left
pub written_all : (ts rest : List Token) (f : Items → Items) (js : Items) → length rest < 1 → f [] ≡ [] →
    seen_all ts ++ f (seen_all rest) ≡ js → seen_all ts ≡ js
written_all ts [] f js h e k = sym (append-nil (seen_all ts)) ∙ ap (λ (is : Items). seen_all ts ++ is) (sym e) ∙ k
written_all ts (t ∷ us) f js h e k = absurd (omega arith)
