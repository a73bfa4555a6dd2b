use Rattle.std.proofs.Common.{◌≡◌, ◌∙◌, ℕ, zero, suc, ◌-◌, ◌<◌, take, List, [], ◌∷◌, ◌++◌, sym, ap, append_assoc, arith}
use Rattle.c_grammar.specs.Blocks.{Items}
use Rattle.c_terminals.specs.declared.token.Token.{Token}
use Rattle.c_terminals.specs.Ahead.{ahead}
use Rattle.c_terminals.specs.Seen.{seen, seen_all}
use Rattle.c_terminals.proofs.Lists.{seen_more}
use Rattle.c_written.proofs.fronts.taken.Goals as goal

-- one more of the first tokens
taken_more : (is js : Items) (ts us : List Token) (t : Token) (n : ℕ) → us ≡ ts ++ t ∷ [] → is ≡ seen t ∷ js →
    0 < n → seen_all us ++ take (n - 1) js ≡ seen_all ts ++ take n is
taken_more is js ts us t zero e f h = absurd (omega (arith, h))
taken_more is js ts us t (suc n) e f h =
    let less : suc n - 1 ≡ n = omega arith in
    ap (λ (k : ℕ). seen_all us ++ take k js) less
    ∙ ap (λ (vs : List Token). seen_all vs ++ take n js) e
    ∙ ap (λ (ks : Items). ks ++ take n js) (seen_more ts t)
    ∙ append_assoc (seen_all ts) (seen t ∷ []) (take n js)
    ∙ ap (λ (ks : Items). seen_all ts ++ take (suc n) ks) (sym f)

pub tokens-preserved : goal.tokens-preserved
tokens-preserved c =
    taken_more (ahead c.tokens.ahead) (ahead c.next.new.self) c.tokens.done.items c.push.new.self.items c.in-Some.token
    c.tokens.left c.in_ok-push.ensures.items c.in-Some.ensures c.tokens-test.true
    ∙ c.tokens.invariant
