-- The pass over all tokens, one token after another.
use Rattle.std.proofs.Common.{◌≡◌, ◌∙◌, ℕ, zero, suc, Bool, true, false, cond, List, [], ◌∷◌, ◌++◌, length, Option, Some, None, refl, sym, ap, append_assoc}
use Rattle.std.proofs.lemmas.List.{map-append}
use Rattle.c_tokens.specs.declared.kind.Sign.TheVariants as sign
use Rattle.c_grammar.specs.Terminal.{Terminal, Unknown}
use Rattle.c_grammar.specs.Texts.{Item}
use Rattle.c_grammar.specs.Blocks.{Items, at, bare, is_directive}
use Rattle.c_grammar.specs.Constants.{is_mark}
use Rattle.c_grammar.specs.Structs.{Found, Onward, Put, State, behind, put_at, put_behind, put_on, rows_from, rows_on}
use Rattle.c_terminals.specs.declared.token.Token.{Token}
use Rattle.c_terminals.specs.Seen.{seen, seen_all}
use Rattle.c_terminals.proofs.Lists.{seen_more}

-- a token that is no directive line, and is not left out
first_step : (f : Found) (s : State) (k : ℕ) (i : Item Terminal) (is js : Items) (o : Option Put) →
    is_directive i.terminal ≡ false → k ≡ 0 → js ≡ bare is → o ≡ put_at f s i js →
    rows_from f s k (i ∷ is) ≡ put_on f s i o (λ s k. rows_from f s k is)
first_step f s k i is js o e g h p =
    let go : Onward = λ s k. rows_from f s k is in
    ap (λ (b : Bool). cond b (i ∷ rows_from f s k is) (rows_on f s k i (bare is) go)) e
    ∙ ap (λ (n : ℕ). rows_on f s n i (bare is) go) g
    ∙ ap (λ (ks : Items). put_on f s i (put_at f s i ks) go) (sym h)
    ∙ ap (λ (q : Option Put). put_on f s i q go) (sym p)

pub put_step : (f : Found) (s : State) (k : ℕ) (i : Item Terminal) (is js : Items) (o : Option Put) (p : Put)
    (ts us vs : List Token) →
    is_directive i.terminal ≡ false → k ≡ 0 → js ≡ bare is → o ≡ put_at f s i js → o ≡ Some p → p.items ≡ seen_all vs →
    us ≡ ts ++ vs → seen_all ts ++ rows_from f s k (i ∷ is) ≡
    seen_all us ++ rows_from f (record { depth = s.depth; indices = s.indices; before = p.before }) p.len is
put_step f s k i is js o p ts us vs e g h q r v u =
    let go : Onward = λ s k. rows_from f s k is in
    let t : State = record { depth = s.depth; indices = s.indices; before = p.before } in
    ap (λ (ks : Items). seen_all ts ++ ks) (first_step f s k i is js o e g h q)
    ∙ ap (λ (x : Option Put). seen_all ts ++ put_on f s i x go) r
    ∙ ap (λ (ks : Items). seen_all ts ++ (ks ++ go t p.len)) v
    ∙ sym (append_assoc (seen_all ts) (seen_all vs) (go t p.len))
    ∙ ap (λ (ks : Items). ks ++ go t p.len) (sym (map-append seen ts vs) ∙ ap seen_all (sym u))

pub keep_step : (f : Found) (s t : State) (k n : ℕ) (x : Token) (is js : Items) (o : Option Put) (ts us vs : List Token) →
    is_directive (seen x).terminal ≡ false → k ≡ 0 → js ≡ bare is → o ≡ put_at f s (seen x) js → o ≡ None →
    is_mark sign.Dot (seen x) ≡ false → us ≡ ts ++ x ∷ [] → seen_all vs ≡ seen_all us ++ put_behind s (seen x) →
    t ≡ behind f (seen x) s → n ≡ 0 →
    seen_all ts ++ rows_from f s k (seen x ∷ is) ≡ seen_all vs ++ rows_from f t n is
keep_step f s t k n x is js o ts us vs e g h q r d u v w m =
    let i : Item Terminal = seen x in
    let go : Onward = λ s k. rows_from f s k is in
    let rest : Items = go (behind f i s) 0 in
    ap (λ (ks : Items). seen_all ts ++ ks) (first_step f s k i is js o e g h q)
    ∙ ap (λ (y : Option Put). seen_all ts ++ put_on f s i y go) r
    ∙ ap (λ (b : Bool). seen_all ts ++ cond b (at i Unknown ∷ []) (i ∷ (put_behind s i ++ rest))) d
    ∙ sym (append_assoc (seen_all ts) (i ∷ []) (put_behind s i ++ rest))
    ∙ ap (λ (ks : Items). ks ++ (put_behind s i ++ rest)) (sym (seen_more ts x) ∙ ap seen_all (sym u))
    ∙ sym (append_assoc (seen_all us) (put_behind s i) rest)
    ∙ ap (λ (ks : Items). ks ++ rest) (sym v)
    ∙ ap (λ (y : State). seen_all vs ++ go y 0) (sym w)
    ∙ ap (λ (y : ℕ). seen_all vs ++ go t y) (sym m)
