-- Tokens with their lines, and without.
use Rattle.std.proofs.Common.{◌≡◌, ◌∙◌, ℕ, ◌+◌, ◌<◌, ◌≤◌, length, get_or, take, List, [], ◌∷◌, ◌++◌, refl, sym, ap}
use Rattle.std.proofs.lemmas.List.{take_more, take_all}
use Rattle.c_grammar.specs.Blocks.{Items}
use Rattle.c_terminals.specs.declared.token.Token.{Token}
use Rattle.c_terminals.specs.declared.held.Written.{Written}
use Rattle.c_terminals.specs.Seen.{seen, seen_all}
use Rattle.c_terminals.specs.Held.{seen_written, written_all}
use Rattle.c_terminals.proofs.Lists.{seen_more}

pub held_more : (ws : List Written) (w : Written) → written_all (ws ++ w ∷ []) ≡ written_all ws ++ seen_written w ∷ []
held_more [] w = refl
held_more (v ∷ vs) w = ap (λ (is : Items). seen_written v ∷ is) (held_more vs w)

pub borrow_step : (ts us : List Token) (ws : List Written) (k : ℕ) (t : Token) (d : Written) → us ≡ ts ++ t ∷ [] →
    seen_all ts ≡ written_all (take k ws) → k < length ws → seen t ≡ seen_written (get_or ws k d) →
    seen_all us ≡ written_all (take (k + 1) ws)
borrow_step ts us ws k t d e f h g =
    ap seen_all e ∙ seen_more ts t
    ∙ ap (λ (is : Items). is ++ seen t ∷ []) f
    ∙ ap (λ i. written_all (take k ws) ++ i ∷ []) g
    ∙ sym (ap written_all (take_more ws k d h) ∙ held_more (take k ws) (get_or ws k d))

pub own_step : (ts : List Token) (ws us : List Written) (k : ℕ) (w : Written) (d : Token) → us ≡ ws ++ w ∷ [] →
    written_all ws ≡ seen_all (take k ts) → k < length ts → seen_written w ≡ seen (get_or ts k d) →
    written_all us ≡ seen_all (take (k + 1) ts)
own_step ts ws us k w d e f h g =
    ap written_all e ∙ held_more ws w
    ∙ ap (λ (is : Items). is ++ seen_written w ∷ []) f
    ∙ ap (λ i. seen_all (take k ts) ++ i ∷ []) g
    ∙ sym (ap seen_all (take_more ts k d h) ∙ seen_more (take k ts) (get_or ts k d))

pub borrow_all : (ts : List Token) (ws : List Written) (k : ℕ) → seen_all ts ≡ written_all (take k ws) → length ws ≤ k →
    seen_all ts ≡ written_all ws
borrow_all ts ws k e h = e ∙ ap written_all (take_all k ws h)

pub own_all : (ts : List Token) (ws : List Written) (k : ℕ) → written_all ws ≡ seen_all (take k ts) → length ts ≤ k →
    written_all ws ≡ seen_all ts
own_all ts ws k e h = e ∙ ap seen_all (take_all k ts h)
