-- What is written for calls, one token or one part after another.
use Rattle.std.proofs.Common.{◌≡◌, ◌∙◌, ℕ, ◌+◌, ◌<◌, ◌≤◌, length, get_or, take, List, [], ◌∷◌, ◌++◌, sym, ap, append_assoc}
use Rattle.std.proofs.lemmas.List.{append-nil, map-append, take_all, take_more}
use Rattle.c_grammar.specs.Terminal.{Terminal}
use Rattle.c_grammar.specs.Texts.{Item}
use Rattle.c_grammar.specs.Blocks.{Items, at}
use Rattle.c_terminals.specs.declared.token.Token.{Token}
use Rattle.c_terminals.specs.declared.held.Written.{Written}
use Rattle.c_terminals.specs.Seen.{seen, seen_all}
use Rattle.c_terminals.specs.Held.{columns_held, seen_written, written_all}
use Rattle.c_terminals.proofs.Lists.{seen_more}
use Rattle.c_terminals.proofs.Owning.{held_more}

abbrev item_of : Terminal → ℕ → ℕ → List ℕ → Item Terminal
item_of t l c cs = record { terminal = t; line = l; column = c; columns = cs }

-- a token at the place of another one
pub placed_at : (w : Written) (i : Item Terminal) (t : Terminal) → (seen_written w).terminal ≡ t → w.line ≡ i.line → w.column ≡ i.column →
    (seen_written w).columns ≡ [] → seen_written w ≡ at i t
placed_at w i t a b c d =
    ap (λ (x : Terminal). item_of x w.line w.column (columns_held w.terminal)) a
    ∙ ap (λ (n : ℕ). item_of t n w.column (columns_held w.terminal)) b
    ∙ ap (λ (n : ℕ). item_of t i.line n (columns_held w.terminal)) c
    ∙ ap (λ (ns : List ℕ). item_of t i.line i.column ns) d

-- one more
pub put_one : (ws us : List Written) (w : Written) (i : Item Terminal) → us ≡ ws ++ w ∷ [] → seen_written w ≡ i →
    written_all us ≡ written_all ws ++ i ∷ []
put_one ws us w i e f =
    ap written_all e ∙ held_more ws w ∙ ap (λ (j : Item Terminal). written_all ws ++ j ∷ []) f

pub put_step : (before : Items) (ts : List Token) (ws us : List Written) (k : ℕ) (w : Written) (d : Token) → us ≡ ws ++ w ∷ [] →
    written_all ws ≡ before ++ seen_all (take k ts) → k < length ts → seen_written w ≡ seen (get_or ts k d) →
    written_all us ≡ before ++ seen_all (take (k + 1) ts)
put_step before ts ws us k w d e f h g =
    put_one ws us w (seen (get_or ts k d)) e g
    ∙ ap (λ (is : Items). is ++ seen (get_or ts k d) ∷ []) f
    ∙ append_assoc before (seen_all (take k ts)) (seen (get_or ts k d) ∷ [])
    ∙ ap (λ (is : Items). before ++ is) (sym (ap seen_all (take_more ts k d h) ∙ seen_more (take k ts) (get_or ts k d)))

pub put_end : (before is : Items) (ts : List Token) (k : ℕ) → is ≡ before ++ seen_all (take k ts) → length ts ≤ k →
    is ≡ before ++ seen_all ts
put_end before is ts k e h = e ∙ ap (λ (us : List Token). before ++ seen_all us) (take_all k ts h)

-- a list of tokens behind another one
pub put_more : (ws us vs : List Written) → us ≡ ws ++ vs → written_all us ≡ written_all ws ++ written_all vs
put_more ws us vs e = ap written_all e ∙ map-append seen_written ws vs

-- what is written, and what follows
pub put_front : (ws us : List Written) (w : Written) (i : Item Terminal) (is js : Items) → us ≡ ws ++ w ∷ [] → seen_written w ≡ i → is ≡ i ∷ js →
    written_all ws ++ is ≡ written_all us ++ js
put_front ws us w i is js e f h =
    ap (λ (ks : Items). written_all ws ++ ks) h
    ∙ sym (append_assoc (written_all ws) (i ∷ []) js)
    ∙ ap (λ (ks : Items). ks ++ js) (sym (put_one ws us w i e f))

pub put_all_front : (ws us vs : List Written) (is js : Items) → us ≡ ws ++ vs → is ≡ written_all vs ++ js →
    written_all ws ++ is ≡ written_all us ++ js
put_all_front ws us vs is js e h =
    ap (λ (ks : Items). written_all ws ++ ks) h
    ∙ sym (append_assoc (written_all ws) (written_all vs) js)
    ∙ ap (λ (ks : Items). ks ++ js) (sym (put_more ws us vs e))

-- nothing follows
pub put_last : (ws : List Written) (is js : Items) → is ≡ [] → written_all ws ++ is ≡ js → written_all ws ≡ js
put_last ws is js e h = sym (append-nil (written_all ws)) ∙ ap (λ (ks : Items). written_all ws ++ ks) (sym e) ∙ h
