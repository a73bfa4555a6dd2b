-- Changes that are written in full, one token after another.
use Rattle.std.proofs.Common.{◌≡◌, ◌∙◌, ℕ, List, [], ◌∷◌, ◌++◌, reverse, Result, Ok, Err, refl, sym, ap, append_assoc}
use Rattle.std.specs.Prelude.{OnOk}
use Rattle.std.proofs.lemmas.List.{append-nil, reverse-append, reverse-reverse}
use Rattle.c_grammar.specs.Terminal.{Terminal}
use Rattle.c_grammar.specs.Texts.{Item}
use Rattle.c_grammar.specs.Blocks.{Items}
use Rattle.c_grammar.specs.Changes.{State, Onward, in_state, reversed}
use Rattle.c_terminals.specs.declared.token.Token.{Token}
use Rattle.c_written.specs.declared.changes.Changes.{Changes}
use Rattle.c_terminals.specs.Seen.{seen_all}
use Rattle.c_written.specs.Changes.{IsGone, IsSameState, seen_where, state_of}
use Rattle.c_written.proofs.Blocking.{on_ok}

-- what is written is said in other words
pub gone_ok : {X Y : Type 0} (res : Result X Y) (old new : Changes) (f g : Onward → Items) → ((go : Onward) → g go ≡ f go) →
    OnOk res (IsGone old new f) → OnOk res (IsGone old new g)
gone_ok res old new f g e h =
    on_ok res (IsGone old new f) (IsGone old new g)
    (λ k go. ap (λ (is : Items). seen_all old.done.items ++ is) (e go) ∙ k go) h

pub same_state : (old new : Changes) → IsSameState old new → state_of new ≡ state_of old
same_state old new h =
    ap (λ p. in_state (seen_where p) (reverse (seen_all new.since.items))) h.place
    ∙ ap (λ (ts : List Token). in_state (seen_where old.place) (reverse (seen_all ts))) h.since

-- these tokens are written, and then what follows
pub gone_by : (ds es ws : Items) (s t : State) (n m : ℕ) → es ≡ ds ++ ws → t ≡ s → m ≡ n → (go : Onward) →
    ds ++ (ws ++ go s n) ≡ es ++ go t m
gone_by ds es ws s t n m e f g go =
    sym (append_assoc ds ws (go s n))
    ∙ ap (λ (is : Items). is ++ go s n) (sym e)
    ∙ ap (λ (u : State). es ++ go u n) (sym f)
    ∙ ap (λ (k : ℕ). es ++ go t k) (sym g)

pub gone_same : {X Y : Type 0} (res : Result X Y) (old new : Changes) (ws : Items) (s : State) (n : ℕ) (f : Onward → Items) →
    OnOk res (seen_all new.done.items ≡ seen_all old.done.items ++ ws) → OnOk res (IsSameState old new) →
    state_of old ≡ s → old.left ≡ n → ((go : Onward) → f go ≡ ws ++ go s n) → OnOk res (IsGone old new f)
gone_same (Err x) old new ws s n f e h k l g = tt
gone_same (Ok x) old new ws s n f e h k l g =
    λ go. ap (λ (is : Items). seen_all old.done.items ++ is) (g go)
    ∙ gone_by (seen_all old.done.items) (seen_all new.done.items) ws s (state_of new) n new.left e (same_state old new h ∙ k) (h.left ∙ l) go

-- tokens are written before
pub gone_behind : {X Y : Type 0} (res : Result X Y) (old mid new : Changes) (ws : Items) (f : Onward → Items) →
    seen_all mid.done.items ≡ seen_all old.done.items ++ ws → OnOk res (IsGone mid new f) →
    OnOk res (IsGone old new (λ go. ws ++ f go))
gone_behind res old mid new ws f e h =
    on_ok res (IsGone mid new f) (IsGone old new (λ go. ws ++ f go))
    (λ k go. sym (append_assoc (seen_all old.done.items) ws (f go)) ∙ ap (λ (is : Items). is ++ f go) (sym e) ∙ k go) h

pub two_pushed : (ds es fs : Items) (x y u v : Item Terminal) → es ≡ ds ++ x ∷ [] → fs ≡ es ++ y ∷ [] → x ≡ u → y ≡ v →
    fs ≡ ds ++ (u ∷ v ∷ [])
two_pushed ds es fs x y u v e f h k =
    f ∙ ap (λ (is : Items). is ++ y ∷ []) e ∙ append_assoc ds (x ∷ []) (y ∷ [])
    ∙ ap (λ (w : Item Terminal). ds ++ (w ∷ y ∷ [])) h ∙ ap (λ (w : Item Terminal). ds ++ (u ∷ w ∷ [])) k

-- ---- what is assigned, whose last token comes first

reversed_back : (xs ys : Items) → reversed xs ys ≡ reverse xs ++ ys
reversed_back [] ys = refl
reversed_back (x ∷ xs) ys = reversed_back xs (x ∷ ys) ∙ sym (append_assoc (reverse xs) (x ∷ []) ys)
    ∙ ap (λ (is : Items). is ++ ys) (sym (reverse-append (x ∷ []) xs))

pub reversed_again : (xs : Items) → reversed (reverse xs) [] ≡ xs
reversed_again xs = reversed_back (reverse xs) [] ∙ append-nil (reverse (reverse xs)) ∙ reverse-reverse xs
