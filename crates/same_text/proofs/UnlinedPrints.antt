-- Calls of printf are written out without a look at the lines of the tokens.
use Rattle.std.proofs.Common.{◌≡◌, ℕ, zero, suc, Bool, true, false, cond, List, [], ◌∷◌, refl, ap, ap₂, ◌∙◌}
use Rattle.std.specs.Prelude.{◌&&◌, codes}
use Rattle.c_grammar.specs.Lexeme.{Print}
use Rattle.c_grammar.specs.Terminal.{Terminal, Fixed, Name, Unknown, same}
use Rattle.c_grammar.specs.Texts.{Item}
use Rattle.c_grammar.specs.Blocks.{Items, is_directive, bare, at}
use Rattle.c_grammar.specs.Prints.{begins_with, int_text, one_text, joined_text, text_len, is_text, alone, print_at, print_on, printed, stays}
use Rattle.same_text.specs.Laws.{unlined}
use Rattle.same_text.proofs.Unlined.{all_unlined, AreUnlined, either, one, bare_unlined}

begins_same : (ts : List Terminal) (is : Items) → begins_with ts (all_unlined is) ≡ begins_with ts is
begins_same [] is = refl
begins_same (t ∷ ts) [] = refl
begins_same (t ∷ ts) (i ∷ is) = ap (λ (b : Bool). same t i.terminal && b) (begins_same ts is)

len_same : (is : Items) → text_len (all_unlined is) ≡ text_len is
len_same is =
    ap
    (λ (b : Bool). cond b 2 (cond (begins_with joined_text (all_unlined is)) 4
    (cond (begins_with int_text (all_unlined is)) 1 0))) (begins_same one_text is)
    ∙ ap₂ (λ (b c : Bool). cond (begins_with one_text is) 2 (cond b 4 (cond c 1 0))) (begins_same joined_text is)
    (begins_same int_text is)

alone_unlined : (i : Item Terminal) → alone (unlined i) ≡ unlined (alone i)
alone_unlined i = go (is_text i.terminal)
  where
    go : (b : Bool) → cond b (at (unlined i) Unknown) (unlined i) ≡ unlined (cond b (at i Unknown) i)
    go true = refl
    go false = refl

kept_unlined : (i : Item Terminal) (x x' : Items) → AreUnlined x' x → AreUnlined (alone (unlined i) ∷ x') (alone i ∷ x)
kept_unlined i x x' e = ap (λ (j : Item Terminal). j ∷ x') (alone_unlined i) ∙ one (alone i) x x' e

print_unlined : (i : Item Terminal) (n : ℕ) (go go' : ℕ → Items) → ((k : ℕ) → AreUnlined (go' k) (go k)) →
    AreUnlined (print_at (unlined i) n go') (print_at i n go)
print_unlined i zero go go' r = kept_unlined i (go 0) (go' 0) (r 0)
print_unlined i (suc n) go go' r =
    either (same (Name (codes "printf")) i.terminal) _ _ _ _ _ refl
    (one (at i (Fixed Print)) (go (suc n)) (go' (suc n)) (r (suc n))) (kept_unlined i (go 0) (go' 0) (r 0))

print_on_unlined : (k : ℕ) (i : Item Terminal) (n : ℕ) (go go' : ℕ → Items) → ((k : ℕ) → AreUnlined (go' k) (go k)) →
    AreUnlined (print_on k (unlined i) n go') (print_on k i n go)
print_on_unlined zero i n go go' r = print_unlined i n go go' r
print_on_unlined (suc k) i n go go' r =
    either (stays i.terminal) _ _ _ _ _ refl
    (one i (go (suc k)) (go' (suc k)) (r (suc k))) (r k)

pub printed_unlined : (is : Items) (k : ℕ) → AreUnlined (printed k (all_unlined is)) (printed k is)
unfolding printed
printed_unlined [] k = refl
printed_unlined (i ∷ is) k = step (is_directive i.terminal) (λ k. printed_unlined is k)
  where
    step : (b : Bool) → ((k : ℕ) → AreUnlined (printed k (all_unlined is)) (printed k is)) →
        AreUnlined
        (cond b (unlined i ∷ printed k (all_unlined is))
        (print_on k (unlined i) (text_len (bare (all_unlined is))) (λ k. printed k (all_unlined is))))
        (cond b (i ∷ printed k is) (print_on k i (text_len (bare is)) (λ k. printed k is)))
    step true ih = one i (printed k is) (printed k (all_unlined is)) (ih k)
    step false ih =
        ap (λ (n : ℕ). print_on k (unlined i) n (λ k. printed k (all_unlined is)))
        (ap text_len (bare_unlined is) ∙ len_same (bare is))
        ∙ print_on_unlined k i (text_len (bare is)) (λ k. printed k is) (λ k. printed k (all_unlined is)) ih
