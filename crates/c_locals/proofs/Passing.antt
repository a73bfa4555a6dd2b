-- What stands for a token is written, and the pass goes on behind it.
use Rattle.std.proofs.Common.{◌≡◌, ◌∙◌, ℕ, false, ◌∷◌, ◌++◌, refl, sym, ap, append_assoc}
use Rattle.c_grammar.specs.Terminal.{Terminal}
use Rattle.c_grammar.specs.Texts.{Item}
use Rattle.c_grammar.specs.Blocks.{Items, bare, is_directive}
use Rattle.c_grammar.specs.Locals.{Pass, Put, State, or_plain, put_at, put_on, scan}

token_put : (p : Pass) (s : State) (k : ℕ) (i : Item Terminal) (is : Items) → is_directive i.terminal ≡ false → k ≡ 0 →
    scan p s k (i ∷ is) ≡ put_on (or_plain s i (put_at p s i (bare is))) (λ s k. scan p s k is)
token_put p s k i is d z = rw (d, z) refl

pub put_goes : (p : Pass) (s : State) (k : ℕ) (i : Item Terminal) (is old done : Items) (q : Put) (t : State) (left : ℕ) →
    is_directive i.terminal ≡ false → k ≡ 0 → q ≡ or_plain s i (put_at p s i (bare is)) → done ≡ old ++ q.items →
    t ≡ q.state → left ≡ q.skip → old ++ scan p s k (i ∷ is) ≡ done ++ scan p t left is
put_goes p s k i is old done q t left d z e f g h =
    ap (λ (js : Items). old ++ js) (token_put p s k i is d z ∙ sym (ap (λ (q : Put). put_on q (λ s k. scan p s k is)) e))
    ∙ sym (append_assoc old q.items (scan p q.state q.skip is))
    ∙ ap (λ (js : Items). js ++ scan p q.state q.skip is) (sym f)
    ∙ sym (λ j. done ++ scan p (g j) (h j) is)
