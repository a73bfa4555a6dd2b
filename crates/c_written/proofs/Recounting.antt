-- One token after another, where names of loops are declared before them.
use Rattle.std.proofs.Common.{◌≡◌, ◌∙◌, ℕ, zero, suc, ◌+◌, true, false, List, [], ◌∷◌, ◌++◌, Option, Some, None, refl, sym, ap, append_assoc, arith}
use Rattle.c_tokens.specs.declared.kind.Sign.TheVariants as sign
use Rattle.c_grammar.specs.Terminal.{Terminal}
use Rattle.c_grammar.specs.Texts.{Item}
use Rattle.c_grammar.specs.Blocks.{Items, bare, is_directive}
use Rattle.c_grammar.specs.Constants.{depth_behind, is_mark}
use Rattle.c_grammar.specs.Counters.{Before, Found, behind, counted_in, counts, declaration_len, list_len, put_on, type_for}

pub list_goes : (f : Found) (n m : ℕ) (x s : Item Terminal) (is js ks : Items) → is ≡ x ∷ js → js ≡ s ∷ ks →
    counts f x.terminal ≡ true → is_mark sign.Semicolon s ≡ false → is_mark sign.Comma s ≡ true → m ≡ n + 2 →
    list_len f n is ≡ list_len f m ks
list_goes f n m x s is js ks a b c d e g = rw a (rw b (rw (c, d, e, g) refl))

-- a token that stays
pub token_put : (f : Found) (d : ℕ) (b : Before) (k : ℕ) (i : Item Terminal) (is : Items) → is_directive i.terminal ≡ false →
    k ≡ 0 → declaration_len f d b i (bare is) ≡ None →
    counted_in f d b k (i ∷ is) ≡
    type_for f b i (bare is) ++ (i ∷ counted_in f (depth_behind i.terminal d) (behind b i) 0 is)
token_put f d b zero i is e g h =
    rw e (ap (λ (o : Option ℕ). put_on f d b i (bare is) o (λ d b k. counted_in f d b k is)) h)
token_put f d b (suc k) i is e g h = absurd (omega (arith, g))

-- behind what is done
pub put_more : (ds es ts rest : Items) (i : Item Terminal) → es ≡ ds ++ (ts ++ i ∷ []) → ds ++ (ts ++ (i ∷ rest)) ≡ es ++ rest
put_more ds es ts rest i e =
    ap (λ (js : Items). ds ++ js) (sym (append_assoc ts (i ∷ []) rest)) ∙ sym (append_assoc ds (ts ++ i ∷ []) rest)
    ∙ ap (λ (js : Items). js ++ rest) (sym e)
