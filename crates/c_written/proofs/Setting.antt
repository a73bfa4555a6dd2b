-- One number of an initializer after another.
use Rattle.std.proofs.Common.{◌≡◌, ◌∙◌, ℕ, ◌+◌, ◌<◌, true, false, List, ◌∷◌, ◌++◌, Option, Some, refl, sym, ap, arith}
use Rattle.std.specs.Prelude.{nat_lt}
use Rattle.std.proofs.lemmas.Bool.Decides.{nat_tests}
use Rattle.c_tokens.specs.declared.kind.Sign.TheVariants as sign
use Rattle.c_grammar.specs.Terminal.{Terminal}
use Rattle.c_grammar.specs.Texts.{Item}
use Rattle.c_grammar.specs.Blocks.{Items}
use Rattle.c_grammar.specs.Constants.{is_mark}
use Rattle.c_grammar.specs.Initial.{Initial, cell_set, cell_valued, ends_list, list_initial, value_of}

lt_true : (a b : ℕ) → a < b → nat_lt a b ≡ true
lt_true a b h = grind (arith, nat_tests)

cell_more : (x : List ℕ) (len k v : ℕ) (sets : Items) (n s e : Item Terminal) (go : Items → Option Initial) →
    nat_lt k len ≡ true → ends_list s e ≡ false → is_mark sign.Comma s ≡ true →
    cell_valued x len k sets n s e (Some v) go ≡ go (sets ++ cell_set x k n v)
cell_more x len k v sets n s e go a b c = rw a (rw b (rw c refl))

-- behind a number and a comma the next cell comes
pub list_more : (x : List ℕ) (len k v : ℕ) (sets is js ks ms : Items) (n s e : Item Terminal) → is ≡ n ∷ js → js ≡ s ∷ ks →
    ks ≡ e ∷ ms → value_of n.terminal ≡ Some v → k < len → ends_list s e ≡ false → is_mark sign.Comma s ≡ true →
    list_initial x len k sets is ≡ list_initial x len (k + 1) (sets ++ cell_set x k n v) ks
list_more x len k v sets is js ks ms n s e a b c f h i j =
    ap (list_initial x len k sets)
    (a ∙ ap (λ (ls : Items). n ∷ ls) (b ∙ ap (λ (ls : Items). s ∷ ls) c))
    ∙ ap (λ (o : Option ℕ). cell_valued x len k sets n s e o (λ all. list_initial x len (k + 1) all (e ∷ ms))) f
    ∙ cell_more x len k v sets n s e (λ all. list_initial x len (k + 1) all (e ∷ ms)) (lt_true k len h) i j
    ∙ ap (list_initial x len (k + 1) (sets ++ cell_set x k n v)) (sym c)
