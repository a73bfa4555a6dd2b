-- One length of an array after another.
use Rattle.std.proofs.Common.{◌≡◌, ◌∙◌, ℕ, suc, Bool, true, false, Option, Some, None, sym, ap}
use Rattle.std.specs.Prelude.{◌||◌}
use Rattle.c_grammar.specs.Blocks.{Items}
use Rattle.c_grammar.specs.MainArrays.{behind_length, ends_array, ends_behind, has_lengths}

pub no_length : (k l : ℕ) (is : Items) → k ≡ suc l → None ≡ behind_length is → false ≡ has_lengths k is
no_length k l is e f =
    ap (λ (o : Option Items). ends_behind o (λ js. has_lengths l js)) f ∙ ap (λ (n : ℕ). has_lengths n is) (sym e)

pub last_length : (k l : ℕ) (is js : Items) → k ≡ suc l → Some js ≡ behind_length is → true ≡ ends_array js →
    true ≡ has_lengths k is
last_length k l is js e f g =
    ap (λ (b : Bool). b || has_lengths l js) g ∙ no_more
  where
    no_more : (ends_array js || has_lengths l js) ≡ has_lengths k is
    no_more =
        ap (λ (o : Option Items). ends_behind o (λ js. has_lengths l js)) f ∙ ap (λ (n : ℕ). has_lengths n is) (sym e)

pub more_lengths : (k l : ℕ) (is js : Items) → k ≡ suc l → Some js ≡ behind_length is → false ≡ ends_array js →
    has_lengths l js ≡ has_lengths k is
more_lengths k l is js e f g =
    ap (λ (b : Bool). b || has_lengths l js) g
    ∙ ap (λ (o : Option Items). ends_behind o (λ js. has_lengths l js)) f ∙ ap (λ (n : ℕ). has_lengths n is) (sym e)

pub no_lengths : (k : ℕ) (is : Items) → k ≡ 0 → false ≡ has_lengths k is
no_lengths k is e = ap (λ (n : ℕ). has_lengths n is) (sym e)
