-- One operator of a second subscript after another.
use Rattle.std.proofs.Common.{◌≡◌, ◌∙◌, ℕ, ◌+◌, Bool, true, false, [], ◌∷◌, None, refl, ap}
use Rattle.std.specs.Prelude.{not}
use Rattle.c_tokens.specs.declared.kind.Sign.TheVariants as sign
use Rattle.c_grammar.specs.Terminal.{Terminal}
use Rattle.c_grammar.specs.Texts.{Item}
use Rattle.c_grammar.specs.Blocks.{Items}
use Rattle.c_grammar.specs.Changes.{is_mark}
use Rattle.c_grammar.specs.Grids.{Range, Ranges, index, index_from, OnOperand, operand, operator_on, product, with_product}

pub index_end : (rs : Ranges) (s : Range) (minus : Bool) (p : Range) (k : ℕ) (is : Items) →
    is ≡ [] → index_from rs s minus p k is ≡ None
unfolding index_from
index_end rs s minus p k is e = ap (index_from rs s minus p k) e

pub index_closed : (rs : Ranges) (s : Range) (minus : Bool) (p : Range) (k : ℕ) (is js : Items) (o : Item Terminal) →
    is ≡ o ∷ js → is_mark sign.CloseBracket o ≡ true → index_from rs s minus p k is ≡ index k (with_product minus s p)
unfolding index_from
index_closed rs s minus p k is [] o e a = ap (index_from rs s minus p k) e ∙ rw a refl
index_closed rs s minus p k is (j ∷ js) o e a = ap (index_from rs s minus p k) e ∙ rw a refl

pub index_short : (rs : Ranges) (s : Range) (minus : Bool) (p : Range) (k : ℕ) (is js : Items) (o : Item Terminal) →
    is ≡ o ∷ js → js ≡ [] → is_mark sign.CloseBracket o ≡ false → index_from rs s minus p k is ≡ None
unfolding index_from
index_short rs s minus p k is [] o e f a = ap (index_from rs s minus p k) e ∙ rw a refl
index_short rs s minus p k is (j ∷ js) o e f a = absurd (cc)

pub index_goes : (rs : Ranges) (s : Range) (minus : Bool) (p : Range) (k : ℕ) (is js ks : Items)
    (o i : Item Terminal) → is ≡ o ∷ js → js ≡ i ∷ ks → is_mark sign.CloseBracket o ≡ false →
    index_from rs s minus p k is ≡ operator_on rs s minus p k o i (λ s minus p. index_from rs s minus p (k + 2) ks)
unfolding index_from
index_goes rs s minus p k is js ks o i e f a =
    ap (index_from rs s minus p k) (e ∙ ap (λ (xs : Items). o ∷ xs) f) ∙ rw a refl

pub product_goes : (rs : Ranges) (s : Range) (minus : Bool) (p : Range) (k : ℕ) (o i : Item Terminal)
    (go : OnOperand) → is_mark sign.Star o ≡ true →
    operator_on rs s minus p k o i go ≡ go s minus (product p (operand rs i.terminal))
product_goes rs s minus p k o i go a = rw a refl

pub sum_goes : (rs : Ranges) (s : Range) (minus : Bool) (p : Range) (k : ℕ) (o i : Item Terminal) (go : OnOperand)
    (plus : Bool) → is_mark sign.Star o ≡ false → is_mark sign.Plus o ≡ plus →
    (plus ≡ false → is_mark sign.Minus o ≡ true) →
    operator_on rs s minus p k o i go ≡ go (with_product minus s p) (not plus) (operand rs i.terminal)
sum_goes rs s minus p k o i go true a b c = rw (a, b) refl
sum_goes rs s minus p k o i go false a b c = rw (a, b, c refl) refl
