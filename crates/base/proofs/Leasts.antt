-- The least of some cells.
use Rattle.std.proofs.Common.{◌≡◌, Bool, true, false, refl, sym, ap, ◌∙◌, ⊎_elim, Option, Some, None, arith}
use Rattle.std.specs.Prelude.{◌||◌, cond}
use Rattle.std.proofs.lemmas.Bool.{or_cases, or_left, or_right}
use Rattle.std.proofs.Math.Bool.{or-false}
use Rattle.std.proofs.lemmas.Bool.Decides.{nat_tests}
use Rattle.base.specs.declared.item.Cell.{Cell}
use Rattle.base.specs.Least.{IsLeast, is_less, lesser}

pub least_same : (p q : Cell → Bool) (o : Option Cell) → ((c : Cell) → p c ≡ q c) → IsLeast p o → IsLeast q o
least_same p q None e h = λ c. sym (e c) ∙ h c
least_same p q (Some c) e h = (sym (e c) ∙ h.0, λ d x. h.1 d (e d ∙ x))

not_less_first : (x c d : Cell) → is_less x c ≡ false → is_less d c ≡ true → is_less x d ≡ false
not_less_first x c d p q = grind (arith, nat_tests)

not_less_second : (x c d : Cell) → is_less x d ≡ false → is_less d c ≡ false → is_less x c ≡ false
not_less_second x c d p q = grind (arith, nat_tests)

-- of two tests, either of which may hold
pub lesser_is : (p q : Cell → Bool) (a b : Option Cell) → IsLeast p a → IsLeast q b → IsLeast (λ c. p c || q c) (lesser a b)
lesser_is p q None b h k = least_same q (λ c. p c || q c) b (λ c. sym (ap (λ t. t || q c) (h c))) k
lesser_is p q (Some c) None h k =
    least_same p (λ c. p c || q c) (Some c) (λ c. sym (ap (λ t. p c || t) (k c) ∙ or-false (p c))) h
lesser_is p q (Some c) (Some d) h k = go (is_less d c) refl
  where
    go : (b : Bool) → is_less d c ≡ b → IsLeast (λ c. p c || q c) (Some (cond b d c))
    go true e = (
      or_right (p d) (q d) k.0,
      λ x s. ⊎_elim (λ (first : p x ≡ true). not_less_first x c d (h.1 x first) e) (λ (second : q x ≡ true). k.1 x second)
          (or_cases (p x) (q x) s),
    )
    go false e = (
      or_left (p c) (q c) h.0,
      λ x s. ⊎_elim (λ (first : p x ≡ true). h.1 x first) (λ (second : q x ≡ true). not_less_second x c d (k.1 x second) e)
          (or_cases (p x) (q x) s),
    )
