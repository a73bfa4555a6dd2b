-- Updates by one operator commute.
use Rattle.std.proofs.Common.{◌≡◌, ℕ, zero, suc, ◌+◌, ◌*◌, ◌%◌, max, true, refl, sym, ◌∙◌, ap, arith}
use Rattle.std.specs.Prelude.{bit_and, bit_or, bit_xor}
use Rattle.std.specs.Int.Bits.{xor_assoc}
use Rattle.std.specs.Int.{bit_at}
use Rattle.std.proofs.Math.Nat.{add_assoc, add_comm, mul_assoc, mul_comm, mod-add-mod}
use Rattle.std.proofs.lemmas.Nat.{and_assoc, and_comm, or_comm, xor_comm, mul-mod_first}
use Rattle.std.proofs.lemmas.Nat.Bits.{bit_at_or, same_from_bits}
use Rattle.std.proofs.lemmas.Bool.{eqb-true}
use Rattle.base.specs.declared.tree.CombineOp.{CombineOp}
use Rattle.base.specs.declared.tree.CombineOp.TheVariants.{Add, Multiply, BitAnd, BitOr, BitXor, Min, Max}
use Rattle.base.specs.Value.{modulus, combined}
use Rattle.base.specs.Turns.{operator_number, same_operator}

exchanged : (f : ℕ → ℕ → ℕ) → ((a b c : ℕ) → f (f a b) c ≡ f a (f b c)) → ((a b : ℕ) → f a b ≡ f b a) → (a m n : ℕ) →
    f (f a m) n ≡ f (f a n) m
exchanged f assoc comm a m n = assoc a m n ∙ (ap (f a) (comm m n) ∙ sym (assoc a n m))

max_assoc : (x y z : ℕ) → max (max x y) z ≡ max x (max y z)
max_assoc x y z = omega arith

pub or_assoc : (a b c : ℕ) → bit_or (bit_or a b) c ≡ bit_or a (bit_or b c)
or_assoc a b c =
    same_from_bits (bit_or (bit_or a b) c) (bit_or a (bit_or b c)) (λ i. (bit_at_or (bit_or a b) c i ∙
    ap (λ x. max x (bit_at c i)) (bit_at_or a b i))
    ∙ (max_assoc (bit_at a i) (bit_at b i) (bit_at c i)
    ∙ sym (bit_at_or a (bit_or b c) i ∙ ap (λ x. max (bit_at a i) x) (bit_at_or b c i))))

pub combined_twice : (op : CombineOp) (a m n : ℕ) → combined op (combined op a m) n ≡ combined op (combined op a n) m
combined_twice Add a m n = add_first a m n ∙ (ap (λ x. x % modulus) (exchanged (λ x y. x + y) add_assoc add_comm a m n)
    ∙ sym (add_first a n m))
  where
    add_first : (a m n : ℕ) → ((a + m) % modulus + n) % modulus ≡ (a + m + n) % modulus
    add_first a m n = mod-add-mod (a + m) modulus n
combined_twice Multiply a m n = mul-mod_first (a * m) n modulus ∙
    (ap (λ x. x % modulus) (exchanged (λ x y. x * y) mul_assoc mul_comm a m n) ∙ sym (mul-mod_first (a * n) m modulus))
combined_twice BitAnd a m n = exchanged bit_and (λ a b c. and_assoc c a b) and_comm a m n
combined_twice BitOr a m n = exchanged bit_or or_assoc or_comm a m n
combined_twice BitXor a m n = exchanged bit_xor xor_assoc xor_comm a m n
combined_twice Min a m n = omega arith
combined_twice Max a m n = omega arith

-- The operator with a number.

abbrev operator_at : ℕ → CombineOp
operator_at zero = Add
operator_at (suc zero) = Multiply
operator_at (suc (suc zero)) = BitAnd
operator_at (suc (suc (suc zero))) = BitOr
operator_at (suc (suc (suc (suc zero)))) = BitXor
operator_at (suc (suc (suc (suc (suc zero))))) = Min
operator_at (suc (suc (suc (suc (suc (suc n)))))) = Max

its_number : (op : CombineOp) → operator_at (operator_number op) ≡ op
its_number Add = refl
its_number Multiply = refl
its_number BitAnd = refl
its_number BitOr = refl
its_number BitXor = refl
its_number Min = refl
its_number Max = refl

pub same_operators : (op op' : CombineOp) → same_operator op op' ≡ true → op ≡ op'
same_operators op op' h =
    sym (its_number op) ∙ (ap operator_at (eqb-true (operator_number op) (operator_number op') h) ∙ its_number op')
