-- A reduction by private copies comes to what its updates come to, one after the other: whichever turns each copy is of, and in whatever order the
-- copies are taken.
use Rattle.std.proofs.Common.{◌≡◌, ℕ, ◌+◌, ◌-◌, ◌*◌, ◌%◌, ◌<◌, ◌^◌, List, [], ◌∷◌, ◌++◌, refl, sym, ◌∙◌, ap, arith}
use Rattle.std.specs.Int.Bits.{xor_assoc, or_zero_r, xor_zero_r}
use Rattle.std.proofs.Math.Nat.{add_assoc, mul_assoc, mod-add-mod, add-mod-mod, mod-eq_of_lt, mul-one}
use Rattle.std.proofs.lemmas.Nat.{and_assoc, and_mask, mul-mod_first, mul-mod_second}
use Rattle.base.specs.declared.tree.CombineOp.{CombineOp}
use Rattle.base.specs.declared.tree.CombineOp.TheVariants.{Add, Multiply, BitAnd, BitOr, BitXor, Min, Max}
use Rattle.base.specs.Value.{modulus, combined}
use Rattle.regions.proofs.Intervals.{combined_small}
use Rattle.regions.proofs.StatementsDone.{AllSmall}
use Rattle.fine_headline.proofs.Commuting.{combined_twice, or_assoc}

-- the number that changes nothing, with which a copy begins
abbrev pub neutral : CombineOp → ℕ
neutral Add = 0
neutral Multiply = 1
neutral BitAnd = modulus - 1
neutral BitOr = 0
neutral BitXor = 0
neutral Min = modulus - 1
neutral Max = 0

-- one update after the other
abbrev pub updated : CombineOp → ℕ → List ℕ → ℕ
updated op a [] = a
updated op a (n ∷ rest) = updated op (combined op a n) rest

-- the numbers that each owner of a copy updates it by: the cell, and then one copy after the other
abbrev pub by_copies : CombineOp → ℕ → List (List ℕ) → ℕ
by_copies op a [] = a
by_copies op a (ns ∷ rest) = by_copies op (combined op a (updated op (neutral op) ns)) rest

abbrev pub all_numbers : List (List ℕ) → List ℕ
all_numbers [] = []
all_numbers (ns ∷ rest) = ns ++ all_numbers rest

abbrev pub EachSmall : List (List ℕ) → Type 0
EachSmall [] = Unit {0}
EachSmall (ns ∷ rest) = AllSmall ns × EachSmall rest

associates : (op : CombineOp) (a b c : ℕ) → combined op (combined op a b) c ≡ combined op a (combined op b c)
associates Add a b c =
    mod-add-mod (a + b) modulus c ∙ (ap (λ x. x % modulus) (add_assoc a b c) ∙ sym (add-mod-mod a (b + c) modulus))
associates Multiply a b c =
    mul-mod_first (a * b) c modulus ∙ (ap (λ x. x % modulus) (mul_assoc a b c) ∙ sym (mul-mod_second a (b * c) modulus))
associates BitAnd a b c = and_assoc c a b
associates BitOr a b c = or_assoc a b c
associates BitXor a b c = xor_assoc a b c
associates Min a b c = omega arith
associates Max a b c = omega arith

none_more : (a : ℕ) → a + 0 ≡ a
none_more a = omega arith

leaves : (op : CombineOp) (a : ℕ) → a < 2 ^ 64 → combined op a (neutral op) ≡ a
leaves Add a h = ap (λ x. x % modulus) (none_more a) ∙ mod-eq_of_lt h
leaves Multiply a h = ap (λ x. x % modulus) (mul-one a) ∙ mod-eq_of_lt h
leaves BitAnd a h = and_mask a 64 ∙ mod-eq_of_lt h
leaves BitOr a h = or_zero_r a
leaves BitXor a h = xor_zero_r a
leaves Min a h = omega arith
leaves Max a h = omega arith

updated_from : (op : CombineOp) (a b : ℕ) (ns : List ℕ) →
    updated op (combined op a b) ns ≡ combined op a (updated op b ns)
updated_from op a b [] = refl
updated_from op a b (n ∷ rest) =
    ap (λ x. updated op x rest) (associates op a b n) ∙ updated_from op a (combined op b n) rest

updated_small : (op : CombineOp) (a : ℕ) (ns : List ℕ) → a < 2 ^ 64 → AllSmall ns → updated op a ns < 2 ^ 64
updated_small op a [] h k = h
updated_small op a (n ∷ rest) h k = updated_small op (combined op a n) rest (combined_small op a n h k.0) k.1

updated_append : (op : CombineOp) (a : ℕ) (ns ms : List ℕ) → updated op a (ns ++ ms) ≡ updated op (updated op a ns) ms
updated_append op a [] ms = refl
updated_append op a (n ∷ rest) ms = updated_append op (combined op a n) rest ms

-- a copy comes to what its updates come to
one_copy : (op : CombineOp) (a : ℕ) (ns : List ℕ) → a < 2 ^ 64 →
    combined op a (updated op (neutral op) ns) ≡ updated op a ns
one_copy op a ns h = sym (updated_from op a (neutral op) ns) ∙ ap (λ x. updated op x ns) (leaves op a h)

-- whichever numbers each copy is of
pub private_copies : (op : CombineOp) (a : ℕ) (owners : List (List ℕ)) → a < 2 ^ 64 → EachSmall owners →
    by_copies op a owners ≡ updated op a (all_numbers owners)
private_copies op a [] h k = refl
private_copies op a (ns ∷ rest) h k =
    ap (λ x. by_copies op x rest) (one_copy op a ns h)
    ∙ (private_copies op (updated op a ns) rest (updated_small op a ns h k.0) k.1
    ∙ sym (updated_append op a ns (all_numbers rest)))

-- and in whatever order: each of the updates can as well come first
pub comes_first : (op : CombineOp) (a n : ℕ) (before after : List ℕ) →
    updated op a (before ++ n ∷ after) ≡ updated op a (n ∷ before ++ after)
comes_first op a n [] after = refl
comes_first op a n (m ∷ before) after =
    comes_first op (combined op a m) n before after
    ∙ ap (λ x. updated op x (before ++ after)) (combined_twice op a m n)
