-- Which touches oppose each other, by the operators that they are marked with.
use Rattle.std.proofs.Common.{◌≡◌, ℕ, ◌+◌, Bool, true, false, List, [], ◌∷◌, Option, Some, None, refl, sym, ap, ◌∙◌, ◌⊎◌, inl, inr, arith}
use Rattle.std.specs.Prelude.{not, nat_lt, ◌||◌, ◌==◌}
use Rattle.std.specs.List.{list_any}
use Rattle.std.proofs.lemmas.Bool.{false≢true, true≢false, or_left, or_right, or_from}
use Rattle.std.proofs.lemmas.Bool.Decides.{nat_tests}
use Rattle.base.specs.declared.tree.CombineOp.{CombineOp}
use Rattle.base.specs.declared.tree.CombineOp.TheVariants.{Add, Multiply, BitAnd, BitOr, BitXor, Min, Max}
use Rattle.base.specs.Turns.{marked_by, operator_number, operators}
use Rattle.ranges.specs.Ways.{number_of, opposes, way_by}

-- a thing of a list
abbrev pub IsIn : {A : Type 0} → A → List A → Type 0
IsIn x [] = ⊥
IsIn x (y ∷ ys) = (y ≡ x) ⊎ IsIn x ys

-- of which a test holds
pub record Found {A : Type 0} (f : A → Bool) (xs : List A) : Type 0 where
  pub item : A
  pub inside : IsIn item xs
  pub holds : f item ≡ true

pub any_some : {A : Type 0} (f : A → Bool) (xs : List A) → list_any f xs ≡ true → Found f xs
any_some f [] h = absurd (false≢true h)
any_some f (y ∷ ys) h = go (f y) refl h (any_some f ys)
  where
    go : (b : Bool) → f y ≡ b → (b || list_any f ys) ≡ true → (list_any f ys ≡ true → Found f ys) → Found f (y ∷ ys)
    go true e g rest = record { item = y; inside = inl refl; holds = e }
    go false e g rest = let r = rest g in record { item = r.item; inside = inr r.inside; holds = r.holds }

pub some_any : {A : Type 0} (f : A → Bool) (xs : List A) (x : A) → IsIn x xs → f x ≡ true → list_any f xs ≡ true
some_any f [] x i h = absurd i
some_any f (y ∷ ys) x (inl e) h = or_left (f y) (list_any f ys) (ap f e ∙ h)
some_any f (y ∷ ys) x (inr i) h = or_right (f y) (list_any f ys) (some_any f ys x i h)

pub any_none : {A : Type 0} (f : A → Bool) (xs : List A) → ((x : A) → f x ≡ false) → list_any f xs ≡ false
any_none f [] h = refl
any_none f (y ∷ ys) h = or_from (f y) (list_any f ys) (h y) (any_none f ys h)

pub or_swap : (a b c d : Bool) → ((a || b) || (c || d)) ≡ ((a || c) || (b || d))
or_swap true b c d = refl
or_swap false true true d = refl
or_swap false true false d = refl
or_swap false false c d = refl

pub any_or : {A : Type 0} (f g : A → Bool) (xs : List A) → list_any (λ x. f x || g x) xs ≡ (list_any f xs || list_any g xs)
any_or f g [] = refl
any_or f g (x ∷ xs) =
    ap (λ (b : Bool). (f x || g x) || b) (any_or f g xs) ∙ or_swap (f x) (g x) (list_any f xs) (list_any g xs)

pub any_same : {A : Type 0} (f g : A → Bool) (xs : List A) → ((x : A) → f x ≡ g x) → list_any f xs ≡ list_any g xs
any_same f g [] h = refl
any_same f g (x ∷ xs) h = ap (λ (b : Bool). b || list_any f xs) (h x) ∙ ap (λ (b : Bool). g x || b) (any_same f g xs h)

-- ---- one turn behind others

pub bool_same : (a b : Bool) → (a ≡ true → b ≡ true) → (b ≡ true → a ≡ true) → a ≡ b
bool_same true b h k = sym (h refl)
bool_same false true h k = k refl
bool_same false false h k = refl

pub is_operator : (op : CombineOp) → IsIn op operators
is_operator Add = inl refl
is_operator Multiply = inr (inl refl)
is_operator BitAnd = inr (inr (inl refl))
is_operator BitOr = inr (inr (inr (inl refl)))
is_operator BitXor = inr (inr (inr (inr (inl refl))))
is_operator Min = inr (inr (inr (inr (inr (inl refl)))))
is_operator Max = inr (inr (inr (inr (inr (inr (inl refl))))))

-- ---- the numbers of ways

pub kind_few : (o : Option CombineOp) (w : Bool) → nat_lt (number_of (way_by o w)) 9 ≡ true
kind_few None false = refl
kind_few None true = refl
kind_few (Some Add) w = refl
kind_few (Some Multiply) w = refl
kind_few (Some BitAnd) w = refl
kind_few (Some BitOr) w = refl
kind_few (Some BitXor) w = refl
kind_few (Some Min) w = refl
kind_few (Some Max) w = refl

pub opposes_swap : (a b : ℕ) → opposes a b ≡ true → opposes b a ≡ true
opposes_swap a b h = grind (arith, nat_tests)

pub opposes_write : (k : ℕ) → opposes 1 k ≡ true
opposes_write k = or_right (not (1 == k)) true refl

pub unlike : (a b : ℕ) → (a == b) ≡ false → opposes a b ≡ true
unlike a b h = grind (arith, nat_tests)

-- it is part of an update
abbrev pub is_marked : Option CombineOp → Bool
is_marked None = false
is_marked (Some op) = true

-- of two plain reads neither opposes the other
pub opposes_marked : (o p : Option CombineOp) (w v : Bool) →
    opposes (number_of (way_by o w)) (number_of (way_by p v)) ≡ true →
    ((w || is_marked o) ≡ true) ⊎ ((v || is_marked p) ≡ true)
opposes_marked None None true v h = inl refl
opposes_marked None None false true h = inr refl
opposes_marked None None false false h = absurd (false≢true h)
opposes_marked None (Some op) true v h = inl refl
opposes_marked None (Some op) false v h = inr (or_right v true refl)
opposes_marked (Some op) p w v h = inl (or_right w true refl)

-- a touch that is no part of an update by the operator opposes one that is
pub opposes_else : (op : CombineOp) (o : Option CombineOp) (w : Bool) → marked_by op o ≡ false →
    opposes (number_of (way_by o w)) (2 + operator_number op) ≡ true
opposes_else op None false h = unlike 0 (2 + operator_number op) (grind (arith, nat_tests))
opposes_else op None true h = opposes_write (2 + operator_number op)
opposes_else op (Some op') w h =
    unlike (2 + operator_number op') (2 + operator_number op) (apart (operator_number op) (operator_number op') h)
  where
    apart : (m n : ℕ) → (m == n) ≡ false → ((2 + n) == (2 + m)) ≡ false
    apart m n e = grind (arith, nat_tests)

-- what one write does not oppose is an update by the operator of the write
pub record IsUpdate (o : Option CombineOp) (k : ℕ) : Type 0 where
  pub operator : CombineOp
  pub is : o ≡ Some operator
  pub number : k ≡ 2 + operator_number operator

pub not_opposed : (o : Option CombineOp) (k : ℕ) → opposes (number_of (way_by o true)) k ≡ false → IsUpdate o k
not_opposed None k h = absurd (true≢false (sym (opposes_write k) ∙ h))
not_opposed (Some op) k h = record { operator = op; is = refl; number = same (2 + operator_number op) h }
  where
    same : (n : ℕ) → opposes n k ≡ false → k ≡ n
    same n e = grind (arith, nat_tests)

-- two touches by updates with one operator do not oppose each other
pub both_marked : (op : CombineOp) (o p : Option CombineOp) (w v : Bool) → marked_by op o ≡ true → marked_by op p ≡ true →
    opposes (number_of (way_by o w)) (number_of (way_by p v)) ≡ false
both_marked op None p w v h k = absurd (false≢true h)
both_marked op (Some x) None w v h k = absurd (false≢true k)
both_marked op (Some x) (Some y) w v h k = same (operator_number op) (operator_number x) (operator_number y) h k
  where
    same : (m n l : ℕ) → (m == n) ≡ true → (m == l) ≡ true → opposes (2 + n) (2 + l) ≡ false
    same m n l e f = grind (arith, nat_tests)
