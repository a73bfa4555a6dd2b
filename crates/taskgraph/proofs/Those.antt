-- The items of a range of which a question is answered yes: in two parts, and where one answer changes.
use Rattle.std.proofs.Common.{◌≡◌, ◌⊎◌, inl, inr, ℕ, zero, suc, ◌+◌, ◌-◌, ◌<◌, ◌≤◌, Bool, true, false, List, [], ◌∷◌, ◌++◌, Some, length, refl, sym, ap, ◌∙◌, cond, arith}
use Rattle.std.specs.Prelude.{filter, slice_get}
use Rattle.std.specs.List.{range_with_len}
use Rattle.std.proofs.lemmas.Bool.{cases_lt}
use Rattle.std.proofs.lemmas.List.{append-nil, length-append}
use Rattle.std.proofs.lemmas.List.Elements.{filter-append}
use Rattle.std.proofs.lemmas.Option.{slice_get_past}
use Rattle.taskgraph.specs.Marks.{those_from}
use Rattle.taskgraph.specs.Waiting.{one_if}

range_parts : (s a b : ℕ) → range_with_len s (a + b) ≡ range_with_len s a ++ range_with_len (s + a) b
range_parts s zero b = let e : s ≡ s + 0 = omega arith in let f : zero + b ≡ b = omega arith in
    ap (range_with_len s) f ∙ ap (λ k. range_with_len k b) e
range_parts s (suc a) b =
    let e : (s + 1) + a ≡ s + suc a = omega arith in
    let f : suc a + b ≡ suc (a + b) = omega arith in
    ap (range_with_len s) f
    ∙ ap (λ l. s ∷ l) (range_parts (s + 1) a b ∙ ap (λ k. range_with_len (s + 1) a ++ range_with_len k b) e)

-- those of a range in two parts
pub parts : (p : ℕ → Bool) (s a b : ℕ) → those_from p s (a + b) ≡ those_from p s a ++ those_from p (s + a) b
parts p s a b = ap (filter p) (range_parts s a b) ∙ filter-append p (range_with_len s a) (range_with_len (s + a) b)

-- the second part from where the first ends
pub parts_at : (p : ℕ → Bool) (s a b m : ℕ) → s + a ≡ m → those_from p s (a + b) ≡ those_from p s a ++ those_from p m b
parts_at p s a b m e = parts p s a b ∙ ap (λ k. those_from p s a ++ those_from p k b) e

-- those up to one more item
pub one_more : (p : ℕ → Bool) (s n i : ℕ) → s + n ≡ i → those_from p s (n + 1) ≡ those_from p s n ++ cond (p i) (i ∷ []) []
one_more p s n i e = parts_at p s n 1 i e

-- where the answers are the same, those are
pub same : (p q : ℕ → Bool) (s n : ℕ) → ((i : ℕ) → s ≤ i → i < s + n → p i ≡ q i) → those_from p s n ≡ those_from q s n
same p q s zero h = refl
same p q s (suc n) h =
    let rest = same p q (s + 1) n (λ i le lt. h i (omega arith) (omega arith)) in
    ap (λ x. cond x (s ∷ those_from p (s + 1) n) (those_from p (s + 1) n)) (h s (omega arith) (omega arith))
    ∙ ap (λ l. cond (q s) (s ∷ l) l) rest

-- where each answer is no, there is none
pub none : (p : ℕ → Bool) (s n : ℕ) → ((i : ℕ) → s ≤ i → i < s + n → p i ≡ false) → those_from p s n ≡ []
none p s n h = same p (λ _. false) s n h ∙ nothing s n
  where
    nothing : (s n : ℕ) → those_from (λ _. false) s n ≡ []
    nothing s zero = refl
    nothing s (suc n) = nothing (s + 1) n

-- there are no more than items
pub small : (p : ℕ → Bool) (s n : ℕ) → length (those_from p s n) ≤ n
small p s zero = omega arith
small p s (suc n) = go (p s) (small p (s + 1) n)
  where
    go : (x : Bool) → length (those_from p (s + 1) n) ≤ n →
        length (cond x (s ∷ those_from p (s + 1) n) (those_from p (s + 1) n)) ≤ suc n
    go true le = omega (arith, le)
    go false le = omega (arith, le)

pub one_long : (x : Bool) (i : ℕ) → length (cond x (i ∷ []) []) ≡ one_if x
one_long true i = refl
one_long false i = refl

pub one_small : (x : Bool) → one_if x ≤ 1
one_small true = omega arith
one_small false = omega arith

-- those around one item, by their number
pub around : (p : ℕ → Bool) (s i n : ℕ) → s ≤ i → i < s + n →
    length (those_from p s n) ≡ length (those_from p s (i - s)) + one_if (p i) + length (those_from p (i + 1) (s + n - (i + 1)))
around p s i n le lt =
    let a = i - s in
    let b = s + n - (i + 1) in
    let whole : n ≡ (a + 1) + b = omega arith in
    let here : s + a ≡ i = omega arith in
    let next : s + (a + 1) ≡ i + 1 = omega arith in
    let split = ap (λ m. length (those_from p s m)) whole
    ∙ ap (λ l. length l) (parts p s (a + 1) b) ∙ length-append (those_from p s (a + 1)) (those_from p (s + (a + 1)) b) in
    let first = ap (λ l. length l) (one_more p s a i here) ∙ length-append (those_from p s a) (cond (p i) (i ∷ []) []) in
    let one = one_long (p i) i in
    let rest = ap (λ k. length (those_from p k b)) next in
    omega (arith, split, first, one, rest)

-- where one answer changes, the number changes as that one does
pub changed : (p q : ℕ → Bool) (s n i : ℕ) → s ≤ i → i < s + n → ((j : ℕ) → (j ≡ i → ⊥) → p j ≡ q j) →
    length (those_from p s n) + one_if (q i) ≡ length (those_from q s n) + one_if (p i)
changed p q s n i le lt h =
    let before = ap (λ (l : List ℕ). length l) (same p q s (i - s) (λ j _ l. h j (λ e. omega (arith, l, e, le)))) in
    let after = ap (λ (l : List ℕ). length l)
    (same p q (i + 1) (s + n - (i + 1)) (λ j m _. h j (λ e. omega (arith, m, e)))) in
    omega (arith, around p s i n le lt, around q s i n le lt, before, after)

-- ---- at a place

pub get_left : {A : Type 0} (xs ys : List A) (k : ℕ) → k < length xs → slice_get (xs ++ ys) k ≡ slice_get xs k
get_left [] ys k lt = absurd (omega arith)
get_left (x ∷ xs) ys zero lt = refl
get_left (x ∷ xs) ys (suc k) lt = get_left xs ys k (omega arith)

pub get_right : {A : Type 0} (xs ys : List A) (k m : ℕ) → k + length xs ≡ m → slice_get (xs ++ ys) m ≡ slice_get ys k
get_right [] ys k m e = let f : m ≡ k = omega arith in ap (slice_get ys) f
get_right (x ∷ xs) ys k zero e = absurd (omega arith)
get_right (x ∷ xs) ys k (suc m) e = get_right xs ys k m (omega arith)

-- a list with one more at its end, at that place
pub get_last : (xs all : List ℕ) (x k : ℕ) → k ≡ length xs → all ≡ xs ++ x ∷ [] → Some x ≡ slice_get all k
get_last xs all x k e h = sym (ap (λ l. slice_get l k) h ∙ get_right xs (x ∷ []) 0 k (omega (arith, e)))

-- and with one more or none, at another place, or where there is none
pub get_else : (xs all : List ℕ) (may : Bool) (x k : ℕ) → all ≡ xs ++ cond may (x ∷ []) [] →
    (may ≡ false) ⊎ (k ≡ length xs → ⊥) → slice_get xs k ≡ slice_get all k
get_else xs all may x k h (inl off) =
    sym (ap (λ l. slice_get l k) (h ∙ ap (λ y. xs ++ cond y (x ∷ []) []) off ∙ append-nil xs))
get_else xs all may x k h (inr other) = go (cases_lt k (length xs))
  where
    go : (k < length xs) ⊎ (length xs ≤ k) → slice_get xs k ≡ slice_get all k
    go (inl lt) = sym (ap (λ l. slice_get l k) h ∙ get_left xs (cond may (x ∷ []) []) k lt)
    go (inr le) =
        let long = ap (λ (l : List ℕ). length l) h ∙ length-append xs (cond may (x ∷ []) []) in
        let one = one_long may x in
        slice_get_past xs k le
        ∙ sym (slice_get_past all k (omega (arith, long, one, one_small may, le, other)))

-- after one more item, with so many of those before it left
pub after_one : (p : ℕ → Bool) (s i left more k : ℕ) (x : Bool) → s ≤ i → p i ≡ x → more + one_if x ≡ left →
    left + length (those_from p s (i - s)) ≡ k → more + length (those_from p s (i + 1 - s)) ≡ k
after_one p s i left more k x le e taken h =
    let whole : i + 1 - s ≡ (i - s) + 1 = omega arith in
    let long = ap (λ n. length (those_from p s n)) whole
    ∙ ap (λ (l : List ℕ). length l) (one_more p s (i - s) i (omega arith))
    ∙ length-append (those_from p s (i - s)) (cond (p i) (i ∷ []) []) in
    let one = one_long (p i) i ∙ ap one_if e in
    omega (arith, long, one, taken, h)

-- it is this item
pub at_one : (p : ℕ → Bool) (s i end k : ℕ) → s ≤ i → i < end → p i ≡ true → length (those_from p s (i - s)) ≡ k →
    Some i ≡ slice_get (those_from p s (end - s)) k
at_one p s i end k le lt e h =
    let rest = end - (i + 1) in
    let whole : end - s ≡ (i - s) + (1 + rest) = omega arith in
    let front = those_from p s (i - s) in
    sym (ap (λ n. slice_get (those_from p s n) k) whole
    ∙ ap (λ l. slice_get l k) (parts_at p s (i - s) (1 + rest) i (omega arith))
    ∙ get_right front (those_from p i (1 + rest)) 0 k (omega (arith, h))
    ∙ ap (λ l. slice_get l 0) (parts_at p i 1 rest (i + 1) refl)
    ∙ ap (λ x. slice_get (cond x (i ∷ []) [] ++ those_from p (i + 1) rest) 0) e)
