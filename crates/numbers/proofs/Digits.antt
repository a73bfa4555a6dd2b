-- A number that is read digit by digit.
use Rattle.std.proofs.Common.{◌≡◌, ℕ, ◌+◌, ◌-◌, ◌*◌, ◌%◌, ◌^◌, ◌<◌, ◌≤◌, Bool, true, false, cond, ◌&&◌, List, [], ◌∷◌, length, get_or, drop, Option, Some, None, refl, sym, ap, ◌∙◌, arith, pow-suc, add-mul, mul_assoc, mul_comm, add_assoc, le-ltb, lt-ltb, mul-one, zero-mul, zero-add, option_and_then}
use Rattle.std.proofs.lemmas.List.{at_drop_more, at_drop_all}
use Rattle.std.proofs.lemmas.Nat.{mul-le}
use Rattle.std.proofs.Math.Nat.{one-le-pow}
use Rattle.std.proofs.lemmas.Bool.Decides.{nat_tests}
use Rattle.std.specs.List.{list_all}
use Rattle.numbers.specs.Numbers.{is_digit, in_base_ten, below, number_below}

-- the number below m that the digits behind v spell
abbrev pub number_after : ℕ → ℕ → List ℕ → Option ℕ
number_after m v ds = cond (list_all is_digit ds) (below m (v * 10 ^ length ds + in_base_ten ds)) None

-- the low four bits of a digit are its value
digit_value : (d : ℕ) → is_digit d ≡ true → d % 16 ≡ d - 48
digit_value d h = grind (arith, nat_tests)

-- a digit behind v is ten times v and the digit
shifted : (v d p r : ℕ) → v * (p * 10) + (d * p + r) ≡ (v * 10 + d) * p + r
shifted v d p r =
    sym (ap (λ (x : ℕ). x + r) (add-mul (v * 10) d p ∙ ap (λ (x : ℕ). x + d * p) (mul_assoc v 10 p ∙ ap (λ (y : ℕ). v * y) (mul_comm 10 p)))
    ∙ add_assoc (v * (p * 10)) (d * p) r)

-- a first test that holds goes away
head_holds : (b c : Bool) (x : Option ℕ) → b ≡ true → cond (b && c) x None ≡ cond c x None
head_holds b c x h = rw h refl

-- a first test that fails decides
head_fails : (b c : Bool) (x : Option ℕ) → b ≡ false → cond (b && c) x None ≡ None
head_fails b c x h = rw h refl

-- one digit more, at the front of a list
step : (m v d : ℕ) (ds : List ℕ) → is_digit d ≡ true → number_after m v (d ∷ ds) ≡ number_after m (v * 10 + d % 16) ds
step m v d ds h =
    head_holds (is_digit d) (list_all is_digit ds) _ h
    ∙ ap (λ (n : ℕ). cond (list_all is_digit ds) (below m n) None)
    (ap (λ (p : ℕ). v * p + ((d - 48) * 10 ^ length ds + in_base_ten ds)) (pow-suc 10 (length ds))
    ∙ shifted v (d - 48) (10 ^ length ds) (in_base_ten ds)
    ∙ ap (λ (x : ℕ). (v * 10 + x) * 10 ^ length ds + in_base_ten ds) (sym (digit_value d h)))

-- nothing at the bound or above
none_large : (b : Bool) (m n : ℕ) → m ≤ n → cond b (below m n) None ≡ None
none_large false m n h = refl
none_large true m n h = rw (le-ltb n m h) refl

-- digits behind a number that is too large
large : (m v : ℕ) (ds : List ℕ) → m ≤ v → number_after m v ds ≡ None
large m v ds h =
    let more : v * 1 ≤ v * 10 ^ length ds = mul-le v 1 v (10 ^ length ds) (omega arith) (one-le-pow (length ds) 10 (omega arith)) in
    none_large (list_all is_digit ds) m (v * 10 ^ length ds + in_base_ten ds) (omega (arith, more, mul-one v))

-- the bound asked for after the test or within it
started : (b : Bool) (m x n : ℕ) → x ≡ n → cond b (below m x) None ≡ option_and_then (below m) (cond b (Some n) None)
started true m x n e = ap (λ (y : ℕ). below m y) e
started false m x n e = refl

-- a number below the bound is kept
less : (m x v : ℕ) → x ≡ v → v < m → below m x ≡ Some v
less m x v e lt = rw (e, lt-ltb v m lt) refl

-- before the first digit
pub number_start : (m : ℕ) (ds : List ℕ) → 0 < length ds → number_after m 0 ds ≡ number_below m ds
unfolding number_below
number_start m [] h = absurd (omega arith)
number_start m (d ∷ ds) h =
    started (list_all is_digit (d ∷ ds)) m _ (in_base_ten (d ∷ ds)) (ap (λ (x : ℕ). x + in_base_ten (d ∷ ds)) (zero-mul (10 ^ length (d ∷ ds))) ∙ zero-add (in_base_ten (d ∷ ds)))

-- no digit, no number
pub number_empty : (m : ℕ) (ds : List ℕ) → length ds ≡ 0 → number_below m ds ≡ None
unfolding number_below
number_empty m [] h = refl
number_empty m (d ∷ ds) h = absurd (omega arith)

-- one digit more
pub number_step : (m v : ℕ) (ds : List ℕ) (i : ℕ) → i < length ds → is_digit (get_or ds i 0) ≡ true →
    number_after m v (drop i ds) ≡ number_after m (v * 10 + get_or ds i 0 % 16) (drop (i + 1) ds)
number_step m v ds i lt h =
    at_drop_more (λ (l : List ℕ). number_after m v l) ds i 0 lt ∙ step m v (get_or ds i 0) (drop (i + 1) ds) h

-- a byte that is no digit
pub number_no_digit : (m v : ℕ) (ds : List ℕ) (i : ℕ) → i < length ds → is_digit (get_or ds i 0) ≡ false →
    number_after m v (drop i ds) ≡ None
number_no_digit m v ds i lt h =
    at_drop_more (λ (l : List ℕ). number_after m v l) ds i 0 lt ∙ head_fails (is_digit (get_or ds i 0)) (list_all is_digit (drop (i + 1) ds)) _ h

-- a number that is too large with one digit more
pub number_large : (m v : ℕ) (ds : List ℕ) (i : ℕ) → i < length ds → is_digit (get_or ds i 0) ≡ true →
    m ≤ v * 10 + get_or ds i 0 % 16 → number_after m v (drop i ds) ≡ None
number_large m v ds i lt h over = number_step m v ds i lt h ∙ large m (v * 10 + get_or ds i 0 % 16) (drop (i + 1) ds) over

-- behind the last digit
pub number_end : (m v : ℕ) (ds : List ℕ) (i : ℕ) → length ds ≤ i → v < m → number_after m v (drop i ds) ≡ Some v
number_end m v ds i over lt =
    at_drop_all (λ (l : List ℕ). number_after m v l) ds i over ∙ less m (v * 10 ^ 0 + in_base_ten []) v (omega arith) lt
