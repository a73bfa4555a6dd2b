-- Numbers that are read word by word.
use Rattle.std.proofs.Common.{◌≡◌, ℕ, ◌+◌, ◌^◌, ◌<◌, ◌≤◌, Bool, true, false, cond, List, [], ◌∷◌, ◌++◌, length, filter, Option, Some, None, option_map, option_and_then, Bor, refl, sym, ap, subst, zero-add, ◌∙◌, arith, append_assoc, append-nil, length-append, le-leb, le-ltb, lt-ltb, ltb-false, nat_le, nat_lt}
use Rattle.std.proofs.lemmas.Bool.{lt-leb}
use Rattle.std.specs.List.{slice_split}
use Rattle.std.proofs.lemmas.Iterator.{YieldsList}
use Rattle.numbers.specs.Numbers.{is_word, value_of, below, number_below, numbers_below, is_blank, is_comma, input_of, choices_of}

-- the parts that an iterator has left, which have P
pub record Left {S : Type 0} (steps : S → Option (Bor (List ℕ)) → S → Type 0) (s : S) (P : List (List ℕ) → Type 0) : Type 0 where
  pub parts : List (List ℕ)
  pub yields : YieldsList steps (λ (w : Bor (List ℕ)). w.now) s parts
  pub have : P parts

-- with the first of them apart
pub record LeftBehind {S : Type 0} (steps : S → Option (Bor (List ℕ)) → S → Type 0) (t : S) (w : List ℕ) (P : List (List ℕ) → Type 0) : Type 0 where
  pub parts : List (List ℕ)
  pub yields : YieldsList steps (λ (w : Bor (List ℕ)). w.now) t parts
  pub have : P (w ∷ parts)

-- an item is the first part
from_parts : {S : Type 0} (steps : S → Option (Bor (List ℕ)) → S → Type 0) (P : List (List ℕ) → Type 0) (s t : S) (x : Bor (List ℕ)) (ws : List (List ℕ)) →
    YieldsList steps (λ (w : Bor (List ℕ)). w.now) s ws → P ws → steps s (Some x) t → LeftBehind steps t x.now P
from_parts steps P s t x [] y h e = absurd (y.runs x t e)
from_parts steps P s t x (w ∷ ws) y h e =
    let next = y.runs.1 x t e in
    record { parts = ws; yields = record { runs = next.1 }; have = subst (λ (v : List ℕ). P (v ∷ ws)) (sym next.0) h }

-- no item means no part
none_left : {S : Type 0} (steps : S → Option (Bor (List ℕ)) → S → Type 0) (P : List (List ℕ) → Type 0) (s t : S) (ws : List (List ℕ)) →
    YieldsList steps (λ (w : Bor (List ℕ)). w.now) s ws → P ws → steps s None t → P []
none_left steps P s t [] y h e = h
none_left steps P s t (w ∷ ws) y h e = absurd (y.runs.0 t e)

-- one part comes
pub part_comes : {S : Type 0} {steps : S → Option (Bor (List ℕ)) → S → Type 0} {P : List (List ℕ) → Type 0} {s : S} (t : S) (x : Bor (List ℕ)) →
    Left steps s P → steps s (Some x) t → LeftBehind steps t x.now P
part_comes {S} {steps} {P} {s} t x l e = from_parts steps P s t x l.parts l.yields l.have e

-- no part comes
pub no_part_comes : {S : Type 0} {steps : S → Option (Bor (List ℕ)) → S → Type 0} {P : List (List ℕ) → Type 0} {s : S} (t : S) →
    Left steps s P → steps s None t → P []
no_part_comes {S} {steps} {P} {s} t l e = none_left steps P s t l.parts l.yields l.have e

-- the numbers that were read, and those of the parts that are left
abbrev pub after : ℕ → List ℕ → List (List ℕ) → Option (List ℕ)
after bound ns parts = option_map (λ (ms : List ℕ). ns ++ ms) (numbers_below bound parts)

-- a number before others, behind those that were read
onto : (ns : List ℕ) (n : ℕ) (o : Option (List ℕ)) →
    option_map (λ (ms : List ℕ). ns ++ ms) (option_map (λ (ms : List ℕ). n ∷ ms) o) ≡ option_map (λ (ms : List ℕ). (ns ++ n ∷ []) ++ ms) o
onto ns n None = refl
onto ns n (Some ms) = ap (λ (l : List ℕ). Some l) (sym (append_assoc ns (n ∷ []) ms))

-- one number more
pub after_number : (bound : ℕ) (ns : List ℕ) (w : List ℕ) (n : ℕ) (ws : List (List ℕ)) → number_below bound w ≡ Some n →
    after bound ns (w ∷ ws) ≡ after bound (ns ++ n ∷ []) ws
after_number bound ns w n ws e = rw e (onto ns n (numbers_below bound ws))

-- a part that spells no number
pub after_no_number : (bound : ℕ) (ns : List ℕ) (w : List ℕ) (ws : List (List ℕ)) → number_below bound w ≡ None →
    after bound ns (w ∷ ws) ≡ None
after_no_number bound ns w ws e = rw e refl

-- the same at most so many, of the parts that are words
abbrev pub input_after : List ℕ → List (List ℕ) → Option (List ℕ)
input_after ns parts =
    cond (nat_le (length ns + length (filter is_word parts)) 1048576) (after (2 ^ 64) ns (filter is_word parts)) None

-- none by either case
none_either : (b : Bool) → cond {A = Option (List ℕ)} b None None ≡ None
none_either true = refl
none_either false = refl

-- an empty part is no word
pub input_skip : (ns w : List ℕ) (ws : List (List ℕ)) → length w ≡ 0 → input_after ns (w ∷ ws) ≡ input_after ns ws
input_skip ns [] ws h = refl
input_skip ns (b ∷ bs) ws h = absurd (omega arith)

-- one number of an input more
pub input_number : (ns w : List ℕ) (n : ℕ) (ws : List (List ℕ)) → 0 < length w → number_below (2 ^ 64) w ≡ Some n →
    input_after ns (w ∷ ws) ≡ input_after (ns ++ n ∷ []) ws
input_number ns [] n ws h e = absurd (omega arith)
input_number ns (b ∷ bs) n ws h e =
    ap (λ (o : Option (List ℕ)). cond (nat_le (length ns + length (filter is_word ((b ∷ bs) ∷ ws))) 1048576) o None) (after_number (2 ^ 64) ns (b ∷ bs) n (filter is_word ws) e)
    ∙ ap (λ (k : ℕ). cond (nat_le k 1048576) (after (2 ^ 64) (ns ++ n ∷ []) (filter is_word ws)) None) (omega (arith, length-append ns (n ∷ [])))

-- a word that spells no number
pub input_no_number : (ns w : List ℕ) (ws : List (List ℕ)) → 0 < length w → number_below (2 ^ 64) w ≡ None →
    input_after ns (w ∷ ws) ≡ None
input_no_number ns [] ws h e = absurd (omega arith)
input_no_number ns (b ∷ bs) ws h e =
    ap (λ (o : Option (List ℕ)). cond (nat_le (length ns + length (filter is_word ((b ∷ bs) ∷ ws))) 1048576) o None) (after_no_number (2 ^ 64) ns (b ∷ bs) (filter is_word ws) e) ∙ none_either _

-- above the limit there is nothing
too_many : {A : Type 0} (k : ℕ) (o : Option A) → 1048576 < k → cond (nat_le k 1048576) o None ≡ None
too_many k o h = rw (lt-leb k 1048576 h) refl

-- up to the limit there is all
enough : {A : Type 0} (k : ℕ) (o : Option A) → k ≤ 1048576 → cond (nat_le k 1048576) o None ≡ o
enough k o h = rw (le-leb k 1048576 h) refl

-- a word after as many numbers as there may be
pub input_full : (ns w : List ℕ) (ws : List (List ℕ)) → 0 < length w → 1048576 ≤ length ns → input_after ns (w ∷ ws) ≡ None
input_full ns [] ws h full = absurd (omega arith)
input_full ns (b ∷ bs) ws h full = too_many (length ns + length (filter is_word ((b ∷ bs) ∷ ws))) _ (omega arith)

-- no part is left of an input
pub input_end : (ns : List ℕ) → length ns ≤ 1048576 → input_after ns [] ≡ Some ns
input_end ns h = enough (length ns + 0) _ (omega arith) ∙ ap (λ (l : List ℕ). Some l) (append-nil ns)

-- nothing was read yet
nothing_before : (o : Option (List ℕ)) → option_map (λ (ms : List ℕ). [] ++ ms) o ≡ o
nothing_before None = refl
nothing_before (Some ms) = refl

-- the parts between blanks make the input
pub input_start : (bytes : List ℕ) → input_after [] (slice_split is_blank bytes) ≡ input_of bytes
unfolding input_of
input_start bytes =
    ap (λ (k : ℕ). cond (nat_le k 1048576) (after (2 ^ 64) [] (filter is_word (slice_split is_blank bytes))) None) (zero-add (length (filter is_word (slice_split is_blank bytes))))
    ∙ ap (λ (o : Option (List ℕ)). cond (nat_le (length (filter is_word (slice_split is_blank bytes))) 1048576) o None) (nothing_before (numbers_below (2 ^ 64) (filter is_word (slice_split is_blank bytes))))

-- no text, no choices
pub choices_empty : (text : List ℕ) → length text ≡ 0 → choices_of text ≡ Some []
unfolding choices_of
choices_empty [] h = refl
choices_empty (b ∷ bs) h = absurd (omega arith)

-- the parts between commas make the choices
pub choices_start : (text : List ℕ) → 0 < length text → after (2 ^ 32) [] (slice_split is_comma text) ≡ choices_of text
unfolding choices_of
choices_start [] h = absurd (omega arith)
choices_start (b ∷ bs) h = nothing_before (numbers_below (2 ^ 32) (slice_split is_comma (b ∷ bs)))

-- no part is left
pub after_end : (bound : ℕ) (ns : List ℕ) → after bound ns [] ≡ Some ns
after_end bound ns = ap (λ (l : List ℕ). Some l) (append-nil ns)

-- a value below the smaller bound is kept
small_value : (o : Option ℕ) (n : ℕ) → option_and_then (below (2 ^ 64)) o ≡ Some n → n < 2 ^ 32 →
    option_and_then (below (2 ^ 32)) o ≡ Some n
small_value None n e h = cc
small_value (Some k) n e h = small_known (nat_lt k (2 ^ 64)) k n e h
  where
    small_known : (b : Bool) (k n : ℕ) → cond b (Some k) None ≡ Some n → n < 2 ^ 32 → below (2 ^ 32) k ≡ Some n
    small_known true k n e h =
        let same : k ≡ n = cc in
        rw (same, lt-ltb n (2 ^ 32) h) refl
    small_known false k n e h = cc

-- a value at the smaller bound or above is not
large_value : (o : Option ℕ) (n : ℕ) → option_and_then (below (2 ^ 64)) o ≡ Some n → 2 ^ 32 ≤ n →
    option_and_then (below (2 ^ 32)) o ≡ None
large_value None n e h = cc
large_value (Some k) n e h = large_known (nat_lt k (2 ^ 64)) k n e h
  where
    large_known : (b : Bool) (k n : ℕ) → cond b (Some k) None ≡ Some n → 2 ^ 32 ≤ n → below (2 ^ 32) k ≡ None
    large_known true k n e h =
        let same : k ≡ n = cc in
        rw (same, le-ltb n (2 ^ 32) h) refl
    large_known false k n e h = cc

-- what is not below a bound is not below a smaller one
no_value : (o : Option ℕ) → option_and_then (below (2 ^ 64)) o ≡ None → option_and_then (below (2 ^ 32)) o ≡ None
no_value None e = refl
no_value (Some k) e = large_known (nat_lt k (2 ^ 64)) k refl e
  where
    large_known : (b : Bool) (k : ℕ) → nat_lt k (2 ^ 64) ≡ b → cond b (Some k) None ≡ None → below (2 ^ 32) k ≡ None
    large_known true k h e = cc
    large_known false k h e = rw (le-ltb k (2 ^ 32) (omega (arith, ltb-false k (2 ^ 64) h))) refl

-- a number below a bound, and below a smaller one
pub smaller : (text : List ℕ) (n : ℕ) → number_below (2 ^ 64) text ≡ Some n → n < 2 ^ 32 →
    number_below (2 ^ 32) text ≡ Some n
unfolding number_below
smaller text n e h = small_value (value_of text) n e h

-- a number at the smaller bound or above
pub not_smaller : (text : List ℕ) (n : ℕ) → number_below (2 ^ 64) text ≡ Some n → 2 ^ 32 ≤ n →
    number_below (2 ^ 32) text ≡ None
unfolding number_below
not_smaller text n e h = large_value (value_of text) n e h

-- no number below a bound, and none below a smaller one
pub none_smaller : (text : List ℕ) → number_below (2 ^ 64) text ≡ None → number_below (2 ^ 32) text ≡ None
unfolding number_below
none_smaller text e = no_value (value_of text) e
