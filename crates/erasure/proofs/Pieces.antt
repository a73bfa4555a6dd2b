-- The piece at the front of a text is the same where its bytes and the one behind it are.
use Rattle.std.proofs.Common.{◌≡◌, ℕ, zero, suc, ◌+◌, ◌-◌, ◌<◌, ◌≤◌, Bool, true, false, cond, eqb, List, [], ◌∷◌, length, take, drop, Some, refl, sym, ap, subst, ◌∙◌, arith}
use Rattle.std.specs.Prelude.{◌&&◌, codes}
use Rattle.std.specs.Str.{bytes_eq}
use Rattle.std.specs.List.{prefix_len}
use Rattle.std.proofs.lemmas.Bool.Decides.{nat_tests}
use Rattle.c_tokens.specs.Piece.{is_name_part, is_not_feed, is_space, first_word, is_include, comment_end_from}

-- the first k bytes and the one behind them are the same; so are those behind letters and digits, up to one that is none
abbrev pub Alike : ℕ → List ℕ → List ℕ → Type 0
Alike k [] [] = Unit {0}
Alike zero (b ∷ bs) (c ∷ cs) = (b ≡ c) × (is_name_part b ≡ true → Alike zero bs cs)
Alike (suc k) (b ∷ bs) (c ∷ cs) = (b ≡ c) × Alike k bs cs
Alike k _ _ = ⊥

pub alike_front : (k : ℕ) (bs cs : List ℕ) → Alike k bs cs → Alike 0 bs cs
alike_front zero [] [] a = tt
alike_front (suc k) [] [] a = tt
alike_front zero (b ∷ bs) (c ∷ cs) a = a
alike_front (suc k) (b ∷ bs) (c ∷ cs) a = (a.0, λ e. alike_front k bs cs a.1)
alike_front zero [] (c ∷ cs) a = absurd a
alike_front (suc k) [] (c ∷ cs) a = absurd a
alike_front zero (b ∷ bs) [] a = absurd a
alike_front (suc k) (b ∷ bs) [] a = absurd a

pub alike_same : (bs : List ℕ) → Alike 0 bs bs
alike_same [] = tt
alike_same (b ∷ bs) = (refl, λ e. alike_same bs)

pub alike_take : (k : ℕ) (bs cs : List ℕ) → Alike k bs cs → take k bs ≡ take k cs
alike_take zero bs cs a = refl
alike_take (suc k) [] [] a = refl
alike_take (suc k) (b ∷ bs) (c ∷ cs) a = let tail = alike_take k bs cs a.1 in let head = a.0 in cc
alike_take (suc k) [] (c ∷ cs) a = absurd a
alike_take (suc k) (b ∷ bs) [] a = absurd a

pub alike_less : (n k : ℕ) (bs cs : List ℕ) → n ≤ k → Alike k bs cs → Alike n bs cs
alike_less zero k bs cs h a = alike_front k bs cs a
alike_less (suc n) zero bs cs h a = absurd (omega arith)
alike_less (suc n) (suc k) [] [] h a = tt
alike_less (suc n) (suc k) (b ∷ bs) (c ∷ cs) h a = (a.0, alike_less n k bs cs (omega (arith, h)) a.1)
alike_less (suc n) (suc k) [] (c ∷ cs) h a = absurd a
alike_less (suc n) (suc k) (b ∷ bs) [] h a = absurd a

pub alike_cons : (n b : ℕ) (bs cs : List ℕ) → 0 < n → Alike (n - 1) bs cs → Alike n (b ∷ bs) (b ∷ cs)
alike_cons zero b bs cs h a = absurd (omega arith)
alike_cons (suc n) b bs cs h a = let P : ℕ → Type 0 = λ k. Alike k bs cs in (refl, subst P (omega arith) a)

pub more_prefix : (p : ℕ → Bool) (b : ℕ) (bs : List ℕ) → p b ≡ true → prefix_len p (b ∷ bs) ≡ suc (prefix_len p bs)
more_prefix p b bs e = let one : 1 + prefix_len p bs ≡ suc (prefix_len p bs) = omega arith in rw (e, one) refl

no_prefix : (p : ℕ → Bool) (b : ℕ) (bs : List ℕ) → p b ≡ false → prefix_len p (b ∷ bs) ≡ 0
no_prefix p b bs e = rw e refl

-- a prefix of such bytes
pub alike_prefix : (p : ℕ → Bool) (k : ℕ) (bs cs : List ℕ) → prefix_len p bs ≤ k → Alike k bs cs →
    prefix_len p cs ≡ prefix_len p bs
alike_prefix p k [] [] h a = refl
alike_prefix p zero (b ∷ bs) (c ∷ cs) h a = first (p b) refl
  where
    first : (t : Bool) → p b ≡ t → prefix_len p (c ∷ cs) ≡ prefix_len p (b ∷ bs)
    first true e = let more = more_prefix p b bs e in absurd (omega (arith, h, more))
    first false e = no_prefix p c cs (ap p (sym a.0) ∙ e) ∙ sym (no_prefix p b bs e)
alike_prefix p (suc k) (b ∷ bs) (c ∷ cs) h a = first (p b) refl (λ l. alike_prefix p k bs cs l a.1)
  where
    first : (t : Bool) → p b ≡ t → (prefix_len p bs ≤ k → prefix_len p cs ≡ prefix_len p bs) →
        prefix_len p (c ∷ cs) ≡ prefix_len p (b ∷ bs)
    first true e go =
        let more = more_prefix p b bs e in
        more_prefix p c cs (ap p (sym a.0) ∙ e) ∙ ap suc (go (omega (arith, h, more))) ∙ sym more
    first false e go = no_prefix p c cs (ap p (sym a.0) ∙ e) ∙ sym (no_prefix p b bs e)
alike_prefix p zero [] (c ∷ cs) h a = absurd a
alike_prefix p (suc k) [] (c ∷ cs) h a = absurd a
alike_prefix p zero (b ∷ bs) [] h a = absurd a
alike_prefix p (suc k) (b ∷ bs) [] h a = absurd a

pub positive : (p : ℕ → Bool) (b : ℕ) (bs : List ℕ) → p b ≡ true → 0 < prefix_len p (b ∷ bs)
positive p b bs e = let more = more_prefix p b bs e in omega (arith, more)

prefix_less : (p q : ℕ → Bool) → ((x : ℕ) → p x ≡ true → q x ≡ true) → (xs : List ℕ) → prefix_len p xs ≤ prefix_len q xs
prefix_less p q h [] = omega arith
prefix_less p q h (x ∷ xs) = first (p x) refl (prefix_less p q h xs)
  where
    first : (t : Bool) → p x ≡ t → prefix_len p xs ≤ prefix_len q xs → prefix_len p (x ∷ xs) ≤ prefix_len q (x ∷ xs)
    first true e l =
        let one = more_prefix p x xs e in
        let other = more_prefix q x xs (h x e) in
        omega (arith, one, other, l)
    first false e l = let none = no_prefix p x xs e in omega (arith, none)

-- the letters and digits at the front
pub word_same : (bs cs : List ℕ) → Alike 0 bs cs →
    take (prefix_len is_name_part cs) cs ≡ take (prefix_len is_name_part bs) bs
word_same [] [] a = refl
word_same [] (c ∷ cs) a = absurd a
word_same (b ∷ bs) [] a = absurd a
word_same (b ∷ bs) (c ∷ cs) a = step (is_name_part b) refl (word_same bs cs)
  where
    step : (t : Bool) → is_name_part b ≡ t →
        (Alike 0 bs cs → take (prefix_len is_name_part cs) cs ≡ take (prefix_len is_name_part bs) bs) →
        take (prefix_len is_name_part (c ∷ cs)) (c ∷ cs) ≡ take (prefix_len is_name_part (b ∷ bs)) (b ∷ bs)
    step true e ih =
        let here = more_prefix is_name_part b bs e in
        let there = more_prefix is_name_part c cs (ap is_name_part (sym a.0) ∙ e) in
        ap (λ (k : ℕ). take k (c ∷ cs)) there
        ∙ ap (λ (x : ℕ). x ∷ take (prefix_len is_name_part cs) cs) (sym a.0)
        ∙ ap (λ (xs : List ℕ). b ∷ xs) (ih (a.1 e))
        ∙ sym (ap (λ (k : ℕ). take k (b ∷ bs)) here)
    step false e ih =
        ap (λ (k : ℕ). take k (c ∷ cs)) (no_prefix is_name_part c cs (ap is_name_part (sym a.0) ∙ e))
        ∙ sym (ap (λ (k : ℕ). take k (b ∷ bs)) (no_prefix is_name_part b bs e))

-- ---- the word of a line

word_more : (b : ℕ) (bs : List ℕ) → is_space b ≡ true → first_word (b ∷ bs) ≡ first_word bs
word_more b bs e =
    let skip : ℕ → List ℕ = λ k. take (prefix_len is_name_part (drop k (b ∷ bs))) (drop k (b ∷ bs)) in
    ap skip (more_prefix is_space b bs e)

word_here : (b : ℕ) (bs : List ℕ) → is_space b ≡ false → first_word (b ∷ bs) ≡ take (prefix_len is_name_part (b ∷ bs)) (b ∷ bs)
word_here b bs e =
    let skip : ℕ → List ℕ = λ k. take (prefix_len is_name_part (drop k (b ∷ bs))) (drop k (b ∷ bs)) in
    ap skip (no_prefix is_space b bs e)

part_no_feed : (x : ℕ) → is_name_part x ≡ true → is_not_feed x ≡ true
part_no_feed x e = grind (arith, nat_tests)

space_no_feed : (x : ℕ) → is_space x ≡ true → is_not_feed x ≡ true
space_no_feed x e = grind (arith, nat_tests)

word_alike : (k : ℕ) (bs cs : List ℕ) → prefix_len is_not_feed bs ≤ k → Alike k bs cs → first_word cs ≡ first_word bs
word_alike k [] [] h a = refl
word_alike zero [] (c ∷ cs) h a = absurd a
word_alike (suc k) [] (c ∷ cs) h a = absurd a
word_alike zero (b ∷ bs) [] h a = absurd a
word_alike (suc k) (b ∷ bs) [] h a = absurd a
word_alike k (b ∷ bs) (c ∷ cs) h a =
    first (is_space b) refl (alike_front k (b ∷ bs) (c ∷ cs) a).0 (λ j l m. word_alike j bs cs l m) k h a
  where
    first : (t : Bool) → is_space b ≡ t → b ≡ c →
        ((j : ℕ) → prefix_len is_not_feed bs ≤ j → Alike j bs cs → first_word cs ≡ first_word bs) →
        (k : ℕ) → prefix_len is_not_feed (b ∷ bs) ≤ k → Alike k (b ∷ bs) (c ∷ cs) →
        first_word (c ∷ cs) ≡ first_word (b ∷ bs)
    first true e i go zero h a =
        let more = more_prefix is_not_feed b bs (space_no_feed b e) in absurd (omega (arith, h, more))
    first true e i go (suc k) h a =
        let more = more_prefix is_not_feed b bs (space_no_feed b e) in
        word_more c cs (ap is_space (sym i) ∙ e) ∙ go k (omega (arith, h, more)) a.1 ∙ sym (word_more b bs e)
    first false e i go k h a =
        let n : ℕ = prefix_len is_name_part (b ∷ bs) in
        let less : n ≤ k = omega (arith, h, prefix_less is_name_part is_not_feed part_no_feed (b ∷ bs)) in
        let same : prefix_len is_name_part (c ∷ cs) ≡ n = alike_prefix is_name_part k (b ∷ bs) (c ∷ cs) less a in
        let text : take n (b ∷ bs) ≡ take n (c ∷ cs) =
        alike_take n (b ∷ bs) (c ∷ cs) (alike_less n k (b ∷ bs) (c ∷ cs) less a) in
        word_here c cs (ap is_space (sym i) ∙ e) ∙ ap (λ (j : ℕ). take j (c ∷ cs)) same ∙ sym text ∙ sym (word_here b bs e)

pub include_alike : (k : ℕ) (bs cs : List ℕ) → prefix_len is_not_feed bs ≤ k → Alike k bs cs → is_include cs ≡ is_include bs
unfolding is_include
include_alike k bs cs h a = ap (λ (w : List ℕ). bytes_eq w (codes "include")) (word_alike k bs cs h a)

-- ---- comments

pub comment_above : (j : ℕ) (bs : List ℕ) (r : ℕ) → comment_end_from j bs ≡ Some r → (j + 2 ≤ r) × (r ≤ j + length bs)
unfolding comment_end_from
comment_above j [] r e = absurd cc
comment_above j (b ∷ []) r e = absurd cc
comment_above j (b ∷ c ∷ bs) r e = step (eqb b 42 && eqb c 47) e (comment_above (j + 1) (c ∷ bs) r)
  where
    step : (t : Bool) → cond t (Some (j + 2)) (comment_end_from (j + 1) (c ∷ bs)) ≡ Some r →
        (comment_end_from (j + 1) (c ∷ bs) ≡ Some r → (j + 1 + 2 ≤ r) × (r ≤ j + 1 + length (c ∷ bs))) →
        (j + 2 ≤ r) × (r ≤ j + length (b ∷ c ∷ bs))
    step true e go = let same : j + 2 ≡ r = cc in (omega (arith, same), omega (arith, same))
    step false e go = let both = go e in (omega (arith, both.0), omega (arith, both.1))

pub comment_alike : (j : ℕ) (bs : List ℕ) (r k : ℕ) (cs : List ℕ) → comment_end_from j bs ≡ Some r → r ≤ j + k → Alike k bs cs →
    comment_end_from j cs ≡ Some r
unfolding comment_end_from
comment_alike j [] r k cs e h a = absurd cc
comment_alike j (b ∷ []) r k cs e h a = absurd cc
comment_alike j (b ∷ c ∷ bs) r zero cs e h a = let both = comment_above j (b ∷ c ∷ bs) r e in absurd (omega (arith, both.0, h))
comment_alike j (b ∷ c ∷ bs) r (suc k) [] e h a = absurd a
comment_alike j (b ∷ c ∷ bs) r (suc k) (d ∷ []) e h a = absurd (no k a.1)
  where
    no : (k : ℕ) → Alike k (c ∷ bs) [] → ⊥
    no zero a = a
    no (suc k) a = a
comment_alike j (b ∷ c ∷ bs) r (suc k) (d ∷ f ∷ cs) e h a =
    step (eqb b 42 && eqb c 47) refl e (λ u. comment_alike (j + 1) (c ∷ bs) r k (f ∷ cs) u (omega (arith, h)) a.1)
  where
    step : (t : Bool) → (eqb b 42 && eqb c 47) ≡ t → cond t (Some (j + 2)) (comment_end_from (j + 1) (c ∷ bs)) ≡ Some r →
        (comment_end_from (j + 1) (c ∷ bs) ≡ Some r → comment_end_from (j + 1) (f ∷ cs) ≡ Some r) →
        comment_end_from j (d ∷ f ∷ cs) ≡ Some r
    step t i e go =
        let second : c ≡ f = (alike_front k (c ∷ bs) (f ∷ cs) a.1).0 in
        let one : eqb d 42 ≡ eqb b 42 = ap (λ (x : ℕ). eqb x 42) (sym a.0) in
        let two : eqb f 47 ≡ eqb c 47 = ap (λ (x : ℕ). eqb x 47) (sym second) in
        let test : (eqb d 42 && eqb f 47) ≡ t = rw (one, two) i in
        end t test e go
      where
        end : (t : Bool) → (eqb d 42 && eqb f 47) ≡ t → cond t (Some (j + 2)) (comment_end_from (j + 1) (c ∷ bs)) ≡ Some r →
            (comment_end_from (j + 1) (c ∷ bs) ≡ Some r → comment_end_from (j + 1) (f ∷ cs) ≡ Some r) →
            comment_end_from j (d ∷ f ∷ cs) ≡ Some r
        end true i e go = rw i e
        end false i e go = rw i (go e)
