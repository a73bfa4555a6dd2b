-- The parts of a statement, and the tokens behind its first.
use Rattle.std.proofs.Common.{◌≡◌, ◌∙◌, ℕ, zero, suc, ◌+◌, ◌-◌, ◌<◌, ◌≤◌, Bool, true, false, List, [], ◌∷◌, ◌++◌, length, get_or, take, drop, Option, Some, None, refl, sym, ap, ap₂, subst, cond, arith}
use Rattle.std.specs.Prelude.{◌&&◌, ◌||◌, ◌==◌, nat_lt}
use Rattle.std.proofs.lemmas.Bool.Decides.{nat_tests}
use Rattle.std.proofs.lemmas.List.{drop-map, length-map, length-take-le, take-map, take_all, take_more}
use Rattle.c_tokens.specs.declared.kind.Sign.TheVariants as sign
use Rattle.c_grammar.specs.Terminal.{Terminal}
use Rattle.c_grammar.specs.Texts.{Item}
use Rattle.c_grammar.specs.Blocks.{Items}
use Rattle.c_grammar.specs.Constants.{is_mark}
use Rattle.c_grammar.specs.Changes.{is_boundary, reversed}
use Rattle.c_grammar.specs.Choices.{Parts, begins_condition, brackets_before, brackets_behind, choice_of, condition_len, cut, cut_by, first_len, is_choice, is_question, max_between, second_len, statement_len}
use Rattle.c_terminals.specs.declared.token.Token.{Token}
use Rattle.c_terminals.specs.Seen.{seen, seen_all}
use Rattle.c_terminals.proofs.Lists.{seen_more}

positive : (n : ℕ) → 0 < n → (n == 0) ≡ false
positive n h = grind (arith, nat_tests)

-- ---- from the last token on

reversed_more : (is js : Items) (i : Item Terminal) → reversed (is ++ i ∷ []) js ≡ i ∷ reversed is js
reversed_more [] js i = refl
reversed_more (j ∷ is) js i = reversed_more is (j ∷ js) i

pub last_first : (ts : List Token) (t : Token) → 1 ≤ length ts → t ≡ get_or ts (length ts - 1) t →
    reversed (seen_all ts) [] ≡ seen t ∷ reversed (seen_all (take (length ts - 1) ts)) []
last_first ts t h e =
    let n : ℕ = length ts - 1 in
    ap (λ (is : Items). reversed is [])
    (ap seen_all (sym (take_all (n + 1) ts (omega arith)) ∙ take_more ts n t (omega arith))
    ∙ seen_more (take n ts) (get_or ts n t)
    ∙ ap (λ (u : Token). seen_all (take n ts) ++ seen u ∷ []) (sym e))
    ∙ reversed_more (seen_all (take n ts)) [] (seen t)

pub condition_found : (n b : ℕ) (i : Item Terminal) (is js : Items) → is ≡ i ∷ js → b ≡ 0 → begins_condition i ≡ true →
    condition_len n b is ≡ n
condition_found n b i is js e f g = rw (e, f, g) refl

no_second : (t u : Bool) → u ≡ false → (t && u) ≡ false
no_second true u e = e
no_second false u e = refl

pub not_begun : (b : ℕ) (t : Bool) → t ≡ false → ((b == 0) && t) ≡ false
not_begun b t e = no_second (b == 0) t e

pub in_brackets : (b : ℕ) (t : Bool) → 0 < b → ((b == 0) && t) ≡ false
in_brackets b t h = rw (positive b h) refl

pub condition_goes : (n b c : ℕ) (i : Item Terminal) (is js : Items) → is ≡ i ∷ js → ((b == 0) && begins_condition i) ≡ false →
    c ≡ brackets_before i b → condition_len n b is ≡ condition_len (n + 1) c js
condition_goes n b c i is js e f g = rw (e, f) (ap (λ (x : ℕ). condition_len (n + 1) x js) (sym g))

-- ---- the parts

pub first_rest : (ts : List Token) (t : Token) → 1 ≤ length ts → t ≡ get_or ts 0 t → ts ≡ t ∷ take (length ts - 1) (drop 1 ts)
first_rest [] t h e = absurd (omega arith)
first_rest (u ∷ ts) t h e =
    ap₂ (λ (x : Token) (xs : List Token). x ∷ xs) (sym e) (sym (take_all (suc (length ts) - 1) ts (omega arith)))

cut_is : (mark : Token) (front behind : List Token) (n k l : ℕ) → n ≡ condition_len 0 0 (reversed (seen_all front) []) →
    k ≡ first_len 0 0 0 (seen_all behind) → l ≡ second_len 0 0 (seen_all (drop (k + 1) behind)) →
    cut (seen_all front) (seen mark ∷ seen_all behind) ≡ cut_by (seen mark) (seen_all front) (seen_all behind) n k l
cut_is mark front behind n k l e f g =
    let other : second_len 0 0 (drop (first_len 0 0 0 (seen_all behind) + 1) (seen_all behind)) ≡ l =
    ap (λ (x : ℕ). second_len 0 0 (drop (x + 1) (seen_all behind))) (sym f)
    ∙ ap (second_len 0 0) (drop-map seen (k + 1) behind) ∙ sym g in
    λ t. cut_by (seen mark) (seen_all front) (seen_all behind) (sym e t) (sym f t) (other t)

at_third : {A : Type 0} (x y z : Bool) (a b : A) → z ≡ true → cond (x || y || z) a b ≡ a
at_third true y z a b e = refl
at_third false true z a b e = refl
at_third false false z a b e = rw e refl

is_zero : (n : ℕ) → n ≡ 0 → (n == 0) ≡ true
is_zero n e = rw e refl

pub cut_none : (mark : Token) (front behind : List Token) (n k l : ℕ) → n ≡ condition_len 0 0 (reversed (seen_all front) []) →
    k ≡ first_len 0 0 0 (seen_all behind) → l ≡ second_len 0 0 (seen_all (drop (k + 1) behind)) → l ≡ 0 →
    cut (seen_all front) (seen mark ∷ seen_all behind) ≡ None
cut_none mark front behind n k l e f g h =
    cut_is mark front behind n k l e f g ∙ at_third (n == 0) (k == 0) (l == 0) None _ (is_zero l h)

cut_some : (m : Item Terminal) (before is : Items) (n k l : ℕ) → 0 < n → 0 < k → 0 < l → cut_by m before is n k l ≡
    Some (record {
      mark = m;
      before = take (length before - n) before;
      condition = drop (length before - n) before;
      first = take k is;
      second = take l (drop (k + 1) is);
      behind = drop l (drop (k + 1) is);
    })
cut_some m before is n k l e f g = rw (positive n e, positive k f, positive l g) refl

pub cut_parts : (p : Parts) (mark : Token) (front behind : List Token) (n k l : ℕ) →
    n ≡ condition_len 0 0 (reversed (seen_all front) []) → k ≡ first_len 0 0 0 (seen_all behind) →
    l ≡ second_len 0 0 (seen_all (drop (k + 1) behind)) → 0 < n → 0 < k → 0 < l → p.mark ≡ seen mark →
    p.before ≡ seen_all (take (length front - n) front) → p.condition ≡ seen_all (drop (length front - n) front) →
    p.first ≡ seen_all (take k behind) → p.second ≡ seen_all (take l (drop (k + 1) behind)) →
    p.behind ≡ seen_all (drop l (drop (k + 1) behind)) → cut (seen_all front) (seen mark ∷ seen_all behind) ≡ Some p
cut_parts p mark front behind n k l e f g x y z m b c a o h =
    let size : length (seen_all front) ≡ length front = length-map front seen in
    let before : take (length (seen_all front) - n) (seen_all front) ≡ p.before =
    ap (λ (s : ℕ). take (s - n) (seen_all front)) size ∙ take-map seen (length front - n) front ∙ sym b in
    let condition : drop (length (seen_all front) - n) (seen_all front) ≡ p.condition =
    ap (λ (s : ℕ). drop (s - n) (seen_all front)) size ∙ drop-map seen (length front - n) front ∙ sym c in
    let others : drop (k + 1) (seen_all behind) ≡ seen_all (drop (k + 1) behind) = drop-map seen (k + 1) behind in
    let first : take k (seen_all behind) ≡ p.first = take-map seen k behind ∙ sym a in
    let second : take l (drop (k + 1) (seen_all behind)) ≡ p.second =
    ap (take l) others ∙ take-map seen l (drop (k + 1) behind) ∙ sym o in
    let end : drop l (drop (k + 1) (seen_all behind)) ≡ p.behind =
    ap (drop l) others ∙ drop-map seen l (drop (k + 1) behind) ∙ sym h in
    cut_is mark front behind n k l e f g
    ∙ cut_some (seen mark) (seen_all front) (seen_all behind) n k l x y z
    ∙ (λ t. Some (record {
      mark = sym m t;
      before = before t;
      condition = condition t;
      first = first t;
      second = second t;
      behind = end t;
    }))

-- ---- the tokens behind the first

pub take_next : (n : ℕ) (is js : Items) (i : Item Terminal) → 0 < n → is ≡ i ∷ js → take n is ≡ i ∷ take (n - 1) js
take_next zero is js i h e = absurd (omega arith)
take_next (suc n) is js i h e =
    let one : n ≡ suc n - 1 = omega arith in
    ap (take (suc n)) e ∙ ap (λ (m : ℕ). i ∷ take m js) one

abbrev Within : ℕ → ℕ → Option ℕ → Type 0
Within n size None = Unit {0}
Within n size (Some m) = m ≤ n + size

within_more : (n size : ℕ) (o : Option ℕ) → Within (n + 1) size o → Within n (suc size) o
within_more n size None h = tt
within_more n size (Some m) h = omega (arith, h)

either_within : (b : Bool) (n size : ℕ) (x y : Option ℕ) → Within n size x → Within n size y → Within n size (cond b x y)
either_within true n size x y h k = h
either_within false n size x y h k = k

len_within : (is : Items) (asks : Bool) (n b : ℕ) → Within n (length is) (statement_len asks n b is)
len_within [] asks n b = tt
len_within (i ∷ is) asks n b =
    either_within (is_boundary i.terminal) n (suc (length is)) _ _
    (either_within (asks && (b == 0) && is_mark sign.Semicolon i) n (suc (length is)) (Some (n + 1)) None (omega arith) tt)
    (either_within (nat_lt n max_between) n (suc (length is)) _ None
    (within_more n (length is) _ (len_within is (asks || is_question i) (n + 1) (brackets_behind i b))) tt)

-- as many tokens as the statement has
taken_len : (ts : List Token) (is : Items) (m : ℕ) → Some m ≡ statement_len false 0 0 is → seen_all ts ≡ take m is →
    length ts ≡ m
taken_len ts is m e f =
    let within : m ≤ 0 + length is = subst (Within 0 (length is)) (sym e) (len_within is false 0 0) in
    sym (length-map ts seen) ∙ ap length f ∙ length-take-le m is (omega (arith, within))

pub statement_is : (i : Item Terminal) (is : Items) (ts : List Token) (m : ℕ) → Some m ≡ statement_len false 0 0 is →
    seen_all ts ≡ take m is → is_choice i (seen_all ts) ≡ true →
    (choice_of i is (statement_len false 0 0 is) ≡ Some (length ts)) × (seen_all ts ≡ take (length ts) is)
statement_is i is ts m e f g =
    let size : m ≡ length ts = sym (taken_len ts is m e f) in (
      ap (choice_of i is) (sym e)
          ∙ ap (λ (js : Items). cond (is_choice i js) (Some m) None) (sym f)
          ∙ ap (λ (b : Bool). cond b (Some m) None) g
          ∙ ap (λ (k : ℕ). Some k) size,
      f ∙ ap (λ (k : ℕ). take k is) size,
    )
