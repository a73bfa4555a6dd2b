-- Loops that end by a condition are written out without a look at the lines of the tokens.
use Rattle.std.proofs.Common.{◌≡◌, ◌∙◌, ℕ, zero, suc, ◌+◌, ◌-◌, Bool, true, false, cond, List, [], ◌∷◌, ◌++◌, length, take, drop, Option, Some, None, refl, ap, ap₂}
use Rattle.std.specs.Prelude.{◌&&◌, ◌||◌, ◌==◌, nat_le, nat_lt, not, codes}
use Rattle.c_tokens.specs.declared.kind.Sign.TheVariants as sign
use Rattle.c_grammar.specs.Lexeme.{Else}
use Rattle.c_grammar.specs.Terminal.{Terminal, Fixed, Mark}
use Rattle.c_grammar.specs.Texts.{Item}
use Rattle.c_grammar.specs.Blocks.{Items, at, bare, braces_at, is_directive, is_else}
use Rattle.c_grammar.specs.Constants.{is_mark}
use Rattle.c_grammar.specs.Choices.{brackets_behind, closes}
use Rattle.c_grammar.specs.Loops.{Branch, Left, Limit, OnSeen, Onward, Open, Plain, Seen, State, Turn, adds, back_limit, begin, behind, bounded, bounded_at, bounded_by, changes, close_at, closing, counts, ends_branch, front_limit, grows, grows_by, grows_on, grows_past, head_at, is_branch, is_joined, is_named, is_sum, is_word, last_limit, leaves, left, limit_in, loop_at, looped, looped_in, looped_on, max_between, max_open, one_of, put_on, seen_at, step_at, step_len, turn_name, turned_on}
use Rattle.same_text.specs.Laws.{unlined}
use Rattle.same_text.proofs.Unlined.{AreUnlined, all_unlined, bare_unlined, one, some}
use Rattle.same_text.proofs.UnlinedPassed.{drop_unlined, length_unlined, take_unlined}

-- ---- the condition

close_same : (is : Items) (n b : ℕ) → close_at n b (all_unlined is) ≡ close_at n b is
close_same [] n b = refl
close_same (i ∷ is) n b =
    ap (λ (o : Option ℕ). cond (nat_le max_between n) None (cond (closes i && (b == 0)) (Some n) o))
    (close_same is (n + 1) (brackets_behind i b))

joined_same : (is : Items) (b : ℕ) → is_joined b (all_unlined is) ≡ is_joined b is
joined_same [] b = refl
joined_same (i ∷ is) b =
    ap (λ (t : Bool). not ((b == 0) && (is_mark sign.OrOr i || is_mark sign.Question i)) && t)
    (joined_same is (brackets_behind i b))

front_same : (is : Items) → front_limit (all_unlined is) ≡ front_limit is
front_same [] = refl
front_same (x ∷ []) = refl
front_same (x ∷ l ∷ []) = refl
front_same (x ∷ l ∷ n ∷ []) = refl
front_same (x ∷ l ∷ n ∷ a ∷ is) = refl

last_same : (is : Items) → last_limit (all_unlined is) ≡ last_limit is
last_same [] = refl
last_same (a ∷ []) = refl
last_same (a ∷ x ∷ []) = refl
last_same (a ∷ x ∷ l ∷ []) = refl
last_same (a ∷ x ∷ l ∷ n ∷ []) = refl
last_same (a ∷ x ∷ l ∷ n ∷ i ∷ is) = refl

back_same : (is : Items) → back_limit (all_unlined is) ≡ back_limit is
back_same is =
    ap (λ (n : ℕ). last_limit (drop (n - 4) (all_unlined is))) (length_unlined is)
    ∙ ap last_limit (drop_unlined (length is - 4) is) ∙ last_same (drop (length is - 4) is)

limit_same : (is : Items) → limit_in (all_unlined is) ≡ limit_in is
limit_same is = λ k. cond (joined_same is 0 k) (one_of (front_same is k) (back_same is k)) None

-- ---- the block

counts_same : (l : Limit) (is : Items) → counts l (all_unlined is) ≡ counts l is
counts_same l [] = refl
counts_same l (a ∷ []) = refl
counts_same l (a ∷ b ∷ []) = refl
counts_same l (a ∷ b ∷ c ∷ is) = refl

adds_same : (l : Limit) (is : Items) → adds l (all_unlined is) ≡ adds l is
adds_same l [] = refl
adds_same l (a ∷ []) = refl
adds_same l (a ∷ b ∷ []) = refl
adds_same l (a ∷ b ∷ n ∷ []) = refl
adds_same l (a ∷ b ∷ n ∷ c ∷ is) = refl

sum_same : (l : Limit) (is : Items) → is_sum l (all_unlined is) ≡ is_sum l is
sum_same l [] = refl
sum_same l (a ∷ []) = refl
sum_same l (a ∷ e ∷ []) = refl
sum_same l (a ∷ e ∷ b ∷ []) = refl
sum_same l (a ∷ e ∷ b ∷ p ∷ []) = refl
sum_same l (a ∷ e ∷ b ∷ p ∷ n ∷ []) = refl
sum_same l (a ∷ e ∷ b ∷ p ∷ n ∷ c ∷ is) = refl

len_same : (l : Limit) (is : Items) → step_len l (all_unlined is) ≡ step_len l is
len_same l is = λ k. cond (counts_same l is k) 2 (cond (adds_same l is k) 3 (cond (sum_same l is k) 5 0))

at_same : (l : Limit) (s : Seen) (is : Items) → step_at l s (all_unlined is) ≡ step_at l s is
at_same l s is = ap (λ (n : ℕ). cond (s.starts && (s.depth == 0)) n 0) (len_same l is)

changes_same : (l : Limit) (i : Item Terminal) (is : Items) → changes l (unlined i) (all_unlined is) ≡ changes l i is
changes_same l i [] = refl
changes_same l i (j ∷ is) = refl

abbrev SeesSame : OnSeen → OnSeen → Type 0
SeesSame go' go = (s : Seen) (k : ℕ) → go' s k ≡ go s k

by_same : (l : Limit) (s : Seen) (i : Item Terminal) (is : Items) (n : ℕ) (go go' : OnSeen) → SeesSame go' go →
    grows_by l s (unlined i) (all_unlined is) n go' ≡ grows_by l s i is n go
by_same l s i is zero go go' r = ap₂ (λ (t u : Bool). not t && u) (changes_same l i is) (r _ _)
by_same l s i is (suc n) go go' r = ap (λ (t : Bool). not s.grown && t) (r _ _)

grows_on_same : (l : Limit) (s : Seen) (i : Item Terminal) (is : Items) (go go' : OnSeen) → SeesSame go' go →
    grows_on l s (unlined i) (all_unlined is) go' ≡ grows_on l s i is go
grows_on_same l s i is go go' r =
    let other : grows_by l s (unlined i) (all_unlined is) (step_at l s (all_unlined (i ∷ is))) go'
    ≡ grows_by l s i is (step_at l s (i ∷ is)) go =
    ap (λ (n : ℕ). grows_by l s (unlined i) (all_unlined is) n go') (at_same l s (i ∷ is))
    ∙ by_same l s i is (step_at l s (i ∷ is)) go go' r in
    λ k. cond (is_mark sign.CloseBrace i) (cond (s.depth == 0) s.grown (r (seen_at (s.depth - 1) true s.grown) 0 k))
    (cond (is_mark sign.OpenBrace i) (nat_lt s.depth max_open && r (seen_at (s.depth + 1) true s.grown) 0 k)
    (cond (is_word (codes "continue") i) false (other k)))

past_same : (k : ℕ) (l : Limit) (s : Seen) (i : Item Terminal) (is : Items) (go go' : OnSeen) → SeesSame go' go →
    grows_past l s k (unlined i) (all_unlined is) go' ≡ grows_past l s k i is go
past_same zero l s i is go go' r = grows_on_same l s i is go go' r
past_same (suc k) l s i is go go' r = r s k

grows_same : (is : Items) (l : Limit) (s : Seen) (k : ℕ) → grows l s k (all_unlined is) ≡ grows l s k is
grows_same [] l s k = refl
grows_same (i ∷ is) l s k =
    past_same k l s i is (λ s k. grows l s k is) (λ s k. grows l s k (all_unlined is)) (λ s k. grows_same is l s k)

bounded_by_same : (is : Items) (o : Option Limit) → bounded_by (all_unlined is) o ≡ bounded_by is o
bounded_by_same [] o = refl
bounded_by_same (i ∷ is) None = refl
bounded_by_same (i ∷ is) (Some l) =
    ap (λ (t : Bool). cond (is_mark sign.OpenBrace i && t) (Some l) None) (grows_same is l (seen_at 0 true false) 0)

bounded_at_same : (is : Items) (o : Option ℕ) → bounded_at (all_unlined is) o ≡ bounded_at is o
bounded_at_same is None = refl
bounded_at_same is (Some n) =
    ap₂ (λ (js : Items) (o : Option Limit). bounded_by js o) (drop_unlined (n + 1) is)
    (ap limit_in (take_unlined n is) ∙ limit_same (take n is))
    ∙ bounded_by_same (drop (n + 1) is) (limit_in (take n is))

bounded_same : (is : Items) → bounded (all_unlined is) ≡ bounded is
bounded_same [] = refl
bounded_same (o ∷ is) =
    ap (λ (b : Option Limit). cond (is_mark sign.OpenParen o) b None)
    (ap (bounded_at (all_unlined is)) (close_same is 0 0) ∙ bounded_at_same is (close_at 0 0 is))

-- ---- the tokens

else_same : (is : Items) → is_else (all_unlined is) ≡ is_else is
else_same [] = refl
else_same (i ∷ is) = refl

ends_same : (is : Items) → ends_branch (all_unlined is) ≡ ends_branch is
ends_same [] = refl
ends_same (s ∷ []) = refl
ends_same (s ∷ c ∷ is) =
    ap (λ (t : Bool). is_mark sign.Semicolon s && is_mark sign.CloseBrace c && not t) (else_same is)

leaves_same : (s : State) (i : Item Terminal) (is : Items) → leaves s (unlined i) (all_unlined is) ≡ leaves s i is
leaves_same s i is =
    ap (λ (t : Bool). s.starts && is_branch s.blocks && is_word (codes "continue") i && t) (ends_same is)

loop_same : (s : State) (i : Item Terminal) (is : Items) → loop_at s (unlined i) (all_unlined is) ≡ loop_at s i is
loop_same s i is = ap (λ (o : Option Limit). cond (s.starts && is_word (codes "while") i) o None) (bounded_same is)

braces_unlined : (n : ℕ) (i : Item Terminal) → AreUnlined (braces_at n (unlined i)) (braces_at n i)
braces_unlined zero i = refl
braces_unlined (suc n) i = one (at i (Mark sign.CloseBrace)) (braces_at n i) _ (braces_unlined n i)

closing_unlined : (os : List Open) (i : Item Terminal) → AreUnlined (closing os (unlined i)) (closing os i)
closing_unlined [] i = refl
closing_unlined (Plain n ∷ os) i = some (braces_at n i) _ (i ∷ []) _ (braces_unlined n i) refl
closing_unlined (Turn n ∷ os) i = some (braces_at n i) _ (i ∷ []) _ (braces_unlined n i) refl
closing_unlined (Branch ∷ os) i = refl
closing_unlined (Left ∷ os) i = refl

abbrev GoesSame : Onward → Onward → Type 0
GoesSame go' go = (s : State) (k : ℕ) → AreUnlined (go' s k) (go s k)

put_unlined : (s : State) (i : Item Terminal) (is : Items) (go go' : Onward) → GoesSame go' go →
    AreUnlined (put_on s (unlined i) (all_unlined is) go') (put_on s i is go)
put_unlined s i is go go' r =
    ap (λ (t : Bool). cond t (go' next 1) (cond closed (closing s.blocks (unlined i) ++ go' (behind s i) 0) (unlined i ∷ go' (behind s i) 0)))
    (leaves_same s i is) ∙ step (leaves s i is) closed
  where
    next : State
    next = record { blocks = left s.blocks; next = Plain 0; starts = true }

    closed : Bool
    closed = is_mark sign.CloseBrace i

    step : (t c : Bool) →
        AreUnlined
        (cond t (go' next 1) (cond c (closing s.blocks (unlined i) ++ go' (behind s i) 0) (unlined i ∷ go' (behind s i) 0)))
        (cond t (go next 1) (cond c (closing s.blocks i ++ go (behind s i) 0) (i ∷ go (behind s i) 0)))
    step true c = r _ _
    step false true = some (closing s.blocks i) _ _ _ (closing_unlined s.blocks i) (r _ _)
    step false false = one i _ _ (r _ _)

turned_unlined : (s : State) (i : Item Terminal) (is : Items) (o : Option Limit) (go go' : Onward) → GoesSame go' go →
    AreUnlined (turned_on s (unlined i) (all_unlined is) o go') (turned_on s i is o go)
turned_unlined s i is None go go' r = put_unlined s i is go go' r
turned_unlined s i is (Some l) go go' r = some (head_at i (turn_name s.blocks) l.most) _ _ _ refl (r _ _)

on_unlined : (k : ℕ) (s : State) (i : Item Terminal) (is : Items) (go go' : Onward) → GoesSame go' go →
    AreUnlined (looped_on s k (unlined i) (all_unlined is) go') (looped_on s k i is go)
on_unlined zero s i is go go' r =
    ap (λ (o : Option Limit). turned_on s (unlined i) (all_unlined is) o go') (loop_same s i is)
    ∙ turned_unlined s i is (loop_at s i is) go go' r
on_unlined (suc k) s i is go go' r = r s k

in_unlined : (is : Items) (s : State) (k : ℕ) → AreUnlined (looped_in s k (all_unlined is)) (looped_in s k is)
in_unlined [] s k = refl
in_unlined (i ∷ is) s k = step (is_directive i.terminal) (λ s k. in_unlined is s k)
  where
    step : (t : Bool) → GoesSame (λ s k. looped_in s k (all_unlined is)) (λ s k. looped_in s k is) →
        AreUnlined
        (cond t (unlined i ∷ looped_in s k (all_unlined is))
        (looped_on s k (unlined i) (bare (all_unlined is)) (λ s k. looped_in s k (all_unlined is))))
        (cond t (i ∷ looped_in s k is) (looped_on s k i (bare is) (λ s k. looped_in s k is)))
    step true ih = one i (looped_in s k is) (looped_in s k (all_unlined is)) (ih s k)
    step false ih =
        ap (λ (js : Items). looped_on s k (unlined i) js (λ s k. looped_in s k (all_unlined is))) (bare_unlined is)
        ∙ on_unlined k s i (bare is) (λ s k. looped_in s k is) (λ s k. looped_in s k (all_unlined is)) ih

pub looped_unlined : (is : Items) → AreUnlined (looped (all_unlined is)) (looped is)
looped_unlined is = in_unlined is begin 0
