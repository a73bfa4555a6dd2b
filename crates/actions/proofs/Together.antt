-- Turns that go on together: the one that acts next, and one that has come to its end.
use Rattle.std.proofs.Common.{◌≡◌, ℕ, zero, suc, ◌+◌, ◌%◌, List, [], ◌∷◌, ◌++◌, length, refl, ap, sym, ◌∙◌, arith}
use Rattle.std.specs.Prelude.{drop}
use Rattle.base.specs.Meaning.{Run}
use Rattle.fine_machine.specs.Left.{Left, Finished, Asks, Answer, Request, then_left, in_order, waiting, act_of, together}
use Rattle.actions.specs.Control.{place}

-- Where nothing is left of a turn, the others go on as without it.

waiting_drop : (xs ys : List Left) (t : Run) → waiting (xs ++ Finished t ∷ ys) ≡ waiting (xs ++ ys)
waiting_drop [] ys t = refl
waiting_drop (Finished u ∷ xs) ys t = waiting_drop xs ys t
waiting_drop (Asks r k ∷ xs) ys t = ap (λ n. n + 1) (waiting_drop xs ys t)

in_order_drop : (xs ys : List Left) (t : Run) (after : Left) →
    in_order (xs ++ Finished t ∷ ys) after ≡ in_order (xs ++ ys) after
in_order_drop [] ys t after = refl
in_order_drop (l ∷ xs) ys t after = ap (then_left l) (in_order_drop xs ys t after)

act_drop : (n : ℕ) (xs ys : List Left) (t : Run) (f g : List Left → Left) (other : Left) →
    ((xs' ys' : List Left) → f (xs' ++ Finished t ∷ ys') ≡ g (xs' ++ ys')) →
    act_of n (xs ++ Finished t ∷ ys) f other ≡ act_of n (xs ++ ys) g other
act_drop n [] ys t f g other h = ap (λ follow. act_of n ys follow other) (λ i ls. h [] ls i)
act_drop n (Finished u ∷ xs) ys t f g other h =
    act_drop n xs ys t (λ ls. f (Finished u ∷ ls)) (λ ls. g (Finished u ∷ ls)) other (λ xs' ys'. h (Finished u ∷ xs') ys')
act_drop zero (Asks r k ∷ xs) ys t f g other h = ap (Asks r) (λ i a. h (k a ∷ xs) ys i)
act_drop (suc n) (Asks r k ∷ xs) ys t f g other h =
    act_drop n xs ys t (λ ls. f (Asks r k ∷ ls)) (λ ls. g (Asks r k ∷ ls)) other (λ xs' ys'. h (Asks r k ∷ xs') ys')

pub together_drop : (order : List ℕ) (xs ys : List Left) (t : Run) (after : Left) →
    together order (xs ++ Finished t ∷ ys) after ≡ together order (xs ++ ys) after
together_drop [] xs ys t after = in_order_drop xs ys t after
together_drop (n ∷ order) xs ys t after =
    let follow = λ (ls : List Left). together order ls after in
    (λ i. act_of (n % waiting_drop xs ys t i) (xs ++ Finished t ∷ ys) follow (in_order_drop xs ys t after i))
    ∙ act_drop (n % waiting (xs ++ ys)) xs ys t follow follow (in_order (xs ++ ys) after)
    (λ xs' ys'. together_drop order xs' ys' t after)

pub together_none : (order : List ℕ) (after : Left) → together order [] after ≡ after
together_none [] after = refl
together_none (n ∷ order) after = refl

-- each has an action to do
abbrev pub AllAsk : List Left → Type 0
AllAsk [] = Unit {0}
AllAsk (Finished t ∷ rest) = ⊥
AllAsk (Asks q k ∷ rest) = AllAsk rest

waiting_all : (xs ys : List Left) (q : Request) (k : Answer → Left) → AllAsk xs → AllAsk ys →
    waiting (xs ++ Asks q k ∷ ys) ≡ length (xs ++ Asks q k ∷ ys)
waiting_all (Finished t ∷ xs) ys q k h h' = absurd h
waiting_all (Asks r l ∷ xs) ys q k h h' = let e = waiting_all xs ys q k h h' in omega (arith, e)
waiting_all [] ys q k h h' = let e = each ys h' in omega (arith, e)
  where
    each : (ls : List Left) → AllAsk ls → waiting ls ≡ length ls
    each [] a = refl
    each (Finished t ∷ ls) a = absurd a
    each (Asks r l ∷ ls) a = let e = each ls a in omega (arith, e)

act_at : (xs ys : List Left) (q : Request) (k : Answer → Left) (follow : List Left → Left) (other : Left) →
    AllAsk xs → act_of (length xs) (xs ++ Asks q k ∷ ys) follow other ≡ Asks q (λ a. follow (xs ++ k a ∷ ys))
act_at [] ys q k follow other h = refl
act_at (Finished t ∷ xs) ys q k follow other h = absurd h
act_at (Asks r l ∷ xs) ys q k follow other h = act_at xs ys q k (λ ls. follow (Asks r l ∷ ls)) other h

some_at : (xs ys : List Left) (l : Left) (m : ℕ) (order : List ℕ) →
    place (m ∷ order) (length (xs ++ l ∷ ys)) ≡ m % length (xs ++ l ∷ ys)
some_at [] ys l m order = refl
some_at (x ∷ xs) ys l m order = refl

-- the turn at the place that the order picks acts next
pub picks : (order : List ℕ) (xs ys : List Left) (q : Request) (k : Answer → Left) (after : Left) → AllAsk xs →
    AllAsk ys → place order (length (xs ++ Asks q k ∷ ys)) ≡ length xs →
    together order (xs ++ Asks q k ∷ ys) after ≡ Asks q (λ a. together (drop 1 order) (xs ++ k a ∷ ys) after)
picks [] [] ys q k after hx hy is = refl
picks [] (x ∷ xs) ys q k after hx hy is = absurd (omega (arith, is))
picks (n ∷ order) xs ys q k after hx hy is =
    let follow = λ (ls : List Left). together order ls after in
    ap (λ m. act_of m (xs ++ Asks q k ∷ ys) follow (in_order (xs ++ Asks q k ∷ ys) after))
    (ap (λ m. n % m) (waiting_all xs ys q k hx hy) ∙ sym (some_at xs ys (Asks q k) n order) ∙ is)
    ∙ act_at xs ys q k follow (in_order (xs ++ Asks q k ∷ ys) after) hx
