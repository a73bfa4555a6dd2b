-- Loops whose bounds name loops around are written out without a look at the lines of the tokens.
use Rattle.std.proofs.Common.{◌≡◌, ◌∙◌, ℕ, zero, suc, ◌+◌, ◌-◌, Bool, true, false, cond, List, [], ◌∷◌, ◌++◌, length, take, drop, Option, Some, None, refl, ap, ap₂}
use Rattle.std.specs.Prelude.{◌&&◌, ◌||◌, ◌==◌, nat_le, nat_lt, not}
use Rattle.std.specs.Option.{option_map}
use Rattle.c_tokens.specs.declared.kind.Sign.TheVariants as sign
use Rattle.c_grammar.specs.Lexeme.{For, If}
use Rattle.c_grammar.specs.Terminal.{Terminal, Fixed, Mark, Name, Num, Line, Unknown, Unworked, End, same}
use Rattle.c_grammar.specs.Texts.{Item}
use Rattle.c_grammar.specs.Blocks.{Items, at, bare, is_directive}
use Rattle.c_grammar.specs.Constants.{is_mark}
use Rattle.c_grammar.specs.Loops.{is_word}
use Rattle.c_grammar.specs.Triangles.{Bound, Loop, Named, Onward, Open, Parts, Plain, State, Step, adds, asks, begin, begins_block, behind, between, block_of, bound_from, bound_in, closing, counts, cut, cut_at, cut_behind, cut_by, end_of, guard, guard_for, head, hull_end, is_guarded, is_written, len, limit_sign, loop_at, loop_in, loop_named, loop_of, loop_on, loop_to, loop_with, lower, max_head, max_open, name_in, names, number_for, on_bound, operand, put_on, rectangular, rectangular_in, rectangular_on, semicolon_at, step, step_by, step_in, sum_step, turned_on, upper, with_operand}
use Rattle.same_text.specs.Laws.{unlined}
use Rattle.same_text.proofs.Unlined.{AreUnlined, all_unlined, bare_unlined, either, one, some}
use Rattle.same_text.proofs.UnlinedPassed.{drop_unlined, length_unlined, take_unlined}

-- ---- the bounds

on_same : (o : Option Bound) (go go' : Bound → Option Bound) → ((b : Bound) → go' b ≡ go b) → on_bound o go' ≡ on_bound o go
on_same None go go' r = refl
on_same (Some b) go go' r = r b

from_same : (is : Items) (os : List Open) (b : Bound) → bound_from os b (all_unlined is) ≡ bound_from os b is
from_same [] os b = refl
from_same (o ∷ []) os b = refl
from_same (o ∷ i ∷ is) os b =
    ap (λ (r : Option Bound). cond (adds o) r None)
    (on_same (with_operand (is_mark sign.Minus o) b (operand os i.terminal)) (λ c. bound_from os c is)
    (λ c. bound_from os c (all_unlined is)) (λ c. from_same is os c))

bound_same : (is : Items) (os : List Open) → bound_in os (all_unlined is) ≡ bound_in os is
bound_same [] os = refl
bound_same (i ∷ is) os =
    on_same (operand os i.terminal) (λ b. bound_from os b is) (λ b. bound_from os b (all_unlined is)) (λ b. from_same is os b)

-- ---- the head

semicolon_same : (is : Items) (n : ℕ) → semicolon_at n (all_unlined is) ≡ semicolon_at n is
semicolon_same [] n = refl
semicolon_same (i ∷ is) n =
    ap (λ (o : Option ℕ). cond (is_mark sign.Semicolon i) (Some n) o) (semicolon_same is (n + 1))

abbrev pub parts_unlined : Parts → Parts
parts_unlined p = record {
  front = all_unlined p.front;
  start = all_unlined p.start;
  middle = all_unlined p.middle;
  compares = unlined p.compares;
  limit = all_unlined p.limit;
  back = all_unlined p.back;
}

behind_same : (is middle : Items) (l : Item Terminal) (js : Items) (o : Option ℕ) →
    cut_behind (all_unlined is) (all_unlined middle) (unlined l) (all_unlined js) o
    ≡ option_map parts_unlined (cut_behind is middle l js o)
behind_same is middle l js None = refl
behind_same is middle l js (Some n) = λ k. Some (record {
  front = take_unlined 4 is k;
  start = drop_unlined 4 is k;
  middle = all_unlined middle;
  compares = unlined l;
  limit = take_unlined n js k;
  back = drop_unlined n js k;
})

at_same : (is js : Items) → cut_at (all_unlined is) (all_unlined js) ≡ option_map parts_unlined (cut_at is js)
at_same is [] = refl
at_same is (s ∷ []) = refl
at_same is (s ∷ x ∷ []) = refl
at_same is (s ∷ x ∷ l ∷ js) =
    ap (cut_behind (all_unlined is) (unlined s ∷ unlined x ∷ []) (unlined l) (all_unlined js)) (semicolon_same js 0)
    ∙ behind_same is (s ∷ x ∷ []) l js (semicolon_at 0 js)

by_same : (is : Items) (o : Option ℕ) → cut_by (all_unlined is) o ≡ option_map parts_unlined (cut_by is o)
by_same is None = refl
by_same is (Some n) = go (nat_le 4 n)
  where
    go : (t : Bool) → cond t (cut_at (take n (all_unlined is)) (drop n (all_unlined is))) None
        ≡ option_map parts_unlined (cond t (cut_at (take n is) (drop n is)) None)
    go true =
        ap₂ (λ (js ks : Items). cut_at js ks) (take_unlined n is) (drop_unlined n is) ∙ at_same (take n is) (drop n is)
    go false = refl

pub cut_same : (is : Items) → cut (all_unlined is) ≡ option_map parts_unlined (cut is)
cut_same is = ap (cut_by (all_unlined is)) (semicolon_same is 0) ∙ by_same is (semicolon_at 0 is)

name_same : (is : Items) → name_in (all_unlined is) ≡ name_in is
name_same [] = refl
name_same (o ∷ []) = refl
name_same (o ∷ t ∷ []) = refl
name_same (o ∷ t ∷ x ∷ []) = refl
name_same (o ∷ t ∷ x ∷ e ∷ is) = refl

pub names_same : (x : List ℕ) (is : Items) → names x (all_unlined is) ≡ names x is
names_same x [] = refl
names_same x (s ∷ []) = refl
names_same x (s ∷ i ∷ is) = refl

abbrev step_unlined : Step → Step
step_unlined s = step s.amount (all_unlined s.tokens)

counts_same : (x : List ℕ) (is : Items) → counts x (all_unlined is) ≡ counts x is
counts_same x [] = refl
counts_same x (s ∷ []) = refl
counts_same x (s ∷ a ∷ []) = refl
counts_same x (s ∷ a ∷ b ∷ []) = refl
counts_same x (s ∷ a ∷ b ∷ c ∷ []) = refl
counts_same x (s ∷ a ∷ b ∷ c ∷ d ∷ is) = refl

amount_same : (t : Terminal) (is : Items) → step_by t (all_unlined is) ≡ option_map step_unlined (step_by t is)
amount_same (Num (Some n)) is = go (nat_lt 0 n)
  where
    go : (t : Bool) → cond t (Some (step n (all_unlined is))) None ≡ option_map step_unlined (cond t (Some (step n is)) None)
    go true = refl
    go false = refl
amount_same (Num None) is = refl
amount_same (Fixed w) is = refl
amount_same (Mark s) is = refl
amount_same (Name x) is = refl
amount_same (Line ts) is = refl
amount_same Unknown is = refl
amount_same Unworked is = refl
amount_same End is = refl

sum_same : (x : List ℕ) (is : Items) → sum_step x (all_unlined is) ≡ option_map step_unlined (sum_step x is)
sum_same x [] = refl
sum_same x (s ∷ []) = refl
sum_same x (s ∷ a ∷ []) = refl
sum_same x (s ∷ a ∷ b ∷ []) = refl
sum_same x (s ∷ a ∷ b ∷ n ∷ []) = refl
sum_same x (s ∷ a ∷ b ∷ n ∷ c ∷ []) = refl
sum_same x (s ∷ a ∷ b ∷ n ∷ c ∷ d ∷ is) = go (is_word x a && is_mark sign.PlusEqual b && begins_block c d)
  where
    own : Items
    own = s ∷ a ∷ b ∷ n ∷ c ∷ d ∷ []

    go : (t : Bool) → cond t (step_by n.terminal (all_unlined own)) None
        ≡ option_map step_unlined (cond t (step_by n.terminal own) None)
    go true = amount_same n.terminal own
    go false = refl

step_same : (x : List ℕ) (is : Items) → step_in x (all_unlined is) ≡ option_map step_unlined (step_in x is)
step_same x is =
    ap (λ (t : Bool). cond t (Some (step 1 (take 5 (all_unlined is)))) (sum_step x (all_unlined is))) (counts_same x is)
    ∙ go (counts x is)
  where
    go : (t : Bool) → cond t (Some (step 1 (take 5 (all_unlined is)))) (sum_step x (all_unlined is))
        ≡ option_map step_unlined (cond t (Some (step 1 (take 5 is))) (sum_step x is))
    go true = ap (λ (js : Items). Some (step 1 js)) (take_unlined 5 is)
    go false = sum_same x is

-- ---- the loop

abbrev pub loop_unlined : Loop → Loop
loop_unlined l = record {
  parts = parts_unlined l.parts;
  name = l.name;
  start = l.start;
  limit = l.limit;
  step = step_unlined l.step;
  end = l.end;
}

to_same : (p : Parts) (x : List ℕ) (a b : Bound) (s : Step) (o : Option ℕ) →
    loop_to (parts_unlined p) x a b (step_unlined s) o ≡ option_map loop_unlined (loop_to p x a b s o)
to_same p x a b s None = refl
to_same p x a b s (Some n) = go (a.varies && not (s.amount == 1))
  where
    own : Loop
    own = record { parts = p; name = x; start = a; limit = b; step = s; end = n }

    go : (t : Bool) → cond t None (Some (loop_unlined own)) ≡ option_map loop_unlined (cond t None (Some own))
    go true = refl
    go false = refl

with_same : (p : Parts) (x : List ℕ) (a b : Option Bound) (s : Option Step) →
    loop_with (parts_unlined p) x a b (option_map step_unlined s) ≡ option_map loop_unlined (loop_with p x a b s)
with_same p x None b s = refl
with_same p x (Some a) None s = refl
with_same p x (Some a) (Some b) None = refl
with_same p x (Some a) (Some b) (Some s) = to_same p x a b s (end_of a b s.amount p.compares)

named_same : (os : List Open) (p : Parts) (o : Option (List ℕ)) →
    loop_named os (parts_unlined p) o ≡ option_map loop_unlined (loop_named os p o)
named_same os p None = refl
named_same os p (Some x) = ap (λ (t : Bool). cond t own' None) (names_same x p.middle) ∙ go (names x p.middle)
  where
    own : Option Loop
    own = loop_with p x (bound_in os p.start) (bound_in os p.limit) (step_in x p.back)

    own' : Option Loop
    own' =
        loop_with (parts_unlined p) x (bound_in os (all_unlined p.start)) (bound_in os (all_unlined p.limit))
        (step_in x (all_unlined p.back))

    go : (t : Bool) → cond t own' None ≡ option_map loop_unlined (cond t own None)
    go true =
        (λ k. loop_with (parts_unlined p) x (bound_same p.start os k) (bound_same p.limit os k) (step_same x p.back k))
        ∙ with_same p x (bound_in os p.start) (bound_in os p.limit) (step_in x p.back)
    go false = refl

of_same : (os : List Open) (o : Option Parts) → loop_of os (option_map parts_unlined o) ≡ option_map loop_unlined (loop_of os o)
of_same os None = refl
of_same os (Some p) = ap (loop_named os (parts_unlined p)) (name_same p.front) ∙ named_same os p (name_in p.front)

pub in_same : (os : List Open) (is : Items) → loop_in os (all_unlined is) ≡ option_map loop_unlined (loop_in os is)
in_same os is = go (nat_lt (length os) max_open)
  where
    js : Items
    js = take max_head is

    go : (t : Bool) → cond t (loop_of os (cut (take max_head (all_unlined is)))) None
        ≡ option_map loop_unlined (cond t (loop_of os (cut js)) None)
    go true =
        ap (λ (ks : Items). loop_of os (cut ks)) (take_unlined max_head is) ∙ ap (loop_of os) (cut_same js) ∙ of_same os (cut js)
    go false = refl

loop_same : (s : State) (i : Item Terminal) (is : Items) →
    loop_at s (unlined i) (all_unlined is) ≡ option_map loop_unlined (loop_at s i is)
loop_same s i is = go (same (Fixed For) i.terminal)
  where
    go : (t : Bool) →
        cond t (loop_in s.blocks (all_unlined is)) None ≡ option_map loop_unlined (cond t (loop_in s.blocks is) None)
    go true = in_same s.blocks is
    go false = refl

-- ---- what stands for it

number_unlined : (n : ℕ) (is : Items) → AreUnlined (number_for n (all_unlined is)) (number_for n is)
number_unlined n [] = refl
number_unlined n (i ∷ is) = refl

head_unlined : (l : Loop) → AreUnlined (head (loop_unlined l)) (head l)
head_unlined l =
    let p : Parts = l.parts in
    some p.front _ _ _ refl (some (number_for l.start.range.first p.start) _ _ _ (number_unlined l.start.range.first p.start)
    (some p.middle _ _ _ refl (one (at p.compares (Mark sign.Less)) _ _
    (some (number_for (hull_end l) p.limit) _ l.step.tokens _ (number_unlined (hull_end l) p.limit) refl))))

lower_unlined : (l : Loop) → AreUnlined (lower (loop_unlined l)) (lower l)
lower_unlined l =
    let asked : Items = asks l.parts.compares l.name sign.GreaterEqual l.parts.start in
    either l.start.varies l.start.varies asked [] (all_unlined asked) [] refl refl refl

between_unlined : (l : Loop) → AreUnlined (between (loop_unlined l)) (between l)
between_unlined l =
    let both : Bool = l.start.varies && l.limit.varies in
    let and : Items = at l.parts.compares (Mark sign.AndAnd) ∷ [] in
    either both both and [] (all_unlined and) [] refl refl refl

upper_unlined : (l : Loop) → AreUnlined (upper (loop_unlined l)) (upper l)
upper_unlined l =
    let asked : Items = asks l.parts.compares l.name (limit_sign l.parts.compares) l.parts.limit in
    either l.limit.varies l.limit.varies asked [] (all_unlined asked) [] refl refl refl

if_unlined : (l : Loop) → AreUnlined (guard (loop_unlined l)) (guard l)
if_unlined l =
    let i : Item Terminal = l.parts.compares in
    let end : Items = at i (Mark sign.CloseParen) ∷ at i (Mark sign.OpenBrace) ∷ [] in
    let above : Items = upper l ++ end in
    let both : Items = between l ++ above in
    let l' : Loop = loop_unlined l in
    let above' : Items = upper l' ++ all_unlined end in
    let both' : Items = between l' ++ above' in
    one (at i (Fixed If)) (at i (Mark sign.OpenParen) ∷ (lower l ++ both)) _
    (one (at i (Mark sign.OpenParen)) (lower l ++ both) (lower l' ++ both')
    (some (lower l) (lower l') both both' (lower_unlined l)
    (some (between l) (between l') above above' (between_unlined l)
    (some (upper l) (upper l') end (all_unlined end) (upper_unlined l) refl))))

guard_unlined : (l : Loop) → AreUnlined (guard_for (loop_unlined l)) (guard_for l)
guard_unlined l =
    either (is_guarded l) (is_guarded l) (guard l) [] (guard (loop_unlined l)) [] refl (if_unlined l) refl

pub len_same : (l : Loop) → len (loop_unlined l) ≡ len l
len_same l = λ k.
    length_unlined l.parts.front k + length_unlined l.parts.start k + length_unlined l.parts.middle k + 1 +
    length_unlined l.parts.limit k + length_unlined l.step.tokens k

closing_unlined : (os : List Open) (i : Item Terminal) → AreUnlined (closing os (unlined i)) (closing os i)
closing_unlined [] i = refl
closing_unlined (Plain ∷ os) i = refl
closing_unlined (Named x r true ∷ os) i = refl
closing_unlined (Named x r false ∷ os) i = refl

-- ---- the tokens

abbrev GoesSame : Onward → Onward → Type 0
GoesSame go' go = (s : State) (k : ℕ) → AreUnlined (go' s k) (go s k)

put_unlined : (s : State) (i : Item Terminal) (go go' : Onward) → GoesSame go' go →
    AreUnlined (put_on s (unlined i) go') (put_on s i go)
put_unlined s i go go' r =
    let closes : Bool = is_mark sign.CloseBrace i in
    some (cond closes (closing s.blocks i) (i ∷ [])) (cond closes (closing s.blocks (unlined i)) (unlined i ∷ []))
    (go (behind s i) 0) (go' (behind s i) 0)
    (either closes closes (closing s.blocks i) (i ∷ []) _ _ refl (closing_unlined s.blocks i) refl) (r (behind s i) 0)

loop_on_unlined : (s : State) (i : Item Terminal) (l : Loop) (go go' : Onward) → GoesSame go' go →
    AreUnlined (loop_on s (unlined i) (loop_unlined l) go') (loop_on s i l go)
loop_on_unlined s i l go go' r = step (is_written l)
  where
    inside : State
    inside = record { blocks = block_of l ∷ s.blocks; next = Plain }

    before : State
    before = record { blocks = s.blocks; next = block_of l }

    own : Items
    own = head l ++ guard_for l

    own' : Items
    own' = head (loop_unlined l) ++ guard_for (loop_unlined l)

    step : (t : Bool) →
        AreUnlined (cond t (unlined i ∷ (own' ++ go' inside (len (loop_unlined l)))) (unlined i ∷ go' before 0))
        (cond t (i ∷ (own ++ go inside (len l))) (i ∷ go before 0))
    step true =
        one i _ _ (some own own' (go inside (len l)) _
        (some (head l) _ (guard_for l) _ (head_unlined l) (guard_unlined l))
        (ap (go' inside) (len_same l) ∙ r inside (len l)))
    step false = one i _ _ (r before 0)

turned_unlined : (s : State) (i : Item Terminal) (o : Option Loop) (go go' : Onward) → GoesSame go' go →
    AreUnlined (turned_on s (unlined i) (option_map loop_unlined o) go') (turned_on s i o go)
turned_unlined s i None go go' r = put_unlined s i go go' r
turned_unlined s i (Some l) go go' r = loop_on_unlined s i l go go' r

on_unlined : (k : ℕ) (s : State) (i : Item Terminal) (is : Items) (go go' : Onward) → GoesSame go' go →
    AreUnlined (rectangular_on s k (unlined i) (all_unlined is) go') (rectangular_on s k i is go)
on_unlined zero s i is go go' r =
    ap (λ (o : Option Loop). turned_on s (unlined i) o go') (loop_same s i is)
    ∙ turned_unlined s i (loop_at s i is) go go' r
on_unlined (suc k) s i is go go' r = r s k

in_unlined : (is : Items) (s : State) (k : ℕ) → AreUnlined (rectangular_in s k (all_unlined is)) (rectangular_in s k is)
in_unlined [] s k = refl
in_unlined (i ∷ is) s k = step (is_directive i.terminal) (λ s k. in_unlined is s k)
  where
    step : (t : Bool) → GoesSame (λ s k. rectangular_in s k (all_unlined is)) (λ s k. rectangular_in s k is) →
        AreUnlined
        (cond t (unlined i ∷ rectangular_in s k (all_unlined is))
        (rectangular_on s k (unlined i) (bare (all_unlined is)) (λ s k. rectangular_in s k (all_unlined is))))
        (cond t (i ∷ rectangular_in s k is) (rectangular_on s k i (bare is) (λ s k. rectangular_in s k is)))
    step true ih = one i (rectangular_in s k is) (rectangular_in s k (all_unlined is)) (ih s k)
    step false ih =
        ap (λ (js : Items). rectangular_on s k (unlined i) js (λ s k. rectangular_in s k (all_unlined is))) (bare_unlined is)
        ∙ on_unlined k s i (bare is) (λ s k. rectangular_in s k is) (λ s k. rectangular_in s k (all_unlined is)) ih

pub rectangular_unlined : (is : Items) → AreUnlined (rectangular (all_unlined is)) (rectangular is)
rectangular_unlined is = in_unlined is begin 0
