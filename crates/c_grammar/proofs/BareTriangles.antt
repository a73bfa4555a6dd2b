-- Loops whose bounds name loops around are written out without a look at directive lines.
use Rattle.std.proofs.Common.{◌≡◌, ◌∙◌, ℕ, zero, suc, ◌-◌, Bool, true, false, cond, List, [], ◌∷◌, ◌++◌, length, take, drop, Option, Some, None, refl, ap}
use Rattle.std.specs.Prelude.{◌==◌, ◌&&◌, nat_le, nat_lt, not}
use Rattle.c_tokens.specs.declared.kind.Sign.TheVariants as sign
use Rattle.c_grammar.specs.Lexeme.{For}
use Rattle.c_grammar.specs.Terminal.{Terminal, Fixed, Mark, Name, Num, Line, Unknown, Unworked, End, same}
use Rattle.c_grammar.specs.Texts.{Item}
use Rattle.c_grammar.specs.Blocks.{Items, at, bare, is_directive}
use Rattle.c_grammar.specs.Constants.{is_mark}
use Rattle.c_grammar.specs.Loops.{is_word}
use Rattle.c_grammar.specs.Triangles.{Bound, Loop, Named, Onward, Open, Parts, Plain, State, Step, asks, begin, begins_block, behind, between, block_of, bound_in, closing, counts, cut, cut_at, cut_behind, cut_by, guard, guard_for, head, hull_end, is_guarded, is_written, len, limit_sign, loop_at, loop_in, loop_named, loop_of, loop_on, loop_to, loop_with, lower, max_head, max_open, name_in, names, number_for, put_on, rectangular, rectangular_in, rectangular_on, semicolon_at, step, step_by, step_in, sum_step, turned_on, upper}
use Rattle.c_grammar.proofs.BareTokens.{ArePlain, IsBare, IsPlain, both_plain, either_plain, one, plain_bare, same_bare, some}
use Rattle.c_grammar.proofs.BareCalls.{take_plain, drop_plain}

-- ---- the head has no directive line

abbrev pub PlainParts : Parts → Type 0
PlainParts p = ArePlain p.front × ArePlain p.start × ArePlain p.middle × ArePlain p.limit × ArePlain p.back

abbrev pub ArePartsPlain : Option Parts → Type 0
ArePartsPlain None = Unit {0}
ArePartsPlain (Some p) = PlainParts p

behind_plain : (is middle : Items) (l : Item Terminal) (js : Items) (o : Option ℕ) → ArePlain is → ArePlain middle →
    ArePlain js → ArePartsPlain (cut_behind is middle l js o)
behind_plain is middle l js None a b c = tt
behind_plain is middle l js (Some n) a b c =
    (take_plain 4 is a, drop_plain 4 is a, b, take_plain n js c, drop_plain n js c)

at_plain : (is js : Items) → ArePlain is → ArePlain js → ArePartsPlain (cut_at is js)
at_plain is [] a b = tt
at_plain is (s ∷ []) a b = tt
at_plain is (s ∷ x ∷ []) a b = tt
at_plain is (s ∷ x ∷ l ∷ js) a b =
    behind_plain is (s ∷ x ∷ []) l js (semicolon_at 0 js) a (b.0, (b.1.0, tt)) b.1.1.1

pub by_plain : (is : Items) (o : Option ℕ) → ArePlain is → ArePartsPlain (cut_by is o)
by_plain is None h = tt
by_plain is (Some n) h = go (nat_le 4 n)
  where
    go : (t : Bool) → ArePartsPlain (cond t (cut_at (take n is) (drop n is)) None)
    go true = at_plain (take n is) (drop n is) (take_plain n is h) (drop_plain n is h)
    go false = tt

abbrev IsStepPlain : Option Step → Type 0
IsStepPlain None = Unit {0}
IsStepPlain (Some s) = ArePlain s.tokens

amount_plain : (t : Terminal) (is : Items) → ArePlain is → IsStepPlain (step_by t is)
amount_plain (Num (Some n)) is h = go (nat_lt 0 n)
  where
    go : (t : Bool) → IsStepPlain (cond t (Some (step n is)) None)
    go true = h
    go false = tt
amount_plain (Num None) is h = tt
amount_plain (Fixed w) is h = tt
amount_plain (Mark s) is h = tt
amount_plain (Name x) is h = tt
amount_plain (Line ts) is h = tt
amount_plain Unknown is h = tt
amount_plain Unworked is h = tt
amount_plain End is h = tt

sum_plain : (x : List ℕ) (is : Items) → ArePlain is → IsStepPlain (sum_step x is)
sum_plain x [] h = tt
sum_plain x (s ∷ []) h = tt
sum_plain x (s ∷ a ∷ []) h = tt
sum_plain x (s ∷ a ∷ b ∷ []) h = tt
sum_plain x (s ∷ a ∷ b ∷ n ∷ []) h = tt
sum_plain x (s ∷ a ∷ b ∷ n ∷ c ∷ []) h = tt
sum_plain x (s ∷ a ∷ b ∷ n ∷ c ∷ d ∷ is) h = go (is_word x a && is_mark sign.PlusEqual b && begins_block c d)
  where
    go : (t : Bool) → IsStepPlain (cond t (step_by n.terminal (s ∷ a ∷ b ∷ n ∷ c ∷ d ∷ [])) None)
    go true = amount_plain n.terminal _ (take_plain 6 (s ∷ a ∷ b ∷ n ∷ c ∷ d ∷ is) h)
    go false = tt

step_plain : (x : List ℕ) (is : Items) → ArePlain is → IsStepPlain (step_in x is)
step_plain x is h = go (counts x is)
  where
    go : (t : Bool) → IsStepPlain (cond t (Some (step 1 (take 5 is))) (sum_step x is))
    go true = take_plain 5 is h
    go false = sum_plain x is h

abbrev IsLoopPlain : Option Loop → Type 0
IsLoopPlain None = Unit {0}
IsLoopPlain (Some l) = PlainParts l.parts × ArePlain l.step.tokens

to_plain : (p : Parts) (x : List ℕ) (a b : Bound) (s : Step) (o : Option ℕ) → PlainParts p → ArePlain s.tokens →
    IsLoopPlain (loop_to p x a b s o)
to_plain p x a b s None h j = tt
to_plain p x a b s (Some n) h j = go (a.varies && not (s.amount == 1))
  where
    go : (t : Bool) →
        IsLoopPlain (cond t None (Some (record { parts = p; name = x; start = a; limit = b; step = s; end = n })))
    go true = tt
    go false = (h, j)

with_plain : (p : Parts) (x : List ℕ) (a b : Option Bound) (s : Option Step) → PlainParts p → IsStepPlain s →
    IsLoopPlain (loop_with p x a b s)
with_plain p x None b s h j = tt
with_plain p x (Some a) None s h j = tt
with_plain p x (Some a) (Some b) None h j = tt
with_plain p x (Some a) (Some b) (Some s) h j = to_plain p x a b s _ h j

named_plain : (os : List Open) (p : Parts) (o : Option (List ℕ)) → PlainParts p → IsLoopPlain (loop_named os p o)
named_plain os p None h = tt
named_plain os p (Some x) h = go (names x p.middle)
  where
    go : (t : Bool) →
        IsLoopPlain (cond t (loop_with p x (bound_in os p.start) (bound_in os p.limit) (step_in x p.back)) None)
    go true =
        with_plain p x (bound_in os p.start) (bound_in os p.limit) (step_in x p.back) h (step_plain x p.back h.4)
    go false = tt

of_plain : (os : List Open) (o : Option Parts) → ArePartsPlain o → IsLoopPlain (loop_of os o)
of_plain os None h = tt
of_plain os (Some p) h = named_plain os p (name_in p.front) h

in_plain : (os : List Open) (is : Items) → ArePlain is → IsLoopPlain (loop_in os is)
in_plain os is h = go (nat_lt (length os) max_open)
  where
    go : (t : Bool) → IsLoopPlain (cond t (loop_of os (cut (take max_head is))) None)
    go true =
        let js : Items = take max_head is in
        of_plain os (cut js) (by_plain js (semicolon_at 0 js) (take_plain max_head is h))
    go false = tt

loop_plain : (s : State) (i : Item Terminal) (is : Items) → ArePlain is → IsLoopPlain (loop_at s i is)
loop_plain s i is h = go (same (Fixed For) i.terminal)
  where
    go : (t : Bool) → IsLoopPlain (cond t (loop_in s.blocks is) None)
    go true = in_plain s.blocks is h
    go false = tt

-- ---- nor has what is put in

number_plain : (n : ℕ) (is : Items) → ArePlain (number_for n is)
number_plain n [] = tt
number_plain n (i ∷ is) = (refl, tt)

head_plain : (l : Loop) → PlainParts l.parts → ArePlain l.step.tokens → ArePlain (head l)
head_plain l h j =
    both_plain l.parts.front _ h.0 (both_plain (number_for l.start.range.first l.parts.start) _
    (number_plain l.start.range.first l.parts.start) (both_plain l.parts.middle _ h.2
    (refl, both_plain (number_for (hull_end l) l.parts.limit) _ (number_plain (hull_end l) l.parts.limit) j)))

guard_plain : (l : Loop) → PlainParts l.parts → ArePlain (guard_for l)
guard_plain l h =
    let i : Item Terminal = l.parts.compares in
    let end : Items = at i (Mark sign.CloseParen) ∷ at i (Mark sign.OpenBrace) ∷ [] in
    let below : Items = asks i l.name sign.GreaterEqual l.parts.start in
    let above : Items = asks i l.name (limit_sign i) l.parts.limit in
    either_plain (is_guarded l) (guard l) [] (
      refl,
      (
        refl,
        both_plain (lower l) _ (either_plain l.start.varies below [] (refl, (refl, h.1)) tt)
            (both_plain (between l) _
            (either_plain (l.start.varies && l.limit.varies) (at i (Mark sign.AndAnd) ∷ []) [] (refl, tt) tt)
            (both_plain (upper l) end (either_plain l.limit.varies above [] (refl, (refl, h.3)) tt) (refl, (refl, tt)))),
      ),
    ) tt

closing_plain : (os : List Open) (i : Item Terminal) → IsPlain i → ArePlain (closing os i)
closing_plain [] i h = (h, tt)
closing_plain (Plain ∷ os) i h = (h, tt)
closing_plain (Named x r true ∷ os) i h = (refl, (h, tt))
closing_plain (Named x r false ∷ os) i h = (h, tt)

-- ---- all tokens

abbrev GoBare : Onward → Onward → Type 0
GoBare go' go = (s : State) (k : ℕ) → IsBare (go' s k) (go s k)

put_bare : (s : State) (i : Item Terminal) (go go' : Onward) → IsPlain i → GoBare go' go →
    IsBare (put_on s i go') (put_on s i go)
put_bare s i go go' h r =
    some (cond (is_mark sign.CloseBrace i) (closing s.blocks i) (i ∷ [])) _ _
    (either_plain (is_mark sign.CloseBrace i) (closing s.blocks i) (i ∷ []) (closing_plain s.blocks i h) (h, tt)) (r _ _)

on_bare : (s : State) (i : Item Terminal) (l : Loop) (go go' : Onward) → IsPlain i → IsLoopPlain (Some l) →
    GoBare go' go → IsBare (loop_on s i l go') (loop_on s i l go)
on_bare s i l go go' h p r = step (is_written l)
  where
    inside : State
    inside = record { blocks = block_of l ∷ s.blocks; next = Plain }

    before : State
    before = record { blocks = s.blocks; next = block_of l }

    step : (t : Bool) →
        IsBare (cond t (i ∷ ((head l ++ guard_for l) ++ go' inside (len l))) (i ∷ go' before 0))
        (cond t (i ∷ ((head l ++ guard_for l) ++ go inside (len l))) (i ∷ go before 0))
    step true =
        one i _ _ h (some (head l ++ guard_for l) _ _ (both_plain (head l) (guard_for l) (head_plain l p.0 p.1)
        (guard_plain l p.0)) (r _ _))
    step false = one i _ _ h (r _ _)

turned_bare : (s : State) (i : Item Terminal) (o : Option Loop) (go go' : Onward) → IsPlain i → IsLoopPlain o → GoBare go' go →
    IsBare (turned_on s i o go') (turned_on s i o go)
turned_bare s i None go go' h p r = put_bare s i go go' h r
turned_bare s i (Some l) go go' h p r = on_bare s i l go go' h p r

rectangular_on_bare : (k : ℕ) (s : State) (i : Item Terminal) (is : Items) (go go' : Onward) → IsPlain i → ArePlain is →
    GoBare go' go → IsBare (rectangular_on s k i is go') (rectangular_on s k i is go)
rectangular_on_bare zero s i is go go' h j r = turned_bare s i (loop_at s i is) go go' h (loop_plain s i is j) r
rectangular_on_bare (suc k) s i is go go' h j r = r _ _

rectangular_in_bare : (is : Items) (s : State) (k : ℕ) → IsBare (rectangular_in s k (bare is)) (rectangular_in s k is)
rectangular_in_bare [] s k = refl
rectangular_in_bare (i ∷ is) s k = step (rectangular_in_bare is) (is_directive i.terminal) refl
  where
    step : GoBare (λ s k. rectangular_in s k (bare is)) (λ s k. rectangular_in s k is) → (t : Bool) →
        is_directive i.terminal ≡ t → IsBare (rectangular_in s k (bare (i ∷ is))) (rectangular_in s k (i ∷ is))
    step ih true e = rw e (rw e (ih s k))
    step ih false e =
        rw e (rw e (ap (λ (js : Items). rectangular_on s k i js (λ s k. rectangular_in s k (bare is))) (same_bare is)
        ∙ rectangular_on_bare k s i (bare is) (λ s k. rectangular_in s k is) (λ s k. rectangular_in s k (bare is)) e
        (plain_bare is) ih))

pub rectangular_bare : (is : Items) → IsBare (rectangular (bare is)) (rectangular is)
rectangular_bare is = rectangular_in_bare is begin 0
