-- Where loops whose bounds name loops around are written out, names stay ASCII.
use Rattle.std.proofs.Common.{ℕ, zero, suc, ◌-◌, Bool, true, false, cond, List, [], ◌∷◌, ◌++◌, length, take, drop, Option, Some, None, refl}
use Rattle.std.specs.Prelude.{◌==◌, ◌&&◌, nat_le, nat_lt, not}
use Rattle.std.specs.Str.{IsAscii}
use Rattle.c_tokens.specs.declared.kind.Sign.TheVariants as sign
use Rattle.c_grammar.specs.Lexeme.{For, Uint64}
use Rattle.c_grammar.specs.Terminal.{Terminal, Fixed, Mark, Name, Num, Line, Unknown, Unworked, End, same}
use Rattle.c_grammar.specs.Texts.{Item}
use Rattle.c_grammar.specs.Blocks.{Items, at, bare, is_directive}
use Rattle.c_grammar.specs.AsciiNames.{IsAsciiTerminal}
use Rattle.c_grammar.specs.Constants.{is_mark}
use Rattle.c_grammar.specs.Loops.{is_word}
use Rattle.c_grammar.specs.Triangles.{Bound, Loop, Named, Onward, Open, Parts, Plain, State, Step, asks, begin, begins_block, behind, between, block_of, bound_in, closing, counts, cut, cut_at, cut_behind, cut_by, guard, guard_for, head, hull_end, is_guarded, is_written, len, limit_sign, loop_at, loop_in, loop_named, loop_of, loop_on, loop_to, loop_with, lower, max_head, max_open, name_in, name_of, names, number_for, put_on, rectangular, rectangular_in, rectangular_on, semicolon_at, step, step_by, step_in, sum_step, turned_on, upper}
use Rattle.c_grammar.proofs.AsciiTokens.{AreItemsText, bare_text, both_text, chosen_text as either_text}
use Rattle.c_grammar.proofs.AsciiCalls.{take_text, drop_text}

-- ---- the head

abbrev pub TextParts : Parts → Type 0
TextParts p =
    AreItemsText p.front × AreItemsText p.start × AreItemsText p.middle × AreItemsText p.limit × AreItemsText p.back

abbrev pub ArePartsText : Option Parts → Type 0
ArePartsText None = Unit {0}
ArePartsText (Some p) = TextParts p

behind_text : (is middle : Items) (l : Item Terminal) (js : Items) (o : Option ℕ) → AreItemsText is → AreItemsText middle →
    AreItemsText js → ArePartsText (cut_behind is middle l js o)
behind_text is middle l js None a b c = tt
behind_text is middle l js (Some n) a b c =
    (take_text 4 is a, drop_text 4 is a, b, take_text n js c, drop_text n js c)

at_text : (is js : Items) → AreItemsText is → AreItemsText js → ArePartsText (cut_at is js)
at_text is [] a b = tt
at_text is (s ∷ []) a b = tt
at_text is (s ∷ x ∷ []) a b = tt
at_text is (s ∷ x ∷ l ∷ js) a b =
    behind_text is (s ∷ x ∷ []) l js (semicolon_at 0 js) a (b.0, (b.1.0, tt)) b.1.1.1

pub by_text : (is : Items) (o : Option ℕ) → AreItemsText is → ArePartsText (cut_by is o)
by_text is None h = tt
by_text is (Some n) h = go (nat_le 4 n)
  where
    go : (t : Bool) → ArePartsText (cond t (cut_at (take n is) (drop n is)) None)
    go true = at_text (take n is) (drop n is) (take_text n is h) (drop_text n is h)
    go false = tt

abbrev pub IsNameText : Option (List ℕ) → Type 0
IsNameText None = Unit {0}
IsNameText (Some x) = IsAscii x

pub of_text : (t : Terminal) → IsAsciiTerminal t → IsNameText (name_of t)
of_text (Fixed w) h = tt
of_text (Mark s) h = tt
of_text (Name x) h = h
of_text (Num n) h = tt
of_text (Line ts) h = tt
of_text Unknown h = tt
of_text Unworked h = tt
of_text End h = tt

name_text : (is : Items) → AreItemsText is → IsNameText (name_in is)
name_text [] h = tt
name_text (o ∷ []) h = tt
name_text (o ∷ t ∷ []) h = tt
name_text (o ∷ t ∷ x ∷ []) h = tt
name_text (o ∷ t ∷ x ∷ e ∷ is) h = go (is_mark sign.OpenParen o && same (Fixed Uint64) t.terminal && is_mark sign.Equal e)
  where
    go : (b : Bool) → IsNameText (cond b (name_of x.terminal) None)
    go true = of_text x.terminal h.1.1.0
    go false = tt

abbrev IsStepText : Option Step → Type 0
IsStepText None = Unit {0}
IsStepText (Some s) = AreItemsText s.tokens

amount_text : (t : Terminal) (is : Items) → AreItemsText is → IsStepText (step_by t is)
amount_text (Num (Some n)) is h = go (nat_lt 0 n)
  where
    go : (t : Bool) → IsStepText (cond t (Some (step n is)) None)
    go true = h
    go false = tt
amount_text (Num None) is h = tt
amount_text (Fixed w) is h = tt
amount_text (Mark s) is h = tt
amount_text (Name x) is h = tt
amount_text (Line ts) is h = tt
amount_text Unknown is h = tt
amount_text Unworked is h = tt
amount_text End is h = tt

sum_text : (x : List ℕ) (is : Items) → AreItemsText is → IsStepText (sum_step x is)
sum_text x [] h = tt
sum_text x (s ∷ []) h = tt
sum_text x (s ∷ a ∷ []) h = tt
sum_text x (s ∷ a ∷ b ∷ []) h = tt
sum_text x (s ∷ a ∷ b ∷ n ∷ []) h = tt
sum_text x (s ∷ a ∷ b ∷ n ∷ c ∷ []) h = tt
sum_text x (s ∷ a ∷ b ∷ n ∷ c ∷ d ∷ is) h = go (is_word x a && is_mark sign.PlusEqual b && begins_block c d)
  where
    go : (t : Bool) → IsStepText (cond t (step_by n.terminal (s ∷ a ∷ b ∷ n ∷ c ∷ d ∷ [])) None)
    go true = amount_text n.terminal _ (take_text 6 (s ∷ a ∷ b ∷ n ∷ c ∷ d ∷ is) h)
    go false = tt

step_text : (x : List ℕ) (is : Items) → AreItemsText is → IsStepText (step_in x is)
step_text x is h = go (counts x is)
  where
    go : (t : Bool) → IsStepText (cond t (Some (step 1 (take 5 is))) (sum_step x is))
    go true = take_text 5 is h
    go false = sum_text x is h

abbrev IsLoopText : Option Loop → Type 0
IsLoopText None = Unit {0}
IsLoopText (Some l) = IsAscii l.name × TextParts l.parts × AreItemsText l.step.tokens

to_text : (p : Parts) (x : List ℕ) (a b : Bound) (s : Step) (o : Option ℕ) → IsAscii x → TextParts p →
    AreItemsText s.tokens → IsLoopText (loop_to p x a b s o)
to_text p x a b s None n h j = tt
to_text p x a b s (Some k) n h j = go (a.varies && not (s.amount == 1))
  where
    go : (t : Bool) →
        IsLoopText (cond t None (Some (record { parts = p; name = x; start = a; limit = b; step = s; end = k })))
    go true = tt
    go false = (n, h, j)

with_text : (p : Parts) (x : List ℕ) (a b : Option Bound) (s : Option Step) → IsAscii x → TextParts p →
    IsStepText s → IsLoopText (loop_with p x a b s)
with_text p x None b s n h j = tt
with_text p x (Some a) None s n h j = tt
with_text p x (Some a) (Some b) None n h j = tt
with_text p x (Some a) (Some b) (Some s) n h j = to_text p x a b s _ n h j

named_text : (os : List Open) (p : Parts) (o : Option (List ℕ)) → IsNameText o → TextParts p → IsLoopText (loop_named os p o)
named_text os p None n h = tt
named_text os p (Some x) n h = go (names x p.middle)
  where
    go : (t : Bool) →
        IsLoopText (cond t (loop_with p x (bound_in os p.start) (bound_in os p.limit) (step_in x p.back)) None)
    go true =
        with_text p x (bound_in os p.start) (bound_in os p.limit) (step_in x p.back) n h (step_text x p.back h.4)
    go false = tt

parts_text : (os : List Open) (o : Option Parts) → ArePartsText o → IsLoopText (loop_of os o)
parts_text os None h = tt
parts_text os (Some p) h = named_text os p (name_in p.front) (name_text p.front h.0) h

in_text : (os : List Open) (is : Items) → AreItemsText is → IsLoopText (loop_in os is)
in_text os is h = go (nat_lt (length os) max_open)
  where
    go : (t : Bool) → IsLoopText (cond t (loop_of os (cut (take max_head is))) None)
    go true =
        let js : Items = take max_head is in
        parts_text os (cut js) (by_text js (semicolon_at 0 js) (take_text max_head is h))
    go false = tt

loop_text : (s : State) (i : Item Terminal) (is : Items) → AreItemsText is → IsLoopText (loop_at s i is)
loop_text s i is h = go (same (Fixed For) i.terminal)
  where
    go : (t : Bool) → IsLoopText (cond t (loop_in s.blocks is) None)
    go true = in_text s.blocks is h
    go false = tt

-- ---- what is put in

number_text : (n : ℕ) (is : Items) → AreItemsText (number_for n is)
number_text n [] = tt
number_text n (i ∷ is) = (tt, tt)

head_text : (l : Loop) → TextParts l.parts → AreItemsText l.step.tokens → AreItemsText (head l)
head_text l h j =
    both_text l.parts.front _ h.0 (both_text (number_for l.start.range.first l.parts.start) _
    (number_text l.start.range.first l.parts.start) (both_text l.parts.middle _ h.2
    (tt, both_text (number_for (hull_end l) l.parts.limit) _ (number_text (hull_end l) l.parts.limit) j)))

guard_text : (l : Loop) → IsAscii l.name → TextParts l.parts → AreItemsText (guard_for l)
guard_text l n h =
    let i : Item Terminal = l.parts.compares in
    let end : Items = at i (Mark sign.CloseParen) ∷ at i (Mark sign.OpenBrace) ∷ [] in
    let below : Items = asks i l.name sign.GreaterEqual l.parts.start in
    let above : Items = asks i l.name (limit_sign i) l.parts.limit in
    either_text (is_guarded l) (guard l) [] (
      tt,
      (
        tt,
        both_text (lower l) _ (either_text l.start.varies below [] (n, (tt, h.1)) tt)
            (both_text (between l) _
            (either_text (l.start.varies && l.limit.varies) (at i (Mark sign.AndAnd) ∷ []) [] (tt, tt) tt)
            (both_text (upper l) end (either_text l.limit.varies above [] (n, (tt, h.3)) tt) (tt, (tt, tt)))),
      ),
    ) tt

closing_text : (os : List Open) (i : Item Terminal) → IsAsciiTerminal i.terminal → AreItemsText (closing os i)
closing_text [] i h = (h, tt)
closing_text (Plain ∷ os) i h = (h, tt)
closing_text (Named x r true ∷ os) i h = (tt, (h, tt))
closing_text (Named x r false ∷ os) i h = (h, tt)

-- ---- all tokens

abbrev GoText : Onward → Type 0
GoText go = (s : State) (k : ℕ) → AreItemsText (go s k)

put_text : (s : State) (i : Item Terminal) (go : Onward) → IsAsciiTerminal i.terminal → GoText go →
    AreItemsText (put_on s i go)
put_text s i go h r =
    both_text (cond (is_mark sign.CloseBrace i) (closing s.blocks i) (i ∷ [])) _
    (either_text (is_mark sign.CloseBrace i) (closing s.blocks i) (i ∷ []) (closing_text s.blocks i h) (h, tt)) (r _ _)

on_text : (s : State) (i : Item Terminal) (l : Loop) (go : Onward) → IsAsciiTerminal i.terminal →
    IsLoopText (Some l) → GoText go → AreItemsText (loop_on s i l go)
on_text s i l go h p r =
    either_text (is_written l) _ _ (
      h,
      both_text (head l ++ guard_for l) _ (both_text (head l) (guard_for l) (head_text l p.1 p.2) (guard_text l p.0 p.1))
          (r _ _),
    )
    (h, r _ _)

turned_text : (s : State) (i : Item Terminal) (o : Option Loop) (go : Onward) → IsAsciiTerminal i.terminal → IsLoopText o →
    GoText go → AreItemsText (turned_on s i o go)
turned_text s i None go h p r = put_text s i go h r
turned_text s i (Some l) go h p r = on_text s i l go h p r

rectangular_on_text : (k : ℕ) (s : State) (i : Item Terminal) (is : Items) (go : Onward) → IsAsciiTerminal i.terminal →
    AreItemsText is → GoText go → AreItemsText (rectangular_on s k i is go)
rectangular_on_text zero s i is go h j r = turned_text s i (loop_at s i is) go h (loop_text s i is j) r
rectangular_on_text (suc k) s i is go h j r = r _ _

rectangular_in_text : (is : Items) (s : State) (k : ℕ) → AreItemsText is → AreItemsText (rectangular_in s k is)
rectangular_in_text [] s k h = tt
rectangular_in_text (i ∷ is) s k h =
    either_text (is_directive i.terminal) _ _ (h.0, rectangular_in_text is s k h.1)
    (rectangular_on_text k s i (bare is) (λ s k. rectangular_in s k is) h.0 (bare_text is h.1)
    (λ s k. rectangular_in_text is s k h.1))

pub rectangular_text : (is : Items) → AreItemsText is → AreItemsText (rectangular is)
rectangular_text is h = rectangular_in_text is begin 0 h
