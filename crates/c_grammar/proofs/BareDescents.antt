-- Loops that count down are written as loops that count up without a look at directive lines.
use Rattle.std.proofs.Common.{◌≡◌, ◌∙◌, ℕ, zero, suc, ◌+◌, Bool, true, false, cond, List, [], ◌∷◌, ◌++◌, length, map, take, Option, Some, None, refl, ap}
use Rattle.std.specs.Prelude.{◌&&◌, nat_le, nat_lt}
use Rattle.c_tokens.specs.declared.kind.Sign.TheVariants as sign
use Rattle.c_grammar.specs.Lexeme.{For}
use Rattle.c_grammar.specs.Terminal.{Terminal, Fixed, Mark, Name, Num, Line, Unknown, Unworked, End, same}
use Rattle.c_grammar.specs.Texts.{Item}
use Rattle.c_grammar.specs.Blocks.{Items, at, bare, is_directive}
use Rattle.c_grammar.specs.Constants.{is_mark}
use Rattle.c_grammar.specs.Expressions.{placed_of}
use Rattle.c_grammar.specs.Triangles.{Parts, cut, max_head, max_open, semicolon_at}
use Rattle.c_grammar.specs.Descents.{Called, Counted, Loop, Onward, Open, Part, Signed, State, all_at, before_sum, begin, behind, behind_sum, head, in_brackets, inside, is_descent, len, line_for, loop_at, loop_in, loop_named, loop_of, loop_with, name_in, one_more, put, put_all, put_on_line, small_in, stand, stands_of, step, terminal_of, turned_on, upward, upward_in, upward_on, upward_step}
use Rattle.c_grammar.proofs.BareTokens.{ArePlain, IsBare, IsPlain, both_plain, either_plain, one, plain_bare, same_bare, some}
use Rattle.c_grammar.proofs.BareCalls.{take_plain}
use Rattle.c_grammar.proofs.BarePresence.{omp_stays}
use Rattle.c_grammar.proofs.BareTriangles.{ArePartsPlain, PlainParts, by_plain}

-- ---- what stands for a name has no directive line

part_plain : (i : Item Terminal) (t : Part) → IsPlain (at i (terminal_of t))
part_plain i (Signed s) = refl
part_plain i (Called x) = refl
part_plain i (Counted n) = refl

all_plain : (i : Item Terminal) (ts : List Part) → ArePlain (all_at i ts)
all_plain i [] = tt
all_plain i (t ∷ ts) = (part_plain i t, all_plain i ts)

stand_plain : (free : Bool) (i : Item Terminal) (o : Option (List Part)) → IsPlain i → ArePlain (stand free i o)
stand_plain free i None h = (h, tt)
stand_plain free i (Some ts) h =
    either_plain free (all_at i ts) (in_brackets i (all_at i ts)) (all_plain i ts)
    (refl, both_plain (all_at i ts) _ (all_plain i ts) (refl, tt))

put_plain : (os : List Open) (free : Bool) (i : Item Terminal) (is : Items) → IsPlain i → ArePlain (put os free i is)
put_plain os free i is h = stand_plain (free && behind_sum is) i (stands_of os i.terminal) h

put_all_plain : (is : Items) (os : List Open) (free : Bool) → ArePlain is → ArePlain (put_all os free is)
put_all_plain [] os free h = tt
put_all_plain (i ∷ is) os free h =
    both_plain (put os free i is) _ (put_plain os free i is h.0) (put_all_plain is os (before_sum i) h.1)

-- ---- nor has the head

abbrev IsLoopPlain : Option Loop → Type 0
IsLoopPlain None = Unit {0}
IsLoopPlain (Some l) = PlainParts l.parts × ArePlain l.first × ArePlain l.last

with_plain : (p : Parts) (x : List ℕ) (small : Bool) (first last : Items) → PlainParts p → ArePlain first → ArePlain last →
    IsLoopPlain (loop_with p x small first last)
with_plain p x small first last h a b = go (nat_le (length first + length last) max_head)
  where
    go : (t : Bool) →
        IsLoopPlain (cond t (Some (record { parts = p; name = x; small = small; first = first; last = last })) None)
    go true = (h, a, b)
    go false = tt

one_more_plain : (c : Item Terminal) → ArePlain (one_more c)
one_more_plain c = either_plain (is_mark sign.Greater c) _ [] (refl, (refl, tt)) tt

named_plain : (os : List Open) (p : Parts) (small : Bool) (o : Option (List ℕ)) → PlainParts p →
    IsLoopPlain (loop_named os p small o)
named_plain os p small None h = tt
named_plain os p small (Some x) h = go (is_descent os p x small)
  where
    first : Items
    first = put_all os true p.limit ++ one_more p.compares

    last : Items
    last = put_all os true p.start

    go : (t : Bool) → IsLoopPlain (cond t (loop_with p x small first last) None)
    go true =
        with_plain p x small first last h
        (both_plain (put_all os true p.limit) _ (put_all_plain p.limit os true h.3) (one_more_plain p.compares))
        (put_all_plain p.start os true h.1)
    go false = tt

of_plain : (os : List Open) (o : Option Parts) → ArePartsPlain o → IsLoopPlain (loop_of os o)
of_plain os None h = tt
of_plain os (Some p) h = named_plain os p (small_in p.front) (name_in p.front) h

in_plain : (os : List Open) (is : Items) → ArePlain is → IsLoopPlain (loop_in os is)
in_plain os is h = go (nat_lt (length os) max_open)
  where
    go : (t : Bool) → IsLoopPlain (cond t (loop_of os (cut (take max_head is))) None)
    go true =
        let js : Items = take max_head is in
        of_plain os (cut js) (by_plain js (semicolon_at 0 js) (take_plain max_head is h))
    go false = tt

loop_plain : (s : State) (i : Item Terminal) (is : Items) → ArePlain is → IsLoopPlain (loop_at s i is)
loop_plain s i is h = go (same (Fixed For) i.terminal)
  where
    go : (t : Bool) → IsLoopPlain (cond t (loop_in s.blocks is) None)
    go true = in_plain s.blocks is h
    go false = tt

upward_plain : (i : Item Terminal) → IsPlain i → IsPlain (upward_step i)
upward_plain i h = go (is_mark sign.MinusMinus i)
  where
    go : (t : Bool) → IsPlain (cond t (at i (Mark sign.PlusPlus)) i)
    go true = refl
    go false = h

steps_plain : (is : Items) → ArePlain is → ArePlain (map upward_step is)
steps_plain [] h = tt
steps_plain (i ∷ is) h = (upward_plain i h.0, steps_plain is h.1)

head_plain : (l : Loop) → IsLoopPlain (Some l) → ArePlain (head l)
head_plain l h =
    both_plain l.parts.front _ h.0.0 (both_plain l.first _ h.1 (both_plain l.parts.middle _ h.0.2
    (refl, both_plain l.last (step l) h.2 (steps_plain (take 5 l.parts.back) (take_plain 5 l.parts.back h.0.4)))))

-- ---- all tokens

-- a directive line stays one
line_kept : (os : List Open) (i : Item Terminal) (t : Terminal) → i.terminal ≡ t → is_directive t ≡ true →
    is_directive (line_for os i t).terminal ≡ true
line_kept os i (Line ts) e f = rw f (omp_stays i ts (put_on_line os 0 false (placed_of ts i.columns)) f)
line_kept os i (Fixed w) e f = absurd cc
line_kept os i (Mark s) e f = absurd cc
line_kept os i (Name x) e f = absurd cc
line_kept os i (Num n) e f = absurd cc
line_kept os i Unknown e f = absurd cc
line_kept os i Unworked e f = absurd cc
line_kept os i End e f = absurd cc

abbrev GoBare : Onward → Onward → Type 0
GoBare go' go = (s : State) (k : ℕ) → IsBare (go' s k) (go s k)

turned_bare : (s : State) (i : Item Terminal) (is : Items) (o : Option Loop) (go go' : Onward) → IsPlain i → IsLoopPlain o →
    GoBare go' go → IsBare (turned_on s i is o go') (turned_on s i is o go)
turned_bare s i is None go go' h p r =
    some (put s.blocks s.free i is) _ _ (put_plain s.blocks s.free i is h) (r (behind s i is) 0)
turned_bare s i is (Some l) go go' h p r =
    one i _ _ h (some (head l) _ _ (head_plain l p) (r (inside s l) (len l)))

upward_on_bare : (k : ℕ) (s : State) (i : Item Terminal) (is : Items) (go go' : Onward) → IsPlain i → ArePlain is →
    GoBare go' go → IsBare (upward_on s k i is go') (upward_on s k i is go)
upward_on_bare zero s i is go go' h j r = turned_bare s i is (loop_at s i is) go go' h (loop_plain s i is j) r
upward_on_bare (suc k) s i is go go' h j r = r _ _

upward_in_bare : (is : Items) (s : State) (k : ℕ) → IsBare (upward_in s k (bare is)) (upward_in s k is)
upward_in_bare [] s k = refl
upward_in_bare (i ∷ is) s k = step (upward_in_bare is) (is_directive i.terminal) refl
  where
    step : GoBare (λ s k. upward_in s k (bare is)) (λ s k. upward_in s k is) → (t : Bool) →
        is_directive i.terminal ≡ t → IsBare (upward_in s k (bare (i ∷ is))) (upward_in s k (i ∷ is))
    step ih true e = rw e (rw (line_kept s.blocks i i.terminal refl e) (ih s k))
    step ih false e =
        rw e (rw e (ap (λ (js : Items). upward_on s k i js (λ s k. upward_in s k (bare is))) (same_bare is)
        ∙ upward_on_bare k s i (bare is) (λ s k. upward_in s k is) (λ s k. upward_in s k (bare is)) e
        (plain_bare is) ih))

pub upward_bare : (is : Items) → IsBare (upward (bare is)) (upward is)
upward_bare is = upward_in_bare is begin 0
