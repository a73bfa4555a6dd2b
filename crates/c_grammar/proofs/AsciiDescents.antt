-- Where loops that count down are written as loops that count up, names stay ASCII.
use Rattle.std.proofs.Common.{ℕ, zero, suc, ◌+◌, Bool, true, false, cond, List, [], ◌∷◌, ◌++◌, length, map, take, drop, Option, Some, None, refl}
use Rattle.std.specs.Prelude.{◌&&◌, ◌||◌, nat_le, nat_lt}
use Rattle.std.specs.Str.{IsAscii, bytes_eq}
use Rattle.c_tokens.specs.declared.kind.Sign.TheVariants as sign
use Rattle.c_grammar.specs.Lexeme.{For}
use Rattle.c_grammar.specs.Terminal.{Terminal, Fixed, Mark, Name, Num, Line, Unknown, Unworked, End, same}
use Rattle.c_grammar.specs.Texts.{Item}
use Rattle.c_grammar.specs.Lines.{is_omp}
use Rattle.c_grammar.specs.Blocks.{Items, at, bare, is_directive}
use Rattle.c_grammar.specs.AsciiNames.{IsAsciiTerminal}
use Rattle.c_grammar.specs.Constants.{is_mark, with_tokens}
use Rattle.c_grammar.specs.Counters.{is_type}
use Rattle.c_grammar.specs.Expressions.{placed_of}
use Rattle.c_grammar.specs.Triangles.{Parts, cut, max_head, max_open, name_of, semicolon_at}
use Rattle.c_grammar.specs.Descents.{Called, Counted, Loop, Onward, Open, Part, Plain, Signed, Small, State, Turned, all_at, before_sum, begin, behind, behind_sum, block_of, blocks_behind, head, in_brackets, inside, is_descent, len, part_of, parts_of, line_for, loop_at, loop_in, loop_named, loop_of, loop_with, name_in, next_behind, one_more, put, put_all, put_on_line, small_in, small_named, stand, stands, stands_in, stands_of, step, terminal_of, turned_on, upward, upward_in, upward_on, upward_step}
use Rattle.c_grammar.proofs.AsciiTokens.{AreItemsText, bare_text, both_text, chosen_text as either_text}
use Rattle.c_grammar.proofs.AsciiCalls.{take_text}
use Rattle.c_grammar.proofs.AsciiTriangles.{ArePartsText, IsNameText, TextParts, by_text, of_text}

-- ---- the open blocks

abbrev IsPartText : Part → Type 0
IsPartText (Signed s) = Unit {0}
IsPartText (Called x) = IsAscii x
IsPartText (Counted n) = Unit {0}

abbrev ArePartsOfText : List Part → Type 0
ArePartsOfText [] = Unit {0}
ArePartsOfText (t ∷ ts) = IsPartText t × ArePartsOfText ts

abbrev IsOpenText : Open → Type 0
IsOpenText Plain = Unit {0}
IsOpenText (Small x) = Unit {0}
IsOpenText (Turned x small ts) = ArePartsOfText ts

abbrev AreOpenText : List Open → Type 0
AreOpenText [] = Unit {0}
AreOpenText (o ∷ os) = IsOpenText o × AreOpenText os

both_parts : (ts us : List Part) → ArePartsOfText ts → ArePartsOfText us → ArePartsOfText (ts ++ us)
both_parts [] us h k = k
both_parts (t ∷ ts) us h k = (h.0, both_parts ts us h.1 k)

abbrev StandsText : Option (List Part) → Type 0
StandsText None = Unit {0}
StandsText (Some ts) = ArePartsOfText ts

found_text : (os : List Open) (x : List ℕ) → AreOpenText os → StandsText (stands_in os x)
found_text [] x h = tt
found_text (Plain ∷ os) x h = found_text os x h.1
found_text (Small y ∷ os) x h = found_text os x h.1
found_text (Turned y small ts ∷ os) x h = go (bytes_eq y x) (found_text os x h.1)
  where
    go : (b : Bool) → StandsText (stands_in os x) → StandsText (cond b (Some ts) (stands_in os x))
    go true k = h.0
    go false k = k

of_name : (os : List Open) (t : Terminal) → AreOpenText os → StandsText (stands_of os t)
of_name os (Name x) h = found_text os x h
of_name os (Fixed w) h = tt
of_name os (Mark s) h = tt
of_name os (Num n) h = tt
of_name os (Line ts) h = tt
of_name os Unknown h = tt
of_name os Unworked h = tt
of_name os End h = tt

-- ---- tokens

terminal_text : (t : Part) → IsPartText t → IsAsciiTerminal (terminal_of t)
terminal_text (Signed s) h = tt
terminal_text (Called x) h = h
terminal_text (Counted n) h = tt

all_text : (i : Item Terminal) (ts : List Part) → ArePartsOfText ts → AreItemsText (all_at i ts)
all_text i [] h = tt
all_text i (t ∷ ts) h = (terminal_text t h.0, all_text i ts h.1)

stand_text : (free : Bool) (i : Item Terminal) (o : Option (List Part)) → IsAsciiTerminal i.terminal → StandsText o →
    AreItemsText (stand free i o)
stand_text free i None h k = (h, tt)
stand_text free i (Some ts) h k =
    either_text free (all_at i ts) (in_brackets i (all_at i ts)) (all_text i ts k)
    (tt, both_text (all_at i ts) _ (all_text i ts k) (tt, tt))

put_text : (os : List Open) (free : Bool) (i : Item Terminal) (is : Items) → AreOpenText os → IsAsciiTerminal i.terminal →
    AreItemsText (put os free i is)
put_text os free i is o h = stand_text (free && behind_sum is) i (stands_of os i.terminal) h (of_name os i.terminal o)

put_all_text : (is : Items) (os : List Open) (free : Bool) → AreOpenText os → AreItemsText is →
    AreItemsText (put_all os free is)
put_all_text [] os free o h = tt
put_all_text (i ∷ is) os free o h =
    both_text (put os free i is) _ (put_text os free i is o h.0) (put_all_text is os (before_sum i) o h.1)

part_text : (t : Terminal) → IsAsciiTerminal t → IsPartText (part_of t)
part_text (Name x) h = h
part_text (Fixed w) h = tt
part_text (Mark s) h = tt
part_text (Num n) h = tt
part_text (Line ts) h = tt
part_text Unknown h = tt
part_text Unworked h = tt
part_text End h = tt

parts_of_text : (is : Items) → AreItemsText is → ArePartsOfText (parts_of is)
parts_of_text [] h = tt
parts_of_text (i ∷ is) h = (part_text i.terminal h.0, parts_of_text is h.1)

-- ---- the head

name_text : (is : Items) → AreItemsText is → IsNameText (name_in is)
name_text [] h = tt
name_text (o ∷ []) h = tt
name_text (o ∷ t ∷ []) h = tt
name_text (o ∷ t ∷ x ∷ []) h = tt
name_text (o ∷ t ∷ x ∷ e ∷ is) h = go (is_mark sign.OpenParen o && is_type t.terminal && is_mark sign.Equal e)
  where
    go : (b : Bool) → IsNameText (cond b (name_of x.terminal) None)
    go true = of_text x.terminal h.1.1.0
    go false = tt

abbrev IsLoopText : Option Loop → Type 0
IsLoopText None = Unit {0}
IsLoopText (Some l) = IsAscii l.name × TextParts l.parts × AreItemsText l.first × AreItemsText l.last

with_text : (p : Parts) (x : List ℕ) (small : Bool) (first last : Items) → IsAscii x → TextParts p → AreItemsText first →
    AreItemsText last → IsLoopText (loop_with p x small first last)
with_text p x small first last n h a b = go (nat_le (length first + length last) max_head)
  where
    go : (t : Bool) →
        IsLoopText (cond t (Some (record { parts = p; name = x; small = small; first = first; last = last })) None)
    go true = (n, h, a, b)
    go false = tt

one_more_text : (c : Item Terminal) → AreItemsText (one_more c)
one_more_text c = either_text (is_mark sign.Greater c) _ [] (tt, (tt, tt)) tt

named_text : (os : List Open) (p : Parts) (small : Bool) (o : Option (List ℕ)) → AreOpenText os → IsNameText o →
    TextParts p → IsLoopText (loop_named os p small o)
named_text os p small None q n h = tt
named_text os p small (Some x) q n h = go (is_descent os p x small)
  where
    first : Items
    first = put_all os true p.limit ++ one_more p.compares

    last : Items
    last = put_all os true p.start

    go : (t : Bool) → IsLoopText (cond t (loop_with p x small first last) None)
    go true =
        with_text p x small first last n h
        (both_text (put_all os true p.limit) _ (put_all_text p.limit os true q h.3) (one_more_text p.compares))
        (put_all_text p.start os true q h.1)
    go false = tt

parts_text : (os : List Open) (o : Option Parts) → AreOpenText os → ArePartsText o → IsLoopText (loop_of os o)
parts_text os None q h = tt
parts_text os (Some p) q h = named_text os p (small_in p.front) (name_in p.front) q (name_text p.front h.0) h

in_text : (os : List Open) (is : Items) → AreOpenText os → AreItemsText is → IsLoopText (loop_in os is)
in_text os is q h = go (nat_lt (length os) max_open)
  where
    go : (t : Bool) → IsLoopText (cond t (loop_of os (cut (take max_head is))) None)
    go true =
        let js : Items = take max_head is in
        parts_text os (cut js) q (by_text js (semicolon_at 0 js) (take_text max_head is h))
    go false = tt

loop_text : (s : State) (i : Item Terminal) (is : Items) → AreOpenText s.blocks → AreItemsText is →
    IsLoopText (loop_at s i is)
loop_text s i is q h = go (same (Fixed For) i.terminal)
  where
    go : (t : Bool) → IsLoopText (cond t (loop_in s.blocks is) None)
    go true = in_text s.blocks is q h
    go false = tt

upward_step_text : (i : Item Terminal) → IsAsciiTerminal i.terminal → IsAsciiTerminal (upward_step i).terminal
upward_step_text i h = go (is_mark sign.MinusMinus i)
  where
    go : (t : Bool) → IsAsciiTerminal (cond t (at i (Mark sign.PlusPlus)) i).terminal
    go true = tt
    go false = h

steps_text : (is : Items) → AreItemsText is → AreItemsText (map upward_step is)
steps_text [] h = tt
steps_text (i ∷ is) h = (upward_step_text i h.0, steps_text is h.1)

head_text : (l : Loop) → IsLoopText (Some l) → AreItemsText (head l)
head_text l h =
    both_text l.parts.front _ h.1.0 (both_text l.first _ h.2 (both_text l.parts.middle _ h.1.2
    (tt, both_text l.last (step l) h.3 (steps_text (take 5 l.parts.back) (take_text 5 l.parts.back h.1.4)))))

stands_text : (l : Loop) → IsLoopText (Some l) → ArePartsOfText (stands l)
stands_text l h =
    both_parts (parts_of l.first) _ (parts_of_text l.first h.2)
    (tt, both_parts (parts_of l.last) _ (parts_of_text l.last h.3) (tt, (h.0, tt)))

-- ---- all tokens

abbrev IsStateText : State → Type 0
IsStateText s = AreOpenText s.blocks × IsOpenText s.next

chosen_open : (b : Bool) (o p : Open) → IsOpenText o → IsOpenText p → IsOpenText (cond b o p)
chosen_open true o p h k = h
chosen_open false o p h k = k

chosen_blocks : (b : Bool) (os ps : List Open) → AreOpenText os → AreOpenText ps → AreOpenText (cond b os ps)
chosen_blocks true os ps h k = h
chosen_blocks false os ps h k = k

fewer_text : (os : List Open) → AreOpenText os → AreOpenText (drop 1 os)
fewer_text [] h = tt
fewer_text (o ∷ os) h = h.1

small_text : (o : Option (List ℕ)) → IsOpenText (small_named o)
small_text None = tt
small_text (Some x) = tt

block_text : (is : Items) → IsOpenText (block_of is)
block_text is = chosen_open (small_in is) (small_named (name_in is)) Plain (small_text (name_in is)) tt

behind_text : (s : State) (i : Item Terminal) (is : Items) → IsStateText s → IsStateText (behind s i is)
behind_text s i is h = (
  chosen_blocks (is_mark sign.OpenBrace i) (s.next ∷ s.blocks) _ (h.1, h.0)
      (chosen_blocks (is_mark sign.CloseBrace i) (drop 1 s.blocks) s.blocks (fewer_text s.blocks h.0) h.0),
  chosen_open (is_mark sign.OpenBrace i || is_mark sign.CloseBrace i) Plain _ tt
      (chosen_open (same (Fixed For) i.terminal) (block_of is) s.next (block_text is) h.1),
)

abbrev GoText : Onward → Type 0
GoText go = (s : State) (k : ℕ) → IsStateText s → AreItemsText (go s k)

turned_text : (s : State) (i : Item Terminal) (is : Items) (o : Option Loop) (go : Onward) → IsStateText s →
    IsAsciiTerminal i.terminal → IsLoopText o → GoText go → AreItemsText (turned_on s i is o go)
turned_text s i is None go q h p r =
    both_text (put s.blocks s.free i is) _ (put_text s.blocks s.free i is q.0 h) (r (behind s i is) 0 (behind_text s i is q))
turned_text s i is (Some l) go q h p r =
    (h, both_text (head l) _ (head_text l p) (r (inside s l) (len l) ((stands_text l p, q.0), tt)))

upward_on_text : (k : ℕ) (s : State) (i : Item Terminal) (is : Items) (go : Onward) → IsStateText s →
    IsAsciiTerminal i.terminal → AreItemsText is → GoText go → AreItemsText (upward_on s k i is go)
upward_on_text zero s i is go q h j r = turned_text s i is (loop_at s i is) go q h (loop_text s i is q.0 j) r
upward_on_text (suc k) s i is go q h j r = r _ _ q

line_text : (os : List Open) (i : Item Terminal) (t : Terminal) → IsAsciiTerminal i.terminal →
    IsAsciiTerminal (line_for os i t).terminal
line_text os i (Line ts) h = go (is_omp ts)
  where
    go : (b : Bool) →
        IsAsciiTerminal (cond b (with_tokens i ts (put_on_line os 0 false (placed_of ts i.columns))) i).terminal
    go true = tt
    go false = h
line_text os i (Fixed w) h = h
line_text os i (Mark s) h = h
line_text os i (Name x) h = h
line_text os i (Num n) h = h
line_text os i Unknown h = h
line_text os i Unworked h = h
line_text os i End h = h

upward_in_text : (is : Items) (s : State) (k : ℕ) → IsStateText s → AreItemsText is → AreItemsText (upward_in s k is)
upward_in_text [] s k q h = tt
upward_in_text (i ∷ is) s k q h =
    either_text (is_directive i.terminal) _ _ (line_text s.blocks i i.terminal h.0, upward_in_text is s k q h.1)
    (upward_on_text k s i (bare is) (λ s k. upward_in s k is) q h.0 (bare_text is h.1)
    (λ s k q. upward_in_text is s k q h.1))

pub upward_text : (is : Items) → AreItemsText is → AreItemsText (upward is)
upward_text is h = upward_in_text is begin 0 (tt, tt) h
