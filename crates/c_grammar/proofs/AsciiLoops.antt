-- Where loops that end by a condition are written out, names stay ASCII.
use Rattle.std.proofs.Common.{ℕ, zero, suc, ◌+◌, Bool, true, false, cond, List, [], ◌∷◌, ◌++◌, length, Option, Some, None, refl}
use Rattle.std.specs.Str.{IsAscii}
use Rattle.c_tokens.specs.declared.kind.Sign.TheVariants as sign
use Rattle.c_grammar.specs.Terminal.{Terminal, Name}
use Rattle.c_grammar.specs.Texts.{Item}
use Rattle.c_grammar.specs.Blocks.{Items, at, bare, braces_at, is_directive}
use Rattle.c_grammar.specs.AsciiNames.{IsAsciiTerminal}
use Rattle.c_grammar.specs.Constants.{is_mark}
use Rattle.c_grammar.specs.Loops.{Branch, Left, Limit, Onward, Open, Plain, State, Turn, begin, behind, closing, head_at, leaves, left, loop_at, looped, looped_in, looped_on, put_on, turn_name, turn_names, turned_on}
use Rattle.c_grammar.proofs.AsciiTokens.{AreItemsText, bare_text, both_text, chosen_text as either_text}
use Rattle.c_grammar.proofs.AsciiPassed.{AreLow, all_low, low_text, take_low}

braces_text : (n : ℕ) (i : Item Terminal) → AreItemsText (braces_at n i)
braces_text zero i = tt
braces_text (suc n) i = (tt, braces_text n i)

closing_text : (os : List Open) (i : Item Terminal) → IsAsciiTerminal i.terminal → AreItemsText (closing os i)
closing_text [] i h = (h, tt)
closing_text (Plain n ∷ os) i h = both_text (braces_at n i) (i ∷ []) (braces_text n i) (h, tt)
closing_text (Turn n ∷ os) i h = both_text (braces_at n i) (i ∷ []) (braces_text n i) (h, tt)
closing_text (Branch ∷ os) i h = (h, tt)
closing_text (Left ∷ os) i h = (h, (tt, (tt, tt)))

name_text : (os : List Open) → IsAscii (turn_name os)
name_text os = low_text (turn_name os) (take_low (length os + 5) turn_names (all_low turn_names refl))

head_text : (i : Item Terminal) (x : List ℕ) (n : ℕ) → IsAscii x → AreItemsText (head_at i x n)
head_text i x n h = (tt, (tt, (tt, (h, (tt, (tt, (tt, (h, (tt, (tt, (tt, (h, (tt, (tt, (tt, (tt, (tt, tt)))))))))))))))))

abbrev GoText : Onward → Type 0
GoText go = (s : State) (k : ℕ) → AreItemsText (go s k)

put_text : (s : State) (i : Item Terminal) (is : Items) (go : Onward) → IsAsciiTerminal i.terminal → GoText go →
    AreItemsText (put_on s i is go)
put_text s i is go h r =
    either_text (leaves s i is) (go (record { blocks = left s.blocks; next = Plain 0; starts = true }) 1) _ (r _ _)
    (either_text (is_mark sign.CloseBrace i) (closing s.blocks i ++ go (behind s i) 0) (i ∷ go (behind s i) 0)
    (both_text (closing s.blocks i) _ (closing_text s.blocks i h) (r _ _)) (h, r _ _))

turned_text : (s : State) (i : Item Terminal) (is : Items) (o : Option Limit) (go : Onward) → IsAsciiTerminal i.terminal →
    GoText go → AreItemsText (turned_on s i is o go)
turned_text s i is None go h r = put_text s i is go h r
turned_text s i is (Some l) go h r =
    both_text (head_at i (turn_name s.blocks) l.most) _ (head_text i (turn_name s.blocks) l.most (name_text s.blocks)) (r _ _)

looped_on_text : (k : ℕ) (s : State) (i : Item Terminal) (is : Items) (go : Onward) → IsAsciiTerminal i.terminal →
    GoText go → AreItemsText (looped_on s k i is go)
looped_on_text zero s i is go h r = turned_text s i is (loop_at s i is) go h r
looped_on_text (suc k) s i is go h r = r _ _

looped_in_text : (is : Items) (s : State) (k : ℕ) → AreItemsText is → AreItemsText (looped_in s k is)
looped_in_text [] s k h = tt
looped_in_text (i ∷ is) s k h =
    either_text (is_directive i.terminal) _ _ (h.0, looped_in_text is s k h.1)
    (looped_on_text k s i (bare is) (λ s k. looped_in s k is) h.0 (λ s k. looped_in_text is s k h.1))

pub looped_text : (is : Items) → AreItemsText is → AreItemsText (looped is)
looped_text is h = looped_in_text is begin 0 h
