-- Where scalars are widened, no name but bool is put in.
use Rattle.std.proofs.Common.{◌<◌, arith, Bool, true, false, cond, [], ◌∷◌, Option, Some, None}
use Rattle.std.proofs.lemmas.List.Elements.{All-from_recursion}
use Rattle.std.proofs.lemmas.Str.Ascii.{IsAscii-from_all}
use Rattle.std.specs.Prelude.{◌&&◌, not, codes}
use Rattle.std.specs.Str.{IsAscii}
use Rattle.c_tokens.specs.declared.kind.Sign.TheVariants as sign
use Rattle.c_grammar.specs.Terminal.{Terminal}
use Rattle.c_grammar.specs.Texts.{Item}
use Rattle.c_grammar.specs.AsciiNames.{IsAsciiTerminal}
use Rattle.c_grammar.specs.Blocks.{Items, bare, is_directive}
use Rattle.c_grammar.specs.Constants.{is_mark}
use Rattle.c_grammar.specs.Counters.{is_set}
use Rattle.c_temporaries.proofs.AsciiTokens.{AreItemsText, both_text, chosen_text}
use Rattle.c_ints.specs.Ints.{Begins, Count, Flag, Further, Gone, Inside, Kind, Mode, Named, State, Valued, begin, behind, declared_at, declares_truth, is_declared, is_word, kept_type, number_at, numbered, put_by, returns_at, type_at, widened, widened_from, with_value}

-- ---- true and false

either_text : (b : Bool) (i j : Item Terminal) → IsAsciiTerminal i.terminal → IsAsciiTerminal j.terminal →
    IsAsciiTerminal (cond b i j).terminal
either_text true i j h k = h
either_text false i j h k = k

number_text : (i : Item Terminal) → IsAsciiTerminal i.terminal → IsAsciiTerminal (number_at i).terminal
number_text i h =
    either_text (is_word (codes "true") i.terminal) _ _ tt
    (either_text (is_word (codes "false") i.terminal) _ _ tt h)

numbered_text : (is : Items) (b : Bool) → AreItemsText is → AreItemsText (numbered b is)
numbered_text [] b h = tt
numbered_text (i ∷ is) b h = (
  either_text b (number_at i) i (number_text i h.0) h.0,
  numbered_text is (b && not (declares_truth i (bare is))) h.1,
)

-- ---- what is written

first_text : (i : Item Terminal) (o : Option Kind) → IsAsciiTerminal i.terminal →
    AreItemsText (elim o as (λ o. Items) [ None ↦ i ∷ [] | Some k ↦ type_at i ∷ [] ])
first_text i None h = (h, tt)
first_text i (Some k) h = (tt, tt)

value_text : (i : Item Terminal) (is : Items) → IsAsciiTerminal i.terminal → AreItemsText (with_value i is)
value_text i is h = chosen_text (is_set is) _ _ (h, tt) (h, (tt, (tt, tt)))

flag_text : IsAscii (codes "bool")
flag_text =
    IsAscii-from_all (codes "bool") (All-from_recursion (λ b. b < 128) (codes "bool")
    (omega arith, (omega arith, (omega arith, (omega arith, tt)))))

kept_text : (k : Kind) (i : Item Terminal) → IsAsciiTerminal (kept_type k i).terminal
kept_text Count i = tt
kept_text Flag i = flag_text

put_text : (m : Mode) (s : State) (i : Item Terminal) (is : Items) → IsAsciiTerminal i.terminal →
    AreItemsText (put_by m s i is)
put_text Begins s i is h = chosen_text (returns_at s i is) _ _ tt (first_text i (declared_at s i is) h)
put_text Inside s i is h = (h, tt)
put_text Gone s i is h = chosen_text (is_mark sign.CloseBrace i) _ _ (h, tt) tt
put_text (Named k) s i is h = value_text i is h
put_text (Valued k) s i is h = chosen_text (is_mark sign.Comma i) _ _ (tt, tt) (h, tt)
put_text (Further k) s i is h =
    chosen_text (is_declared k i.terminal is) _ _ (tt, value_text i is h) (kept_text k i, (h, tt))

-- ---- all tokens

from_text : (is : Items) (s : State) → AreItemsText is → AreItemsText (widened_from s is)
from_text [] s h = tt
from_text (i ∷ is) s h =
    chosen_text (is_directive i.terminal) _ _ (h.0, from_text is s h.1)
    (both_text (put_by s.mode s i (bare is)) _ (put_text s.mode s i (bare is) h.0)
    (from_text is (behind s i (bare is)) h.1))

pub widened_text : (is : Items) → AreItemsText is → AreItemsText (widened is)
widened_text is h = from_text (numbered true is) begin (numbered_text is true h)
