-- Where names of loops get their types, and scalars their values, no name changes.
use Rattle.std.proofs.Common.{ℕ, zero, suc, [], ◌∷◌, Option, Some, None}
use Rattle.c_grammar.specs.Lexeme.{Uint64}
use Rattle.c_grammar.specs.Terminal.{Terminal, Fixed}
use Rattle.c_grammar.specs.Texts.{Item}
use Rattle.c_grammar.specs.Blocks.{Items, at, bare, is_directive}
use Rattle.c_grammar.specs.Constants.{depth_behind}
use Rattle.c_grammar.specs.Counters.{Before, Found, Onward, Other, behind, counted, counted_in, counted_on, declaration_len, found, is_bare, nothing_found, put, put_on, type_for}
use Rattle.c_grammar.specs.Unset.{is_unset, zero_at, zero_for, zeroed, zeroed_in}
use Rattle.c_grammar.specs.AsciiNames.{IsAsciiTerminal}
use Rattle.c_grammar.proofs.AsciiTokens.{AreItemsText, both_text, chosen_text}

abbrev GoText : Onward → Type 0
GoText go = (d : ℕ) (b : Before) (k : ℕ) → AreItemsText (go d b k)

put_text : (f : Found) (d : ℕ) (b : Before) (i : Item Terminal) (is : Items) (go : Onward) → IsAsciiTerminal i.terminal →
    GoText go → AreItemsText (put f d b i is go)
put_text f d b i is go h r =
    both_text (type_for f b i is) _ (chosen_text (is_bare f b i is) (at i (Fixed Uint64) ∷ []) [] (tt, tt) tt) (h, r _ _ _)

on_text : (f : Found) (d : ℕ) (b : Before) (i : Item Terminal) (is : Items) (o : Option ℕ) (go : Onward) →
    IsAsciiTerminal i.terminal → GoText go → AreItemsText (put_on f d b i is o go)
on_text f d b i is None go h r = put_text f d b i is go h r
on_text f d b i is (Some n) go h r = r _ _ _

counted_on_text : (k : ℕ) (f : Found) (d : ℕ) (b : Before) (i : Item Terminal) (is : Items) (go : Onward) →
    IsAsciiTerminal i.terminal → GoText go → AreItemsText (counted_on f d b k i is go)
counted_on_text zero f d b i is go h r = on_text f d b i is (declaration_len f d b i is) go h r
counted_on_text (suc k) f d b i is go h r = r _ _ _

counted_in_text : (is : Items) (f : Found) (d : ℕ) (b : Before) (k : ℕ) → AreItemsText is → AreItemsText (counted_in f d b k is)
counted_in_text [] f d b k h = tt
counted_in_text (i ∷ is) f d b k h =
    chosen_text (is_directive i.terminal) _ _ (h.0, counted_in_text is f d b k h.1)
    (counted_on_text k f d b i (bare is) (λ d b k. counted_in f d b k is) h.0 (λ d b k. counted_in_text is f d b k h.1))

pub counted_text : (is : Items) → AreItemsText is → AreItemsText (counted is)
counted_text is h = counted_in_text is (found 0 Other nothing_found (bare is)) 0 Other 0 h

zeroed_in_text : (is : Items) (d : ℕ) (b : Before) → AreItemsText is → AreItemsText (zeroed_in d b is)
zeroed_in_text [] d b h = tt
zeroed_in_text (i ∷ is) d b h =
    let rest : AreItemsText (zeroed_in (depth_behind i.terminal d) (behind b i) is) = zeroed_in_text is _ _ h.1 in
    chosen_text (is_directive i.terminal) _ _ (h.0, zeroed_in_text is d b h.1)
    (h.0, both_text (zero_for d b i (bare is)) _ (chosen_text (is_unset d b i (bare is)) (zero_at i) [] (tt, (tt, tt)) tt) rest)

pub zeroed_text : (is : Items) → AreItemsText is → AreItemsText (zeroed is)
zeroed_text is h = zeroed_in_text is 0 Other h
