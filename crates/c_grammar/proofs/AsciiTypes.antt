-- Where numbers of the type int become uint64_t, no name is put in.
use Rattle.std.proofs.Common.{◌++◌, ℕ, zero, suc, Bool, true, false, cond, [], ◌∷◌}
use Rattle.std.specs.Prelude.{◌&&◌}
use Rattle.c_tokens.specs.declared.kind.Sign.TheVariants as sign
use Rattle.c_grammar.specs.Lexeme.{Int, Uint64}
use Rattle.c_grammar.specs.Terminal.{Terminal, Fixed, Mark, same}
use Rattle.c_grammar.specs.Texts.{Item}
use Rattle.c_grammar.specs.AsciiNames.{IsAsciiTerminal}
use Rattle.c_grammar.specs.Blocks.{Items, at, bare, is_directive}
use Rattle.c_grammar.specs.Constants.{is_mark}
use Rattle.c_grammar.specs.Types.{Found, Onward, Place, all_fine, all_fit, converts, first_place, found, is_needless, named_behind, nothing_left, of_one_type, parts, place_behind, put, put_comma, put_on, retyped, same_type, type_at, widens}
use Rattle.c_grammar.proofs.AsciiTokens.{AreItemsText, both_text, chosen_text}

-- ---- what is written

type_text : (wide : Bool) (i : Item Terminal) → IsAsciiTerminal (type_at wide i).terminal
type_text true i = tt
type_text false i = tt

comma_text : (f : Found) (p : Place) (i : Item Terminal) (is : Items) → IsAsciiTerminal i.terminal
    → AreItemsText (put_comma f p i is)
comma_text f p i is h =
    let wide : Bool = converts f (named_behind is) in
    chosen_text (same_type wide p.wide) (i ∷ []) (at i (Mark sign.Semicolon) ∷ type_at wide i ∷ []) (h, tt)
    (tt, (type_text wide i, tt))

word_text : (b : Bool) (i : Item Terminal) → IsAsciiTerminal i.terminal
    → IsAsciiTerminal (cond b (at i (Fixed Uint64)) i).terminal
word_text true i h = tt
word_text false i h = h

put_text : (f : Found) (p : Place) (i : Item Terminal) (is : Items) → IsAsciiTerminal i.terminal
    → AreItemsText (put f p i is)
put_text f p i is h =
    chosen_text (same (Fixed Int) i.terminal) _ _ (word_text (widens f p is) i h, tt)
    (chosen_text (parts p i) _ _ (comma_text f p i is h)
    (chosen_text (is_mark sign.FormatInt i) [] (i ∷ []) tt (h, tt)))

-- ---- all tokens

abbrev OnwardText : Onward → Type 0
OnwardText go = (p : Place) (k : ℕ) → AreItemsText (go p k)

on_text : (f : Found) (p : Place) (k : ℕ) (i : Item Terminal) (is : Items) (go : Onward) → IsAsciiTerminal i.terminal
    → OnwardText go → AreItemsText (put_on f p k i is go)
on_text f p (suc k) i is go h r = r (place_behind f p i is) k
on_text f p zero i is go h r =
    let q : Place = place_behind f p i is in
    chosen_text (is_needless f p i is) (go q 1) (put f p i is ++ go q 0) (r q 1)
    (both_text (put f p i is) (go q 0) (put_text f p i is h) (r q 0))

retyped_text : (f : Found) (is : Items) (p : Place) (k : ℕ) → AreItemsText is → AreItemsText (retyped f p k is)
retyped_text f [] p k h = tt
retyped_text f (i ∷ is) p k h =
    chosen_text (is_directive i.terminal) _ _ (h.0, retyped_text f is p k h.1)
    (on_text f p k i (bare is) (λ p k. retyped f p k is) h.0 (λ p k. retyped_text f is p k h.1))

pub types_text : (is : Items) → AreItemsText is → AreItemsText (of_one_type is)
types_text is h =
    let f : Found = found (bare is) in
    chosen_text (all_fit f && all_fine f nothing_left (bare is)) (retyped f first_place 0 is) is
    (retyped_text f is first_place 0 h) h
