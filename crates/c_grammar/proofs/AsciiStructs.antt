-- Where structs are written out, no name changes.
use Rattle.std.proofs.Common.{ℕ, zero, suc, Bool, true, false, cond, [], ◌∷◌, ◌++◌, Option, Some, None}
use Rattle.std.specs.Prelude.{◌&&◌, is_some, not}
use Rattle.c_tokens.specs.declared.kind.Sign.TheVariants as sign
use Rattle.c_grammar.specs.Terminal.{Terminal, Unknown}
use Rattle.c_grammar.specs.Texts.{Item}
use Rattle.c_grammar.specs.Blocks.{Items, at, bare, is_directive}
use Rattle.c_grammar.specs.Constants.{is_mark}
use Rattle.c_grammar.specs.Structs.{Array, Before, Declared, Definition, Found, Nothing, OfLength, OfMany, OfOne, OfRow, OfType, One, Onward, Pointer, Put, State, agreed, arrow_put, begin, behind, count, declared, declared_put, definition_at, definition_put, dot_put, innermost, in_rows, rows_from, rows_on, found, index_at, is_zero, lengths, member_put, name_put, nothing_found, number_of, put_at, put_behind, put_on, row_length}
use Rattle.c_grammar.specs.AsciiNames.{IsAsciiTerminal}
use Rattle.c_grammar.proofs.AsciiTokens.{AreItemsText, both_text, chosen_text}

-- ---- what is put in

abbrev IsPutText : Option Put → Type 0
IsPutText None = Unit {0}
IsPutText (Some p) = AreItemsText p.items

chosen_put : (b : Bool) (o p : Option Put) → IsPutText o → IsPutText p → IsPutText (cond b o p)
chosen_put true o p h k = h
chosen_put false o p h k = k

index_text : (i : Item Terminal) (n : ℕ) → AreItemsText (index_at i n)
index_text i n = (tt, (tt, (tt, tt)))

member_text : (i : Item Terminal) (row : Items) (n : ℕ) (o : Option ℕ) → AreItemsText row → IsPutText (member_put i row n o)
member_text i row n None h = tt
member_text i row n (Some m) h = both_text row (index_at i m) h (index_text i m)

dot_text : (b : Before) (i : Item Terminal) (is : Items) → IsPutText (dot_put b i is)
dot_text Nothing i is = tt
dot_text (OfOne ms) i [] = tt
dot_text (OfOne ms) i (x ∷ is) = member_text i (index_at i 0) 1 (number_of ms x.terminal) (index_text i 0)
dot_text (OfMany ms) i is = tt
dot_text (OfRow ms) i [] = tt
dot_text (OfRow ms) i (x ∷ is) = member_text i [] 1 (number_of ms x.terminal) tt
dot_text (OfLength ms) i is = tt
dot_text (OfType t ms) i is = tt

arrow_text : (b : Before) (i : Item Terminal) (is : Items) → IsPutText (arrow_put b i is)
arrow_text Nothing i is = tt
arrow_text (OfOne ms) i is = tt
arrow_text (OfMany ms) i [] = tt
arrow_text (OfMany ms) i (g ∷ []) = tt
arrow_text (OfMany ms) i (g ∷ x ∷ is) =
    chosen_put (is_mark sign.Greater g) (member_put i (index_at i 0) 2 (number_of ms x.terminal)) None
    (member_text i (index_at i 0) 2 (number_of ms x.terminal) (index_text i 0)) tt
arrow_text (OfRow ms) i is = tt
arrow_text (OfLength ms) i is = tt
arrow_text (OfType t ms) i is = tt

declared_text : (i : Item Terminal) (o : Option Declared) → IsPutText (declared_put i o)
declared_text i None = tt
declared_text i (Some d) = (tt, tt)

definition_text : (o : Option Definition) → IsPutText (definition_put o)
definition_text None = tt
definition_text (Some d) = tt

put_text : (f : Found) (s : State) (i : Item Terminal) (is : Items) → IsPutText (put_at f s i is)
put_text f s i is =
    chosen_put (is_mark sign.Dot i) (dot_put s.before i is) _ (dot_text s.before i is)
    (chosen_put (is_mark sign.Minus i) (arrow_put s.before i is) (name_put f s i is) (arrow_text s.before i is)
    (chosen_put (is_zero s.depth && not f.spoiled && is_some (definition_at f.structs i is))
    (definition_put (definition_at f.structs i is))
    (declared_put i (declared s.depth f.structs i is)) (definition_text (definition_at f.structs i is))
    (declared_text i (declared s.depth f.structs i is))))

row_text : (b : Before) (i : Item Terminal) → AreItemsText (row_length b i)
row_text Nothing i = tt
row_text (OfOne ms) i = tt
row_text (OfMany ms) i = tt
row_text (OfRow ms) i = tt
row_text (OfLength ms) i = index_text i (count ms)
row_text (OfType t ms) i = tt

lengths_text : (b : Before) (i : Item Terminal) → AreItemsText (lengths b i)
lengths_text Nothing i = tt
lengths_text (OfOne ms) i = tt
lengths_text (OfMany ms) i = tt
lengths_text (OfRow ms) i = tt
lengths_text (OfLength ms) i = tt
lengths_text (OfType One ms) i = both_text (index_at i 1) (index_at i (count ms)) (index_text i 1) (index_text i (count ms))
lengths_text (OfType Array ms) i = tt
lengths_text (OfType Pointer ms) i = (tt, (tt, index_text i (count ms)))

behind_text : (s : State) (i : Item Terminal) → AreItemsText (put_behind s i)
behind_text s i =
    chosen_text (is_mark sign.CloseBracket i) (row_length (innermost s.indices) i) (lengths s.before i)
    (row_text (innermost s.indices) i) (lengths_text s.before i)

-- ---- the tokens

abbrev GoText : Onward → Type 0
GoText go = (s : State) (k : ℕ) → AreItemsText (go s k)

put_on_text : (f : Found) (s : State) (i : Item Terminal) (o : Option Put) (go : Onward) → IsAsciiTerminal i.terminal →
    IsPutText o → GoText go → AreItemsText (put_on f s i o go)
put_on_text f s i None go h q r =
    chosen_text (is_mark sign.Dot i) (at i Unknown ∷ []) _ (tt, tt)
    (h, both_text (put_behind s i) _ (behind_text s i) (r (behind f i s) 0))
put_on_text f s i (Some p) go h q r = both_text p.items _ q (r _ p.len)

on_text : (k : ℕ) (f : Found) (s : State) (i : Item Terminal) (is : Items) (go : Onward) → IsAsciiTerminal i.terminal →
    GoText go → AreItemsText (rows_on f s k i is go)
on_text zero f s i is go h r = put_on_text f s i (put_at f s i is) go h (put_text f s i is) r
on_text (suc k) f s i is go h r = r s k

in_text : (is : Items) (f : Found) (s : State) (k : ℕ) → AreItemsText is → AreItemsText (rows_from f s k is)
in_text [] f s k h = tt
in_text (i ∷ is) f s k h =
    chosen_text (is_directive i.terminal) _ _ (h.0, in_text is f s k h.1)
    (on_text k f s i (bare is) (λ s k. rows_from f s k is) h.0 (λ s k. in_text is f s k h.1))

pub rows_text : (is : Items) → AreItemsText is → AreItemsText (in_rows is)
rows_text is h = in_text is (agreed (found 0 nothing_found (bare is))) begin 0 h
