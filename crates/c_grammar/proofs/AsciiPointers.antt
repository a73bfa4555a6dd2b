-- Where global pointers get their cells no name changes.
use Rattle.std.proofs.Common.{ℕ, zero, suc, Bool, true, false, cond, List, [], ◌∷◌, ◌++◌, Option, Some, None}
use Rattle.std.specs.Prelude.{◌||◌}
use Rattle.c_grammar.specs.Terminal.{Terminal, Fixed, Mark, Name, Num, Line, Unknown, Unworked, End}
use Rattle.c_grammar.specs.Texts.{Item}
use Rattle.c_grammar.specs.Blocks.{Items, bare, is_directive}
use Rattle.c_grammar.specs.Allocations.{Cells, freed}
use Rattle.c_grammar.specs.Pointers.{Found, Onward, Put, State, allocation_at, array_at, array_named, array_put, arrays, at_global, at_statement, begin, behind, cells_for, empty_block, found, global_put, is_given, is_let_go, is_pointer, nothing_found, pointed, pointed_in, pointed_on, put_at, put_on, statement_put}
use Rattle.c_grammar.specs.AsciiNames.{IsAsciiTerminal}
use Rattle.c_grammar.proofs.AsciiPresence.{guarded_text}
use Rattle.c_grammar.proofs.AsciiTokens.{AreItemsText, bare_text, both_text, chosen_text}

abbrev IsPutText : Option Put → Type 0
IsPutText None = Unit {0}
IsPutText (Some p) = AreItemsText p.items

chosen_put : (b : Bool) (o p : Option Put) → IsPutText o → IsPutText p → IsPutText (cond b o p)
chosen_put true o p h k = h
chosen_put false o p h k = k

cells_text : (i x : Item Terminal) (y : List ℕ) (o : Option Cells) → IsAsciiTerminal (Name y) → IsPutText (array_put i x y o)
cells_text i x y None h = tt
cells_text i x y (Some c) h = (tt, (h, (tt, (tt, (tt, tt)))))

named_text : (f : Found) (i x : Item Terminal) (t : Terminal) → IsAsciiTerminal t → IsPutText (array_named f i x t)
named_text f i x (Name y) h = cells_text i x y (cells_for f y) h
named_text f i x (Fixed w) h = tt
named_text f i x (Mark s) h = tt
named_text f i x (Num n) h = tt
named_text f i x (Line ts) h = tt
named_text f i x Unknown h = tt
named_text f i x Unworked h = tt
named_text f i x End h = tt

array_text : (f : Found) (i : Item Terminal) (is : Items) → AreItemsText is → IsPutText (array_at f i is)
array_text f i [] h = tt
array_text f i (s ∷ []) h = tt
array_text f i (s ∷ x ∷ is) h = named_text f i x x.terminal h.1.0

put_text : (f : Found) (s : State) (i : Item Terminal) (is : Items) → AreItemsText is → IsPutText (put_at f s i is)
put_text f s i is h =
    chosen_put (at_global s) (global_put f i is) (cond (at_statement s) (statement_put f i is) None)
    (chosen_put (is_pointer i is) (array_at f i is) None (array_text f i is h) tt)
    (chosen_put (at_statement s) (statement_put f i is) None
    (chosen_put (is_given f (allocation_at i is) || is_let_go f (freed i is)) (Some (empty_block i is)) None
    (tt, (tt, tt)) tt) tt)

abbrev GoText : Onward → Type 0
GoText go = (s : State) (k : ℕ) → AreItemsText (go s k)

put_on_text : (s : State) (i : Item Terminal) (is : Items) (o : Option Put) (go : Onward) → IsAsciiTerminal i.terminal →
    IsPutText o → GoText go → AreItemsText (put_on s i is o go)
put_on_text s i is None go h q r = (h, r (behind i is s) 0)
put_on_text s i is (Some p) go h q r = both_text p.items _ q (r s p.len)

on_text : (k : ℕ) (f : Found) (s : State) (i : Item Terminal) (is : Items) (go : Onward) → IsAsciiTerminal i.terminal →
    AreItemsText is → GoText go → AreItemsText (pointed_on f s k i is go)
on_text zero f s i is go h q r = put_on_text s i is (put_at f s i is) go h (put_text f s i is q) r
on_text (suc k) f s i is go h q r = r s k

in_text : (is : Items) (f : Found) (s : State) (k : ℕ) → AreItemsText is → AreItemsText (pointed_in f s k is)
in_text [] f s k h = tt
in_text (i ∷ is) f s k h =
    chosen_text (is_directive i.terminal) _ _ (h.0, in_text is f s k h.1)
    (on_text k f s i (bare is) (λ s k. pointed_in f s k is) h.0 (bare_text is h.1) (λ s k. in_text is f s k h.1))

pub pointed_text : (is : Items) → AreItemsText is → AreItemsText (pointed is)
pointed_text is h =
    let f : Found = found begin nothing_found (bare is) in
    guarded_text (arrays f) (pointed_in f begin 0 is) (in_text is f begin 0 h)
