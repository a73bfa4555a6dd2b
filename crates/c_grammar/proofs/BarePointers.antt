-- Global pointers with their cells are written out without a look at directive lines.
use Rattle.std.proofs.Common.{◌≡◌, ◌∙◌, ℕ, zero, suc, Bool, true, false, cond, List, [], ◌∷◌, ◌++◌, Option, Some, None, refl, ap}
use Rattle.std.specs.Prelude.{◌||◌}
use Rattle.c_grammar.specs.Terminal.{Terminal, Fixed, Mark, Name, Num, Line, Unknown, Unworked, End}
use Rattle.c_grammar.specs.Texts.{Item}
use Rattle.c_grammar.specs.Blocks.{Items, bare, is_directive}
use Rattle.c_grammar.specs.Allocations.{Cells, freed}
use Rattle.c_grammar.specs.Pointers.{Found, Onward, Put, State, allocation_at, array_at, array_named, array_put, arrays, at_global, at_statement, begin, behind, cells_for, empty_block, found, global_put, is_given, is_let_go, is_pointer, nothing_found, pointed, pointed_in, pointed_on, put_at, put_on, statement_put, with_found}
use Rattle.c_grammar.specs.Presence.{guarded}
use Rattle.c_grammar.proofs.BarePresence.{guarded_bare}
use Rattle.c_grammar.proofs.BareTokens.{ArePlain, IsBare, IsPlain, one, same_bare, some}

-- no directive line is put
abbrev IsPutPlain : Option Put → Type 0
IsPutPlain None = Unit {0}
IsPutPlain (Some p) = ArePlain p.items

chosen_put : (b : Bool) (o p : Option Put) → IsPutPlain o → IsPutPlain p → IsPutPlain (cond b o p)
chosen_put true o p h k = h
chosen_put false o p h k = k

cells_plain : (i x : Item Terminal) (y : List ℕ) (o : Option Cells) → IsPutPlain (array_put i x y o)
cells_plain i x y None = tt
cells_plain i x y (Some c) = (refl, (refl, (refl, (refl, (refl, tt)))))

named_plain : (f : Found) (i x : Item Terminal) (t : Terminal) → IsPutPlain (array_named f i x t)
named_plain f i x (Name y) = cells_plain i x y (cells_for f y)
named_plain f i x (Fixed w) = tt
named_plain f i x (Mark s) = tt
named_plain f i x (Num n) = tt
named_plain f i x (Line ts) = tt
named_plain f i x Unknown = tt
named_plain f i x Unworked = tt
named_plain f i x End = tt

array_plain : (f : Found) (i : Item Terminal) (is : Items) → IsPutPlain (array_at f i is)
array_plain f i [] = tt
array_plain f i (s ∷ []) = tt
array_plain f i (s ∷ x ∷ is) = named_plain f i x x.terminal

put_plain : (f : Found) (s : State) (i : Item Terminal) (is : Items) → IsPutPlain (put_at f s i is)
put_plain f s i is =
    chosen_put (at_global s) (global_put f i is) (cond (at_statement s) (statement_put f i is) None)
    (chosen_put (is_pointer i is) (array_at f i is) None (array_plain f i is) tt)
    (chosen_put (at_statement s) (statement_put f i is) None
    (chosen_put (is_given f (allocation_at i is) || is_let_go f (freed i is)) (Some (empty_block i is)) None
    (refl, (refl, tt)) tt) tt)

abbrev GoBare : Onward → Onward → Type 0
GoBare go' go = (s : State) (k : ℕ) → IsBare (go' s k) (go s k)

put_bare : (s : State) (i : Item Terminal) (is : Items) (o : Option Put) (go go' : Onward) → IsPlain i → IsPutPlain o →
    GoBare go' go → IsBare (put_on s i is o go') (put_on s i is o go)
put_bare s i is None go go' h q r = one i _ _ h (r (behind i is s) 0)
put_bare s i is (Some p) go go' h q r = some p.items _ _ q (r s p.len)

on_bare : (k : ℕ) (f : Found) (s : State) (i : Item Terminal) (is : Items) (go go' : Onward) → IsPlain i → GoBare go' go →
    IsBare (pointed_on f s k i is go') (pointed_on f s k i is go)
on_bare zero f s i is go go' h r = put_bare s i is (put_at f s i is) go go' h (put_plain f s i is) r
on_bare (suc k) f s i is go go' h r = r s k

in_bare : (is : Items) (f : Found) (s : State) (k : ℕ) → IsBare (pointed_in f s k (bare is)) (pointed_in f s k is)
in_bare [] f s k = refl
in_bare (i ∷ is) f s k = step (in_bare is f) (is_directive i.terminal) refl
  where
    step : GoBare (λ s k. pointed_in f s k (bare is)) (λ s k. pointed_in f s k is) → (t : Bool) →
        is_directive i.terminal ≡ t → IsBare (pointed_in f s k (bare (i ∷ is))) (pointed_in f s k (i ∷ is))
    step ih true e = rw e (rw e (ih s k))
    step ih false e =
        rw e (rw e (ap (λ (js : Items). pointed_on f s k i js (λ s k. pointed_in f s k (bare is))) (same_bare is)
        ∙ on_bare k f s i (bare is) (λ s k. pointed_in f s k is) (λ s k. pointed_in f s k (bare is)) e ih))

pub pointed_bare : (is : Items) → IsBare (pointed (bare is)) (pointed is)
pointed_bare is =
    let f : Found = found begin nothing_found (bare is) in
    ap (λ (js : Items). with_found (found begin nothing_found js) (bare is)) (same_bare is)
    ∙ ap (guarded_by f) (in_bare is f begin 0) ∙ guarded_bare (arrays f) (pointed_in f begin 0 is)
  where
    guarded_by : Found → Items → Items
    guarded_by f js = guarded (arrays f) js
