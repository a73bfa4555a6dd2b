-- What says nothing is left out without a look at directive lines.
use Rattle.std.proofs.Common.{◌≡◌, ◌∙◌, ℕ, zero, suc, Bool, true, false, [], ◌∷◌, Option, Some, None, refl, ap}
use Rattle.c_tokens.specs.declared.kind.Sign.TheVariants as sign
use Rattle.c_grammar.specs.Terminal.{Terminal, Mark}
use Rattle.c_grammar.specs.Texts.{Item}
use Rattle.c_grammar.specs.Blocks.{Items, at, bare, is_directive}
use Rattle.c_grammar.specs.Needless.{Onward, State, begin, behind, emptied, is_outside, left_out, needed, needed_by, needed_in, needed_on}
use Rattle.c_grammar.proofs.BareTokens.{IsBare, IsPlain, one, same_bare}

abbrev OnwardBare : Onward → Onward → Type 0
OnwardBare go' go = (s : State) (k : ℕ) → IsBare (go' s k) (go s k)

emptied_bare : (b : Bool) (i : Item Terminal) (js' js : Items) → IsBare js' js → IsBare (emptied b i js') (emptied b i js)
emptied_bare true i js' js h = h
emptied_bare false i js' js h =
    one (at i (Mark sign.OpenBrace)) (at i (Mark sign.CloseBrace) ∷ js) (at i (Mark sign.CloseBrace) ∷ js') refl
    (one (at i (Mark sign.CloseBrace)) js js' refl h)

by_bare : (s : State) (i : Item Terminal) (o : Option ℕ) (go go' : Onward) → IsPlain i → OnwardBare go' go
    → IsBare (needed_by s i o go') (needed_by s i o go)
by_bare s i None go go' h r = one i (go (behind s i) 0) (go' (behind s i) 0) h (r (behind s i) 0)
by_bare s i (Some n) go go' h r = emptied_bare (is_outside s.braces) i (go' s n) (go s n) (r s n)

on_bare : (s : State) (k : ℕ) (i : Item Terminal) (is : Items) (go go' : Onward) → IsPlain i → OnwardBare go' go
    → IsBare (needed_on s k i is go') (needed_on s k i is go)
on_bare s zero i is go go' h r = by_bare s i (left_out s i is) go go' h r
on_bare s (suc k) i is go go' h r = r s k

in_bare : (is : Items) (s : State) (k : ℕ) → IsBare (needed_in s k (bare is)) (needed_in s k is)
in_bare [] s k = refl
in_bare (i ∷ is) s k = step (in_bare is) (is_directive i.terminal) refl
  where
    step : ((s : State) (k : ℕ) → IsBare (needed_in s k (bare is)) (needed_in s k is)) → (b : Bool) →
        is_directive i.terminal ≡ b → IsBare (needed_in s k (bare (i ∷ is))) (needed_in s k (i ∷ is))
    step ih true e = rw e (rw e (ih s k))
    step ih false e =
        rw e (rw e (ap (λ (js : Items). needed_on s k i js (λ s k. needed_in s k (bare is))) (same_bare is)
        ∙ on_bare s k i (bare is) (λ s k. needed_in s k is) (λ s k. needed_in s k (bare is)) e (λ s k. ih s k)))

pub needed_bare : (is : Items) → needed (bare is) ≡ bare (needed is)
needed_bare is = in_bare is begin 0
