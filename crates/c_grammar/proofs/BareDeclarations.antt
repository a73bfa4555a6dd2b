-- The types of declarations are written out without a look at directive lines.
use Rattle.std.proofs.Common.{◌≡◌, ◌∙◌, Bool, true, false, [], ◌∷◌, refl, ap}
use Rattle.c_grammar.specs.Lexeme.{Uint64}
use Rattle.c_grammar.specs.Terminal.{Terminal, Fixed}
use Rattle.c_grammar.specs.Texts.{Item}
use Rattle.c_grammar.specs.Blocks.{Items, at, bare, is_directive}
use Rattle.c_grammar.specs.Declarations.{Before, Onward, is_int, settled, settled_on}
use Rattle.c_grammar.proofs.BareTokens.{IsBare, IsPlain, either, one, same_bare}

on_bare : (b : Before) (i : Item Terminal) (is : Items) (go go' : Onward) → IsPlain i →
    ((b : Before) → IsBare (go' b) (go b)) → IsBare (settled_on b i is go') (settled_on b i is go)
on_bare b i is go go' h r =
    either (is_int b i is) _ _ _ _ (one (at i (Fixed Uint64)) _ _ refl (r _)) (one i _ _ h (r _))

pub settled_bare : (is : Items) (b : Before) → IsBare (settled b (bare is)) (settled b is)
settled_bare [] b = refl
settled_bare (i ∷ is) b = step (settled_bare is) (is_directive i.terminal) refl
  where
    step : ((b : Before) → IsBare (settled b (bare is)) (settled b is)) → (t : Bool) → is_directive i.terminal ≡ t →
        IsBare (settled b (bare (i ∷ is))) (settled b (i ∷ is))
    step ih true e = rw e (rw e (ih b))
    step ih false e =
        rw e (rw e (ap (λ (js : Items). settled_on b i js (λ b. settled b (bare is))) (same_bare is)
        ∙ on_bare b i (bare is) (λ b. settled b is) (λ b. settled b (bare is)) e (λ b. ih b)))
