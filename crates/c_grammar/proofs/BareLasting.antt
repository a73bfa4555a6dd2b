-- Which scalars are constants is found without a look at directive lines.
use Rattle.std.proofs.Common.{◌≡◌, ◌∙◌, ℕ, Bool, true, false, cond, List, [], ◌∷◌, ◌++◌, refl, ap}
use Rattle.std.specs.Prelude.{◌&&◌}
use Rattle.c_grammar.specs.Terminal.{Terminal}
use Rattle.c_grammar.specs.Texts.{Item}
use Rattle.c_grammar.specs.Blocks.{Items, at, bare, is_directive}
use Rattle.c_grammar.specs.Lasting.{State, begin, behind, const_at, const_for, is_lasting, is_looked, lasting, lasting_in}
use Rattle.c_grammar.proofs.BareTokens.{ArePlain, IsBare, IsPlain, either_plain, one, same_bare, some}

lasting_in_bare : (is : Items) (s : State) → IsBare (lasting_in s (bare is)) (lasting_in s is)
lasting_in_bare [] s = refl
lasting_in_bare (i ∷ is) s = step (lasting_in_bare is) (is_directive i.terminal) refl
  where
    step : ((s : State) → IsBare (lasting_in s (bare is)) (lasting_in s is)) → (t : Bool) →
        is_directive i.terminal ≡ t → IsBare (lasting_in s (bare (i ∷ is))) (lasting_in s (i ∷ is))
    step ih true e = rw e (rw e (ih s))
    step ih false e =
        rw e (rw e (ap (λ (js : Items). const_for s i js ++ i ∷ lasting_in (behind s i js) (bare is)) (same_bare is)
        ∙ some (const_for s i (bare is)) _ _
        (either_plain (is_looked s i (bare is) && is_lasting i (bare is)) (const_at i) [] (refl, tt) tt)
        (one i _ _ e (ih (behind s i (bare is))))))

pub lasting_bare : (is : Items) → IsBare (lasting (bare is)) (lasting is)
lasting_bare is = lasting_in_bare is begin
