-- A cell that stands again, one token after another.
use Rattle.std.proofs.Common.{◌≡◌, ◌∙◌, ℕ, zero, suc, ◌-◌, ◌<◌, Bool, true, false, cond, List, [], ◌∷◌, length, take, drop, Option, Some, None, refl, ap, sym, arith}
use Rattle.std.specs.Prelude.{◌&&◌}
use Rattle.c_tokens.specs.declared.kind.Sign.{Sign}
use Rattle.c_grammar.specs.Terminal.{Terminal, Name, same}
use Rattle.c_grammar.specs.Texts.{Item}
use Rattle.c_grammar.specs.Blocks.{Items}
use Rattle.c_grammar.specs.Updates.{again, begins_with, equal, sign_at}
use Rattle.c_written.specs.CellUpdates.{rest_behind}

less : (n : ℕ) → suc n - 1 ≡ n
less n = omega arith

pub behind_step : (n : ℕ) (is js is' js' : Items) (i j : Item Terminal) → 0 < n → is ≡ i ∷ is' → js ≡ j ∷ js' →
    equal i.terminal j.terminal ≡ true → rest_behind (take n is) js ≡ rest_behind (take (n - 1) is') js'
behind_step zero is js is' js' i j h e f g = absurd (omega (arith, h))
behind_step (suc n) is js is' js' i j h e f g =
    rw (e, f, g, less n) refl

-- such tokens stand at the front
pub is_behind : (is js : Items) →
    rest_behind is js ≡ (cond (begins_with is js) (Some (drop (length is) js)) None)
is_behind [] js = refl
is_behind (i ∷ is) [] = refl
is_behind (i ∷ is) (j ∷ js) = go (equal i.terminal j.terminal) (is_behind is js)
  where
    go : (b : Bool) → rest_behind is js ≡ cond (begins_with is js) (Some (drop (length is) js)) None →
        cond b (rest_behind is js) None ≡ cond (b && begins_with is js) (Some (drop (length is) js)) None
    go true e = e
    go false e = refl

abbrev pub sign_in : Option Items → Option Sign
sign_in None = None
sign_in (Some js) = sign_at js

pub sign_again : (x : List ℕ) (index is js : Items) (y : Item Terminal) (o : Option Items) → is ≡ y ∷ js →
    same (Name x) y.terminal ≡ true → o ≡ rest_behind index js → again x index is ≡ sign_in o
sign_again x index is js y o e f g =
    ap (again x index) e ∙ rw f (go (begins_with index js)) ∙ sym (ap sign_in (g ∙ is_behind index js))
  where
    go : (b : Bool) → cond b (sign_at (drop (length index) js)) None ≡ sign_in (cond b (Some (drop (length index) js)) None)
    go true = refl
    go false = refl
