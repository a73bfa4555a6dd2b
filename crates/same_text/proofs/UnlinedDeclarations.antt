-- The types of declarations are written out without a look at the lines of the tokens.
use Rattle.std.proofs.Common.{◌≡◌, ◌∙◌, Bool, true, false, cond, [], ◌∷◌, refl, ap}
use Rattle.c_grammar.specs.Lexeme.{Uint64}
use Rattle.c_grammar.specs.Terminal.{Terminal, Fixed}
use Rattle.c_grammar.specs.Texts.{Item}
use Rattle.c_grammar.specs.Blocks.{Items, at, bare, is_directive}
use Rattle.c_grammar.specs.Declarations.{Before, Other, IsFor, MayBeInt, Onward, behind, is_given, is_int, settled, settled_on}
use Rattle.same_text.specs.Laws.{unlined}
use Rattle.same_text.proofs.Unlined.{AreUnlined, all_unlined, bare_unlined, either, one}

given_unlined : (is : Items) → is_given (all_unlined is) ≡ is_given is
given_unlined [] = refl
given_unlined (x ∷ []) = refl
given_unlined (x ∷ e ∷ is) = refl

int_unlined : (b : Before) (i : Item Terminal) (is : Items) → is_int b (unlined i) (all_unlined is) ≡ is_int b i is
int_unlined MayBeInt i is = (let e : is_given (all_unlined is) ≡ is_given is = given_unlined is in rw e refl)
int_unlined Other i is = refl
int_unlined IsFor i is = refl

behind_unlined : (b : Before) (i : Item Terminal) → behind b (unlined i) ≡ behind b i
behind_unlined Other i = refl
behind_unlined IsFor i = refl
behind_unlined MayBeInt i = refl

on_unlined : (b : Before) (i : Item Terminal) (is : Items) (go go' : Onward) → ((b : Before) → AreUnlined (go' b) (go b)) →
    AreUnlined (settled_on b (unlined i) (all_unlined is) go') (settled_on b i is go)
on_unlined b i is go go' r =
    either (is_int b i is) (is_int b (unlined i) (all_unlined is)) _ _ _ _ (int_unlined b i is)
    (one (at i (Fixed Uint64)) _ _ (r _))
    (one i _ _ (ap (λ (c : Before). go' c) (behind_unlined b i) ∙ r _))

pub settled_unlined : (is : Items) (b : Before) → AreUnlined (settled b (all_unlined is)) (settled b is)
settled_unlined [] b = refl
settled_unlined (i ∷ is) b = step (is_directive i.terminal) (λ b. settled_unlined is b)
  where
    step : (t : Bool) → ((b : Before) → AreUnlined (settled b (all_unlined is)) (settled b is)) →
        AreUnlined
        (cond t (unlined i ∷ settled b (all_unlined is))
        (settled_on b (unlined i) (bare (all_unlined is)) (λ b. settled b (all_unlined is))))
        (cond t (i ∷ settled b is) (settled_on b i (bare is) (λ b. settled b is)))
    step true ih = one i (settled b is) (settled b (all_unlined is)) (ih b)
    step false ih =
        ap (λ (js : Items). settled_on b (unlined i) js (λ b. settled b (all_unlined is))) (bare_unlined is)
        ∙ on_unlined b i (bare is) (λ b. settled b is) (λ b. settled b (all_unlined is)) ih
