-- The tokens of a source with its functions, one token after another.
use Rattle.std.proofs.Common.{◌≡◌, ◌∙◌, ℕ, zero, suc, ◌-◌, ◌<◌, ◌≤◌, true, false, [], ◌∷◌, refl, sym, ap, arith}
use Rattle.std.proofs.Math.Bool.{or-true}
use Rattle.std.specs.Prelude.{◌&&◌, ◌||◌}
use Rattle.c_grammar.specs.Lexeme.{Int}
use Rattle.c_grammar.specs.Terminal.{Terminal, Fixed, same}
use Rattle.c_grammar.specs.Texts.{Item}
use Rattle.c_grammar.specs.Blocks.{Items, bare, is_directive}
use Rattle.c_grammar.specs.Functions.{InBody, InHead, Known, Onward, Where, called, defined, has_function, in_head, is_main, is_specifier, is_static, line_in, main_follows, raw_in, token_in}
use Rattle.c_grammar.specs.FunctionHeads.{Headed}
use Rattle.c_written.specs.declared.functions.Place.{Place}
use Rattle.c_written.specs.declared.functions.Place.TheVariants as places
use Rattle.c_written.specs.declared.functions.Source.{Source}
use Rattle.c_written.specs.Functions.{is_outside, place_in}

pub defined_end : (k : Known) (p : Where) → defined k p [] ≡ raw_in p
unfolding defined
defined_end k p = refl

pub defined_line : (k : Known) (p : Where) (i : Item Terminal) (is : Items) → is_directive i.terminal ≡ true →
    defined k p (i ∷ is) ≡ line_in k p i (λ k p. defined k p is)
unfolding defined
defined_line k p i is e = rw e refl

pub defined_main : (k : Known) (p : Where) (i : Item Terminal) (is : Items) → is_directive i.terminal ≡ false →
    is_main p i (bare is) ≡ true → defined k p (i ∷ is) ≡ i ∷ called k.globals k.functions false k.room 0 is
unfolding defined
defined_main k p i is e f = rw e (rw f refl)

pub defined_token : (k : Known) (p : Where) (i : Item Terminal) (is : Items) → is_directive i.terminal ≡ false →
    is_main p i (bare is) ≡ false → defined k p (i ∷ is) ≡ token_in k p i (bare is) (λ k p. defined k p is)
unfolding defined
defined_token k p i is e f = rw e (rw f refl)

pub main_at : (s : Source) (p : Place) (i : Item Terminal) (is : Items) →
    is_main (place_in s p) i is ≡ (is_outside p && (same (Fixed Int) i.terminal && main_follows is))
main_at s (places.Outside begins) i is = refl
main_at s (places.InHead h n) i is = refl
main_at s (places.InBody h d l) i is = refl

-- ---- in a head

pub head_on : (k : Known) (h : Headed) (raw : Items) (n : ℕ) (go : Onward) → 1 < n →
    in_head k h raw n go ≡ go k (InHead h raw (n - 1))
head_on k h raw zero go e = absurd (omega (arith, e))
head_on k h raw (suc zero) go e = absurd (omega (arith, e))
head_on k h raw (suc (suc n)) go e =
    let less : suc n ≡ suc (suc n) - 1 = omega arith in ap (λ (m : ℕ). go k (InHead h raw m)) less

pub head_over : (k : Known) (h : Headed) (raw : Items) (n : ℕ) (go : Onward) → n ≤ 1 →
    in_head k h raw n go ≡ go k (InBody h raw [] 0 0)
head_over k h raw zero go e = refl
head_over k h raw (suc zero) go e = refl
head_over k h raw (suc (suc n)) go e = absurd (omega (arith, e))

-- ---- whether a function may be defined

pub static_first : (is js : Items) (i : Item Terminal) → is ≡ i ∷ js → is_specifier i.terminal ≡ true →
    true ≡ (has_function is || is_static is)
static_first is js i e s =
    sym (ap (λ (ks : Items). has_function ks || is_static ks) e ∙ rw s (or-true (has_function (i ∷ js))))
