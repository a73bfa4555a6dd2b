-- One number after another, of the cells that are asked for.
use Rattle.std.proofs.Common.{◌≡◌, ◌∙◌, ℕ, Bool, true, false, List, ◌∷◌, Option, Some, refl, ap}
use Rattle.std.specs.Prelude.{◌&&◌}
use Rattle.c_tokens.specs.declared.kind.Sign.{Sign}
use Rattle.c_tokens.specs.declared.kind.Sign.TheVariants as sign
use Rattle.c_grammar.specs.Terminal.{Terminal}
use Rattle.c_grammar.specs.Texts.{Item}
use Rattle.c_grammar.specs.Blocks.{Items}
use Rattle.c_grammar.specs.Constants.{is_mark}
use Rattle.c_grammar.specs.Initial.{value_of}
use Rattle.c_grammar.specs.Allocations.{behind_size, counted, counted_on, ends_call, is_ended, numbered, numbered_on, times}

numbered_step : (v : ℕ) (s n : Item Terminal) (ks : Items) (w : ℕ) → is_mark sign.Star s ≡ true →
    times v (value_of n.terminal) ≡ Some w → ends_call ks ≡ false → numbered v (s ∷ n ∷ ks) ≡ numbered w ks
numbered_step v s n ks w a b c = rw a (ap (λ (o : Option ℕ). numbered_on ks o (λ u. numbered u ks)) b ∙ rw c refl)

-- behind the size a sign and a number come
pub numbered_more : (v : ℕ) (is js ks : Items) (s n : Item Terminal) (w : ℕ) → is ≡ s ∷ js → js ≡ n ∷ ks →
    is_mark sign.Star s ≡ true → times v (value_of n.terminal) ≡ Some w → ends_call ks ≡ false →
    numbered v is ≡ numbered w ks
numbered_more v is js ks s n w e f a b c =
    ap (numbered v) (e ∙ ap (λ (ls : Items). s ∷ ls) f) ∙ numbered_step v s n ks w a b c

counted_step : (x : List ℕ) (last : Sign) (v : ℕ) (n s : Item Terminal) (ks : Items) (w : ℕ) →
    times v (value_of n.terminal) ≡ Some w → (is_mark last s && is_ended (behind_size x ks)) ≡ false →
    is_mark sign.Star s ≡ true → counted x last v (n ∷ s ∷ ks) ≡ counted x last w ks
counted_step x last v n s ks w a b c =
    ap (λ (o : Option ℕ). counted_on x last s ks o (λ u. counted x last u ks)) a ∙ rw b (rw c refl)

-- a number and a sign come
pub counted_more : (x : List ℕ) (last : Sign) (v : ℕ) (is js ks : Items) (n s : Item Terminal) (w : ℕ) → is ≡ n ∷ js →
    js ≡ s ∷ ks → times v (value_of n.terminal) ≡ Some w → (is_mark last s && is_ended (behind_size x ks)) ≡ false →
    is_mark sign.Star s ≡ true → counted x last v is ≡ counted x last w ks
counted_more x last v is js ks n s w e f a b c =
    ap (counted x last v) (e ∙ ap (λ (ls : Items). n ∷ ls) f) ∙ counted_step x last v n s ks w a b c

pub first_not : (a b : Bool) → a ≡ false → (a && b) ≡ false
first_not a b e = rw e refl

pub second_not : (a b : Bool) → b ≡ false → (a && b) ≡ false
second_not true b e = e
second_not false b e = refl
