-- One token after another, with or without a definition.
use Rattle.std.proofs.Common.{◌≡◌, ℕ, zero, suc, ◌-◌, ◌<◌, ◌≤◌, true, false, [], ◌∷◌, Option, Some, None, refl, ap, ◌∙◌, arith}
use Rattle.std.proofs.lemmas.Bool.Decides.{nat_tests}
use Rattle.std.specs.Prelude.{nat_le, OnOk, Result, Ok, Err}
use Rattle.c_grammar.specs.Terminal.{Terminal}
use Rattle.c_grammar.specs.Texts.{Item}
use Rattle.c_grammar.specs.Blocks.{Items, bare, is_directive}
use Rattle.c_grammar.specs.Constants.{Names, definition_len, depth_behind, drop_on, undefined, with_global}

pub undefined_line : (ns : Names) (d k : ℕ) (i : Item Terminal) (is : Items) → is_directive i.terminal ≡ true →
    undefined ns d k (i ∷ is) ≡ i ∷ undefined ns d k is
unfolding undefined
undefined_line ns d k i is e = rw e refl

pub undefined_left : (ns : Names) (d k : ℕ) (i : Item Terminal) (is : Items) → is_directive i.terminal ≡ false → 0 < k →
    undefined ns d k (i ∷ is) ≡ undefined ns d (k - 1) is
unfolding undefined
undefined_left ns d zero i is e h = absurd (omega arith)
undefined_left ns d (suc k) i is e h = rw e (ap (λ (n : ℕ). undefined ns d n is) (let one : k ≡ suc k - 1 = omega arith in one))

le_true : (a b : ℕ) → a ≤ b → nat_le a b ≡ true
le_true a b h = grind (arith, nat_tests)

le_false : (a b : ℕ) → b < a → nat_le a b ≡ false
le_false a b h = grind (arith, nat_tests)

-- a definition outside of blocks, or in that of main
pub undefined_definition : (ns : Names) (d k n : ℕ) (i : Item Terminal) (is : Items) → k ≡ 0 → d ≤ 1 →
    is_directive i.terminal ≡ false → definition_len ns i.terminal (bare is) ≡ Some n →
    undefined ns d k (i ∷ is) ≡ undefined ns d n is
unfolding undefined
undefined_definition ns d zero n i is a b e f =
    rw e (ap (λ (o : Option ℕ). drop_on ns d i (bare is) o (λ ns d k. undefined ns d k is)) f
    ∙ rw (le_true d 1 b) refl)
undefined_definition ns d (suc k) n i is a b e f = absurd (omega (arith, a))

-- a token that is none
pub undefined_none : (ns : Names) (d k : ℕ) (i : Item Terminal) (is : Items) → k ≡ 0 → is_directive i.terminal ≡ false →
    definition_len ns i.terminal (bare is) ≡ None →
    undefined ns d k (i ∷ is) ≡ i ∷ undefined (with_global i.terminal (bare is) ns) (depth_behind i.terminal d) k is
unfolding undefined
undefined_none ns d zero i is a e f =
    rw e (ap (λ (o : Option ℕ). drop_on ns d i (bare is) o (λ ns d k. undefined ns d k is)) f)
undefined_none ns d (suc k) i is a e f = absurd (omega (arith, a))

-- a token in a block
pub undefined_inside : (ns : Names) (d k : ℕ) (i : Item Terminal) (is : Items) → k ≡ 0 → 1 < d →
    is_directive i.terminal ≡ false →
    undefined ns d k (i ∷ is) ≡ i ∷ undefined (with_global i.terminal (bare is) ns) (depth_behind i.terminal d) k is
unfolding undefined
undefined_inside ns d zero i is a b e = rw e (go (definition_len ns i.terminal (bare is)))
  where
    go : (o : Option ℕ) → drop_on ns d i (bare is) o (λ ns d k. undefined ns d k is)
        ≡ i ∷ undefined (with_global i.terminal (bare is) ns) (depth_behind i.terminal d) 0 is
    go None = refl
    go (Some k) = rw (le_false d 1 b) refl
undefined_inside ns d (suc k) i is a b e = absurd (omega (arith, a))

pub undefined_end : (ns : Names) (d k : ℕ) → undefined ns d k [] ≡ []
unfolding undefined
undefined_end ns d k = refl

-- what holds where four things do, on success
pub all_four : {T E P Q R S : Type 0} {Goal : Type 0} (r : Result T E) → OnOk r P → OnOk r Q → OnOk r R → OnOk r S → (P → Q → R → S → Goal) → OnOk r Goal
all_four (Ok x) p q r s f = f p q r s
all_four (Err e) p q r s f = tt
