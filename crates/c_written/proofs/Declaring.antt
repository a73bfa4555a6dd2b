-- One token after another, with the initializers of globals.
use Rattle.std.proofs.Common.{◌≡◌, ◌∙◌, ℕ, zero, suc, ◌-◌, ◌<◌, true, false, [], ◌∷◌, ◌++◌, Result, refl, ap, arith}
use Rattle.std.specs.Prelude.{OnOk}
use Rattle.c_tokens.specs.declared.kind.Sign.TheVariants as sign
use Rattle.c_grammar.specs.Terminal.{Terminal}
use Rattle.c_grammar.specs.Texts.{Item}
use Rattle.c_grammar.specs.Blocks.{Items, bare, is_directive}
use Rattle.c_grammar.specs.Constants.{is_mark}
use Rattle.c_grammar.specs.Initial.{Globals as State, Onward, begun, declared, initial, initialized, outside, set_late}
use Rattle.c_written.specs.declared.globals.Globals.{Globals}
use Rattle.c_terminals.specs.Seen.{seen_all}
use Rattle.c_written.specs.Globals.{IsGone, state_of, with_globals}
use Rattle.c_written.proofs.Blocking.{on_ok}

pub globals_end : (g : State) (k : ℕ) → initialized g k [] ≡ []
unfolding initialized
globals_end g k = refl

pub globals_line : (g : State) (k : ℕ) (i : Item Terminal) (is : Items) → is_directive i.terminal ≡ true →
    initialized g k (i ∷ is) ≡ i ∷ initialized g k is
unfolding initialized
globals_line g k i is e = rw e refl

pub globals_left : (g : State) (k : ℕ) (i : Item Terminal) (is : Items) → is_directive i.terminal ≡ false → 0 < k →
    initialized g k (i ∷ is) ≡ initialized g (k - 1) is
unfolding initialized
globals_left g zero i is e h = absurd (omega arith)
globals_left g (suc k) i is e h =
    let less : k ≡ suc k - 1 = omega arith in rw e (ap (λ (n : ℕ). initialized g n is) less)

-- a token in a block
pub globals_inside : (g : State) (k : ℕ) (i : Item Terminal) (is : Items) → is_directive i.terminal ≡ false → k ≡ 0 →
    g.inside ≡ true → initialized g k (i ∷ is) ≡ i ∷ initialized g k is
unfolding initialized
globals_inside g zero i is e h t = rw e (rw t refl)
globals_inside g (suc k) i is e h t = absurd cc

-- what a token outside of blocks does
pub globals_outside : (g : State) (k : ℕ) (i : Item Terminal) (is : Items) → is_directive i.terminal ≡ false → k ≡ 0 →
    g.inside ≡ false → initialized g k (i ∷ is) ≡ outside i (bare is) g (λ g k. initialized g k is)
unfolding initialized
globals_outside g zero i is e h t = rw e (rw t refl)
globals_outside g (suc k) i is e h t = absurd cc

pub outside_begun : (i : Item Terminal) (is : Items) (g : State) (go : Onward) → is_mark sign.OpenBrace i ≡ true →
    outside i is g go ≡ begun i g go
outside_begun i is g go e = rw e refl

pub outside_set : (i : Item Terminal) (is : Items) (g : State) (go : Onward) → is_mark sign.OpenBrace i ≡ false →
    is_mark sign.Equal i ≡ true → outside i is g go ≡ set_late i g (initial g.since is) go
outside_set i is g go e f = rw e (rw f refl)

pub outside_declared : (i : Item Terminal) (is : Items) (g : State) (go : Onward) → is_mark sign.OpenBrace i ≡ false →
    is_mark sign.Equal i ≡ false → outside i is g go ≡ declared i g go
outside_declared i is g go e f = rw e (rw f refl)

-- what is written for a token, and what follows
pub global_taken : {X Y : Type 0} (res : Result X Y) (old new : Globals) (f : Onward → Items) (i : Item Terminal) (is : Items) →
    initialized (state_of old) old.left (i ∷ is) ≡ f (λ g k. initialized g k is) → OnOk res (IsGone old new f) →
    OnOk res (with_globals old (i ∷ is) ≡ with_globals new is)
global_taken res old new f i is e h =
    on_ok res (IsGone old new f) (with_globals old (i ∷ is) ≡ with_globals new is)
    (λ k. ap (λ (js : Items). seen_all old.done.items ++ js) e ∙ k (λ g k. initialized g k is)) h
