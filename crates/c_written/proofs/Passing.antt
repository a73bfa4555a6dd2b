-- The tokens in full, one after another.
use Rattle.std.proofs.Common.{◌≡◌, ◌∙◌, ℕ, zero, suc, ◌-◌, ◌<◌, true, false, [], ◌∷◌, ◌++◌, Result, refl, ap, arith}
use Rattle.std.specs.Prelude.{OnOk}
use Rattle.c_grammar.specs.Terminal.{Terminal}
use Rattle.c_grammar.specs.Texts.{Item}
use Rattle.c_grammar.specs.Blocks.{Items, bare, is_directive}
use Rattle.c_grammar.specs.Changes.{Onward, State, in_full, token}
use Rattle.c_written.specs.declared.changes.Changes.{Changes}
use Rattle.c_terminals.specs.Seen.{seen_all}
use Rattle.c_written.specs.Changes.{IsGone, state_of, with_changes}
use Rattle.c_written.proofs.Blocking.{on_ok}

pub changes_end : (s : State) (k : ℕ) → in_full s k [] ≡ []
unfolding in_full
changes_end s k = refl

pub changes_line : (s : State) (k : ℕ) (i : Item Terminal) (is : Items) → is_directive i.terminal ≡ true →
    in_full s k (i ∷ is) ≡ i ∷ in_full s k is
unfolding in_full
changes_line s k i is e = rw e refl

pub changes_left : (s : State) (k : ℕ) (i : Item Terminal) (is : Items) → is_directive i.terminal ≡ false → 0 < k →
    in_full s k (i ∷ is) ≡ in_full s (k - 1) is
unfolding in_full
changes_left s zero i is e h = absurd (omega arith)
changes_left s (suc k) i is e h =
    let less : k ≡ suc k - 1 = omega arith in rw e (ap (λ (n : ℕ). in_full s n is) less)

pub changes_other : (s : State) (k : ℕ) (i : Item Terminal) (is : Items) → is_directive i.terminal ≡ false → k ≡ 0 →
    in_full s k (i ∷ is) ≡ token s.place i (bare is) s (λ s k. in_full s k is)
unfolding in_full
changes_other s zero i is e h = rw e refl
changes_other s (suc k) i is e h = absurd cc

-- what is written for a token, and what follows
pub taken : {X Y : Type 0} (res : Result X Y) (old new : Changes) (f : Onward → Items) (i : Item Terminal) (is : Items) →
    in_full (state_of old) old.left (i ∷ is) ≡ f (λ s k. in_full s k is) → OnOk res (IsGone old new f) →
    OnOk res (with_changes old (i ∷ is) ≡ with_changes new is)
taken res old new f i is e h =
    on_ok res (IsGone old new f) (with_changes old (i ∷ is) ≡ with_changes new is)
    (λ k. ap (λ (js : Items). seen_all old.done.items ++ js) e ∙ k (λ s k. in_full s k is)) h
