-- For each item that is open a frame was issued.
use Rattle.std.proofs.Common.{◌≡◌, ℕ, List, true, Option, Some, None, refl, subst}
use Rattle.std.specs.Prelude.{slice_get}
use Rattle.base.specs.declared.item.Event.TheVariants as event
use Rattle.base.specs.Items.{Work, plan}
use Rattle.base.specs.Machine.{Condition, enabled, is_open}
use Rattle.two_memories.proofs.PlanItems.{on_true}
use Rattle.device.specs.declared.standing.Held.{Held}
use Rattle.device.specs.declared.standing.Held.TheVariants as held
use Rattle.device.specs.declared.state.RunState.TheInside.{Inside}
use Rattle.device.specs.Run.{Run, state_of}
use Rattle.device.specs.Running.{Shows, run_of}
use Rattle.device.specs.Standing.{IsIssued, Issue, Keeps, frame_parts}
use Rattle.device.proofs.IssuedFrames.{held_issued}
use Rattle.device.proofs.MayClose.{OpenAt, open_at}
use Rattle.device.proofs.Reaching.{asked}

abbrev Issued : Run → ℕ → Type 0
Issued r i = (p : Issue) × (slice_get r.issued i ≡ Some (Some p))

pub open_frame : (s : Inside) (v : Run) → run_of s ≡ v → Shows s → (i : ℕ) →
    enabled (plan v.program) (state_of v) (event.Close i) ≡ true → Issued v i
open_frame s v is h i may = subst (λ (r : Run). Issued r i) is (go (slice_get s.standing.held.items i) refl kept)
  where
    c : Condition
    c = (state_of (run_of s)).condition i

    input : List ℕ
    input = (state_of (run_of s)).input

    f : (w : Work) × (slice_get (plan (run_of s).program).items i ≡ Some w) × (is_open c ≡ true)
    f =
        on_true (plan (run_of s).program) i (λ w. is_open ((state_of (run_of s)).condition i))
        (asked s v (event.Close i) is may)

    o : OpenAt c
    o = open_at c f.2

    kept : IsIssued i f.0 o.captured o.snapshot input (slice_get s.standing.held.items i)
    kept =
        subst (λ (x : Condition). Keeps i f.0 input x (slice_get s.standing.held.items i)) o.is
        (h.at.held i f.0 f.1)

    go : (k : Option Held) → slice_get s.standing.held.items i ≡ k →
        IsIssued i f.0 o.captured o.snapshot input k → Issued (run_of s) i
    go None e k = absurd k
    go (Some held.Nothing) e k = absurd k
    go (Some (held.Captured scalars)) e k = absurd k
    go (Some (held.Issued frame)) e k = (frame_parts frame, held_issued s.standing i frame e)
