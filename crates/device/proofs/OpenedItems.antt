-- An item that was opened may be closed, and its frame was issued.
use Rattle.std.proofs.Common.{◌≡◌, ◌<◌, ℕ, true, false, length, map, List, Option, Some, None, refl, sym, ap, ap₂, ◌∙◌, arith}
use Rattle.std.specs.Prelude.{◌==◌, if◌then◌else◌, IfSome, option_map, slice_get}
use Rattle.std.specs.List.{slice_set}
use Rattle.std.proofs.lemmas.Bool.{false≢true}
use Rattle.std.proofs.lemmas.Bool.Decides.{nat_tests}
use Rattle.std.proofs.lemmas.Option.{slice_get-map}
use Rattle.base.specs.declared.item.Event.TheVariants as event
use Rattle.base.specs.declared.tree.Program.{Program}
use Rattle.base.specs.Items.{Work, plan}
use Rattle.base.specs.Machine.{Condition, Untouched, Generated, Opened, Closed, Passed, State, captured_by, enabled, is_open, with_condition, with_memories, worked_on}
use Rattle.base.proofs.Places.{get_set_same}
use Rattle.kernel.specs.declared.frames.Frame.{Frame}
use Rattle.device.specs.declared.standing.Held.{Held}
use Rattle.device.specs.declared.standing.Held.TheVariants as held
use Rattle.device.specs.Run.{Run, fill_in, state_of}
use Rattle.device.specs.Running.{IsReached}
use Rattle.device.specs.Standing.{Keeps, frame_parts, issue_of}
use Rattle.device.proofs.Openings.{IsOpened, is_opened, on_work}
use Rattle.device.proofs.Reaching.{IsNext, Next, reached_next}

itself : (n : ℕ) → (n == n) ≡ true
itself n = grind (arith, nat_tests)

pub may_close : (r r' : Run) (i : ℕ) (w : Work) → IsReached r → (n : Next r (event.Open i)) → slice_get (plan r.program).items i ≡ Some w →
    IsNext r r' (event.Open i) → enabled (plan r'.program) (state_of r') (event.Close i) ≡ true
may_close r r' i w h n at is =
    ap₂ (λ (p : Program) (s : State). enabled (plan p) s (event.Close i)) is.program
    ((reached_next r r' (event.Open i) h n is.program is.input is.fresh is.history).1 ∙ sym o.state)
    ∙ on_work (plan r.program) i w false (λ v. is_open (opened.condition i)) at
    ∙ ap (λ b. is_open (if b then now else (state_of r).condition i)) (itself i)
  where
    o : IsOpened (plan r.program) (fill_in r) i w (state_of r) n.state
    o = is_opened (plan r.program) (fill_in r) i w (state_of r) n.state at n.step

    now : Condition
    now = Opened (captured_by ((state_of r).condition i) (state_of r).scalars) (worked_on (plan r.program).lengths w.kind o.memories)

    opened : State
    opened = with_condition i now (with_memories w.device o.memories (state_of r))

-- what is issued at its place, where the frame of the job is as the one that is kept
pub at_place : (all : List Held) (i : ℕ) (kept filled : Frame) (o : Option Frame) → i < length all → kept ≡ filled →
    IfSome o (λ f. frame_parts f ≡ frame_parts filled) →
    IfSome o (λ f. slice_get (map issue_of (slice_set all i (held.Issued kept))) i ≡ Some (Some (frame_parts f)))
at_place all i kept filled None lt e h = h
at_place all i kept filled (Some f) lt e h =
    slice_get-map issue_of (slice_set all i (held.Issued kept)) i ∙ ap (option_map issue_of) (get_set_same all i (held.Issued kept) lt)
    ∙ ap (λ p. Some (Some p)) (ap frame_parts e ∙ sym h)

-- what is kept for an open item is no other
pub open_is_issued : (i : ℕ) (w : Work) (input : List ℕ) (c : Condition) (x : Held) → is_open c ≡ true →
    Keeps i w input c (Some x) → ((f : Frame) → x ≡ held.Issued f → ⊥) → ⊥
open_is_issued i w input (Opened captured snapshot) held.Nothing o k n = k
open_is_issued i w input (Opened captured snapshot) (held.Captured s) o k n = k
open_is_issued i w input (Opened captured snapshot) (held.Issued f) o k n = n f refl
open_is_issued i w input Untouched x o k n = false≢true o
open_is_issued i w input (Generated captured) x o k n = false≢true o
open_is_issued i w input Closed x o k n = false≢true o
open_is_issued i w input Passed x o k n = false≢true o
