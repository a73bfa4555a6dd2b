-- The next part of a strand, and the action that comes next.
use Rattle.std.proofs.Common.{◌≡◌, ℕ, zero, suc, ◌∷◌, [], List, Option, Some, None, true, false, true≢false, refl, ap, sym, ◌∙◌, subst, slice_get, arith}
use Rattle.base.specs.declared.item.Cell.{Cell}
use Rattle.base.specs.declared.item.MapItem.{MapItem}
use Rattle.base.specs.declared.tree.ArrayId.{ArrayId}
use Rattle.base.specs.declared.tree.CombineOp.{CombineOp}
use Rattle.fine_machine.specs.Left.{Left, Asks, Finished, Answer, Side, Request, each_left, entry_left, exit_left, cells_left}
use Rattle.fine_machine.specs.Left as left
use Rattle.actions.specs.declared.action.Action.{Action}
use Rattle.actions.specs.declared.action.Action.TheVariants as action
use Rattle.actions.specs.declared.strand.Strand.{Strand}
use Rattle.actions.specs.declared.frame.Frame.{Frame}
use Rattle.actions.specs.declared.frame.Frame.TheVariants as frame
use Rattle.actions.specs.declared.stack.Frames.{Frames}
use Rattle.actions.specs.declared.maps.Held.{Held}
use Rattle.actions.specs.declared.maps.Maps.{Maps}
use Rattle.actions.specs.declared.turns.Cells.{Cells}
use Rattle.actions.specs.Rest.{Popped, frames_of, rest_of, top}
use Rattle.actions.specs.Weight.{weight}
use Rattle.actions.specs.Strand.{HasSection, IsNext, IsPending, IsStopped, is_action, is_positive, left_with, request_of, run_of, side_of, stack_of, stops_at}

-- the parts after the first
abbrev pub later : List Frame → List Frame
later [] = []
later (f ∷ rest) = rest

pub begins_with : (fs : List Frame) (f : Frame) → top fs ≡ Some f → fs ≡ f ∷ later fs
begins_with [] f is = absurd (grind (arith, is))
begins_with (g ∷ rest) f is = ap (λ h. h ∷ rest) (grind (arith, is))

pub pending_of : (c : Strand) (f : Frame) (frames : Frames) (o : Option Frame) → top (stack_of c) ≡ Some f →
    Popped (stack_of c) o (frames_of frames) → is_action f ≡ false → IsPending f c (record c { frames = frames })
unfolding weight
pending_of c f frames None is p quiet = absurd (grind (arith, begins_with (stack_of c) f is, p.0))
pending_of c f frames (Some g) is p quiet =
    let e : stack_of c ≡ f ∷ frames_of frames =
    p ∙ ap (λ h. h ∷ frames_of frames) (grind (arith, begins_with (stack_of c) f is, p)) in record {
      quiet = quiet;
      left = ap (λ fs. left_with fs c) (sym e);
      weight = ap weight e;
    }

-- nothing is left
pub next_none : (c : Strand) → top (stack_of c) ≡ None → IsNext c None
unfolding rest_of
next_none c is = ap (λ fs. left_with fs c) (none (stack_of c) is)
  where
    none : (fs : List Frame) → top fs ≡ None → fs ≡ []
    none [] e = refl
    none (f ∷ rest) e = absurd (grind (arith, e))

-- an action that stands first
next_at : (c : Strand) (f : Frame) (a : Action) → top (stack_of c) ≡ Some f → HasSection a →
    ((rest : List Frame) → (k : Answer → Left) × (left_with (f ∷ rest) c ≡ Asks (request_of (side_of c.on_host) a) k)) →
    IsNext c (Some a)
next_at c f a is section asks =
    let k = asks (later (stack_of c)) in
    (section, (k.0, ap (λ fs. left_with fs c) (begins_with (stack_of c) f is) ∙ k.1))

pub next_load : (c : Strand) (a : ArrayId) → top (stack_of c) ≡ Some (frame.Load a) →
    IsNext c (Some (action.Load (record { array = a; index = c.number })))
unfolding rest_of
next_load c a is = next_at c (frame.Load a) (action.Load (record { array = a; index = c.number })) is tt
    (λ rest. ((λ r. rest_of (side_of c.on_host) rest c.loops.items r.number (run_of c)), refl))

pub next_store : (c : Strand) (a : ArrayId) (i : ℕ) → top (stack_of c) ≡ Some (frame.Store a i) →
    IsNext c (Some (action.Store (record { array = a; index = i }) c.number))
unfolding rest_of
next_store c a i is = next_at c (frame.Store a i) (action.Store (record { array = a; index = i }) c.number) is tt
    (λ rest. ((λ r. rest_of (side_of c.on_host) rest c.loops.items 0 (run_of c)), refl))

pub next_combine : (c : Strand) (op : CombineOp) (a : ArrayId) (i : ℕ) → top (stack_of c) ≡ Some (frame.Combine op a i) →
    IsNext c (Some (action.Combine op (record { array = a; index = i }) c.number))
unfolding rest_of
next_combine c op a i is =
    next_at c (frame.Combine op a i) (action.Combine op (record { array = a; index = i }) c.number) is tt
    (λ rest. ((λ r. rest_of (side_of c.on_host) rest c.loops.items 0 (run_of c)), refl))

pub next_remove : (c : Strand) (held : Held) → top (stack_of c) ≡ Some (frame.Remove held) →
    IsNext c (Some (action.Remove held.section))
unfolding rest_of
next_remove c held is = next_at c (frame.Remove held) (action.Remove held.section) is held.is_section
    (λ rest. ((λ r. rest_of (side_of c.on_host) rest c.loops.items 0 (run_of c)), refl))

stopped : (c : Strand) (f : Frame) → top (stack_of c) ≡ Some f → IsStopped c → is_action f ≡ true
stopped c f is s = sym (ap stops_at is) ∙ s

some_cell : (ask : Cell → Request) (a : ArrayId) (first n : ℕ) (k : Unit {0} → Left) → is_positive n ≡ true →
    (l : Answer → Left) × (cells_left ask a first n k ≡ Asks (ask (record { array = a; index = first })) l)
some_cell ask a first zero k some = absurd (true≢false (sym some))
some_cell ask a first (suc n) k some = (_, refl)

pub next_copy_in : (c : Strand) (cells : Cells) → top (stack_of c) ≡ Some (frame.CopyIn cells) → IsStopped c →
    IsNext c (Some (action.CopyIn (record { array = cells.array; index = cells.first })))
unfolding rest_of
next_copy_in c cells is s =
    next_at c (frame.CopyIn cells) (action.CopyIn (record { array = cells.array; index = cells.first })) is tt
    (λ rest. some_cell left.CopyIn cells.array cells.first cells.count _ (stopped c (frame.CopyIn cells) is s))

pub next_copy_out : (c : Strand) (cells : Cells) → top (stack_of c) ≡ Some (frame.CopyOut cells) → IsStopped c →
    IsNext c (Some (action.CopyOut (record { array = cells.array; index = cells.first })))
unfolding rest_of
next_copy_out c cells is s =
    next_at c (frame.CopyOut cells) (action.CopyOut (record { array = cells.array; index = cells.first })) is tt
    (λ rest. some_cell left.CopyOut cells.array cells.first cells.count _ (stopped c (frame.CopyOut cells) is s))

first_entry : (items : List MapItem) (item : MapItem) (k : Unit {0} → Left) → slice_get items 0 ≡ Some item →
    (l : Answer → Left) × (each_left entry_left items k ≡ Asks (left.Enter item) l)
first_entry [] item k is = absurd (grind (arith, is))
first_entry (x ∷ xs) item k is =
    subst (λ y. (l : Answer → Left) × (each_left entry_left (x ∷ xs) k ≡ Asks (left.Enter y) l)) (grind (arith, is)) (_, refl)

pub next_enter : (c : Strand) (maps : Maps) (item : MapItem) → top (stack_of c) ≡ Some (frame.Entries maps) →
    slice_get maps.items.now 0 ≡ Some item → IsNext c (Some (action.Enter item))
unfolding rest_of
next_enter c maps item is first =
    next_at c (frame.Entries maps) (action.Enter item) is (maps.sections 0 item first)
    (λ rest. first_entry maps.items.now item _ first)

first_exit : (items : List MapItem) (item : MapItem) (k : Unit {0} → Left) → slice_get items 0 ≡ Some item →
    (l : Answer → Left) × (each_left exit_left items k ≡ Asks (left.Leave item) l)
first_exit [] item k is = absurd (grind (arith, is))
first_exit (x ∷ xs) item k is =
    subst (λ y. (l : Answer → Left) × (each_left exit_left (x ∷ xs) k ≡ Asks (left.Leave y) l)) (grind (arith, is)) (_, refl)

pub next_leave : (c : Strand) (maps : Maps) (item : MapItem) → top (stack_of c) ≡ Some (frame.Exits maps) →
    slice_get maps.items.now 0 ≡ Some item → IsNext c (Some (action.Leave item))
unfolding rest_of
next_leave c maps item is first =
    next_at c (frame.Exits maps) (action.Leave item) is (maps.sections 0 item first)
    (λ rest. first_exit maps.items.now item _ first)
