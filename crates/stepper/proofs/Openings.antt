-- What an opening leaves.
use Rattle.std.proofs.Common.{◌≡◌, ◌<◌, ℕ, true, false, List, [], length, Option, Some, None, refl, sym, ap, ◌∙◌, subst}
use Rattle.std.specs.Prelude.{◌==◌, IsSomeAnd, if◌then◌else◌, option_map, slice_get, Vec}
use Rattle.std.specs.List.{slice_set}
use Rattle.std.specs.declared.alloc.Global.{Global}
use Rattle.std.proofs.lemmas.Bool.{true≢false}
use Rattle.std.proofs.lemmas.List.{length-set}
use Rattle.base.specs.declared.item.Event.TheVariants as event
use Rattle.base.specs.declared.item.Item.{Item}
use Rattle.base.specs.declared.tree.Region.{Region}
use Rattle.base.specs.Items.{Work, Plan}
use Rattle.fine_machine.specs.Left.{Left, item_left}
use Rattle.fine_machine.specs.Machine.{State, Opened, begun, enabled, input_of, open_item, step, with_condition}
use Rattle.taskgraph.specs.Board.{Board, Follows as GraphFollows, allows}
use Rattle.taskgraph.specs.declared.Stage.TheVariants as stage
use Rattle.present.specs.declared.Table.{Table}
use Rattle.present.specs.Table.{Shows}
use Rattle.device.specs.Devices.{table_at}
use Rattle.device.proofs.Openings.{on_work}
use Rattle.actions.specs.declared.control.Control.{Control}
use Rattle.stepper.specs.declared.standing.Slot.{Slot}
use Rattle.stepper.specs.declared.standing.Slot.TheVariants as slot
use Rattle.stepper.specs.declared.standing.Standing.{Standing}
use Rattle.actions.specs.Control.{left_of}
use Rattle.actions.specs.Opening.{InArrays, IsOpened, StaysInside, begun_with}
use Rattle.stepper.specs.Standing.{Captures, IsAt, IsItem, Keeps, fill_from, order_from, place_of}
use Rattle.stepper.proofs.Following.{before_end, keeps_set}
use Rattle.stepper.proofs.Places.{here_after, open_here}
use Rattle.stepper.proofs.Stages.{Becomes, opens, stands_after}

module _ (plan : Plan) (old : Standing) (s : State) (at : IsAt plan old s) (i : ℕ) (it : Item) (r : Option Region)
    (item : IsItem plan i it r) (may : enabled plan s (event.Open i) ≡ true) (table : Table)
    (has : table_at old.devices it.device.number ≡ Some table) (scalars : List ℕ) (captures : Captures old it.deferred i scalars)
    (o : Option Control) (opened : IsOpened it r old.order.now scalars old.input.now table o) where
  abbrev w : Work
  w = item.work

  abbrev opens_with : Left → State
  opens_with left = with_condition i (Opened left) s

  own_shown : Shows table (s.memories.devices w.device)
  own_shown = subst (λ d. Shows table (s.memories.devices d)) (sym item.device) (at.devices it.device.number table has)

  begun_is : begun w (s.condition i) s ≡ begun_with w scalars old.input.now
  begun_is = λ x. record {
    scalars = captures plan s w item.is item.deferred at may x;
    stores = [];
    input = input_of w.kind (at.input x);
    printed = [];
  }

  stepped : step plan (fill_from old) (order_from old) s (event.Open i) ≡ option_map opens_with (option_map left_of o)
  stepped =
      on_work plan i w None (λ w. open_item old.order.now i w s) item.is
      ∙ ap (λ b. option_map opens_with (item_left old.order.now w (s.memories.devices w.device).blocks b)) begun_is
      ∙ ap (option_map opens_with) (opened.left w (s.memories.devices w.device) item.same own_shown)

  pub opens_to : (control : Control) (g : Board) (hs : Vec Slot Global) → old.ended ≡ false →
      allows old.graph (event.Open i) ≡ true → GraphFollows old.graph (event.Open i) g → o ≡ Some control →
      ((lengths : List ℕ) → InArrays lengths it.maps.items → StaysInside lengths (left_of control)) →
      hs.items ≡ slice_set old.slots.items i (slot.Opened control) → i < length old.slots.items →
      IsSomeAnd (step plan (fill_from old) (order_from old) s (event.Open i)) (IsAt plan (record old { graph = g; slots = hs }))
  opens_to control g hs going allowed follows some inside set lt =
      subst (λ x. IsSomeAnd x (IsAt plan (record old { graph = g; slots = hs })))
      (sym (stepped ∙ ap (λ x. option_map opens_with (option_map left_of x)) some)) made
    where
      next : State
      next = opens_with (left_of control)

      becomes : Becomes old.graph i stage.Open old.graph.place g
      becomes = opens old.graph g i allowed follows

      made : IsAt plan (record old { graph = g; slots = hs }) next
      made = record {
        host = at.host;
        lengths = at.lengths;
        devices = at.devices;
        alike = at.alike;
        counts = at.counts;
        graph =
            stands_after plan s next old.graph.place i old.graph.place stage.Open old.graph g (Opened (left_of control)) at.graph
            becomes refl refl;
        place = before_end plan old s at going ∙ becomes.place ∙ sym (ap (λ b. place_of b g.place) going);
        ended = λ d. absurd (true≢false (sym d ∙ going));
        here =
            here_after plan s s.place i (Opened (left_of control)) at.here
            (λ v is_v now o. open_here plan s i v is_v now may) (λ j other there. there);
        scalars = at.scalars;
        input = at.input;
        output = at.output;
        slots = ap (λ (xs : List Slot). length xs) set ∙ length-set old.slots.items i (slot.Opened control) ∙ at.slots;
        kept =
            subst (λ (xs : List Slot). (j : ℕ) → j < length plan.items →
            Keeps plan.lengths (if j == i then Opened (left_of control) else s.condition j) (slice_get xs j)) (sym set)
            (keeps_set plan.lengths old.slots.items s.condition (length plan.items) at.kept i (Opened (left_of control))
            (slot.Opened control) lt
            (record { is = refl; stopped = opened.stopped control some; inside = inside plan.lengths item.inside }));
      }
