-- What a closing leaves.
use Rattle.std.proofs.Common.{◌≡◌, ◌+◌, ◌<◌, ℕ, Bool, true, false, List, length, Option, Some, None, refl, sym, ap, ◌∙◌, subst}
use Rattle.std.specs.Prelude.{◌==◌, if◌then◌else◌, option_map, slice_get, Vec}
use Rattle.std.specs.List.{slice_set}
use Rattle.std.specs.declared.alloc.Global.{Global}
use Rattle.std.proofs.lemmas.Bool.{true≢false}
use Rattle.std.proofs.lemmas.Option.{same_Some, slice_get-map, slice_get_within}
use Rattle.std.proofs.lemmas.List.{length-set}
use Rattle.base.specs.declared.item.Event.TheVariants as event
use Rattle.base.specs.declared.item.ItemKind.{ItemKind}
use Rattle.base.specs.Items.{Work, Plan}
use Rattle.base.specs.Meaning.{Run as Region_run}
use Rattle.fine_machine.specs.Left.{Finished}
use Rattle.base.specs.Machine.{is_open}
use Rattle.fine_machine.specs.Machine.{State, Condition, Closed, close_item, enabled, host_done, is_finished, moves_on, step, whole_condition, with_condition}
use Rattle.taskgraph.specs.Board.{Board, Facts, Follows as GraphFollows, allows, facts_of}
use Rattle.taskgraph.specs.declared.Stage.TheVariants as stage
use Rattle.taskgraph.proofs.Standing.{place_after}
use Rattle.device.specs.Devices.{ShowAll}
use Rattle.device.specs.Moves.{CountsAtMost}
use Rattle.device.proofs.Openings.{on_work}
use Rattle.actions.specs.declared.control.Control.{Control}
use Rattle.stepper.specs.declared.standing.Slot.{Slot}
use Rattle.stepper.specs.declared.standing.Slot.TheVariants as slot
use Rattle.stepper.specs.declared.standing.Standing.{Standing}
use Rattle.actions.specs.Control.{run_of}
use Rattle.stepper.specs.Standing.{HasLeft, IsAt, IsControl, IsOpen, Keeps, fill_from, order_from, place_of}
use Rattle.actions.proofs.AtEnd.{at_end}
use Rattle.stepper.proofs.AtEnd.{HasFinished, finished}
use Rattle.stepper.proofs.HostDone.{HasValues, Kept, keeps, values}
use Rattle.stepper.proofs.Following.{before_end, keeps_set}
use Rattle.stepper.proofs.Places.{here_after, not_open, only_here}
use Rattle.stepper.proofs.Stages.{Becomes, Closes, closes, stands_after}

module _ (plan : Plan) (old : Standing) (s t : State) (at : IsAt plan old s) (going : old.ended ≡ false)
    (i : ℕ) (w : Work) (is : slice_get plan.items i ≡ Some w) (may : enabled plan s (event.Close i) ≡ true) where
  done : HasFinished (s.condition i)
  done = finished (s.condition i) (sym (on_work plan i w false (λ w. is_finished (s.condition i)) is) ∙ may)

  -- what is kept for it
  held : (o : Option Slot) → slice_get old.slots.items i ≡ o → IsOpen plan.lengths (Finished done.run) o
  held o e =
      subst (λ (x : Option Slot). IsOpen plan.lengths (Finished done.run) x) e
      (subst (λ (c : Condition). Keeps plan.lengths c (slice_get old.slots.items i)) done.is
      (at.kept i (slice_get_within plan.items i w is)))

  pub never_captured : (xs : List ℕ) → slice_get old.slots.items i ≡ Some (slot.Captured xs) → ⊥
  never_captured xs e = held (Some (slot.Captured xs)) e

  pub never_empty : slice_get old.slots.items i ≡ Some slot.Nothing → ⊥
  never_empty e = held (Some slot.Nothing) e

  module _ (control : Control) (opened : slice_get old.slots.items i ≡ Some (slot.Opened control)) (hs : Vec Slot Global)
      (mid : Standing) (k : ItemKind) (kind_is : w.kind ≡ k) where
    abbrev pub from : Standing
    from = record old { slots = hs }

    abbrev after : State
    after = host_done k (run_of control) s

    run_is : done.run ≡ run_of control
    run_is =
        let c : IsControl plan.lengths (Finished done.run) control = held (Some (slot.Opened control)) opened in
        at_end control done.run c.stopped (sym c.is)

    stepped : step plan (fill_from old) (order_from old) s (event.Close i) ≡ Some t → moves_on w.deferred (with_condition i Closed after) ≡ t
    stepped e =
        same_Some _ t
        (ap (λ (x : Region_run). Some (moves_on w.deferred (with_condition i Closed (host_done k x s)))) (sym run_is)
        ∙ ap (λ (x : ItemKind). Some (moves_on w.deferred (with_condition i Closed (host_done x done.run s)))) (sym kind_is)
        ∙ ap (λ (c : Condition). close_item i w c s) (sym done.is)
        ∙ sym (on_work plan i w None (λ w. close_item i w (s.condition i) s) is) ∙ e)

    pub closed : (g : Board) (given : Standing) → allows old.graph (event.Close i) ≡ true →
        GraphFollows mid.graph (event.Close i) g → mid ≡ given → HasLeft k control from given → hs.items ≡ slice_set old.slots.items i slot.Nothing → i < length old.slots.items →
        step plan (fill_from old) (order_from old) s (event.Close i) ≡ Some t → IsAt plan (record mid { graph = g }) t
    closed g given allowed follows same left set lt e =
        subst (λ x. IsAt plan (record mid { graph = g }) x) (stepped e)
        (subst (λ (m : Standing). IsAt plan (record m { graph = g }) (moves_on w.deferred (with_condition i Closed after)))
        (sym v.same) (go w.deferred refl becomes))
      where
        v : HasValues from mid after
        v =
            values from mid s control (record { scalars = at.scalars; input = at.input; output = at.output; same = refl }) k
            (subst (λ (x : Standing). HasLeft k control from x) (sym same) left)

        kept : Kept s after
        kept = keeps k (run_of control) s

        c : Closes old.graph i g
        c =
            closes old.graph g i allowed
            (subst (λ (b : Board). GraphFollows b (event.Close i) g) (ap (λ (x : Standing). x.graph) v.same) follows)

        facts_are : c.facts ≡ facts_of w
        facts_are =
            same_Some c.facts (facts_of w)
            (sym c.is ∙ ap (λ fs. slice_get fs i) (sym at.graph.items) ∙ slice_get-map facts_of plan.items i
            ∙ ap (option_map facts_of) is)

        becomes : Becomes old.graph i stage.Closed (place_after w.deferred old.graph.place) g
        becomes =
            subst (λ (f : Facts). Becomes old.graph i stage.Closed (place_after f.deferred old.graph.place) g) facts_are c.becomes

        new : Standing
        new = record from { scalars = mid.scalars; input = mid.input; output = mid.output; graph = g }

        build : (n : ℕ) (y : State) → Becomes old.graph i stage.Closed n g → y.memories ≡ s.memories → y.scalars ≡ after.scalars →
            y.input ≡ after.input → y.output ≡ after.output →
            y.condition ≡ (λ j. if j == i then Closed else s.condition j) → y.place ≡ n →
            ((j : ℕ) → (j == i) ≡ false → s.place ≡ j → y.place ≡ j) → IsAt plan new y
        build n y b memories scalars input output condition place others = record {
          host = ap (λ m. m.host) memories ∙ at.host;
          lengths = at.lengths;
          devices = subst (λ m. ShowAll old.devices m.devices) (sym memories) at.devices;
          alike = at.alike;
          counts = subst (λ m. (d : ℕ) → CountsAtMost old.entered (m.devices d).blocks) (sym memories) at.counts;
          graph = stands_after plan s y old.graph.place i n stage.Closed old.graph g Closed at.graph b refl condition;
          place = place ∙ b.place ∙ sym (ap (λ b. place_of b g.place) going);
          ended = λ d. absurd (true≢false (sym d ∙ going));
          here = λ j u is_u now o.
              here_after plan s y.place i Closed at.here (λ _ _ _ shut. not_open Closed refl shut) others j u is_u now
              (subst (λ (f : ℕ → Condition). is_open (whole_condition (f j)) ≡ true) condition o);
          scalars = scalars ∙ v.scalars;
          input = input ∙ v.input;
          output = output ∙ v.output;
          slots = ap (λ (xs : List Slot). length xs) set ∙ length-set old.slots.items i slot.Nothing ∙ at.slots;
          kept =
              subst (λ (f : ℕ → Condition). (j : ℕ) → j < length plan.items → Keeps plan.lengths (f j) (slice_get hs.items j))
              (sym condition)
              (subst (λ (xs : List Slot). (j : ℕ) → j < length plan.items →
              Keeps plan.lengths (if j == i then Closed else s.condition j) (slice_get xs j)) (sym set)
              (keeps_set plan.lengths old.slots.items s.condition (length plan.items) at.kept i Closed slot.Nothing lt tt));
        }

        condition_is : ◌≡◌ {A = ℕ → Condition} (λ j. if j == i then Closed else after.condition j)
            (λ j. if j == i then Closed else s.condition j)
        condition_is = λ x j. if j == i then Closed else (kept.condition x) j

        here : after.place ≡ old.graph.place
        here = kept.place ∙ before_end plan old s at going

        open_now : is_open (whole_condition (s.condition i)) ≡ true
        open_now = ap (λ (c : Condition). is_open (whole_condition c)) done.is

        go : (d : Bool) → w.deferred ≡ d → Becomes old.graph i stage.Closed (place_after d old.graph.place) g →
            IsAt plan new (moves_on d (with_condition i Closed after))
        go true later b =
            build _ (with_condition i Closed after) b kept.memories refl refl refl condition_is here
            (λ j other there. kept.place ∙ there)
        go false now b =
            build _ (moves_on false (with_condition i Closed after)) b kept.memories refl refl refl condition_is
            (ap (λ n. n + 1) here) (λ j other there. only_here s i j (at.here i w is now open_now) other there)
