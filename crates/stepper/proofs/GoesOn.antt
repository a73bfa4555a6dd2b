-- An event of a run that no fault has stopped.
use Rattle.std.proofs.Common.{◌≡◌, ◌+◌, ◌≤◌, length, ◌<◌, ◌^◌, ◌++◌, ℕ, Bool, true, false, List, [], ◌∷◌, Option, Some, None, Bor, refl, sym, ap, ◌∙◌, subst, arith}
use Rattle.std.specs.Prelude.{IsSomeAnd}
use Rattle.base.specs.declared.item.Event.{Event}
use Rattle.base.specs.Items.{Plan, plan}
use Rattle.base.specs.Limits.{most_items}
use Rattle.base.specs.Map.{Fill}
use Rattle.device.specs.Devices.{AreKept, fresh_of}
use Rattle.fine_headline.specs.FineState.{Fixed, result_of}
use Rattle.fine_machine.specs.Machine.{Run as RunOn, RunFrom, State, enabled, start, step}
use Rattle.stepper.specs.declared.standing.Standing.{Standing}
use Rattle.stepper.specs.Run.{IsGoing, Run, Takes, fill_in, order_in, fine_of, state_of, with_last}
use Rattle.stepper.specs.Running.{HasCome, HasDone, IsRunning, IsThere}
use Rattle.stepper.specs.Leading.{leads, same_fixed}
use Rattle.stepper.specs.Order.{same_order}
use Rattle.stepper.specs.Standing.{IsAt, fill_from}
use Rattle.stepper.specs.Taking.{Does, IsAble}
use Rattle.stepper.proofs.AfterEnd.{nothing_enabled}
use Rattle.stepper.proofs.PlaceBound.{few_tasks, place_after, small_place}
use Rattle.stepper.proofs.Within.{within}

-- a run with one more event
run_more : (p : Plan) (fill : ℕ → Fill) (order : ℕ → List ℕ) (o : Option State) (es : List Event) (s : State) (e : Event) (end : Option State) →
    RunOn p fill order o es (Some s) → enabled p s e ≡ true → step p fill order s e ≡ end → RunOn p fill order o (es ++ e ∷ []) end
run_more p fill order o [] s e end ran may is =
    subst (λ q. RunOn p fill order q (e ∷ []) end) ran (may, sym is)
run_more p fill order None (d ∷ es) s e end ran may is = absurd ran
run_more p fill order (Some u) (d ∷ es) s e end ran may is = (ran.0, run_more p fill order (step p fill order u d) es s e end ran.1 may is)

module _ (r : Run) (now : Standing) (h : IsRunning r now) (going : IsGoing r) where
  abbrev there : IsThere r now
  there = h.going going

  pub has_come : length r.history < 2 ^ 64 → HasCome r
  has_come short = record {
    fresh = h.fresh;
    numbers = h.numbers;
    short = short;
    ran = there.ran;
    sound = there.sound;
    within = within r.program r.capacity now (state_of r) there.at there.room;
  }

  -- the order of the items has small numbers
  pub few : (n : ℕ) → n ≡ length (plan r.program).items → n ≤ most_items → length now.graph.tasks ≤ most_items
  few n same le = let t = few_tasks (plan r.program) now (state_of r) there.at in omega arith

  pub place : (n : ℕ) → n ≡ length (plan r.program).items → n ≤ most_items → now.graph.place ≤ most_items + 1
  place n same le = let b = small_place (plan r.program) now (state_of r) there.at there.below in omega arith

  module _ (e : Event) (may : enabled (plan r.program) (state_of r) e ≡ true) where
    pub able : IsAble (plan r.program) now e
    able = record { state = state_of r; at = there.at; may = may; going = go now.ended refl }
      where
        go : (b : Bool) → now.ended ≡ b → now.ended ≡ false
        go false is = is
        go true is = absurd (nothing_enabled (plan r.program) now (state_of r) there.at is e may)

    module _ (new : Standing) (more : List Event) (long : more ≡ r.history ++ e ∷ []) (filled : r.fresh ≡ fresh_of now.devices)
        (ordered : r.order ≡ now.order.now) (as_before : new.order ≡ now.order)
        (does : Does (plan r.program) now e new) (kept : AreKept now.devices new.devices) where
      abbrev later : Run
      later = record r { order = new.order.now; fresh = fresh_of new.devices; history = more; stopped = None }

      same_fresh : later.fresh ≡ r.fresh
      same_fresh = kept.fresh ∙ sym filled

      same_turns : later.order ≡ r.order
      same_turns = ap (λ (o : Bor (List ℕ)). o.now) as_before ∙ sym ordered

      takes : Takes r e later
      takes = record {
        program = refl;
        input = refl;
        order = same_turns;
        capacity = refl;
        fresh = same_fresh;
        events = long ∙ ap (λ (o : Option Event). with_last r.history o ++ e ∷ []) (sym going);
      }

      led : fine_of later ≡ result_of (fine_of r) e (step (plan r.program) (fill_in r) (order_in r) (state_of r) e)
      led = leads r later e takes
          ∙ ap (λ (f : Fixed). result_of (fine_of r) e (step f.plan f.fill f.order (state_of r) e)) (same_fixed r)

      record IsThen : Type 0 where
        at : IsAt (plan r.program) new (state_of later)
        sound : (fine_of later).failed ≡ false
        stepped : step (plan r.program) (fill_in r) (order_in r) (state_of r) e ≡ Some (state_of later)

      then : IsThen
      then = go (step (plan r.program) (fill_in r) (order_in r) (state_of r) e) refl
          (subst (λ n. IsSomeAnd (step (plan r.program) (λ i c. n) (order_in r) (state_of r) e) (IsAt (plan r.program) new))
          (sym filled)
          (subst (λ ns. IsSomeAnd (step (plan r.program) (fill_from now) (same_order ns) (state_of r) e) (IsAt (plan r.program) new))
          (sym ordered) (does (state_of r) there.at may)))
        where
          go : (o : Option State) → step (plan r.program) (fill_in r) (order_in r) (state_of r) e ≡ o →
              IsSomeAnd o (IsAt (plan r.program) new) → IsThen
          go None is is_at = absurd is_at
          go (Some t) is is_at =
              let to = led ∙ ap (result_of (fine_of r) e) is in
              let state : state_of later ≡ t = ap (λ f. f.state) to in
              record {
                at = subst (IsAt (plan r.program) new) (sym state) is_at;
                sound = ap (λ f. f.failed) to ∙ there.sound;
                stepped = is ∙ ap (λ (u : State). Some u) (sym state);
              }

      pub goes_on : IsRunning later new
      goes_on = record {
        fine = h.fine;
        numbers = h.numbers;
        fresh = subst (λ n. n < 2 ^ 64) (sym same_fresh) h.fresh;
        going = λ g. record {
          at = then.at;
          ran =
              subst (λ n. RunFrom (plan r.program) (λ i c. n) (order_in later) r.input more (Some (state_of later)))
              (sym same_fresh)
              (subst (λ ns. RunFrom (plan r.program) (fill_in r) (same_order ns) r.input more (Some (state_of later)))
              (sym same_turns)
              (subst (λ es. RunFrom (plan r.program) (fill_in r) (order_in r) r.input es (Some (state_of later))) (sym long)
              (run_more (plan r.program) (fill_in r) (order_in r) (Some (start r.input)) r.history (state_of r) e
              (Some (state_of later)) there.ran may then.stepped)));
          sound = then.sound;
          room = kept.room r.capacity there.room;
          below =
              place_after (plan r.program) (fill_in r) (order_in r) (state_of r) (state_of later) e there.at.here there.below may
              then.stepped;
        };
      }

      pub has_done : HasDone r e later
      has_done = record {
        takes = takes;
        history = long;
        going = refl;
        stepped = then.stepped;
        within = within r.program r.capacity new (state_of later) then.at (kept.room r.capacity there.room);
      }
