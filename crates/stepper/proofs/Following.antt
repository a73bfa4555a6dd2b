-- What the events that take no action leave: an item is generated, a wait is passed, the end.
use Rattle.std.proofs.Common.{◌≡◌, ◌≢◌, ◌+◌, ◌<◌, ℕ, Bool, true, false, List, length, Some, refl, sym, ap, ◌∙◌, subst, arith}
use Rattle.std.specs.Prelude.{◌==◌, if◌then◌else◌, slice_get, slice_index, Vec}
use Rattle.std.specs.List.{slice_set}
use Rattle.std.specs.declared.alloc.Global.{Global}
use Rattle.std.proofs.lemmas.Bool.{true≢false, eqb-true}
use Rattle.std.proofs.lemmas.Bool.Decides.{nat_tests}
use Rattle.std.proofs.lemmas.Option.{same_Some, slice_get_within}
use Rattle.std.proofs.lemmas.List.{length-set}
use Rattle.base.specs.declared.item.Event.TheVariants as event
use Rattle.base.specs.Items.{Plan}
use Rattle.base.proofs.Places.{get_set_same, get_set_other}
use Rattle.base.proofs.Runs.{enabled_End}
use Rattle.fine_machine.specs.Machine.{State, Condition, Generated, Passed, as_whole, enabled, step}
use Rattle.taskgraph.specs.Board.{Board, Follows as GraphFollows}
use Rattle.stepper.specs.declared.standing.Slot.{Slot}
use Rattle.stepper.specs.declared.standing.Slot.TheVariants as slot
use Rattle.stepper.specs.declared.standing.Standing.{Standing}
use Rattle.stepper.specs.Standing.{IsAt, Keeps, fill_from, order_from, place_of}
use Rattle.stepper.proofs.Places.{here_after, not_open, only_here}
use Rattle.stepper.proofs.Stages.{generates, passes, stands_after}

number_not : (j i : ℕ) → (j == i) ≡ false → i ≢ j
number_not j i h e = grind (arith, nat_tests)

module _ (lengths : List ℕ) (xs : List Slot) (conditions : ℕ → Condition) (n : ℕ)
    (keeps : (j : ℕ) → j < n → Keeps lengths (conditions j) (slice_get xs j)) (i : ℕ) (c : Condition) where
  -- what is kept for each item, where one has another condition
  pub keeps_at : Keeps lengths c (slice_get xs i) → (j : ℕ) → j < n →
      Keeps lengths (if j == i then c else conditions j) (slice_get xs j)
  keeps_at own j lt = go (j == i) refl
    where
      go : (b : Bool) → (j == i) ≡ b → Keeps lengths (if b then c else conditions j) (slice_get xs j)
      go false h = keeps j lt
      go true h = subst (λ k. Keeps lengths c (slice_get xs k)) (sym (eqb-true j i h)) own

  -- the same, where something else is kept for it
  pub keeps_set : (x : Slot) → i < length xs → Keeps lengths c (Some x) → (j : ℕ) → j < n →
      Keeps lengths (if j == i then c else conditions j) (slice_get (slice_set xs i x) j)
  keeps_set x inside own j lt = go (j == i) refl
    where
      go : (b : Bool) → (j == i) ≡ b → Keeps lengths (if b then c else conditions j) (slice_get (slice_set xs i x) j)
      go false h =
          subst (λ o. Keeps lengths (conditions j) o) (sym (get_set_other xs i x j (number_not j i h))) (keeps j lt)
      go true h =
          subst (λ k. Keeps lengths c (slice_get (slice_set xs i x) k)) (sym (eqb-true j i h))
          (subst (λ o. Keeps lengths c o) (sym (get_set_same xs i x inside)) own)

-- before the end the host is where the graph has it
pub before_end : (plan : Plan) (now : Standing) (s : State) → IsAt plan now s → now.ended ≡ false →
    s.place ≡ now.graph.place
before_end plan now s at going = at.place ∙ ap (λ b. place_of b now.graph.place) going

module _ (plan : Plan) (old : Standing) (s t : State) (at : IsAt plan old s) (going : old.ended ≡ false) (g : Board) where
  here : s.place ≡ old.graph.place
  here = before_end plan old s at going

  pub passed : (i : ℕ) → s.place ≡ i → GraphFollows old.graph (event.Wait i) g → step plan (fill_from old) (order_from old) s (event.Wait i) ≡ Some t →
      IsAt plan (record old { graph = g }) t
  passed i at_i follows e = subst (λ x. IsAt plan (record old { graph = g }) x) (same_Some next t e) made
    where
      next : State
      next = record s { place = s.place + 1; condition = λ k. if k == i then Passed else s.condition k }

      made : IsAt plan (record old { graph = g }) next
      made = record {
        host = at.host;
        lengths = at.lengths;
        devices = at.devices;
        alike = at.alike;
        counts = at.counts;
        graph =
            stands_after plan s next old.graph.place i _ _ old.graph g Passed at.graph (passes old.graph g i follows) refl refl;
        place =
            ap (λ n. n + 1) here ∙ (passes old.graph g i follows).place ∙ sym (ap (λ b. place_of b g.place) going);
        ended = λ d. absurd (true≢false (sym d ∙ going));
        scalars = at.scalars;
        input = at.input;
        output = at.output;
        slots = at.slots;
        here = here_after plan s (s.place + 1) i Passed at.here (λ w is now o. not_open Passed refl o)
            (λ j other there. only_here s i j at_i other there);
        kept = keeps_at plan.lengths old.slots.items s.condition (length plan.items) at.kept i Passed tt;
      }

  pub generated : (i : ℕ) (b : List ℕ) (hs : Vec Slot Global) → s.place ≡ i → GraphFollows old.graph (event.Gen i) g →
      hs.items ≡ slice_set old.slots.items i (slot.Captured b) → i < length old.slots.items → b ≡ old.scalars →
      step plan (fill_from old) (order_from old) s (event.Gen i) ≡ Some t →
      IsAt plan (record old { graph = g; slots = hs }) t
  generated i b hs at_i follows set lt captured e =
      subst (λ x. IsAt plan (record old { graph = g; slots = hs }) x) (same_Some next t e) made
    where
      next : State
      next =
          record s { place = s.place + 1; condition = λ k. if k == i then Generated s.scalars else s.condition k }

      made : IsAt plan (record old { graph = g; slots = hs }) next
      made = record {
        host = at.host;
        lengths = at.lengths;
        devices = at.devices;
        alike = at.alike;
        counts = at.counts;
        graph =
            stands_after plan s next old.graph.place i _ _ old.graph g (Generated s.scalars) at.graph
            (generates old.graph g i follows) refl refl;
        place =
            ap (λ n. n + 1) here ∙ (generates old.graph g i follows).place ∙ sym (ap (λ b. place_of b g.place) going);
        ended = λ d. absurd (true≢false (sym d ∙ going));
        scalars = at.scalars;
        input = at.input;
        output = at.output;
        slots = ap (λ (xs : List Slot). length xs) set ∙ length-set old.slots.items i (slot.Captured b) ∙ at.slots;
        here = here_after plan s (s.place + 1) i (Generated s.scalars) at.here (λ w is now o. not_open (Generated s.scalars) refl o)
            (λ j other there. only_here s i j at_i other there);
        kept =
            subst (λ (xs : List Slot). (j : ℕ) → j < length plan.items →
            Keeps plan.lengths (if j == i then Generated s.scalars else s.condition j) (slice_get xs j)) (sym set)
            (keeps_set plan.lengths old.slots.items s.condition (length plan.items) at.kept i (Generated s.scalars)
            (slot.Captured b) lt (at.scalars ∙ ap (λ (xs : List ℕ). slice_index xs) (sym captured)));
      }

-- the host comes to the end
pub ends : (plan : Plan) (old : Standing) (s t : State) → IsAt plan old s → old.ended ≡ false →
    enabled plan s event.End ≡ true → step plan (fill_from old) (order_from old) s event.End ≡ Some t →
    IsAt plan (record old { ended = true }) t
ends plan old s t at going may e =
    subst (λ x. IsAt plan (record old { ended = true }) x) (same_Some (record s { place = s.place + 1 }) t e)
    (record {
      host = at.host;
      lengths = at.lengths;
      devices = at.devices;
      alike = at.alike;
      counts = at.counts;
      graph = at.graph;
      place = ap (λ n. n + 1) here;
      ended = λ d. (sym here ∙ (enabled_End plan (as_whole s) may).0, (enabled_End plan (as_whole s) may).1);
      scalars = at.scalars;
      input = at.input;
      output = at.output;
      slots = at.slots;
      here = λ j w is now o.
          let there = at.here j w is now o in
          let lt = slice_get_within plan.items j w is in
          let last = (enabled_End plan (as_whole s) may).0 in
          absurd (omega (arith, there, last, lt));
      kept = at.kept;
    })
  where
    here : s.place ≡ old.graph.place
    here = before_end plan old s at going
