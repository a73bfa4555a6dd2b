-- What the events that take no frame leave.
use Rattle.std.proofs.Common.{◌≡◌, ◌≢◌, ◌+◌, ◌<◌, ℕ, Bool, true, false, List, length, Some, refl, sym, ap, ◌∙◌, subst, arith}
use Rattle.std.specs.Prelude.{◌==◌, if◌then◌else◌, slice_get, slice_index}
use Rattle.std.specs.List.{slice_set}
use Rattle.std.proofs.lemmas.Bool.{true≢false, eqb-true}
use Rattle.std.proofs.lemmas.Bool.Decides.{nat_tests}
use Rattle.std.proofs.lemmas.Option.{same_Some}
use Rattle.std.proofs.lemmas.List.{length-set}
use Rattle.base.specs.declared.item.Event.TheVariants as event
use Rattle.base.specs.Items.{Work, Plan}
use Rattle.base.specs.Machine.{State, Condition, Generated, Passed, enabled, step}
use Rattle.base.proofs.Places.{get_set_same, get_set_other}
use Rattle.base.proofs.Runs.{enabled_End}
use Rattle.std.specs.declared.alloc.Global.{Global}
use Rattle.std.specs.Prelude.{Vec}
use Rattle.taskgraph.specs.Board.{Board, Stands, Follows as GraphFollows, stage_at, stage_of}
use Rattle.device.specs.declared.standing.Held.{Held}
use Rattle.device.specs.declared.standing.Held.TheVariants as held
use Rattle.device.specs.declared.standing.Standing.{Standing}
use Rattle.device.specs.Standing.{IsAt, Keeps, fill_from, place_of}

number_not : (j i : ℕ) → (j == i) ≡ false → i ≢ j
number_not j i h e = grind (arith, nat_tests)

-- the host moves on before the end
moved : (b : Bool) (n m : ℕ) → b ≡ false → n + 1 ≡ m → place_of b n + 1 ≡ place_of b m
moved true n m b e = absurd (true≢false b)
moved false n m b e = e

-- a graph stands for states that differ in the host's place alone, at its own place
pub stands_again : (plan : Plan) (s t : State) (g : Board) → Stands plan s g → s.condition ≡ t.condition →
    Stands plan (record t { place = g.place }) g
stands_again plan s t g h e = record {
  items = h.items;
  place = refl;
  conditions = λ i lt. subst (λ (f : ℕ → Condition). HasStage f i) e (h.conditions i lt);
}
  where
    HasStage : (ℕ → Condition) → ℕ → Type 0
    HasStage f i = stage_of (f i) ≡ stage_at g i

module _ (plan : Plan) (xs : List Held) (input : List ℕ) (conditions : ℕ → Condition)
    (keeps : (j : ℕ) (w : Work) → slice_get plan.items j ≡ Some w → Keeps j w input (conditions j) (slice_get xs j))
    (i : ℕ) (c : Condition) where
  -- what is kept for each item, where one has another condition
  pub keeps_at : ((w : Work) → slice_get plan.items i ≡ Some w → Keeps i w input c (slice_get xs i)) →
      (j : ℕ) (w : Work) → slice_get plan.items j ≡ Some w →
      Keeps j w input (if j == i then c else conditions j) (slice_get xs j)
  keeps_at own j w e = go (j == i) refl
    where
      go : (b : Bool) → (j == i) ≡ b → Keeps j w input (if b then c else conditions j) (slice_get xs j)
      go false h = keeps j w e
      go true h =
          let same : i ≡ j = sym (eqb-true j i h) in
          subst (λ k. Keeps k w input c (slice_get xs k)) same (own w (ap (slice_get plan.items) same ∙ e))

  -- the same, where something else is kept for it
  pub keeps_set : (x : Held) → i < length xs →
      ((w : Work) → slice_get plan.items i ≡ Some w → Keeps i w input c (Some x)) →
      (j : ℕ) (w : Work) → slice_get plan.items j ≡ Some w →
      Keeps j w input (if j == i then c else conditions j) (slice_get (slice_set xs i x) j)
  keeps_set x lt own j w e = go (j == i) refl
    where
      go : (b : Bool) → (j == i) ≡ b →
          Keeps j w input (if b then c else conditions j) (slice_get (slice_set xs i x) j)
      go false h =
          subst (λ o. Keeps j w input (conditions j) o) (sym (get_set_other xs i x j (number_not j i h))) (keeps j w e)
      go true h =
          let same : i ≡ j = sym (eqb-true j i h) in
          subst (λ k. Keeps k w input c (slice_get (slice_set xs i x) k)) same
          (subst (λ o. Keeps i w input c o) (sym (get_set_same xs i x lt)) (own w (ap (slice_get plan.items) same ∙ e)))

module _ (plan : Plan) (old : Standing) (s t : State) (at : IsAt plan old s) (going : old.ended ≡ false) (g : Board) where
  pub passed : (i : ℕ) → GraphFollows old.graph (event.Wait i) g → step plan (fill_from old) s (event.Wait i) ≡ Some t →
      IsAt plan (record old { graph = g }) t
  passed i follows e = subst (λ x. IsAt plan (record old { graph = g }) x) (same_Some next t e) made
    where
      next : State
      next = record s { place = s.place + 1; condition = λ k. if k == i then Passed else s.condition k }

      stands : Stands plan (record next { place = old.graph.place + 1 }) g
      stands = follows plan (fill_from old) (record s { place = old.graph.place }) _ at.graph refl

      made : IsAt plan (record old { graph = g }) next
      made = record {
        host = at.host;
        lengths = at.lengths;
        devices = at.devices;
        alike = at.alike;
        counts = at.counts;
        graph = stands_again plan _ next g stands refl;
        place = ap (λ n. n + 1) at.place ∙ moved old.ended old.graph.place g.place going stands.place;
        ended = λ d. absurd (true≢false (sym d ∙ going));
        scalars = at.scalars;
        input = at.input;
        output = at.output;
        slots = at.slots;
        held = keeps_at plan old.held.items s.input s.condition at.held i Passed (λ w e. tt);
      }

  pub generated : (i : ℕ) (b : _) (hs : Vec Held Global) → GraphFollows old.graph (event.Gen i) g →
      hs.items ≡ slice_set old.held.items i (held.Captured b) → i < length old.held.items → b ≡ old.scalars →
      step plan (fill_from old) s (event.Gen i) ≡ Some t →
      IsAt plan (record old { graph = g; held = hs }) t
  generated i b hs follows set lt captured e =
      subst (λ x. IsAt plan (record old { graph = g; held = hs }) x) (same_Some next t e) made
    where
      next : State
      next =
          record s { place = s.place + 1; condition = λ k. if k == i then Generated s.scalars else s.condition k }

      stands : Stands plan (record next { place = old.graph.place + 1 }) g
      stands = follows plan (fill_from old) (record s { place = old.graph.place }) _ at.graph refl

      made : IsAt plan (record old { graph = g; held = hs }) next
      made = record {
        host = at.host;
        lengths = at.lengths;
        devices = at.devices;
        alike = at.alike;
        counts = at.counts;
        graph = stands_again plan _ next g stands refl;
        place = ap (λ n. n + 1) at.place ∙ moved old.ended old.graph.place g.place going stands.place;
        ended = λ d. absurd (true≢false (sym d ∙ going));
        scalars = at.scalars;
        input = at.input;
        output = at.output;
        slots = ap (λ (xs : List Held). length xs) set ∙ length-set old.held.items i (held.Captured b) ∙ at.slots;
        held =
            subst (λ (xs : List Held). (j : ℕ) (w : Work) → slice_get plan.items j ≡ Some w →
            Keeps j w s.input (if j == i then Generated s.scalars else s.condition j) (slice_get xs j)) (sym set)
            (keeps_set plan old.held.items s.input s.condition at.held i (Generated s.scalars) (held.Captured b) lt
            (λ w e. at.scalars ∙ ap (λ (xs : List ℕ). slice_index xs) (sym captured)));
      }

-- the host comes to the end
pub ends : (plan : Plan) (old : Standing) (s t : State) → IsAt plan old s → old.ended ≡ false →
    enabled plan s event.End ≡ true → step plan (fill_from old) s event.End ≡ Some t →
    IsAt plan (record old { ended = true }) t
ends plan old s t at going may e =
    subst (λ x. IsAt plan (record old { ended = true }) x) (same_Some (record s { place = s.place + 1 }) t e)
    (record {
      host = at.host;
      lengths = at.lengths;
      devices = at.devices;
      alike = at.alike;
      counts = at.counts;
      graph = at.graph;
      place = ap (λ n. n + 1) here;
      ended = λ d. (sym here ∙ (enabled_End plan s may).0, (enabled_End plan s may).1);
      scalars = at.scalars;
      input = at.input;
      output = at.output;
      slots = at.slots;
      held = at.held;
    })
  where
    here : s.place ≡ old.graph.place
    here = at.place ∙ ap (λ b. place_of b old.graph.place) going
