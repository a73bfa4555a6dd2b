-- What each event keeps of a graph.
use Rattle.std.proofs.Common.{◌≡◌, ℕ, ◌<◌, Bool, true, false, length, map, Option, Some, None, refl, sym, ap, subst, ◌∙◌}
use Rattle.std.specs.Prelude.{◌||◌, ◌==◌, not, slice_get, option_map}
use Rattle.std.proofs.lemmas.Bool.{and_parts, eqb-true, not-true}
use Rattle.std.proofs.lemmas.Option.{slice_get-map, slice_get_within}
use Rattle.base.specs.declared.item.Event.TheVariants.{Gen, Open, Close, Wait}
use Rattle.base.specs.Items.{Work}
use Rattle.base.specs.Machine.{is_open, is_wait, is_waiting, on_item}
use Rattle.taskgraph.specs.declared.Stage.{Stage}
use Rattle.taskgraph.specs.declared.Stage.TheVariants as stage
use Rattle.taskgraph.specs.Board.{Facts, Board, work_of, plan_in, state_in, stage_at, condition_of, allows}

-- an item of which a question is answered with yes
record Found (b : Board) (i : ℕ) (g : Work → Bool) : Type 0 where
  facts : Facts
  is : slice_get b.tasks i ≡ Some facts
  inside : i < length b.tasks
  yes : g (work_of facts) ≡ true

find_item : (b : Board) (i : ℕ) (g : Work → Bool) → on_item (plan_in b) i false g ≡ true → Found b i g
find_item b i g e = go (slice_get b.tasks i) refl
  where
    go : (o : Option Facts) → slice_get b.tasks i ≡ o → Found b i g
    go None f =
        let none : slice_get (map work_of b.tasks) i ≡ None = slice_get-map work_of b.tasks i ∙ ap (option_map work_of) f in
        let bad : false ≡ true = sym (ap (λ o. elim o [ None ↦ false | Some w ↦ g w ]) none) ∙ e in absurd cc
    go (Some t) f =
        let some : slice_get (map work_of b.tasks) i ≡ Some (work_of t) =
        slice_get-map work_of b.tasks i ∙ ap (option_map work_of) f in
        record {
          facts = t;
          is = f;
          inside = slice_get_within b.tasks i t f;
          yes = sym (ap (λ o. elim o [ None ↦ false | Some w ↦ g w ]) some) ∙ e;
        }

-- ---- what an event asks

pub record MayGenerate (b : Board) (i : ℕ) : Type 0 where
  pub here : b.place ≡ i
  pub facts : Facts
  pub is : slice_get b.tasks i ≡ Some facts
  pub inside : i < length b.tasks
  pub deferred : facts.deferred ≡ true

pub may_generate : (b : Board) (i : ℕ) → allows b (Gen i) ≡ true → MayGenerate b i
may_generate b i e =
    let p = and_parts (b.place == i) (on_item (plan_in b) i false (λ w. w.deferred)) e in
    let f = find_item b i (λ w. w.deferred) p.1 in
    record { here = eqb-true b.place i p.0; facts = f.facts; is = f.is; inside = f.inside; deferred = f.yes }

pub record MayPass (b : Board) (i : ℕ) : Type 0 where
  pub here : b.place ≡ i
  pub facts : Facts
  pub is : slice_get b.tasks i ≡ Some facts
  pub inside : i < length b.tasks
  pub wait : is_wait facts.kind ≡ true

pub may_pass : (b : Board) (i : ℕ) → allows b (Wait i) ≡ true → MayPass b i
may_pass b i e =
    let p = and_parts (b.place == i) _ e in
    let q = and_parts (on_item (plan_in b) i false (λ w. is_wait w.kind)) _ p.1 in
    let f = find_item b i (λ w. is_wait w.kind) q.0 in
    record { here = eqb-true b.place i p.0; facts = f.facts; is = f.is; inside = f.inside; wait = f.yes }

pub record MayOpen (b : Board) (i : ℕ) : Type 0 where
  pub facts : Facts
  pub is : slice_get b.tasks i ≡ Some facts
  pub inside : i < length b.tasks
  pub no_wait : is_wait facts.kind ≡ false
  pub deferred : facts.deferred ≡ true → stage_at b i ≡ stage.Generated
  pub here : facts.deferred ≡ false → (b.place ≡ i) × (stage_at b i ≡ stage.Untouched)

pub is_generated : (st : Stage) → is_waiting true (condition_of st) ≡ true → st ≡ stage.Generated
is_generated stage.Generated e = refl
is_generated stage.Untouched e = absurd cc
is_generated stage.Open e = absurd cc
is_generated stage.Closed e = absurd cc
is_generated stage.Passed e = absurd cc

is_untouched : (st : Stage) → is_waiting false (condition_of st) ≡ true → st ≡ stage.Untouched
is_untouched stage.Untouched e = refl
is_untouched stage.Generated e = absurd cc
is_untouched stage.Open e = absurd cc
is_untouched stage.Closed e = absurd cc
is_untouched stage.Passed e = absurd cc

pub may_open : (b : Board) (i : ℕ) → allows b (Open i) ≡ true → MayOpen b i
may_open b i e =
    let f = find_item b i _ e in
    let p = and_parts (not (is_wait f.facts.kind)) _ f.yes in
    let q = and_parts (f.facts.deferred || (b.place == i)) _ p.1 in
    let r = and_parts (is_waiting f.facts.deferred ((state_in b).condition i)) _ q.1 in
    record {
      facts = f.facts;
      is = f.is;
      inside = f.inside;
      no_wait = not-true (is_wait f.facts.kind) p.0;
      deferred = λ d. is_generated (stage_at b i)
          (subst (λ x. is_waiting x ((state_in b).condition i) ≡ true) d r.0);
      here = λ d. (
        eqb-true b.place i (subst (λ x. (x || (b.place == i)) ≡ true) d q.0),
        is_untouched (stage_at b i) (subst (λ x. is_waiting x ((state_in b).condition i) ≡ true) d r.0),
      );
    }

is_open_stage : (st : Stage) → is_open (condition_of st) ≡ true → st ≡ stage.Open
is_open_stage stage.Open e = refl
is_open_stage stage.Untouched e = absurd cc
is_open_stage stage.Generated e = absurd cc
is_open_stage stage.Closed e = absurd cc
is_open_stage stage.Passed e = absurd cc

pub record MayClose (b : Board) (i : ℕ) : Type 0 where
  pub facts : Facts
  pub is : slice_get b.tasks i ≡ Some facts
  pub inside : i < length b.tasks
  pub stage_is : stage_at b i ≡ stage.Open

pub may_close : (b : Board) (i : ℕ) → allows b (Close i) ≡ true → MayClose b i
may_close b i e =
    let f = find_item b i (λ w. is_open ((state_in b).condition i)) e in
    record { facts = f.facts; is = f.is; inside = f.inside; stage_is = is_open_stage (stage_at b i) f.yes }
