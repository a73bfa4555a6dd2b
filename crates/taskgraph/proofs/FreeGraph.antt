-- The marks of a graph are right after each event.
use Rattle.std.proofs.Common.{◌≡◌, ◌⊎◌, inl, inr, ℕ, ◌+◌, ◌<◌, Bool, true, false, List, length, Some, refl, sym, ap, ◌∙◌, arith}
use Rattle.std.specs.Prelude.{slice_get, slice_index}
use Rattle.std.specs.List.{slice_set}
use Rattle.std.proofs.lemmas.List.{get_or-set_same}
use Rattle.std.proofs.lemmas.Option.{same_Some}
use Rattle.base.specs.declared.item.Event.TheVariants.{Gen, Open, Close, Wait}
use Rattle.base.specs.Machine.{is_open}
use Rattle.taskgraph.specs.declared.Stage.{Stage}
use Rattle.taskgraph.specs.declared.Stage.TheVariants as stage
use Rattle.taskgraph.specs.Board.{Facts, Board, allows, condition_of, stage_at}
use Rattle.taskgraph.specs.Marks.{is_marked}
use Rattle.taskgraph.specs.Waiting.{AreFree, AreMarks, IsFirst, IsGraphWith, is_free, is_free_at, is_open_in}
use Rattle.taskgraph.proofs.Before.{unopened, unready}
use Rattle.taskgraph.proofs.Closes.{opened_at}
use Rattle.taskgraph.proofs.Counts.{set_at, stage_kept, stage_set}
use Rattle.taskgraph.proofs.Events.{generated, opened, passed}
use Rattle.taskgraph.proofs.FreeMarks.{free_same, free_stage, marks_same, marks_set, stage_set_free, stage_set_mark}
use Rattle.taskgraph.proofs.Kept.{may_close, may_generate, may_open, may_pass}
use Rattle.std.proofs.lemmas.Bool.{cases_eq}

-- ---- the open items

-- a stage is set, and the mark with it
pub open_set : (b : Board) (i place : ℕ) (st : Stage) (marks : List Bool) → i < length b.stages → i < length b.tasks →
    AreMarks (length b.tasks) (is_open_in b) marks →
    AreMarks (length b.tasks) (is_open_in (set_at b i st place)) (slice_set marks i (is_open (condition_of st)))
open_set b i place st marks lt inside h =
    marks_set (length b.tasks) i (is_open_in b) (is_open_in (set_at b i st place)) marks (is_open (condition_of st)) h inside
    (ap (λ x. is_open (condition_of x)) (stage_set b i st place lt))
    (λ k ne. ap (λ x. is_open (condition_of x)) (sym (stage_kept b i k st place ne)))

-- the stage of an item that is not open is set to another such
pub open_kept : (b : Board) (i place : ℕ) (st : Stage) (marks : List Bool) → i < length b.stages →
    (stage_at b i ≡ stage.Open → ⊥) → is_open (condition_of st) ≡ false →
    AreMarks (length b.tasks) (is_open_in b) marks → AreMarks (length b.tasks) (is_open_in (set_at b i st place)) marks
open_kept b i place st marks lt was now h =
    marks_same (length b.tasks) (is_open_in b) (is_open_in (set_at b i st place)) marks h (λ k. go k (cases_eq k i))
  where
    go : (k : ℕ) → (k ≡ i) ⊎ (k ≡ i → ⊥) → is_open_in b k ≡ is_open_in (set_at b i st place) k
    go k (inr ne) = ap (λ x. is_open (condition_of x)) (sym (stage_kept b i k st place ne))
    go k (inl e) =
        ap (is_open_in b) e ∙ unopened (stage_at b i) was ∙ sym now
        ∙ ap (λ x. is_open (condition_of x)) (sym (stage_set b i st place lt))
        ∙ ap (is_open_in (set_at b i st place)) (sym e)

-- ---- after an event

pub generated_with : (b : Board) (starts ends counts : List ℕ) (first i : ℕ) (os rs : List Bool) (f : Facts) →
    IsGraphWith b starts ends counts first os rs → allows b (Gen i) ≡ true → slice_get b.tasks i ≡ Some f →
    IsGraphWith (set_at b i stage.Generated (b.place + 1)) starts ends counts first os
    (slice_set rs i (is_free f stage.Generated (slice_index counts i)))
generated_with b starts ends counts first i os rs f g a e =
    let m = may_generate b i a in
    let lt : i < length b.stages = omega (arith, m.inside, g.graph.counted.stages) in
    let deferred : f.deferred ≡ true = ap (λ (w : Facts). w.deferred) (same_Some f m.facts (sym e ∙ m.is)) ∙ m.deferred in
    record {
      graph = generated b starts ends counts first i g.graph a;
      opened = open_kept b i (b.place + 1) stage.Generated os lt
          (λ q. omega (arith, (opened_at b starts counts i f g.graph.counted q e).2 deferred, m.here)) refl g.opened;
      ready = stage_set_mark b.tasks b.stages counts i (slice_index counts i) stage.Generated f rs lt e m.inside refl g.ready;
    }

pub opened_with : (b : Board) (starts ends counts : List ℕ) (first i : ℕ) (os rs : List Bool) →
    IsGraphWith b starts ends counts first os rs → allows b (Open i) ≡ true →
    IsGraphWith (set_at b i stage.Open b.place) starts ends counts first (slice_set os i true) (slice_set rs i false)
opened_with b starts ends counts first i os rs g a =
    let m = may_open b i a in
    let lt : i < length b.stages = omega (arith, m.inside, g.graph.counted.stages) in
    record {
      graph = opened b starts ends counts first i g.graph a;
      opened = open_set b i b.place stage.Open os lt m.inside g.opened;
      ready = marks_set (length b.tasks) i (is_free_at b.tasks b.stages counts)
          (is_free_at b.tasks (slice_set b.stages i stage.Open) counts) rs false g.ready m.inside
          (free_stage b.tasks (slice_set b.stages i stage.Open) counts i stage.Open
          (get_or-set_same b.stages i stage.Open stage.Untouched lt) refl)
          (λ k ne. other k ne);
    }
  where
    other : (k : ℕ) → (k ≡ i → ⊥) →
        is_free_at b.tasks b.stages counts k ≡ is_free_at b.tasks (slice_set b.stages i stage.Open) counts k
    other k ne = free_same b.tasks b.stages (slice_set b.stages i stage.Open) counts counts k (sym (stage_kept b i k stage.Open b.place ne)) refl

pub passed_with : (b : Board) (starts ends counts : List ℕ) (first next i : ℕ) (os rs : List Bool) →
    IsGraphWith b starts ends counts first os rs → allows b (Wait i) ≡ true →
    IsFirst (set_at b i stage.Passed (b.place + 1)) next →
    IsGraphWith (set_at b i stage.Passed (b.place + 1)) starts ends counts next os rs
passed_with b starts ends counts first next i os rs g a f =
    let m = may_pass b i a in
    let lt : i < length b.stages = omega (arith, m.inside, g.graph.counted.stages) in
    record {
      graph = passed b starts ends counts first next i g.graph a f;
      opened = open_kept b i (b.place + 1) stage.Passed os lt
          (λ q. let bad : true ≡ false = sym m.wait ∙ (opened_at b starts counts i m.facts g.graph.counted q m.is).0 in cc) refl g.opened;
      ready = stage_set_free b.tasks b.stages counts i stage.Passed (stage_at b i) rs lt refl
          (unready (stage_at b i) (λ e. omega (arith, g.graph.counted.generated i e, m.here))) refl g.ready;
    }

-- the marks after an open item was closed, before any count is taken down
pub closed_free : (b : Board) (starts ends counts : List ℕ) (first i : ℕ) (os rs : List Bool) →
    IsGraphWith b starts ends counts first os rs → allows b (Close i) ≡ true →
    AreFree b.tasks (slice_set b.stages i stage.Closed) counts rs
closed_free b starts ends counts first i os rs g a =
    let m = may_close b i a in
    stage_set_free b.tasks b.stages counts i stage.Closed stage.Open rs (omega (arith, m.inside, g.graph.counted.stages))
    m.stage_is refl refl g.ready

pub closed_open : (b : Board) (starts ends counts : List ℕ) (first i place : ℕ) (os rs : List Bool) →
    IsGraphWith b starts ends counts first os rs → allows b (Close i) ≡ true →
    AreMarks (length b.tasks) (is_open_in (set_at b i stage.Closed place)) (slice_set os i false)
closed_open b starts ends counts first i place os rs g a =
    let m = may_close b i a in
    open_set b i place stage.Closed os (omega (arith, m.inside, g.graph.counted.stages)) m.inside g.opened

pub is_opened : (b : Board) (starts ends counts : List ℕ) (first i : ℕ) (os rs : List Bool) →
    IsGraphWith b starts ends counts first os rs → allows b (Close i) ≡ true → is_marked os i ≡ true
is_opened b starts ends counts first i os rs g a =
    g.opened.each i ∙ ap (λ x. is_open (condition_of x)) (may_close b i a).stage_is
