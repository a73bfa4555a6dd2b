-- What the marks of a graph tell of an item before its event.
use Rattle.std.proofs.Common.{◌≡◌, ℕ, Bool, true, false, List, Some, refl, sym, ap, ◌∙◌, arith}
use Rattle.std.specs.Prelude.{◌==◌, ◌&&◌, ◌||◌, not, slice_get, slice_index}
use Rattle.std.proofs.lemmas.Bool.{and_parts}
use Rattle.std.proofs.lemmas.Option.{same_Some}
use Rattle.base.specs.declared.item.Event.TheVariants.{Open, Wait}
use Rattle.base.specs.Machine.{is_open, is_ready, is_wait, is_waiting}
use Rattle.taskgraph.specs.declared.Stage.{Stage}
use Rattle.taskgraph.specs.declared.Stage.TheVariants as stage
use Rattle.taskgraph.specs.Board.{Facts, Board, allows, condition_of, plan_in, stage_at, state_in}
use Rattle.taskgraph.specs.Marks.{is_marked}
use Rattle.taskgraph.specs.Waiting.{IsCounted, IsGraphWith, begins, is_free_at}
use Rattle.taskgraph.proofs.FreeMarks.{free_here, free_stage}
use Rattle.taskgraph.proofs.Kept.{may_open}
use Rattle.taskgraph.proofs.Ready.{at}
use Rattle.taskgraph.proofs.Readiness.{free_ready}

-- ---- stages that are marked nowhere

pub unready : (st : Stage) → (st ≡ stage.Generated → ⊥) → is_waiting true (condition_of st) ≡ false
unready stage.Generated h = absurd (h refl)
unready stage.Untouched h = refl
unready stage.Open h = refl
unready stage.Closed h = refl
unready stage.Passed h = refl

pub unopened : (st : Stage) → (st ≡ stage.Open → ⊥) → is_open (condition_of st) ≡ false
unopened stage.Open h = absurd (h refl)
unopened stage.Untouched h = refl
unopened stage.Generated h = refl
unopened stage.Closed h = refl
unopened stage.Passed h = refl

-- ---- what is known of an item before its event

-- a deferred item that may be opened has no predecessor left
pub opens_free : (b : Board) (starts counts : List ℕ) (i : ℕ) → IsCounted b starts counts → (a : allows b (Open i) ≡ true) →
    (may_open b i a).facts.deferred ≡ true → is_free_at b.tasks b.stages counts i ≡ true
opens_free b starts counts i h a d =
    let m = may_open b i a in
    let f = m.facts in
    let may : (allows b (Open i) || allows b (Wait i)) ≡ true = ap (λ x. x || allows b (Wait i)) a in
    let p = and_parts (is_ready (plan_in b) (state_in b) i) (begins f (stage_at b i) (b.place == i)) (sym (at b i f m.is) ∙ may) in
    let none : slice_index counts i ≡ 0 = h.missing i m.inside ∙ free_ready b (slice_index starts i) i p.0 in
    free_here b.tasks b.stages counts i 0 f stage.Generated m.is (m.deferred d) none
    ∙ ap (λ x. (x && not (is_wait f.kind)) && true) d ∙ ap (λ x. (true && not x) && true) m.no_wait

-- so it is marked where it is deferred
pub ready_where : (b : Board) (starts ends counts : List ℕ) (first i : ℕ) (os rs : List Bool) (f : Facts) →
    IsGraphWith b starts ends counts first os rs → allows b (Open i) ≡ true → slice_get b.tasks i ≡ Some f →
    is_marked rs i ≡ f.deferred
ready_where b starts ends counts first i os rs f g a e = go f.deferred refl
  where
    same : (may_open b i a).facts.deferred ≡ f.deferred
    same = let m = may_open b i a in ap (λ (w : Facts). w.deferred) (same_Some m.facts f (sym m.is ∙ e))

    go : (d : Bool) → f.deferred ≡ d → is_marked rs i ≡ f.deferred
    go true d = g.ready.each i ∙ opens_free b starts counts i g.graph.counted a (same ∙ d) ∙ sym d
    go false d =
        g.ready.each i ∙ free_stage b.tasks b.stages counts i stage.Untouched ((may_open b i a).here (same ∙ d)).1 refl ∙ sym d

-- and it is not open yet
pub not_open : (b : Board) (starts ends counts : List ℕ) (first i : ℕ) (os rs : List Bool) →
    IsGraphWith b starts ends counts first os rs → allows b (Open i) ≡ true → is_marked os i ≡ false
not_open b starts ends counts first i os rs g a =
    g.opened.each i ∙ unopened (stage_at b i) (λ e. go (may_open b i a).facts.deferred refl e)
  where
    go : (d : Bool) → (may_open b i a).facts.deferred ≡ d → stage_at b i ≡ stage.Open → ⊥
    go true d e = let bad : stage.Generated ≡ stage.Open = sym ((may_open b i a).deferred d) ∙ e in cc
    go false d e = let bad : stage.Untouched ≡ stage.Open = sym ((may_open b i a).here d).1 ∙ e in cc

-- the item at the host's place is not generated
pub not_ready : (b : Board) (starts ends counts : List ℕ) (first i : ℕ) (os rs : List Bool) →
    IsGraphWith b starts ends counts first os rs → b.place ≡ i → is_marked rs i ≡ false
not_ready b starts ends counts first i os rs g here =
    g.ready.each i ∙ free_stage b.tasks b.stages counts i (stage_at b i) refl
    (unready (stage_at b i) (λ e. omega (arith, g.graph.counted.generated i e, here)))
