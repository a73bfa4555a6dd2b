-- The counts stay right where an item is generated, opened or passed.
use Rattle.std.proofs.Common.{◌≡◌, ◌⊎◌, inl, inr, ℕ, ◌+◌, ◌<◌, Bool, true, false, List, length, Option, Some, None, refl, sym, ap, subst, ◌∙◌, arith}
use Rattle.std.specs.Prelude.{slice_get, slice_index}
use Rattle.std.proofs.lemmas.Bool.{cases_eq}
use Rattle.std.proofs.lemmas.List.{length-set}
use Rattle.base.specs.declared.item.Event.TheVariants.{Gen, Open, Wait}
use Rattle.base.specs.Machine.{is_closed, is_wait}
use Rattle.taskgraph.specs.declared.Stage.{Stage}
use Rattle.taskgraph.specs.declared.Stage.TheVariants as stage
use Rattle.taskgraph.specs.Board.{Facts, Board, stage_at, condition_of, allows}
use Rattle.taskgraph.specs.Waiting.{IsCounted, IsOpenTask, waits_for}
use Rattle.taskgraph.proofs.Counts.{closed_in, set_at, stage_set, stage_kept, set_keeps}
use Rattle.taskgraph.proofs.Kept.{may_generate, may_pass, may_open}

-- the stage of an item after one was set
pub after : (b : Board) (i k : ℕ) (st v : Stage) (place : ℕ) → i < length b.stages → stage_at (set_at b i st place) k ≡ v →
    ((k ≡ i) × (st ≡ v)) ⊎ ((k ≡ i → ⊥) × (stage_at b k ≡ v))
after b i k st v place lt e = go (cases_eq k i)
  where
    go : (k ≡ i) ⊎ (k ≡ i → ⊥) → ((k ≡ i) × (st ≡ v)) ⊎ ((k ≡ i → ⊥) × (stage_at b k ≡ v))
    go (inl same) = inl (same, sym (stage_set b i st place lt) ∙ ap (stage_at (set_at b i st place)) (sym same) ∙ e)
    go (inr ne) = inr (ne, sym (stage_kept b i k st place ne) ∙ e)

pub not_closed : (b : Board) (i : ℕ) → (stage_at b i ≡ stage.Closed → ⊥) → closed_in b i ≡ false
not_closed b i h = go (stage_at b i) refl
  where
    go : (st : Stage) → stage_at b i ≡ st → closed_in b i ≡ false
    go stage.Untouched e = ap (λ x. is_closed (condition_of x)) e
    go stage.Generated e = ap (λ x. is_closed (condition_of x)) e
    go stage.Open e = ap (λ x. is_closed (condition_of x)) e
    go stage.Closed e = absurd (h e)
    go stage.Passed e = ap (λ x. is_closed (condition_of x)) e

-- the part of the invariant that speaks of counts
abbrev pub HasCounts : Board → List ℕ → List ℕ → Type 0
HasCounts b starts counts = (j : ℕ) → j < length b.tasks → slice_index counts j ≡ waits_for b starts j

counts_stay : (b : Board) (starts counts : List ℕ) (i : ℕ) (st : Stage) (place : ℕ) → IsCounted b starts counts → i < length b.stages →
    (stage_at b i ≡ stage.Closed → ⊥) → is_closed (condition_of st) ≡ false → HasCounts (set_at b i st place) starts counts
counts_stay b starts counts i st place h lt ne o = λ j inside. h.missing j inside
    ∙ set_keeps b i st place (slice_index starts j) j j lt (not_closed b i ne) o

-- an open item after the host has passed one that is deferred or a wait
pass_open : (b : Board) (i k : ℕ) (o : Option Facts) (st : Stage) → b.place ≡ i → slice_get b.tasks k ≡ o →
    IsOpenTask b k o → ((f : Facts) → slice_get b.tasks i ≡ Some f → (is_wait f.kind ≡ false) → f.deferred ≡ false → ⊥) →
    IsOpenTask (set_at b i st (b.place + 1)) k o
pass_open b i k None st here e h no_host = absurd h
pass_open b i k (Some f) st here e h no_host = (
  h.0,
  λ d. absurd (no_host f (ap (slice_get b.tasks) (sym (sym (h.1 d) ∙ here)) ∙ e) h.0 d),
  λ d. omega (arith, h.2 d),
)

pub generated : (b : Board) (starts counts : List ℕ) (i : ℕ) → IsCounted b starts counts → allows b (Gen i) ≡ true →
    IsCounted (set_at b i stage.Generated (b.place + 1)) starts counts
generated b starts counts i h a =
    let m = may_generate b i a in
    let lt : i < length b.stages = omega (arith, m.inside, h.stages) in
    let fresh : stage_at b i ≡ stage.Closed → ⊥ = λ e. omega (arith, h.closed i e, m.here) in
    record {
      stages = length-set b.stages i stage.Generated ∙ h.stages;
      same = h.same;
      missing = counts_stay b starts counts i stage.Generated (b.place + 1) h lt fresh refl;
      generated = λ k e. elim (after b i k stage.Generated stage.Generated (b.place + 1) lt e) [
        | inl p ↦ omega (arith, p.0, m.here)
        | inr p ↦ omega (arith, h.generated k p.1)
      ];
      closed = λ k e. elim (after b i k stage.Generated stage.Closed (b.place + 1) lt e) [
        | inl p ↦ absurd (let bad : stage.Generated ≡ stage.Closed = p.1 in cc)
        | inr p ↦ omega (arith, h.closed k p.1)
      ];
      opened = λ k e. elim (after b i k stage.Generated stage.Open (b.place + 1) lt e) [
        | inl p ↦ absurd (let bad : stage.Generated ≡ stage.Open = p.1 in cc)
        | inr p ↦ pass_open b i k (slice_get b.tasks k) stage.Generated m.here refl (h.opened k p.1)
            (λ f q w d. let same : Some f ≡ Some m.facts = sym q ∙ m.is in
            let host : m.facts.deferred ≡ false = cc in absurd (let bad : true ≡ false = sym m.deferred ∙ host in cc))
      ];
    }

pub passed : (b : Board) (starts counts : List ℕ) (i : ℕ) → IsCounted b starts counts → allows b (Wait i) ≡ true →
    IsCounted (set_at b i stage.Passed (b.place + 1)) starts counts
passed b starts counts i h a =
    let m = may_pass b i a in
    let lt : i < length b.stages = omega (arith, m.inside, h.stages) in
    let fresh : stage_at b i ≡ stage.Closed → ⊥ = λ e. omega (arith, h.closed i e, m.here) in
    record {
      stages = length-set b.stages i stage.Passed ∙ h.stages;
      same = h.same;
      missing = counts_stay b starts counts i stage.Passed (b.place + 1) h lt fresh refl;
      generated = λ k e. elim (after b i k stage.Passed stage.Generated (b.place + 1) lt e) [
        | inl p ↦ absurd (let bad : stage.Passed ≡ stage.Generated = p.1 in cc)
        | inr p ↦ omega (arith, h.generated k p.1)
      ];
      closed = λ k e. elim (after b i k stage.Passed stage.Closed (b.place + 1) lt e) [
        | inl p ↦ absurd (let bad : stage.Passed ≡ stage.Closed = p.1 in cc)
        | inr p ↦ omega (arith, h.closed k p.1)
      ];
      opened = λ k e. elim (after b i k stage.Passed stage.Open (b.place + 1) lt e) [
        | inl p ↦ absurd (let bad : stage.Passed ≡ stage.Open = p.1 in cc)
        | inr p ↦ pass_open b i k (slice_get b.tasks k) stage.Passed m.here refl (h.opened k p.1)
            (λ f q w d. let same : Some f ≡ Some m.facts = sym q ∙ m.is in
            let wait : is_wait m.facts.kind ≡ false = cc in absurd (let bad : true ≡ false = sym m.wait ∙ wait in cc))
      ];
    }

pub opened : (b : Board) (starts counts : List ℕ) (i : ℕ) → IsCounted b starts counts → allows b (Open i) ≡ true →
    IsCounted (set_at b i stage.Open b.place) starts counts
opened b starts counts i h a =
    let m = may_open b i a in
    let lt : i < length b.stages = omega (arith, m.inside, h.stages) in
    record {
      stages = length-set b.stages i stage.Open ∙ h.stages;
      same = h.same;
      missing = counts_stay b starts counts i stage.Open b.place h lt (fresh m.facts.deferred refl) refl;
      generated = λ k e. elim (after b i k stage.Open stage.Generated b.place lt e) [
        | inl p ↦ absurd (let bad : stage.Open ≡ stage.Generated = p.1 in cc)
        | inr p ↦ h.generated k p.1
      ];
      closed = λ k e. elim (after b i k stage.Open stage.Closed b.place lt e) [
        | inl p ↦ absurd (let bad : stage.Open ≡ stage.Closed = p.1 in cc)
        | inr p ↦ h.closed k p.1
      ];
      opened = λ k e. elim (after b i k stage.Open stage.Open b.place lt e) [
        | inl p ↦ subst (λ j. IsOpenTask (set_at b i stage.Open b.place) j (slice_get b.tasks j)) (sym p.0) (now)
        | inr p ↦ held k (slice_get b.tasks k) (h.opened k p.1)
      ];
    }
  where
    fresh : (d : Bool) → (may_open b i a).facts.deferred ≡ d → stage_at b i ≡ stage.Closed → ⊥
    fresh true e f = let bad : stage.Generated ≡ stage.Closed = sym ((may_open b i a).deferred e) ∙ f in cc
    fresh false e f = let bad : stage.Untouched ≡ stage.Closed = sym ((may_open b i a).here e).1 ∙ f in cc

    now : IsOpenTask (set_at b i stage.Open b.place) i (slice_get b.tasks i)
    now =
        let m = may_open b i a in
        subst (λ o. IsOpenTask (set_at b i stage.Open b.place) i o) (sym m.is)
        (m.no_wait, λ d. (m.here d).0, λ d. h.generated i (m.deferred d))

    held : (k : ℕ) (o : Option Facts) → IsOpenTask b k o → IsOpenTask (set_at b i stage.Open b.place) k o
    held k None f = absurd f
    held k (Some t) f = f
