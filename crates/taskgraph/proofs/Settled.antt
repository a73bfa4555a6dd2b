-- Which items may neither be opened nor closed, and when the run may end.
use Rattle.std.proofs.Common.{◌≡◌, ◌⊎◌, inl, inr, ℕ, ◌+◌, ◌<◌, ◌≤◌, Bool, true, false, List, length, Option, Some, None, refl, sym, ap, ◌∙◌, arith}
use Rattle.std.specs.Prelude.{◌==◌, ◌&&◌, ◌||◌, not, slice_get, option_map}
use Rattle.std.proofs.lemmas.Bool.{and_parts, cases_lt, eq-eqb, eqb-true, ne_eqb, false_from_ne_true}
use Rattle.std.proofs.lemmas.List.{length-map}
use Rattle.std.proofs.lemmas.Option.{slice_get-map}
use Rattle.base.specs.declared.item.Event.TheVariants.{Open, Close, End}
use Rattle.base.specs.Items.{Work}
use Rattle.base.specs.Machine.{deferred_closed, is_closed, on_item}
use Rattle.taskgraph.specs.declared.Stage.{Stage}
use Rattle.taskgraph.specs.declared.Stage.TheVariants as stage
use Rattle.taskgraph.specs.Board.{Facts, Board, IsSettled, allows, condition_of, plan_in, stage_at, state_in, work_of}
use Rattle.taskgraph.specs.Waiting.{IsCounted, IsGraph, is_deferred}
use Rattle.taskgraph.proofs.Counts.{closed_in}
use Rattle.taskgraph.proofs.Readiness.{all_from, all_in, implied, stated}
use Rattle.taskgraph.proofs.Kept.{may_close, may_open}
use Rattle.taskgraph.proofs.Closes.{opened_at}

told : (b : Board) (i : ℕ) (f : Facts) → slice_get b.tasks i ≡ Some f → f.deferred ≡ true → is_deferred (plan_in b) i ≡ true
told b i f e d =
    ap (λ (o : Option Work). elim o [ None ↦ false | Some w ↦ w.deferred ])
    (slice_get-map work_of b.tasks i ∙ ap (option_map work_of) e) ∙ d

closed_not : (b : Board) (i : ℕ) (st : Stage) → stage_at b i ≡ st → is_closed (condition_of st) ≡ false →
    closed_in b i ≡ true → ⊥
closed_not b i st e still h =
    let bad : true ≡ false = sym h ∙ ap (λ x. is_closed (condition_of x)) e ∙ still in absurd cc

pub settled_below : (b : Board) (starts ends counts : List ℕ) (first i : ℕ) → IsGraph b starts ends counts first → i < first →
    IsSettled b i
settled_below b starts ends counts first i g lt =
    (false_from_ne_true (allows b (Open i)) opens, false_from_ne_true (allows b (Close i)) closes)
  where
    opens : allows b (Open i) ≡ true → ⊥
    opens a = go (may_open b i a).facts.deferred refl
      where
        go : (d : Bool) → (may_open b i a).facts.deferred ≡ d → ⊥
        go true d =
            let m = may_open b i a in
            closed_not b i stage.Generated (m.deferred d) refl (g.first.below i lt (told b i m.facts m.is d))
        go false d =
            let m = may_open b i a in
            let here = (m.here d).0 in
            let le = g.first.inside in absurd (omega (arith, here, le, lt))

    closes : allows b (Close i) ≡ true → ⊥
    closes a = go (may_close b i a).facts.deferred refl
      where
        go : (d : Bool) → (may_close b i a).facts.deferred ≡ d → ⊥
        go true d =
            let m = may_close b i a in
            closed_not b i stage.Open m.stage_is refl (g.first.below i lt (told b i m.facts m.is d))
        go false d =
            let m = may_close b i a in
            let here = (opened_at b starts counts i m.facts g.counted m.stage_is m.is).1 d in
            let le = g.first.inside in absurd (omega (arith, here, le, lt))

pub settled_above : (b : Board) (starts counts : List ℕ) (i : ℕ) → IsCounted b starts counts → b.place < i → IsSettled b i
settled_above b starts counts i h lt =
    (false_from_ne_true (allows b (Open i)) opens, false_from_ne_true (allows b (Close i)) closes)
  where
    opens : allows b (Open i) ≡ true → ⊥
    opens a = go (may_open b i a).facts.deferred refl
      where
        go : (d : Bool) → (may_open b i a).facts.deferred ≡ d → ⊥
        go true d = let less = h.generated i ((may_open b i a).deferred d) in absurd (omega (arith, less, lt))
        go false d = let here = ((may_open b i a).here d).0 in absurd (omega (arith, here, lt))

    closes : allows b (Close i) ≡ true → ⊥
    closes a = go (may_close b i a).facts.deferred refl
      where
        go : (d : Bool) → (may_close b i a).facts.deferred ≡ d → ⊥
        go true d =
            let m = may_close b i a in
            let less = (opened_at b starts counts i m.facts h m.stage_is m.is).2 d in absurd (omega (arith, less, lt))
        go false d =
            let m = may_close b i a in
            let here = (opened_at b starts counts i m.facts h m.stage_is m.is).1 d in absurd (omega (arith, here, lt))

-- ---- the end

abbrev is_left : Board → ℕ → Bool
is_left b i = on_item (plan_in b) i true (λ w. not w.deferred || is_closed ((state_in b).condition i))

abbrev asked : Board → ℕ → Option Work → Bool
asked b i o = elim o [ None ↦ true | Some w ↦ not w.deferred || closed_in b i ]

abbrev deferred : Option Work → Bool
deferred o = elim o [ None ↦ false | Some w ↦ w.deferred ]

passed : (b : Board) (i : ℕ) → (is_deferred (plan_in b) i ≡ true → closed_in b i ≡ true) → is_left b i ≡ true
passed b i h = go (slice_get (plan_in b).items i) h
  where
    go : (o : Option Work) → (deferred o ≡ true → closed_in b i ≡ true) → asked b i o ≡ true
    go None h = refl
    go (Some w) h = implied w.deferred (closed_in b i) h

left_closed : (b : Board) (i : ℕ) → is_left b i ≡ true → is_deferred (plan_in b) i ≡ true → closed_in b i ≡ true
left_closed b i h d = go (slice_get (plan_in b).items i) h d
  where
    go : (o : Option Work) → asked b i o ≡ true → deferred o ≡ true → closed_in b i ≡ true
    go None h d = absurd cc
    go (Some w) h d = stated w.deferred (closed_in b i) h d

pub may_end : (b : Board) (starts ends counts : List ℕ) (first : ℕ) → IsGraph b starts ends counts first →
    (first == length b.tasks) ≡ allows b End
may_end b starts ends counts first g = go (cases_lt first (length b.tasks))
  where
    long : length (plan_in b).items ≡ length b.tasks
    long = length-map b.tasks work_of

    ended : length b.tasks ≤ first → allows b End ≡ true
    ended le =
        let a = g.first.inside in
        let c = g.ordered.inside in
        let here : b.place ≡ length (plan_in b).items = omega (arith, a, c, le, long) in
        let last : length (plan_in b).items ≤ first = omega (arith, le, long) in
        ap (λ x. x && deferred_closed (plan_in b) (state_in b)) (eq-eqb b.place (length (plan_in b).items) here)
        ∙ all_from (is_left b) 0 (length (plan_in b).items)
        (λ k lt. passed b (0 + k) (λ d. g.first.below (0 + k) (omega (arith, lt, last)) d))

    goes_on : first < length b.tasks → allows b End ≡ true → ⊥
    goes_on lt e =
        let p = and_parts (b.place == length (plan_in b).items) (deferred_closed (plan_in b) (state_in b)) e in
        let here : b.place ≡ length (plan_in b).items = eqb-true b.place (length (plan_in b).items) p.0 in
        let q = and_parts (is_deferred (plan_in b) first) (not (closed_in b first)) (g.first.left (omega (arith, lt, here, long))) in
        let at : 0 + first ≡ first = omega arith in
        let now : is_left b first ≡ true = ap (is_left b) (sym at)
        ∙ all_in (is_left b) 0 (length (plan_in b).items) p.1 first (omega (arith, lt, long)) in
        let closed = left_closed b first now q.0 in
        let bad : not (closed_in b first) ≡ false = ap not closed in absurd cc

    go : (first < length b.tasks) ⊎ (length b.tasks ≤ first) → (first == length b.tasks) ≡ allows b End
    go (inl less) =
        ne_eqb first (length b.tasks) (λ q. omega (arith, less, q)) ∙ sym (false_from_ne_true (allows b End) (goes_on less))
    go (inr all) =
        let a = g.first.inside in
        let c = g.ordered.inside in
        eq-eqb first (length b.tasks) (omega (arith, a, c, all)) ∙ sym (ended all)
