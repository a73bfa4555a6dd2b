-- Where an item is closed in a state that the graph stands for.
use Rattle.std.proofs.Common.{◌≡◌, ◌⊎◌, inl, inr, ℕ, ◌+◌, ◌<◌, Bool, true, false, length, Option, Some, None, refl, sym, ap, subst, ◌∙◌}
use Rattle.std.specs.Prelude.{◌==◌, if◌then◌else◌, slice_get, option_map}
use Rattle.std.proofs.lemmas.Bool.{cases_eq, eq-eqb, ne_eqb}
use Rattle.std.proofs.lemmas.Option.{same_Some, slice_get-map}
use Rattle.base.specs.Items.{Work, Plan}
use Rattle.base.specs.Machine.{Condition, Closed, State, closing, on_item, moved_on, with_condition}
use Rattle.base.proofs.Closing.{Kept, closing_keeps}
use Rattle.taskgraph.specs.declared.Stage.TheVariants as stage
use Rattle.taskgraph.specs.Board.{Facts, Board, Stands, facts_of, stage_of, stage_at}
use Rattle.taskgraph.proofs.Counts.{set_at, stage_set, stage_kept}

abbrev ends : State → ℕ → Work → Option State
ends s i w = option_map (λ t. moved_on w.deferred (with_condition i Closed t)) (closing w (s.condition i) s)

abbrev pub place_after : Bool → ℕ → ℕ
place_after true place = place
place_after false place = place + 1

at : (plan : Plan) (s x : State) (b : Board) (i j place : ℕ) → Stands plan s b → Kept s x → i < length b.stages →
    j < length b.tasks → (j ≡ i) ⊎ (j ≡ i → ⊥) →
    stage_of (if j == i then Closed else x.condition j) ≡ stage_at (set_at b i stage.Closed place) j
at plan s x b i j place h k lt inside (inl e) =
    ap (λ c. stage_of (if c then Closed else x.condition j)) (eq-eqb j i e)
    ∙ sym (stage_set b i stage.Closed place lt) ∙ ap (stage_at (set_at b i stage.Closed place)) (sym e)
at plan s x b i j place h k lt inside (inr ne) =
    ap (λ c. stage_of (if c then Closed else x.condition j)) (ne_eqb j i ne)
    ∙ ap (λ (f : ℕ → Condition). stage_of (f j)) k.1 ∙ h.conditions j inside
    ∙ sym (stage_kept b i j stage.Closed place ne)

stands : (plan : Plan) (s x : State) (b : Board) (i : ℕ) (d : Bool) (place : ℕ) → Stands plan s b → Kept s x →
    i < length b.stages → length b.stages ≡ length b.tasks → place ≡ place_after d b.place →
    Stands plan (moved_on d (with_condition i Closed x)) (set_at b i stage.Closed place)
stands plan s x b i true place h k lt long p = record {
  items = h.items;
  place = k.0 ∙ h.place ∙ sym p;
  conditions = λ j inside. at plan s x b i j place h k lt inside (cases_eq j i);
}
stands plan s x b i false place h k lt long p = record {
  items = h.items;
  place = ap (λ n. n + 1) (k.0 ∙ h.place) ∙ sym p;
  conditions = λ j inside. at plan s x b i j place h k lt inside (cases_eq j i);
}

pub closed : (plan : Plan) (s t : State) (b : Board) (i : ℕ) (f : Facts) (place : ℕ) → Stands plan s b →
    on_item plan i None (ends s i) ≡ Some t → slice_get b.tasks i ≡ Some f → i < length b.stages →
    length b.stages ≡ length b.tasks → place ≡ place_after f.deferred b.place →
    Stands plan t (set_at b i stage.Closed place)
closed plan s t b i f place h e at_b lt long p = go (slice_get plan.items i) refl
  where
    make : (w : Work) → facts_of w ≡ f → (o : Option State) → closing w (s.condition i) s ≡ o →
        option_map (λ x. moved_on w.deferred (with_condition i Closed x)) o ≡ Some t →
        Stands plan t (set_at b i stage.Closed place)
    make w same None q g = absurd (cc g)
    make w same (Some x) q g =
        let d : w.deferred ≡ f.deferred = ap (λ (v : Facts). v.deferred) same in
        subst (λ (y : State). Stands plan y (set_at b i stage.Closed place))
        (same_Some (moved_on w.deferred (with_condition i Closed x)) t g)
        (stands plan s x b i w.deferred place h (closing_keeps w (s.condition i) s x q) lt long
        (p ∙ ap (λ c. place_after c b.place) (sym d)))

    go : (o : Option Work) → slice_get plan.items i ≡ o → Stands plan t (set_at b i stage.Closed place)
    go None q =
        absurd (let bad : None ≡ Some t = sym (ap (λ o. elim o [ None ↦ None | Some w ↦ ends s i w ]) q) ∙ e in cc)
    go (Some w) q =
        let facts : Some (facts_of w) ≡ Some f =
        sym (ap (option_map facts_of) q) ∙ sym (slice_get-map facts_of plan.items i) ∙ ap (λ fs. slice_get fs i) h.items ∙ at_b in
        make w (same_Some (facts_of w) f facts) (closing w (s.condition i) s) refl
        (sym (ap (λ o. elim o [ None ↦ None | Some w ↦ ends s i w ]) q) ∙ e)
