-- The host comes no further than one past the last item.
use Rattle.std.proofs.Common.{◌≡◌, ◌+◌, ◌<◌, ◌≤◌, ℕ, Bool, true, false, List, length, Option, Some, None, refl, sym, ap, ◌∙◌, arith}
use Rattle.std.specs.Prelude.{slice_get, option_map}
use Rattle.std.proofs.lemmas.List.{length-map}
use Rattle.std.proofs.lemmas.Option.{same_Some, slice_get_within}
use Rattle.base.specs.declared.item.Event.{Event}
use Rattle.base.specs.declared.item.Event.TheVariants.{Gen, Open, Step, Close, Wait, End}
use Rattle.base.specs.Items.{Plan, Work}
use Rattle.base.specs.declared.item.ItemKind.{ItemKind}
use Rattle.base.specs.declared.item.ItemKind.TheVariants as kind
use Rattle.base.specs.Meaning.{Run}
use Rattle.base.specs.Map.{Fill}
use Rattle.base.specs.Machine.{is_open, on_item}
use Rattle.base.proofs.Runs.{enabled_End, enabled_Gen, enabled_Wait}
use Rattle.taskgraph.specs.Board.{facts_of}
use Rattle.fine_machine.specs.Left.{Asks, Finished}
use Rattle.fine_machine.specs.Machine.{State, Condition, Untouched, Generated, Opened, Closed, Passed, as_whole, close_item, enabled, host_done, is_finished, moves_on, open_item, step, step_item, whole_condition, with_condition}
use Rattle.stepper.specs.declared.standing.Standing.{Standing}
use Rattle.stepper.specs.Standing.{IsAt, IsHere, place_of}
use Rattle.stepper.proofs.Able.{known}

mapped_place : {A : Type 0} (f : A → State) (n : ℕ) (o : Option A) (t : State) → ((x : A) → (f x).place ≡ n) →
    option_map f o ≡ Some t → t.place ≡ n
mapped_place f n None t h e = absurd (cc e)
mapped_place f n (Some x) t h e = sym (ap (λ (s : State). s.place) (same_Some (f x) t e)) ∙ h x

stepped_place : (p : Plan) (fill : Fill) (i : ℕ) (c : Condition) (s t : State) → step_item p fill i c s ≡ Some t → t.place ≡ s.place
stepped_place p fill i (Opened (Asks r k)) s t e = mapped_place _ s.place _ t (λ x. refl) e
stepped_place p fill i (Opened (Finished run)) s t e = absurd (cc e)
stepped_place p fill i Untouched s t e = absurd (cc e)
stepped_place p fill i (Generated captured) s t e = absurd (cc e)
stepped_place p fill i Closed s t e = absurd (cc e)
stepped_place p fill i Passed s t e = absurd (cc e)

opened_place : (p : Plan) (order : List ℕ) (s t : State) (i : ℕ) → on_item p i None (λ w. open_item order i w s) ≡ Some t →
    t.place ≡ s.place
opened_place p order s t i e = go (slice_get p.items i) refl
  where
    go : (o : Option Work) → slice_get p.items i ≡ o → t.place ≡ s.place
    go None is = absurd (cc (sym (ap (λ o. elim o [ None ↦ None | Some w ↦ open_item order i w s ]) is) ∙ e))
    go (Some w) is =
        mapped_place _ s.place _ t (λ x. refl) (sym (ap (λ o. elim o [ None ↦ None | Some w ↦ open_item order i w s ]) is) ∙ e)

done_place : (k : ItemKind) (run : Run) (s : State) → (host_done k run s).place ≡ s.place
done_place kind.Host run s = refl
done_place kind.Target run s = refl
done_place kind.Begin run s = refl
done_place kind.End run s = refl
done_place kind.Enter run s = refl
done_place kind.Exit run s = refl
done_place kind.Update run s = refl
done_place kind.Wait run s = refl

closed_place : (i : ℕ) (w : Work) (c : Condition) (s t : State) (n : ℕ) → s.place ≤ n + 1 → i < n →
    (w.deferred ≡ false → is_open (whole_condition c) ≡ true → s.place ≡ i) → close_item i w c s ≡ Some t → t.place ≤ n + 1
closed_place i w (Opened (Finished run)) s t n le lt here is = go w.deferred refl
  where
    go : (d : Bool) → w.deferred ≡ d → t.place ≤ n + 1
    go true e =
        let same : t.place ≡ s.place =
        sym (ap (λ (x : State). x.place) (same_Some _ t (sym (ap (λ b. Some (moves_on b (with_condition i Closed (host_done w.kind run s)))) e) ∙ is)))
        ∙ done_place w.kind run s in
        omega arith
    go false e =
        let next : t.place ≡ s.place + 1 =
        sym (ap (λ (x : State). x.place) (same_Some _ t (sym (ap (λ b. Some (moves_on b (with_condition i Closed (host_done w.kind run s)))) e) ∙ is)))
        ∙ ap (λ m. m + 1) (done_place w.kind run s) in
        let at = here e refl in
        omega arith
closed_place i w (Opened (Asks q k)) s t n le lt here is = absurd (cc is)
closed_place i w Untouched s t n le lt here is = absurd (cc is)
closed_place i w (Generated captured) s t n le lt here is = absurd (cc is)
closed_place i w Closed s t n le lt here is = absurd (cc is)
closed_place i w Passed s t n le lt here is = absurd (cc is)

pub place_after : (p : Plan) (fill : ℕ → Fill) (order : ℕ → List ℕ) (s t : State) (e : Event) → IsHere p s → s.place ≤ length p.items + 1 →
    enabled p s e ≡ true → step p fill order s e ≡ Some t → t.place ≤ length p.items + 1
place_after p fill order s t (Gen i) here le may is =
    let at = (enabled_Gen p (as_whole s) i may).0 in
    let lt = (enabled_Gen p (as_whole s) i may).1 in
    let n : t.place ≡ s.place + 1 = sym (ap (λ (x : State). x.place) (same_Some _ t is)) in
    omega arith
place_after p fill order s t (Open i) here le may is = let n = opened_place p (order i) s t i is in omega arith
place_after p fill order s t (Step i) here le may is =
    let n = stepped_place p (fill i) i (s.condition i) s t is in omega arith
place_after p fill order s t (Close i) here le may is =
    let k = known p i (λ w. is_finished (s.condition i)) may in
    let lt = slice_get_within p.items i k.work k.is in
    closed_place i k.work (s.condition i) s t (length p.items) le lt
    (λ now o. here i k.work k.is now o)
    (sym (ap (λ o. elim o [ None ↦ None | Some v ↦ close_item i v (s.condition i) s ]) k.is) ∙ is)
place_after p fill order s t (Wait i) here le may is =
    let at = (enabled_Wait p (as_whole s) i may).0 in
    let lt = (enabled_Wait p (as_whole s) i may).1 in
    let n : t.place ≡ s.place + 1 = sym (ap (λ (x : State). x.place) (same_Some _ t is)) in
    omega arith
place_after p fill order s t End here le may is =
    let at = (enabled_End p (as_whole s) may).0 in
    let n : t.place ≡ s.place + 1 = sym (ap (λ (x : State). x.place) (same_Some _ t is)) in
    omega arith

-- the graph's numbers are small
pub few_tasks : (p : Plan) (now : Standing) (s : State) → IsAt p now s → length now.graph.tasks ≡ length p.items
few_tasks p now s at = ap (λ (xs : List _). length xs) (sym at.graph.items) ∙ length-map p.items facts_of

pub small_place : (p : Plan) (now : Standing) (s : State) → IsAt p now s → s.place ≤ length p.items + 1 →
    now.graph.place ≤ length p.items + 1
small_place p now s at le = go now.ended at.place
  where
    go : (b : Bool) → s.place ≡ place_of b now.graph.place → now.graph.place ≤ length p.items + 1
    go true e = omega arith
    go false e = omega arith
