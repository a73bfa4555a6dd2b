-- The events that cannot fail.
use Rattle.std.proofs.Common.{◌≡◌, ℕ, true, false, Some, None, refl, sym, ap, ◌∙◌, subst}
use Rattle.std.specs.Prelude.{IsSomeAnd, slice_get}
use Rattle.std.proofs.lemmas.Bool.{false≢true}
use Rattle.base.specs.declared.item.Event.{Event}
use Rattle.base.specs.declared.item.Event.TheVariants.{Gen, Close, Wait, End}
use Rattle.base.specs.Items.{Plan, Work}
use Rattle.fine_machine.specs.Left.{Asks, Finished}
use Rattle.fine_machine.specs.Machine.{State, Condition, Untouched, Generated, Opened, Closed, Passed, close_item, enabled, is_finished, step}
use Rattle.stepper.specs.declared.standing.Standing.{Standing}
use Rattle.stepper.specs.Standing.{Follows, FollowsOfKind, IsAt, fill_from, order_from}
use Rattle.base.specs.declared.item.ItemKind.{ItemKind}

some_step : (p : Plan) (old new : Standing) (s : State) (e : Event) →
    ((t : State) → step p (fill_from old) (order_from old) s e ≡ Some t → IsAt p new t) → (t : State) → step p (fill_from old) (order_from old) s e ≡ Some t →
    IsSomeAnd (step p (fill_from old) (order_from old) s e) (IsAt p new)
some_step p old new s e f t is = subst (λ o. IsSomeAnd o (IsAt p new)) (sym is) (f t is)

pub generated : (p : Plan) (old new : Standing) (s : State) (i : ℕ) → Follows old (Gen i) new → IsAt p old s →
    enabled p s (Gen i) ≡ true → IsSomeAnd (step p (fill_from old) (order_from old) s (Gen i)) (IsAt p new)
generated p old new s i f at may = f p s _ at may refl

pub waited : (p : Plan) (old new : Standing) (s : State) (i : ℕ) → Follows old (Wait i) new → IsAt p old s →
    enabled p s (Wait i) ≡ true → IsSomeAnd (step p (fill_from old) (order_from old) s (Wait i)) (IsAt p new)
waited p old new s i f at may = f p s _ at may refl

pub ended : (p : Plan) (old new : Standing) (s : State) → Follows old End new → IsAt p old s →
    enabled p s End ≡ true → IsSomeAnd (step p (fill_from old) (order_from old) s End) (IsAt p new)
ended p old new s f at may = f p s _ at may refl

closes : (i : ℕ) (w : Work) (c : Condition) (s : State) → is_finished c ≡ true → (t : State) × (close_item i w c s ≡ Some t)
closes i w (Opened (Finished run)) s may = (_, refl)
closes i w (Opened (Asks q k)) s may = absurd (false≢true may)
closes i w Untouched s may = absurd (false≢true may)
closes i w (Generated captured) s may = absurd (false≢true may)
closes i w Closed s may = absurd (false≢true may)
closes i w Passed s may = absurd (false≢true may)

pub closed : (p : Plan) (old new : Standing) (s : State) (i : ℕ) (kind : ItemKind) (w : Work) → slice_get p.items i ≡ Some w →
    w.kind ≡ kind → FollowsOfKind kind i old (Close i) new → IsAt p old s → enabled p s (Close i) ≡ true →
    IsSomeAnd (step p (fill_from old) (order_from old) s (Close i)) (IsAt p new)
closed p old new s i kind w is same f at may =
    let c = closes i w (s.condition i) s
    (sym (ap (λ o. elim o [ None ↦ false | Some v ↦ is_finished (s.condition i) ]) is) ∙ may) in
    some_step p old new s (Close i) (λ t e. f p s t w is same at may e) c.0
    (ap (λ o. elim o [ None ↦ None | Some v ↦ close_item i v (s.condition i) s ]) is ∙ c.1)
