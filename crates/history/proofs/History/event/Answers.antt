use Rattle.std.proofs.Common.{◌≡◌, List, ap, subst, ◌∙◌, true}
use Rattle.std.specs.Prelude.{slice_get}
use Rattle.history.specs.declared.Event.{Event}
use Rattle.history.specs.declared.State.{State}
use Rattle.history.specs.Places.{place_of, shown}
use Rattle.history.specs.Since.{IsKept}
use Rattle.history.proofs.Lasts.{got_copied, last_of, one_told}
use Rattle.history.proofs.History.event.Goals as goal

pub returns-in-Stale-clause-last : goal.returns-in-Stale-clause-last
returns-in-Stale-clause-last c = λ side past n are.
    last_of past n c.args.self.now c.args.side c.in-Stale.number c.copied.result are
    (subst (λ (s : State). IsKept c.args.side s c.args.self.now) c.in-Stale.is (c.state.ensures.kept side)) (c.copied.ensures ∙ got_copied c.deref.result.now c.in-Stale.number c.get.result c.get.ensures.lookup
    ∙ ap (λ (xs : List Event). slice_get xs c.in-Stale.number) c.deref.ensures.value)

pub returns-in-Stale-clause-none : goal.returns-in-Stale-clause-none
returns-in-Stale-clause-none c = λ side past n are none.
    one_told past n c.args.self.now c.args.side c.in-Stale.number c.copied.result (place_of c.args.side (shown c.args.self.now) ≡ true) are
    (subst (λ (s : State). IsKept c.args.side s c.args.self.now) c.in-Stale.is (c.state.ensures.kept side)) (c.copied.ensures ∙ got_copied c.deref.result.now c.in-Stale.number c.get.result c.get.ensures.lookup
    ∙ ap (λ (xs : List Event). slice_get xs c.in-Stale.number) c.deref.ensures.value) none
