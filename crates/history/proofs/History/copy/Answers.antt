use Rattle.std.proofs.Common.{◌≡◌, sym, ap, ◌∙◌, subst}
use Rattle.std.specs.Prelude.{OnOk}
use Rattle.history.specs.declared.State.TheVariants.{Current}
use Rattle.history.specs.Places.{is_current, shown, with_place}
use Rattle.history.proofs.Showing.{shown_copy}
use Rattle.history.proofs.Standing.{since_current}
use Rattle.history.proofs.History.copy.Goals as goal

pub returns-in-Current-clause-shown : goal.returns-in-Current-clause-shown
returns-in-Current-clause-shown c =
    shown_copy c.args.to c.args.from Current c.args.self.now c.set.new.self c.requires.to c.set.ensures.set
    (ap is_current (sym c.in-Current.is) ∙ c.state.ensures.shown c.requires.from)

pub returns-in-Current-clause-since : goal.returns-in-Current-clause-since
returns-in-Current-clause-since c = λ past h.
    since_current past c.args.item c.args.to c.args.self.now c.set.new.self c.set.ensures.set c.set.ensures.events h

pub returns-in-Stale-clause-shown : goal.returns-in-Stale-clause-shown
returns-in-Stale-clause-shown c =
    subst (λ b. OnOk c.spoil.result (shown c.spoil.new.self ≡ with_place c.args.to b (shown c.args.self.now)))
    (ap is_current (sym c.in-Stale.is) ∙ c.state.ensures.shown c.requires.from) c.spoil.ensures.shown
