use Rattle.std.proofs.Common.{◌∙◌, ap, sym, true}
use Rattle.history.specs.declared.State.TheVariants.{Current}
use Rattle.history.specs.Moves.{place_if}
use Rattle.history.specs.Places.{shown}
use Rattle.history.proofs.Showing.{shown_set}
use Rattle.history.proofs.Standing.{since_current}
use Rattle.history.proofs.History.settle_if.Goals as goal

pub returns-then-holds-clause-shown : goal.returns-then-holds-clause-shown
returns-then-holds-clause-shown c =
    shown_set c.args.side Current c.args.self.now c.set.new.self c.requires c.set.ensures.set
    ∙ ap (λ b. place_if b c.args.side true (shown c.args.self.now)) (sym c.if-holds.true)

pub returns-then-holds-clause-since : goal.returns-then-holds-clause-since
returns-then-holds-clause-since c = λ past n h. since_current past n c.args.side c.args.self.now c.set.new.self c.set.ensures.set c.set.ensures.events h
