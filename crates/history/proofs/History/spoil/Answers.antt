use Rattle.std.proofs.Common.{refl, ap, ◌∙◌, subst}
use Rattle.history.specs.declared.Event.{Event}
use Rattle.history.specs.declared.State.TheVariants.{Stale}
use Rattle.history.specs.Moves.{IsSet}
use Rattle.history.proofs.Standing.{since_spoiled}
use Rattle.history.proofs.History.spoil.Goals as goal

pub returns-clause-since : goal.returns-clause-since
returns-clause-since c = λ past h.
    let event : Event = record { item = c.args.item; side = c.args.side; how = c.args.how } in
    since_spoiled past c.args.item c.args.side event c.args.self.now c.set.new.self (ap (λ es. es.items) c.set.ensures.events ∙ c.in_ok-push.ensures.items)
    (subst (λ n. IsSet c.args.side (Stale n) c.args.self.now.host c.args.self.now.devices.items c.set.new.self) (c.len-number.ensures ∙ c.args.self.now.events.ok.0) c.set.ensures.set)
    refl c.requires.deed h
