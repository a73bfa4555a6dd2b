use Rattle.std.proofs.Common.{refl, ap, sym, ◌∙◌, slice_index}
use Rattle.stepper.proofs.Openings.{opens_to}
use Rattle.stepper.proofs.standing.Standing.open.Goals as goal

pub returns-clause-opened : goal.returns-clause-opened
returns-clause-opened c r region plan s item at may =
    opens_to plan c.args.self.now s at c.args.item c.args.it.now r item may c.table.result.now c.table.ensures
    c.deref.result.now
    (λ p t w is def at may. c.captured.ensures p t w is def at may ∙ sym c.in-Ok.ensures
    ∙ ap slice_index (sym c.deref.ensures)) _ (c.in-Ok-Some.ensures.opened r region) c.in-Ok-Some.control c.opened.new.self _
    c.requires.going c.requires.here c.opened.ensures c.in-Ok-Some.field-0-is
    (λ lengths h. c.in-Ok-Some.ensures.inside c.in-Ok-Some.control lengths c.in-Ok-Some.field-0-is h) refl c.requires.inside
