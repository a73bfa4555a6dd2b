use Rattle.std.proofs.Common.{refl, ◌∙◌}
use Rattle.base.specs.Items.{plan}
use Rattle.stepper.proofs.Starting.{started}
use Rattle.stepper.proofs.standing.Standing.new.Goals as goal

pub returns-clause-start : goal.returns-clause-start
returns-clause-start c =
    started (plan c.args.outlined.now) _ c.items-items.result.now c.args.input.now _ c.items-items.ensures.shown
    (record {
      zeros = c.in_ok-host.ensures.zeros;
      lengths = c.in_ok-host.ensures.lengths ∙ c.lengths.ensures.lengths;
      empty = c.new-devices.ensures.empty;
      alike = c.new-devices.ensures.alike;
      graph = c.in_ok-graph.ensures;
      ended = refl;
      scalars = c.zeros.ensures;
      given = refl;
      output = c.new-3.ensures.items;
      slots = c.in_ok-slots.ensures;
    })
