use Rattle.std.proofs.Common.{ap, ◌∙◌}
use Rattle.bits.specs.Sets.{has}
use Rattle.ranges.proofs.Runs.{marked_run}
use Rattle.ranges.proofs.row.Row.add.Goals as goal

pub cover-requires : goal.cover-requires
cover-requires c =
    marked_run c.args.self.now.cells c.add_all.new.self.cells c.args.cells c.in_ok-add_all.ensures.ok

pub returns-clause-ok : goal.returns-clause-ok
returns-clause-ok c = ap has c.cover.ensures ∙ c.in_ok-add_all.ensures.ok
