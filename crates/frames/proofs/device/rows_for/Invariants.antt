use Rattle.frames.specs.Rows.{HasRoom}
use Rattle.frames.proofs.RowViews.{Grown}
use Rattle.frames.proofs.device.rows_for.Given as goal

abbrev pub invariant-runs : goal.invariant-runs
invariant-runs l = Grown HasRoom l.reach l.section-index l.rows.items
