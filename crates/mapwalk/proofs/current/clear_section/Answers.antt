use Rattle.std.proofs.Common.{false, refl}
use Rattle.base.specs.Current.{nowhere}
use Rattle.mapwalk.proofs.SideRows.{changed_side, lengths_set, unchanged_side}
use Rattle.mapwalk.proofs.current.clear_section.Goals as goal

pub returns-then-array-side-clause-marks : goal.returns-then-array-side-clause-marks
returns-then-array-side-clause-marks c =
    changed_side c.args.side.now c.args.section.now c.clear.new.self c.index-side-array.result nowhere (λ i. false)
    c.if-array-side.true c.clear.ensures.marks (λ d e. refl)

pub returns-then-array-side-clause-lengths : goal.returns-then-array-side-clause-lengths
returns-then-array-side-clause-lengths c =
    lengths_set c.args.side.now c.args.section.now.array.0 c.clear.new.self c.index-side-array.result c.clear.ensures.length

pub returns-else-array-side-clause-marks : goal.returns-else-array-side-clause-marks
returns-else-array-side-clause-marks c =
    unchanged_side c.args.side.now c.args.section.now nowhere c.if-array-side.false (λ d e. refl)
