use Rattle.std.proofs.Common.{◌≡◌}
use Rattle.outline.specs.Captures.{captures_of}
use Rattle.outline.proofs.captures.scalars_in.Given as goal

abbrev pub invariant-scalars : goal.invariant-scalars
invariant-scalars l = l.captures.items ≡ captures_of l.scalar l.region
