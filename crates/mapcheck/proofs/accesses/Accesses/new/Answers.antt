use Rattle.std.proofs.Common.{refl}
use Rattle.mapcheck.proofs.Sides.{none_yet}
use Rattle.mapcheck.proofs.accesses.Accesses.new.Goals as goal

pub returns : goal.returns
returns c = none_yet _ c.args.device refl c.new.ensures.items
