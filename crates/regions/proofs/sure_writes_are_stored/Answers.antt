use Rattle.regions.proofs.SureStores.{sure_writes_are_stored}
use Rattle.regions.proofs.sure_writes_are_stored.Goals as goal

pub returns : goal.returns
returns c = sure_writes_are_stored
