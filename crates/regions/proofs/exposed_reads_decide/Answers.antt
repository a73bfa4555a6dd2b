use Rattle.regions.proofs.RegionsRun.{exposed_reads_decide}
use Rattle.regions.proofs.exposed_reads_decide.Goals as goal

pub returns : goal.returns
returns c = exposed_reads_decide
