use Rattle.pipeline.specs.Checking.{IsRefused}
use Rattle.pipeline.proofs.Texts.{unlisted_refused}
use Rattle.driver.proofs.Refusals.{of_none}
use Rattle.driver.proofs.witnessed.print_witness.Goals as goal

pub returns-in-Err-clause-refused : goal.returns-in-Err-clause-refused
returns-in-Err-clause-refused g c =
    λ _. unlisted_refused c.args.source.bytes.now c.args.program.now c.in-Err.fault c.requires c.in-Err.ensures.fault

pub returns-clause-refused : goal.returns-clause-refused
returns-clause-refused g c = of_none (IsRefused c.args.source.bytes.now) c.print_found.result c.print_found.ensures.refused
