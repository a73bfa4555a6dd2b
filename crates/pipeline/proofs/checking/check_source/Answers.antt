use Rattle.pipeline.proofs.Listings.{if_unaccepted}
use Rattle.pipeline.proofs.checking.check_source.Goals as goal

pub returns-clause-fault : goal.returns-clause-fault
returns-clause-fault g c =
    if_unaccepted c.check_outlined.result c.args.bytes.now c.in_ok-program.program _ c.in_ok-outlined.ensures.outlined
    c.in_ok-program.ensures.spelled c.in_ok-outlined.ensures.few c.check_outlined.ensures.fault
