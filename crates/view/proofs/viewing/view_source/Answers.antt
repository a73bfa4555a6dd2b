use Rattle.base.specs.declared.fault.SourceFault.TheVariants.{Outline}
use Rattle.pipeline.specs.Checking.{IsRefused}
use Rattle.pipeline.proofs.Listings.{if_unaccepted, outline_fault}
use Rattle.explain.proofs.Accepts.{if_accepted, if_same}
use Rattle.view.proofs.viewing.view_source.Goals as goal

pub returns-in-Err-outline-clause-fault : goal.returns-in-Err-outline-clause-fault
returns-in-Err-outline-clause-fault g c =
    if_same c.view_items.result (λ f. IsRefused c.args.bytes.now f) (Outline c.in-Err-outline.fault) c.view_items.ensures.err
    (outline_fault c.args.bytes.now c.in-Ok.program c.in-Err-outline.fault c.in-Ok.ensures.found c.in-Err-outline.ensures.many)

pub returns-clause-accepted : goal.returns-clause-accepted
returns-clause-accepted g c =
    if_accepted c.view_outlined.result c.args.bytes.now c.in-Ok.program _ c.in-Ok-outline.ensures.outlined c.in-Ok.ensures.found
    c.view_outlined.ensures.accepted

pub returns-clause-fault : goal.returns-clause-fault
returns-clause-fault g c =
    if_unaccepted c.view_outlined.result c.args.bytes.now c.in-Ok.program _ c.in-Ok-outline.ensures.outlined
    c.in-Ok.ensures.found c.in-Ok-outline.ensures.few c.view_outlined.ensures.fault
