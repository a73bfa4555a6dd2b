use Rattle.pipeline.proofs.listing.list_outlined.Goals as goal

pub returns-in-Err-clause-written : goal.returns-in-Err-clause-written
returns-in-Err-clause-written g c = tt
