use Rattle.witness.proofs.Told.{runs_written}
use Rattle.witness.proofs.text.runs_option.Goals as goal

pub returns : goal.returns
returns g c =
    runs_written c.write-2.result _ _ _ _ c.args.word.now c.args.list.now _ _ c.in-Some.ensures
    c.in_ok-write.ensures.bytes c.in_ok-runs_from.ensures c.write-2.ensures.bytes
