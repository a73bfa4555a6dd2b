use Rattle.witness.proofs.Told.{option_written}
use Rattle.witness.proofs.text.list_option.Goals as goal

pub returns : goal.returns
returns g c =
    option_written c.list_text.result _ _ _ c.args.word.now c.args.list.now c.if-is_empty.ensures
    c.in_ok-write.ensures.bytes c.list_text.ensures
