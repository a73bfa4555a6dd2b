use Rattle.witness.proofs.Told.{front_all, front_more, front_none}
use Rattle.witness.proofs.Words.{quoted_ends, quoted_more}
use Rattle.witness.proofs.shell.quoted_text.Goals as goal

pub bytes-init : goal.bytes-init
bytes-init g c = front_none _ _

pub bytes-preserved : goal.bytes-preserved
bytes-preserved g c =
    front_more _ _ _ _ _ _ _ c.bytes.invariant (quoted_more c.args.name.now c.bytes.byte-index c.bytes-test.true)
    c.in_ok-quoted_byte.ensures

pub returns : goal.returns
returns g c = front_all _ _ _ _ c.bytes.invariant (quoted_ends c.args.name.now c.bytes.byte-index c.bytes-test.false)
