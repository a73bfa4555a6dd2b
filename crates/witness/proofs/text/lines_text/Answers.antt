use Rattle.witness.proofs.Told.{front_all, front_more, front_none, prefixed_ends, prefixed_more}
use Rattle.witness.proofs.text.lines_text.Goals as goal

pub bytes-init : goal.bytes-init
bytes-init g c = front_none _ _

pub bytes-preserved : goal.bytes-preserved
bytes-preserved g c =
    front_more _ _ _ _ _ _ _ c.bytes.invariant
    (prefixed_more c.args.word.now c.bytes.begins c.args.lines.now c.bytes.byte-index c.bytes-test.true) c.in_ok-byte_text.ensures

pub returns : goal.returns
returns g c =
    front_all _ _ _ _ c.bytes.invariant
    (prefixed_ends c.args.word.now c.bytes.begins c.args.lines.now c.bytes.byte-index c.bytes-test.false)
