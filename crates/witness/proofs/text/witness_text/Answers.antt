use Rattle.witness.proofs.Told.{all_written}
use Rattle.witness.proofs.text.witness_text.Goals as goal

pub returns : goal.returns
returns g c =
    all_written c.command_line.result _ _ _ _ _ _ _ _ _ _ _ c.args.name.now c.args.witness.now c.args.plain.now
    c.deref.result.now c.deref-2.result.now c.deref-3.result.now c.deref-4.result.now c.as_slice.result.now c.deref-5.result.now
    c.deref-6.result.now c.as_bytes.result.now c.deref-7.result.now c.deref-8.result.now
    c.deref.ensures.value c.deref-2.ensures.value c.deref-3.ensures.value c.deref-4.ensures.value c.as_slice.ensures
    c.deref-5.ensures.value c.deref-6.ensures.value c.as_bytes.ensures.value c.deref-7.ensures.value c.deref-8.ensures.value
    c.in_ok-order_line.ensures c.in_ok-write.ensures.bytes c.in_ok-runs_text.ensures c.in_ok-writeln.ensures.bytes
    c.in_ok-turns_line.ensures c.in_ok-end_text.ensures c.in_ok-stop_line.ensures c.in_ok-lines_text.ensures c.in_ok-difference_line.ensures
    c.command_line.ensures
