use Rattle.std.proofs.Common.{◌∙◌, sym, true≢false}
use Rattle.host.proofs.Handed.{host_count, host_sent}
use Rattle.host.proofs.Stopping.{next_from, no_cause}
use Rattle.host.proofs.board.Board.happen.Goals as goal

pub invariant_of-self-else-has_ended : goal.invariant_of-self-else-has_ended
invariant_of-self-else-has_ended g c =
    let s = c.args.self.now in
    let new = c.take.new.self in
    let taken = c.in-Ok.ensures.taken in
    let none = c.requires.goes.0 in
    record {
      program = s.program ∙ sym taken.program;
      origin = next_from g.B.Origin.start s.state new taken.program taken.input taken.capacity s.origin;
      cause = no_cause new s.stop none;
      sent =
          host_sent s.state new c.args.event s.stop s.jobs c.is_reached.ensures.reached c.requires.may c.requires.goes.1 taken c.in-Ok.ensures.does none
          (λ ended. true≢false (sym (c.has_ended.ensures.1 ended) ∙ c.if-has_ended.false)) s.sent;
      count = host_count s.state new c.args.event s.open_items c.is_reached.ensures.reached c.requires.may c.requires.goes.1 taken s.count;
    }
