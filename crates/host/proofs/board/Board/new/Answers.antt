use Rattle.host.proofs.Handed.{start_count, start_sent}
use Rattle.host.proofs.board.Board.new.Goals as goal

pub invariant_of-result : goal.invariant_of-result
invariant_of-result g c = record {
  program = c.requires.program;
  origin = c.requires.start;
  cause = tt;
  sent = start_sent c.args.state c.args.jobs c.is_reached.ensures.reached c.requires.begins.0 c.requires.begins.1;
  count = start_count c.args.state c.is_reached.ensures.reached c.requires.begins.0;
}
