use Rattle.spans.proofs.Halves.{spans_are_the_loop}
use Rattle.spans.proofs.spans_are_the_loop.Goals as goal

pub returns : goal.returns
returns c = spans_are_the_loop
