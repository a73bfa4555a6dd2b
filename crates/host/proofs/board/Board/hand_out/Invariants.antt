use Rattle.std.proofs.Common.{◌≡◌}
use Rattle.host.specs.Looks.{IsHandStop}
use Rattle.host.specs.Stops.{StaysStopped}
use Rattle.host.proofs.Handouts.{IsSending}
use Rattle.host.proofs.board.Board.hand_out.Given as goal

abbrev pub invariant-loop : goal.invariant-loop
invariant-loop g l =
    (goal.iterator-loop g).can_next l.iterator' × (goal.iterator-loop g).is_finite l.iterator'
    × (l.self.workers ≡ l.initial.self.workers)
    × StaysStopped l.initial.self.stop l.initial.self.state l.self.stop l.self.state
    × IsHandStop l.initial.self.stop l.self.stop
    × IsSending l.open_before l.initial.self.jobs l.self.open_items l.self.jobs
