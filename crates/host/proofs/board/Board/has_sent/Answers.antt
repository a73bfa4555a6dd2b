use Rattle.std.proofs.Common.{rules, ◌≡◌, ◌∙◌, List, Option, Some, ap, inr, subst, sym}
use Rattle.device.specs.declared.jobs.Job.{Job}
use Rattle.host.specs.Sent.{IsSent}
use Rattle.host.proofs.board.Board.has_sent.Goals as goal

pub invariant_of-self-in-Some : goal.invariant_of-self-in-Some
invariant_of-self-in-Some g c =
    let s = c.args.self.now in
    let is : s.jobs ≡ Some c.in-Some.jobs = search rules in
    record {
      program = s.program;
      origin = s.origin;
      cause = s.cause;
      sent =
          subst (λ (o : Option (List Job)). IsSent s.state s.stop o)
          (is ∙ ap (λ (xs : List Job). Some xs) (sym c.was_sent.ensures.same)) s.sent;
      count = s.count;
    }

pub returns-in-Some-clause-own : goal.returns-in-Some-clause-own
returns-in-Some-clause-own g c =
    let s = c.args.self.now in
    let is : s.jobs ≡ Some c.in-Some.jobs = search rules in
    let sent : IsSent s.state s.stop (Some c.in-Some.jobs) = subst (λ (o : Option (List Job)). IsSent s.state s.stop o) is s.sent in
    inr (λ j h. sent.2.1 j (c.was_sent.ensures.sent j h))
