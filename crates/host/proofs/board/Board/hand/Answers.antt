use Rattle.std.proofs.Common.{rules, ◌≡◌, ◌∙◌, ℕ, ◌+◌, List, Option, Some, map, inr, refl, ap, sym, subst}
use Rattle.device.proofs.Reaching.{is_opened_next}
use Rattle.host.specs.Once.{times}
use Rattle.device.specs.declared.jobs.Job.{Job}
use Rattle.host.specs.Sent.{AreOwn, IsSent, handed_in, item_of, open_count}
use Rattle.host.proofs.Handed.{hand_count, hand_sent, not_sent}
use Rattle.host.proofs.Stopping.{next_from, no_cause, still_from, still_of}
use Rattle.device.specs.Run.{Run}
use Rattle.host.specs.Looks.{IsHanding}
use Rattle.host.specs.declared.board.Board.{Board}
use Rattle.host.specs.declared.board.Look.{Look}
use Rattle.host.specs.declared.board.Look.TheVariants as look
use Rattle.host.proofs.board.Board.hand.Goals.{in-Ok-send, in-Err-send}
use Rattle.host.proofs.board.Board.hand.Goals as goal

pub send-requires : goal.send-requires
send-requires g c =
    let s = c.args.self.now in
    let is : s.jobs ≡ Some c.in-Some.jobs = search rules in
    let sent : IsSent s.state s.stop (Some c.in-Some.jobs) = subst (λ (o : Option (List Job)). IsSent s.state s.stop o) is s.sent in
    ap (λ (n : ℕ). times n (map item_of c.in-Some.jobs)) c.in-Ok.ensures.job.item
    ∙ not_sent s.state c.args.item (map item_of c.in-Some.jobs) c.is_reached.ensures.reached c.requires.may sent.2.0

pub invariant_of-self-in-Ok-send : goal.invariant_of-self-in-Ok-send
invariant_of-self-in-Ok-send g c =
    let s = c.args.self.now in
    let new = c.open.new.self in
    let is : s.jobs ≡ Some c.in-Some.jobs = search rules in
    let sent : IsSent s.state s.stop (Some c.in-Some.jobs) = subst (λ (o : Option (List Job)). IsSent s.state s.stop o) is s.sent in
    let opened = c.in-Ok.ensures.opened in
    let n = is_opened_next s.state new c.args.item opened in
    let more = hand_sent s.state new c.args.item c.in-Some.jobs c.in-Ok.job c.is_reached.ensures.reached c.requires.may c.requires.next.1 opened
    c.in-Ok.ensures.job sent.2.0 sent.2.1 in
    let count = hand_count s.state new c.args.item c.is_reached.ensures.reached c.requires.may c.requires.next.1 opened in
    record {
      program = s.program ∙ sym n.program;
      origin = next_from g.B.Origin.start s.state new n.program n.input n.capacity s.origin;
      cause = no_cause new s.stop c.requires.goes.0;
      sent = (
        sent.0,
        more.1,
        subst (λ (xs : List Job). (map item_of xs ≡ handed_in new) × AreOwn new xs) (sym c.in-Ok-send.ensures.sent) more.2,
      );
      count = ap (λ (k : ℕ). k + 1) s.count ∙ sym count;
    }

pub invariant_of-self-in-Err-send : goal.invariant_of-self-in-Err-send
invariant_of-self-in-Err-send g c =
    let s = c.args.self.now in
    let new = c.open.new.self in
    let opened = c.in-Ok.ensures.opened in
    let n = is_opened_next s.state new c.args.item opened in
    let count = hand_count s.state new c.args.item c.is_reached.ensures.reached c.requires.may c.requires.next.1 opened in
    record {
      program = s.program ∙ sym n.program;
      origin = next_from g.B.Origin.start s.state new n.program n.input n.capacity s.origin;
      cause = tt;
      sent = tt;
      count = ap (λ (k : ℕ). k + 1) s.count ∙ sym count;
    }

pub invariant_of-self-in-Err-open : goal.invariant_of-self-in-Err-open
invariant_of-self-in-Err-open g c =
    let s = c.args.self.now in
    let new = c.open.new.self in
    let e = c.in-Err.ensures.unchanged in
    let is : s.jobs ≡ Some c.in-Some.jobs = search rules in
    record {
      program = still_of s.image.now s.state new e s.program;
      origin = still_from g.B.Origin.start s.state new e s.origin;
      cause = no_cause new s.stop c.requires.goes.0;
      sent =
          subst (λ (r : Run). IsSent r s.stop (Some c.in-Some.jobs)) (sym e)
          (subst (λ (o : Option (List Job)). IsSent s.state s.stop o) is s.sent);
      count = s.count ∙ ap open_count (sym e);
    }

pub returns-after-send-clause-handed : goal.returns-after-send-clause-handed
returns-after-send-clause-handed g c =
    let s = c.args.self.now in
    let is : s.jobs ≡ Some c.in-Some.jobs = search rules in
    let none = c.requires.goes.0 in
    elim c.match-send.branch [
      | in-Ok-send w ↦
          (subst (λ (l : Look). IsHanding s.workers s.stop s.state s.jobs l c.match-send.self.stop c.match-send.self.state c.match-send.self.jobs)
          (sym w.result-is)
          (subst (λ (b : Board g.row.B.Denot g.B.Origin). IsHanding s.workers s.stop s.state s.jobs look.Again b.stop b.state b.jobs) (sym w.self-is) (
            none,
            none,
            record {
              item = c.args.item;
              job = c.in-Ok.job;
              before = c.in-Some.jobs;
              room = c.requires.goes.1;
              lowest = c.requires.next.0;
              own = c.requires.next.1;
              opened = c.in-Ok.ensures.opened;
              counted = hand_count s.state c.open.new.self c.args.item c.is_reached.ensures.reached c.requires.may c.requires.next.1 c.in-Ok.ensures.opened;
              was_sent = is;
              is_job = c.in-Ok.ensures.job;
              is_sent = ap (λ (xs : List Job). Some xs) w.in-Ok-send.ensures.sent;
            },
          )))
      | in-Err-send w ↦
          (subst (λ (l : Look). IsHanding s.workers s.stop s.state s.jobs l c.match-send.self.stop c.match-send.self.state c.match-send.self.jobs)
          (sym w.result-is)
          (subst (λ (b : Board g.row.B.Denot g.B.Origin). IsHanding s.workers s.stop s.state s.jobs look.Stop b.stop b.state b.jobs) (sym w.self-is)
          (tt, refl, inr (none, (refl, (c.args.item, c.in-Ok.ensures.opened))))))
    ]
