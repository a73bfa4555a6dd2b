use Rattle.std.proofs.Common.{◌≡◌, ◌∙◌, ap, sym, subst, inl, inr}
use Rattle.device.specs.Run.{HasOpened, Run}
use Rattle.device.proofs.Reaching.{is_opened_next}
use Rattle.host.specs.Sent.{IsSent, open_count}
use Rattle.host.proofs.Handed.{host_opened_count, host_opened_sent, opened_or_not}
use Rattle.host.proofs.Stopping.{next_from, no_cause, still_from, still_of}
use Rattle.host.proofs.board.Board.open.Goals as goal

pub invariant_of-self : goal.invariant_of-self
invariant_of-self g c =
    let s = c.args.self.now in
    let new = c.open.new.self in
    let none = c.requires.goes.0 in
    let own = c.requires.goes.1 in
    elim (opened_or_not c.open.result (HasOpened c.args.item s.state new) (new ≡ s.state) c.open.ensures.opened c.open.ensures.unchanged) [
      | inl h ↦
          (let n = is_opened_next s.state new c.args.item h in
          record {
            program = s.program ∙ sym n.program;
            origin = next_from g.B.Origin.start s.state new n.program n.input n.capacity s.origin;
            cause = no_cause new s.stop none;
            sent = host_opened_sent s.state new c.args.item s.stop s.jobs c.is_reached.ensures.reached c.requires.may own h none s.sent;
            count = host_opened_count s.state new c.args.item s.open_items c.is_reached.ensures.reached c.requires.may own h s.count;
          })
      | inr e ↦
          (record {
            program = still_of s.image.now s.state new e s.program;
            origin = still_from g.B.Origin.start s.state new e s.origin;
            cause = no_cause new s.stop none;
            sent = subst (λ (r : Run). IsSent r s.stop s.jobs) (sym e) s.sent;
            count = s.count ∙ ap open_count (sym e);
          })
    ]
