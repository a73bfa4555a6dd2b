use Rattle.std.proofs.Common.{◌≡◌, ◌∙◌, true, false, None, ap, sym, subst}
use Rattle.base.specs.declared.item.Event.TheVariants.{Open}
use Rattle.base.specs.Items.{plan}
use Rattle.device.specs.Run.{Run}
use Rattle.host.specs.Idle.{is_for_workers}
use Rattle.host.specs.Origins.{IsFrom}
use Rattle.host.proofs.Handed.{closed_busy, closed_other, closed_sent}
use Rattle.host.proofs.Idle.{closed_own}
use Rattle.host.proofs.Stopping.{no_cause}
use Rattle.host.proofs.board.Board.close_issued.Goals as goal

pub overflow_sub-self : goal.overflow_sub-self
overflow_sub-self g c =
    let s = c.args.self.now in
    let i = c.args.done.now.frame.now.item in
    let may = c.requires.issued.is_open in
    let own : is_for_workers (plan s.state.program) (Open i) ≡ true =
    closed_own s.image.now s.state c.items.result.now i c.index-items-done.result s.program c.items.ensures.shown may c.index-items-done.is
    ∙ sym c.is_handed.ensures ∙ c.if-is_handed.true in
    (closed_busy s.state c.close_issued.new.self i s.open_items c.is_reached.ensures.reached may c.in-Ok.ensures.closed own s.count).0

pub invariant_of-self : goal.invariant_of-self
invariant_of-self g c =
    let s = c.args.self.now in
    let i = c.args.done.now.frame.now.item in
    let may = c.requires.issued.is_open in
    let is = c.in-Ok.ensures.closed in
    let own : is_for_workers (plan s.state.program) (Open i) ≡ true =
    closed_own s.image.now s.state c.items.result.now i c.index-items-done.result s.program c.items.ensures.shown may c.index-items-done.is
    ∙ sym c.is_handed.ensures ∙ c.if-is_handed.true in
    let none : s.stop ≡ None = c.requires.goes in
    record {
      program = s.program ∙ sym (ap (λ (r : Run). r.program) is);
      origin = subst (λ (r : Run). IsFrom g.B.Origin.start r) (sym is) s.origin;
      cause = no_cause c.close_issued.new.self s.stop none;
      sent = closed_sent s.state c.close_issued.new.self i s.stop s.jobs c.is_reached.ensures.reached may is none s.sent;
      count = (closed_busy s.state c.close_issued.new.self i s.open_items c.is_reached.ensures.reached may is own s.count).1;
    }

pub invariant_of-self-else-is_handed : goal.invariant_of-self-else-is_handed
invariant_of-self-else-is_handed g c =
    let s = c.args.self.now in
    let i = c.args.done.now.frame.now.item in
    let may = c.requires.issued.is_open in
    let is = c.in-Ok.ensures.closed in
    let own : is_for_workers (plan s.state.program) (Open i) ≡ false =
    closed_own s.image.now s.state c.items.result.now i c.index-items-done.result s.program c.items.ensures.shown may c.index-items-done.is
    ∙ sym c.is_handed.ensures ∙ c.if-is_handed.false in
    let none : s.stop ≡ None = c.requires.goes in
    record {
      program = s.program ∙ sym (ap (λ (r : Run). r.program) is);
      origin = subst (λ (r : Run). IsFrom g.B.Origin.start r) (sym is) s.origin;
      cause = no_cause c.close_issued.new.self s.stop none;
      sent = closed_sent s.state c.close_issued.new.self i s.stop s.jobs c.is_reached.ensures.reached may is none s.sent;
      count = closed_other s.state c.close_issued.new.self i s.open_items c.is_reached.ensures.reached may is own s.count;
    }
