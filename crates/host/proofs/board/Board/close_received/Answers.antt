use Rattle.std.proofs.Common.{rules, ◌≡◌, ◌∙◌, Option, Some, None, true≢false, ap, sym, subst, ⊎_elim}
use Rattle.base.specs.declared.item.Event.TheVariants.{Close}
use Rattle.base.specs.Items.{plan}
use Rattle.base.specs.Machine.{HasEnded, enabled}
use Rattle.device.specs.Run.{Run, state_of}
use Rattle.host.specs.Looks.{IsClosing}
use Rattle.host.specs.Sent.{AreOwn}
use Rattle.host.specs.Stops.{first_stop}
use Rattle.host.specs.declared.board.Stop.{Stop}
use Rattle.host.specs.declared.board.Stop.TheVariants as stop
use Rattle.host.proofs.Handed.{not_ended}
use Rattle.host.proofs.Owned.{own_is_issued}
use Rattle.host.proofs.board.Board.close_received.Goals as goal

pub close_issued-requires-clause-issued : goal.close_issued-requires-clause-issued
close_issued-requires-clause-issued g c =
    let d = c.args.done.now in
    let r = c.has_sent-inbox.new.self.state in
    let same = c.has_sent-inbox.ensures.same in
    let may = sym c.is_enabled.ensures ∙ c.if-is_enabled.true in
    ⊎_elim
    (λ ended. absurd (not_ended r (Close d.frame.now.item) c.is_reached.ensures.reached may
    (subst (λ (x : Run). HasEnded (plan x.program) (state_of x)) (sym same) ended)))
    (λ own. own_is_issued r c.args.inbox d.region.now d.frame.now c.open_items_are_issued.ensures
    (subst (λ (x : Run). AreOwn x c.args.inbox) (sym same) own) c.requires may)
    c.has_sent-inbox.ensures.own

pub returns-then-is_enabled-clause-closing : goal.returns-then-is_enabled-clause-closing
returns-then-is_enabled-clause-closing g c =
    let s = c.args.self.now in
    let d = c.args.done.now in
    let none : s.stop ≡ None = search rules in
    let new = c.close_issued.new.self in
    subst (λ (o : Option Stop). IsClosing o s.state d.region.now d.frame.now new.stop new.state) (sym none)
    (subst (λ (x : Run). IsClosing None x d.region.now d.frame.now new.stop new.state) c.has_sent-inbox.ensures.same
    c.close_issued.ensures)

pub returns-else-is_enabled-clause-closing : goal.returns-else-is_enabled-clause-closing
returns-else-is_enabled-clause-closing g c =
    let s = c.args.self.now in
    let d = c.args.done.now in
    let none : s.stop ≡ None = search rules in
    let new = c.halt.new.self in
    let same = c.has_sent-inbox.ensures.same in
    let stops : new.stop ≡ Some stop.Stranger =
    c.halt.ensures.first ∙ ap (λ (o : Option Stop). first_stop o stop.Stranger) c.has_sent-inbox.ensures.goes in
    subst (λ (o : Option Stop). IsClosing o s.state d.region.now d.frame.now new.stop new.state) (sym none)
    (subst (λ (o : Option Stop). IsClosing None s.state d.region.now d.frame.now o new.state) (sym stops) (
      c.halt.ensures.state.0 ∙ same,
      λ h. true≢false
          (sym h.is_open ∙ ap (λ (x : Run). enabled (plan x.program) (state_of x) (Close d.frame.now.item)) (sym same)
          ∙ sym c.is_enabled.ensures ∙ c.if-is_enabled.false),
    ))
