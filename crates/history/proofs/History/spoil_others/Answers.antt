use Rattle.std.proofs.Common.{ap, sym, ◌∙◌, subst, false}
use Rattle.history.specs.declared.Side.TheVariants.{Device}
use Rattle.history.specs.Places.{shown, with_place}
use Rattle.history.specs.Since.{AreSince}
use Rattle.history.proofs.Showing.{are_other, are_same, below_next, below_same}
use Rattle.history.proofs.History.spoil_others.Goals.{else-device-own, then-device-own+in_ok-spoil}
use Rattle.history.proofs.History.spoil_others.Goals as goal

pub devices-preserved : goal.devices-preserved
devices-preserved c = elim c.if-device-own.branch [
  | then-device-own+in_ok-spoil w ↦ record {
    shown = ap shown w.self-is ∙ w.in_ok-spoil.ensures.shown ∙ ap (with_place (Device c.devices.device) false) c.devices.invariant.shown
        ∙ below_next c.devices.device (Device c.args.own) (shown c.args.self.now) (are_other c.devices.device c.args.own w.if-device-own.true);
    since = λ past h. subst (AreSince past c.args.item) (sym w.self-is) (w.in_ok-spoil.ensures.since past (c.devices.invariant.since past h));
    cell = ap (λ h. h.cell) w.self-is ∙ w.in_ok-spoil.ensures.cell ∙ c.devices.invariant.cell;
  }
  | else-device-own w ↦ record {
    shown = ap shown w.self-is ∙ c.devices.invariant.shown
        ∙ below_same c.devices.device (Device c.args.own) (shown c.args.self.now) (are_same c.devices.device c.args.own w.if-device-own.false);
    since = λ past h. subst (AreSince past c.args.item) (sym w.self-is) (c.devices.invariant.since past h);
    cell = ap (λ h. h.cell) w.self-is ∙ c.devices.invariant.cell;
  }
]
