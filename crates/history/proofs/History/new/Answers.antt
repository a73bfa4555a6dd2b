use Rattle.std.proofs.Common.{◌+◌, refl, ap, ◌∙◌, length}
use Rattle.history.specs.declared.Event.{Event}
use Rattle.history.specs.declared.State.TheVariants.{Stale}
use Rattle.history.specs.declared.Side.TheVariants.{Device}
use Rattle.history.specs.declared.How.TheVariants.{Never}
use Rattle.history.proofs.Starts.{none_more, one_more, since_all}
use Rattle.history.proofs.History.new.Goals as goal

pub devices-preserved : goal.devices-preserved
devices-preserved c =
    let event : Event = record { item = 0; side = Device c.devices.device; how = Never } in
    let ds = c.in_ok-push-2.ensures.items in
    let es = c.in_ok-push.ensures.items in
    record {
      count = ap length ds ∙ one_more c.devices.devices.items (Stale c.devices.device) ∙ ap (λ n. n + 1) c.devices.invariant.count;
      events = ap length es ∙ one_more c.devices.events.items event ∙ ap (λ n. n + 1) c.devices.invariant.events;
      none = none_more c.devices.devices.items c.push-in-devices.new.self.items c.devices.device ds c.devices.invariant.none;
      since = since_all c.devices.devices.items c.push-in-devices.new.self.items c.devices.events.items c.push.new.self.items event c.devices.device
          ds es c.devices.invariant.events refl c.devices.invariant.since;
    }
