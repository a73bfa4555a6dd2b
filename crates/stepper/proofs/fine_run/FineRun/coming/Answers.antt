use Rattle.std.proofs.Common.{sym, subst}
use Rattle.base.specs.Items.{plan}
use Rattle.fine_machine.specs.Machine.{has_step}
use Rattle.outline.specs.Regions.{entries_of}
use Rattle.stepper.specs.declared.stops.Stop.{Stop}
use Rattle.stepper.specs.Run.{IsGoing, Run, state_of}
use Rattle.stepper.specs.Running.{run_of}
use Rattle.stepper.specs.Stops.{IsComing}
use Rattle.stepper.proofs.Able.{in_items, known, on_device, stands}
use Rattle.stepper.proofs.Asked.{may_step}
use Rattle.stepper.proofs.fine_run.FineRun.coming.Goals as goal

pub bounds-items-item : goal.bounds-items-item
bounds-items-item c =
    let r = run_of c.self.inside in
    in_items (plan r.program) (entries_of r.program) c.items.result.now c.items.ensures.shown c.in-Step.item _
    (may_step r _ c.args.event c.in-Step.item c.self.view_is c.in-Step.is c.requires.enabled)

pub returns : goal.returns
returns c =
    let r = run_of c.self.inside in
    let p = plan r.program in
    let i = c.in-Step.item in
    let able = may_step r _ c.args.event i c.self.view_is c.in-Step.is c.requires.enabled in
    let k = known p i (λ w. has_step ((state_of r).condition i)) able in
    let entries = entries_of r.program in
    let its = c.items.result.now in
    let it = c.index-items-item.result in
    let stop : Stop =
    record { item = i; place = it.place; device = it.device; on_host = c.in_ok-on_host.on_host; action = c.in_ok-on_host.action } in
    subst (λ (x : Run). IsComing (plan x.program) (state_of x) c.args.event stop) c.self.view_is
    (record {
      is = c.in-Step.is;
      work = k.work;
      at = k.is;
      place = sym (stands p entries its c.items.ensures.shown i _ able it c.index-items-item.is k.work k.is);
      device = sym (on_device p entries its c.items.ensures.shown i _ able it c.index-items-item.is c.self.invariant.fine k.work k.is);
      asks = c.in_ok-on_host.ensures p (state_of r) (c.self.invariant.going (subst IsGoing (sym c.self.view_is) c.requires.going)).at able;
    })
