use Rattle.std.proofs.Common.{◌∙◌, ap, subst, sym}
use Rattle.std.specs.Prelude.{slice_get}
use Rattle.base.specs.declared.item.Event.TheVariants as event
use Rattle.device.specs.Jobs.{IsIssuedDone}
use Rattle.device.specs.Run.{Run}
use Rattle.device.proofs.IssuedFrames.{is_issued_done, of_item, runs_on, turns_are_apart}
use Rattle.device.proofs.MayClose.{close_facts}
use Rattle.device.proofs.Reaching.{asked}
use Rattle.device.proofs.state.RunState.job.Goals as goal

pub invariant_of-result : goal.invariant_of-result
invariant_of-result c =
    let s = c.self.inside in
    let it = c.index-items-item.result in
    let f = close_facts s c.args.self.now c.args.item _ c.items.result.now it c.self.view_is c.self.invariant c.requires.open
    c.items.ensures.shown c.index-items-item.is in
    let e = ap (λ (r : Run). slice_get r.issued c.args.item) c.self.view_is ∙ c.requires.held in
    let of = c.code.ensures f.item.work f.item.is in
    record {
      runs = runs_on s c.args.item it c.self.invariant f c.code.result.now c.args.frame of e;
      apart = λ kernel.
          turns_are_apart s c.args.item it c.self.invariant f c.code.result.now c.args.frame of e
          (sym (c.is_kernel.ensures) ∙ kernel);
    }

pub returns : goal.returns
returns c =
    let s = c.self.inside in
    let it = c.index-items-item.result in
    let f = close_facts s c.args.self.now c.args.item _ c.items.result.now it c.self.view_is c.self.invariant c.requires.open
    c.items.ensures.shown c.index-items-item.is in
    let e = ap (λ (r : Run). slice_get r.issued c.args.item) c.self.view_is ∙ c.requires.held in
    let of = c.code.ensures f.item.work f.item.is in
    record {
      item = of_item s c.args.item it c.self.invariant f c.code.result.now c.args.frame of e;
      issued =
          subst (λ r. IsIssuedDone r c.code.result.now c.args.frame) c.self.view_is
          (is_issued_done s c.args.item it c.self.invariant f c.code.result.now c.args.frame of e (asked s c.args.self.now (event.Close c.args.item) c.self.view_is c.requires.open));
    }
