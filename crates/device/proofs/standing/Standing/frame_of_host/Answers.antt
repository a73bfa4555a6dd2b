use Rattle.std.proofs.Common.{◌∙◌, sym, ap, subst, arith}
use Rattle.base.specs.Items.{plan}
use Rattle.frames.specs.Reach.{AreRuns}
use Rattle.device.specs.Framing.{Captures}
use Rattle.device.proofs.Framings.{host_serves, some_work}
use Rattle.device.proofs.standing.Standing.frame_of_host.Goals as goal

pub host_frame-requires : goal.host_frame-requires
host_frame-requires c =
    let w = some_work (plan c.args.image.now).items c.args.item (let a = c.requires.inside in let b = c.requires.same in omega arith) in
    subst (λ ls. AreRuns ls c.reach-reach.result.now) (sym c.requires.lengths) (c.reach-reach.ensures w.0 w.1).runs

pub returns : goal.returns
returns c = record {
  serves = λ s w at b fine is of waits.
      host_serves c.args.image.now c.args.self.now c.args.item c.captured-held.result.now (record { frame = c.in_ok-frame.frame; reach = c.reach-reach.result })
      s w at b fine is waits (subst (λ d. Captures c.args.self.now d c.args.item c.captured-held.result.now) (sym of.deferred) c.captured-held.ensures)
      (of.kind ∙ c.requires.kind) (c.reach-reach.ensures w is)
      (record { item = c.in_ok-frame.ensures.item; loops' = ap (λ l. l.values.items) c.in_ok-frame.ensures.loops ∙ sym of.loops; scalars' = c.in_ok-frame.ensures.scalars ∙ c.in_ok-scalars.ensures })
      c.in_ok-frame.ensures.input c.in_ok-frame.ensures.bounded c.in_ok-frame.ensures.cells;
}
