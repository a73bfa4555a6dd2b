use Rattle.std.proofs.Common.{◌∙◌, sym, ap, subst, arith}
use Rattle.base.specs.Items.{plan}
use Rattle.device.specs.Framing.{Captures}
use Rattle.device.proofs.Framings.{kernel_serves, some_work}
use Rattle.device.proofs.standing.Standing.frame_of_target.Goals as goal

pub returns-clause-empty : goal.returns-clause-empty
returns-clause-empty c =
    let w = some_work (plan c.args.image.now).items c.args.item (let a = c.requires.inside in let b = c.requires.same in omega arith) in
    record { room = c.in_ok-frame.ensures.room; arrays = (c.reach-reach.ensures w.0 w.1).runs.of_arrays }

pub returns-clause-serves : goal.returns-clause-serves
returns-clause-serves c s w at b fine is of waits =
    kernel_serves c.args.image.now c.args.self.now c.args.item c.captured-held.result.now
    (record { frame = c.in_ok-frame.frame; reach = c.reach-reach.result })
    s w at b fine is waits (subst (λ d. Captures c.args.self.now d c.args.item c.captured-held.result.now) (sym of.deferred) c.captured-held.ensures)
    (of.kind ∙ c.requires.kind) (c.reach-reach.ensures w is)
    (record { item = c.in_ok-frame.ensures.item; loops' = ap (λ l. l.values.items) c.in_ok-frame.ensures.loops ∙ sym of.loops; scalars' = c.in_ok-frame.ensures.scalars ∙ c.in_ok-scalars.ensures })
    c.in_ok-frame.ensures.input
