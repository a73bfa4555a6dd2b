use Rattle.std.proofs.Common.{◌∙◌, refl, sym, ap, subst}
use Rattle.base.specs.Accepted.{is_host, is_target}
use Rattle.device.specs.Framing.{Captures}
use Rattle.device.proofs.Framings.{plain_serves}
use Rattle.device.proofs.standing.Standing.frame_of_none.Goals as goal

pub returns : goal.returns
returns c = record {
  serves = λ s w at b fine is of waits.
      plain_serves c.args.image.now c.args.self.now c.args.item c.captured-held.result.now _
      s w at b fine is waits (subst (λ d. Captures c.args.self.now d c.args.item c.captured-held.result.now) (sym of.deferred) c.captured-held.ensures)
      (ap is_host of.kind ∙ c.requires.host) (ap is_target of.kind ∙ c.requires.target)
      (record { item = refl; loops' = sym of.loops; scalars' = c.in_ok-scalars.ensures }) refl c.new.ensures.items;
}
