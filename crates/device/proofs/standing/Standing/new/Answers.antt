use Rattle.std.proofs.Common.{refl, ap, ◌∙◌, map, replicate, ℕ, Option, None}
use Rattle.base.specs.Items.{plan}
use Rattle.device.specs.Standing.{Issue, issue_of}
use Rattle.device.proofs.Starts.{as_many, issue_none, started}
use Rattle.device.proofs.standing.Standing.new.Goals as goal

pub returns-clause-start : goal.returns-clause-start
returns-clause-start c =
    started (plan c.args.image.now) _ c.items-items.result.now c.args.input.now _ c.items-items.ensures.shown
    (record {
      zeros = c.in_ok-host.ensures.zeros;
      lengths = c.in_ok-host.ensures.lengths ∙ c.lengths.ensures.lengths;
      empty = c.new-devices.ensures.empty;
      alike = c.new-devices.ensures.alike;
      graph = c.in_ok-graph.ensures;
      ended = refl;
      scalars = c.zeros.ensures;
      given = refl;
      output = c.new-3.ensures;
      held = c.in_ok-held.ensures;
    })

pub returns-clause-held : goal.returns-clause-held
returns-clause-held c =
    ap (λ hs. map issue_of hs) c.in_ok-held.ensures ∙ issue_none _
    ∙ ap (λ (n : ℕ). replicate {A = Option Issue} n None) (as_many _ c.items-items.result.now _ c.items-items.ensures.shown)
