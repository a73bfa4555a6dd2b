use Rattle.std.proofs.Common.{◌∙◌}
use Rattle.outline.proofs.Builds.{built}
use Rattle.outline.proofs.build.Goals as goal

pub invariant_of-result : goal.invariant_of-result
invariant_of-result c =
    built c.args.program.now _ _ _ _ _ _ _ _ _ _ c.new.ensures.items c.requires c.in_ok-lengths.ensures.lengths c.in_ok-lengths.ensures.few
    c.in_ok-regions.ensures.regions
    c.min.ensures (c.len.ensures
    ∙ c.in_ok-lengths.lengths.ok.0) c.deref.ensures.value c.deref-3.ensures.value
    c.deref-2.ensures.value c.deref-4.ensures.value c.in_ok-items.ensures
