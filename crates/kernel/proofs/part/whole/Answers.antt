use Rattle.kernel.specs.Rows.{cells_stored}
use Rattle.kernel.proofs.Spreads.{whole_kept}
use Rattle.kernel.proofs.part.whole.Goals as goal

pub invariant_of-result : goal.invariant_of-result
invariant_of-result c =
    let o = c.args.of.now in
    record {
      is_meaning =
          whole_kept o.region.now o.frame.now o.bounds o.body.now o.is_spread c.args.part
          (cells_stored c.in_ok-kept.field-0.items) c.requires c.in_ok-kept.ensures;
    }
