use Rattle.std.proofs.Common.{◌≡◌, ◌∙◌, List, ap, arith, length, refl, subst, sym}
use Rattle.std.specs.Vec.{with_items}
use Rattle.std.proofs.lemmas.List.{with_items_is}
use Rattle.kernel.specs.declared.frames.Row.{Row}
use Rattle.kernel.specs.Rows.{cells_of}
use Rattle.frames.specs.Reach.{in_reach}
use Rattle.frames.specs.Views.{every}
use Rattle.present.specs.Rows.{over}
use Rattle.regions.specs.Footprints.{BoundedView}
use Rattle.device.proofs.Refilled.{target_filled}
use Rattle.device.proofs.opening.fill.Goals as goal

pub returns-in-Target-clause-filled : goal.returns-in-Target-clause-filled
returns-in-Target-clause-filled c =
    let rows = c.args.unfilled.frame.rows in
    let new = c.load_rows.new.rows in
    let count = c.load_rows.ensures.fits.count in
    let was = ap length c.deref_mut.ensures.value in
    let is : (with_items rows new).items ≡ new = with_items_is rows new (omega (arith, count, was, rows.ok.0)) in
    target_filled c.args.kind c.args.unfilled c.load_rows.new.table _ c.in-Target.is record {
      item = refl;
      loops = refl;
      scalars = refl;
      input = refl;
      cells =
          ap cells_of is ∙ c.load_rows.ensures.cells
          ∙ sym (ap (λ numbers. in_reach c.args.unfilled.reach.now (over numbers (every 0)))
          c.load_rows.ensures.unchanged.numbers);
      bounded = subst (λ (rs : List Row). BoundedView (cells_of rs)) (sym is) c.load_rows.ensures.bounded;
    }
