use Rattle.std.proofs.Common.{◌≡◌, Bool, true, false, refl}
use Rattle.std.specs.Prelude.{not, ◌&&◌, ◌||◌}
use mathlib.Core.Path.{fun_ext}
use Rattle.base.specs.declared.item.Cell.{Cell}
use Rattle.ranges.specs.Cells.{has, is_among}
use Rattle.ranges.proofs.cells.CellSet.expose.Goals as goal

-- a cell of those that were read is in one of the two sets
nothing_more : (exposed among sure : Bool) → (among ≡ true → (exposed || sure) ≡ true) →
    exposed ≡ (exposed || (among && not sure))
nothing_more true among sure known = refl
nothing_more false true true known = refl
nothing_more false true false known = known refl
nothing_more false false sure known = refl

pub returns-then-covers-clause-ok : goal.returns-then-covers-clause-ok
returns-then-covers-clause-ok c = fun_ext (λ (d : Cell).
    nothing_more (has c.args.self.now d) (is_among c.args.array c.args.cells d) (has c.args.sure.now d)
    (λ among. c.requires.known d (c.covers.ensures c.if-covers.true d among)))
