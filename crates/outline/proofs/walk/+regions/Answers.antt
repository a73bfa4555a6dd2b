use Rattle.std.proofs.Common.{arith, ap, sym, ◌∙◌, min, ◌-◌, ◌^◌}
use Rattle.outline.specs.Walk.{list_regions, part_regions}
use Rattle.outline.proofs.Trees.{regions_Block, regions_Loop, regions_Data}
use Rattle.std.proofs.lemmas.Grind.{common_steps}
use Rattle.outline.proofs.walk.+regions.Goals as goal

pub regions_in-returns-in-Loop : goal.regions_in-returns-in-Loop
regions_in-returns-in-Loop t c =
    c.regions_in_all-in-Loop.ensures
    ∙ ap (λ xs. min (list_regions xs) (2 ^ 32 - 1)) c.deref-in-Loop.ensures.value
    ∙ ap (λ n. min n (2 ^ 32 - 1)) (sym (regions_Loop c.in-Loop.field-0 c.in-Loop.body) ∙ ap (λ p. part_regions p)
    (sym c.in-Loop.is))

pub regions_in-returns-in-Data : goal.regions_in-returns-in-Data
regions_in-returns-in-Data t c =
    c.regions_in_all-in-Data.ensures
    ∙ ap (λ xs. min (list_regions xs) (2 ^ 32 - 1)) c.deref-in-Data.ensures.value
    ∙ ap (λ n. min n (2 ^ 32 - 1)) (sym (regions_Data c.in-Data.field-0 c.in-Data.body) ∙ ap (λ p. part_regions p)
    (sym c.in-Data.is))

pub regions_in-returns-in-Block : goal.regions_in-returns-in-Block
regions_in-returns-in-Block t c = grind (arith, regions_Block)

pub regions_in_all-parts-preserved : goal.regions_in_all-parts-preserved
regions_in_all-parts-preserved t c = grind (arith, common_steps)

pub regions_in_all-returns : goal.regions_in_all-returns
regions_in_all-returns t c = grind (arith, common_steps)
