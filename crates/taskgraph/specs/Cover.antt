-- Depend items that stand for others.
use Rattle.std.specs.Prelude.{Bool, not, ◌&&◌, ◌||◌, List}
use Rattle.std.specs.List.{list_all, list_any}
use Rattle.base.specs.declared.item.Depend.{Depend}
use Rattle.base.specs.Machine.{writes_to}
use Rattle.base.specs.Memory.{is_inside}

-- whatever matches the later depend item, matches the earlier one
abbrev pub stands_for : Depend → Depend → Bool
stands_for e d = is_inside d.section e.section && (writes_to e.kind || not (writes_to d.kind))

-- each of the later depend items has an earlier one that stands for it
abbrev pub covers : List Depend → List Depend → Bool
covers earlier later = list_all (λ d. list_any (λ e. stands_for e d) earlier) later
