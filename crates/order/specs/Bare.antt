-- Items without their regions.
use Rattle.std.specs.Prelude.{List, [], None, map}
use Rattle.base.specs.declared.item.Item.{Item}
use Rattle.base.specs.Items.{Work, Plan}
use Rattle.outline.specs.Shown.{work_with}

abbrev pub bare : Item → Work
bare it = work_with it None

-- as far as the order asks, the plan of some items
abbrev pub plan_of : List Item → Plan
plan_of its = record { lengths = []; items = map bare its }
