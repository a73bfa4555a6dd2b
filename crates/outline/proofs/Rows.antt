-- The rows that the parts in a part have in its vector.
use mathlib.Core.Former.{Count}
use Rattle.base.specs.declared.tree.Part.{Part, Row_of-Part, end_of-Part}
use Rattle.base.specs.declared.tree.Part.TheVariants as part

abbrev pub PartRow : Type 0
PartRow = (n : Count) × Row_of-Part n

abbrev pub part_row : Part → PartRow
part_row (part.Block' _ row) = (_, row)
part_row (part.Loop' _ _ row) = (_, row)
part_row (part.Data' _ _ row) = (_, row)
part_row _ = (_, end_of-Part)
