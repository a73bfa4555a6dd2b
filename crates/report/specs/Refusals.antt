-- The texts of what the checker refuses, a line each.
use Rattle.std.specs.Prelude.{ℕ, List, [], ◌++◌, Option, Some, None, decimal, codes}
use Rattle.base.specs.declared.item.Cell.{Cell}
use Rattle.base.specs.Codes.{range_code, refusal_code}
use Rattle.base.specs.declared.fault.RangeFault.{RangeFault}
use Rattle.base.specs.declared.fault.CheckFault.{CheckFault}
use Rattle.base.specs.declared.fault.CheckFault.TheVariants as check
use Rattle.base.specs.declared.tree.Program.{Program}
use Rattle.report.specs.Listing.{name_of}

abbrev pub place_text : ℕ → ℕ → List ℕ
place_text line column = codes " line " ++ (decimal line ++ (codes " column " ++ decimal column))

abbrev pub item_text : ℕ → List ℕ
item_text i = codes " item " ++ decimal i

-- ` NAME[index]`
abbrev pub cell_text : Program → Cell → List ℕ
cell_text p c = codes " " ++ (name_of p c.array.0 ++ (codes "[" ++ (decimal c.index ++ codes "]")))

abbrev pub other_text : Option ℕ → List ℕ
other_text None = []
other_text (Some i) = codes " with" ++ item_text i

-- the line of a refusal that names a cell
abbrev pub cell_line : Program → List ℕ → ℕ → Cell → Option ℕ → List ℕ
cell_line p word item c other = word ++ (item_text item ++ (cell_text p c ++ (other_text other ++ codes "\n")))

abbrev pub range_line : ℕ → RangeFault → List ℕ
range_line i f = range_code f.code ++ (item_text i ++ (place_text f.line f.column ++ codes "\n"))

abbrev pub check_line : Program → CheckFault → List ℕ
check_line p (check.Range i f) = range_line i f
check_line p (check.Order f) = cell_line p (codes "E505") f.item f.cell (Some f.other)
check_line p (check.Refused r) = cell_line p (refusal_code r.code) r.item r.cell r.other
check_line p check.OutOfMemory = codes "F1\n"
