-- The text of an accepted program: a line for it, and one for each array marked current.
use Rattle.std.specs.Prelude.{ℕ, List, ◌++◌, flat_map, codes}
use Rattle.base.specs.declared.tree.ArrayId.{ArrayId}
use Rattle.base.specs.declared.tree.Program.{Program}
use Rattle.report.specs.Listing.{name_of}

-- `current NAME`
abbrev pub current_line : Program → ArrayId → List ℕ
current_line p a = codes "current " ++ (name_of p a.0 ++ codes "\n")

abbrev pub accepted_bytes : Program → List ArrayId → List ℕ
accepted_bytes p arrays = codes "accepted\n" ++ flat_map (current_line p) arrays
