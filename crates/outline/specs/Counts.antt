-- How many items a part of a program has, by multiplication.
use Rattle.std.specs.Prelude.{ℕ, ◌+◌, ◌*◌, List, sum_by}
use Rattle.base.specs.declared.tree.Part.{Part, Row_of-Part, end_of-Part, more_of-Part}
use Rattle.base.specs.declared.tree.Part.TheVariants as part
use Rattle.base.specs.Meaning.{turns_of}

abbrev mutual
  pub part_count : Part → ℕ
  part_count (part.Host r) = 1
  part_count (part.Block' shape all) = row_count all
  part_count (part.Loop' b shape all) = turns_of b * row_count all
  part_count (part.Target t r) = 1
  part_count (part.Data' d shape all) = row_count all + 2
  part_count (part.Alone place d) = 1

  pub row_count : {m : _} → Row_of-Part m → ℕ
  row_count end_of-Part = 0
  row_count (more_of-Part first rest) = part_count first + row_count rest

abbrev pub list_count : List Part → ℕ
list_count parts = sum_by part_count parts
