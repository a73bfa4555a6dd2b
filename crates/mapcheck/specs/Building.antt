-- How the accesses of an item are put together.
use Rattle.std.specs.Prelude.{ℕ, List, [], ◌∷◌, ◌++◌}
use Rattle.base.specs.declared.item.MapItem.{MapItem}
use Rattle.base.specs.Actions.{Action, Counts, Creates, CopiesIn, CopiesOut, Removes, only_if}
use Rattle.mapwalk.specs.declared.rows.Acts.{Acts}
use Rattle.mapcheck.specs.declared.accesses.Accesses.{Accesses}
use Rattle.mapcheck.specs.declared.items.Part.{Part}
use Rattle.mapcheck.specs.declared.items.Part.TheVariants.{Entry, Exit, Update}
use Rattle.mapcheck.specs.Accesses.{AreAccesses}

-- the accesses of these actions are added
abbrev pub ExtendsBy : List Action → Accesses → Accesses → Type 0
ExtendsBy more old new =
    (d : ℕ) (actions : List Action) → AreAccesses old d actions → AreAccesses new d (actions ++ more)

-- one map item
abbrev pub part_actions : Part → MapItem → Acts → List Action
part_actions Entry m a =
    Counts a.block a.rests ∷ (only_if a.creates (Creates a.block) ++ only_if a.copies_in (CopiesIn m.section))
part_actions Exit m a =
    Counts a.block a.rests ∷ (only_if a.copies_out (CopiesOut m.section) ++ only_if a.removes (Removes a.block))
part_actions Update m a =
    Counts a.block a.rests ∷ (only_if a.copies_in (CopiesIn m.section) ++ only_if a.copies_out (CopiesOut m.section))

abbrev pub row_actions : Part → List MapItem → List Acts → List Action
row_actions part [] row = []
row_actions part (m ∷ maps) [] = []
row_actions part (m ∷ maps) (a ∷ row) = part_actions part m a ++ row_actions part maps row
