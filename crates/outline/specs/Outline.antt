-- What an outline keeps of its program.
use Rattle.std.specs.Prelude.{ℕ, ◌≡◌, ◌<◌, ◌≤◌, ◌^◌, List, [], length, map}
use Rattle.base.specs.declared.tree.Program.{Program}
use Rattle.base.specs.declared.tree.Region.{Region}
use Rattle.base.specs.declared.item.Item.{Item}
use Rattle.base.specs.Meaning.{lengths_of}
use Rattle.base.specs.Items.{plan}
use Rattle.base.specs.Limits.{most_items}
use Rattle.outline.specs.declared.RegionEntry.{RegionEntry}
use Rattle.outline.specs.Regions.{entries_of, entry_of}
use Rattle.outline.specs.Shown.{all_shown, as_shown}

pub record IsOutline (p : Program) (lengths : List ℕ) (regions : List RegionEntry) (items : List Item)
    (none : Region) : Type 0 where
  pub lengths_kept : lengths ≡ lengths_of p
  pub regions_kept : map entry_of regions ≡ entries_of p
  pub items_kept : all_shown (entries_of p) items ≡ as_shown (plan p).items
  pub few : length items ≤ most_items
  pub few_arrays : length lengths < 2 ^ 32
  pub no_statement : none.body.items ≡ []
