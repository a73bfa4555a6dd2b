-- What the walk over the parts of a program knows and keeps.
use Rattle.std.specs.Prelude.{ℕ, ◌≡◌, ◌+◌, ◌++◌, ◌==◌, [], ◌∷◌, Bool, not, List, map, filter, sum_by}
use Rattle.std.specs.List.{list_any}
use Rattle.base.specs.declared.tree.ArrayId.{ArrayId}
use Rattle.base.specs.declared.tree.MapText.{MapText}
use Rattle.base.specs.declared.tree.RegionKind.{RegionKind}
use Rattle.base.specs.declared.tree.Region.{Region}
use Rattle.base.specs.declared.tree.Place.{Place}
use Rattle.base.specs.declared.tree.Part.{Part, Row_of-Part, end_of-Part, more_of-Part}
use Rattle.base.specs.declared.tree.Part.TheVariants as part
use Rattle.base.specs.declared.item.Item.{Item}
use Rattle.base.specs.declared.item.MapItem.{MapItem}
use Rattle.base.specs.Items.{Work, implicit_map}
use Rattle.outline.specs.Regions.{Entry, StandAt, entry, entry_of, part_entries, list_entries}
use Rattle.outline.specs.Shown.{all_shown, as_shown}
use Rattle.outline.specs.declared.known.Known.{Known}

abbrev pub entries_in : Known → List Entry
entries_in k = map entry_of k.regions.now

abbrev pub RegionIsAt : Known → ℕ → Bool → Region → Type 0
RegionIsAt k place is_kernel r =
    StandAt (entries_in k) place (entry k.counts.scalars k.counts.arrays is_kernel r ∷ [])

abbrev pub PartIsAt : Known → ℕ → Part → Type 0
PartIsAt k place p = StandAt (entries_in k) place (part_entries k.counts.scalars k.counts.arrays p)

abbrev pub PartsAreAt : Known → ℕ → List Part → Type 0
PartsAreAt k place ps = StandAt (entries_in k) place (list_entries k.counts.scalars k.counts.arrays ps)

-- these works were added
abbrev pub Added : List Entry → List Item → List Item → List Work → Type 0
Added entries old new works = all_shown entries new ≡ all_shown entries old ++ as_shown works

abbrev mutual
  -- how many regions a part has
  pub part_regions : Part → ℕ
  part_regions (part.Host r) = 1
  part_regions (part.Block' shape all) = row_regions all
  part_regions (part.Loop' b shape all) = row_regions all
  part_regions (part.Target t r) = 1
  part_regions (part.Data' d shape all) = row_regions all
  part_regions (part.Alone place d) = 0

  pub row_regions : {m : _} → Row_of-Part m → ℕ
  row_regions end_of-Part = 0
  row_regions (more_of-Part first rest) = part_regions first + row_regions rest

abbrev pub list_regions : List Part → ℕ
list_regions parts = sum_by part_regions parts

-- whether one of the map items is of the array
abbrev pub is_named : List (MapText RegionKind) → ℕ → Bool
is_named texts a = list_any (λ m. a == m.section.array.0) texts

-- the arrays that no written map item names, mapped whole
abbrev pub implicit_of : List ℕ → Place → List (MapText RegionKind) → List ArrayId → List MapItem
implicit_of lengths place texts arrays =
    map (λ a. implicit_map lengths place a.0) (filter (λ a. not (is_named texts a.0)) arrays)
