-- An outline keeps what it was built from.
use Rattle.std.proofs.Common.{◌≡◌, ℕ, ◌<◌, ◌≤◌, ◌^◌, min, List, [], map, length, Some, sym, ap, ◌∙◌, arith}
use Rattle.std.proofs.lemmas.List.{length-map}
use Rattle.base.specs.declared.item.Item.{Item}
use Rattle.base.specs.declared.tree.Part.{Part}
use Rattle.base.specs.declared.tree.Program.{Program}
use Rattle.base.specs.declared.tree.Region.{Region}
use Rattle.base.specs.Meaning.{lengths_of}
use Rattle.base.specs.Items.{Work, plan}
use Rattle.base.specs.Limits.{most_items}
use Rattle.outline.specs.declared.RegionEntry.{RegionEntry}
use Rattle.outline.specs.Regions.{Entry, entry_of, list_entries, entries_of}
use Rattle.outline.specs.Outline.{IsOutline}
use Rattle.outline.specs.Parts.{parts_items}
use Rattle.outline.specs.Shown.{shown, all_shown, as_shown}
use Rattle.outline.proofs.Lengths.{list_is_parts}

-- as many items as works
pub as_many : (es : List Entry) (items : List Item) (works : List Work) → all_shown es items ≡ as_shown works →
    length items ≡ length works
as_many es items works e =
    sym (length-map items (shown es)) ∙ ap (λ xs. length xs) e ∙ length-map works (λ w. Some w)

pub built : (p : Program) (lengths : List ℕ) (regions held : List RegionEntry) (items : List Item) (s a : ℕ)
    (parts body : List Part) (kept : List ℕ) (none : Region) → none.body.items ≡ [] → length (plan p).items ≤ most_items → lengths ≡ lengths_of p →
    length lengths < 2 ^ 32 →
    map entry_of regions ≡ list_entries s a parts → s ≡ min p.scalars 256 → a ≡ length lengths →
    parts ≡ p.body.items → held ≡ regions → kept ≡ lengths → body ≡ p.body.items →
    all_shown (map entry_of held) items ≡ as_shown (parts_items body kept []) →
    IsOutline p lengths regions items none
built p lengths regions held items s a parts body kept none empty few lengths_is few_lengths regions_are s_is a_is parts_is held_is kept_is
    body_is items_are =
    record {
      lengths_kept = lengths_is;
      regions_kept = whole;
      items_kept = all;
      few = let same = as_many (entries_of p) items (plan p).items all in omega (arith, same, few);
      few_arrays = few_lengths;
      no_statement = empty;
    }
  where
    whole : map entry_of regions ≡ entries_of p
    whole =
        regions_are
        ∙ (λ i. list_entries (s_is i) ((a_is ∙ ap (λ ls. length ls) lengths_is) i) (parts_is i))

    all : all_shown (entries_of p) items ≡ as_shown (plan p).items
    all =
        ap (λ es. all_shown es items) (sym (ap (λ rs. map entry_of rs) held_is ∙ whole))
        ∙ items_are
        ∙ (λ i. as_shown (parts_items (body_is i) ((kept_is ∙ lengths_is) i) []))
        ∙ ap (λ ws. as_shown ws) (sym (list_is_parts p.body.items (lengths_of p)))
