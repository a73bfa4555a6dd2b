use Rattle.std.proofs.Common.{◌≡◌, true, sym, ap, ◌∙◌}
use Rattle.outline.specs.Regions.{Entry, entry, entry_of}
use Rattle.outline.specs.declared.RegionEntry.{RegionEntry}
use Rattle.outline.specs.Walk.{entries_in}
use Rattle.outline.proofs.Stands.{stand_get}
use Rattle.outline.proofs.Shows.{target_shown, image_at}
use Rattle.outline.proofs.items.target_item.Goals as goal

pub returns : goal.returns
returns c =
    let here = stand_get (entries_in c.args.known.now) c.args.number _ c.requires in
    let same : entry_of c.index-known-number.result
    ≡ entry c.args.known.now.counts.scalars c.args.known.now.counts.arrays true c.args.region.now =
    image_at entry_of c.args.known.now.regions.now c.args.number c.index-known-number.result _ here
    c.index-known-number.is in
    target_shown (entries_in c.args.known.now) c.args.number _ _ _ c.args.target.now _ _ _ _ _ _ _
    here c.device.ensures c.args.known.now.arrays_counted
    (c.deref.ensures.value ∙ ap (λ (x : RegionEntry). x.arrays.items) (sym c.index-known-number.is)
    ∙ ap (λ (e : Entry). e.arrays) same)
    c.deref-2.ensures c.in_ok-target_maps.ensures c.in_ok-depend_items.ensures c.in_ok-loop_values.ensures
