use Rattle.std.proofs.Common.{◌≡◌, ℕ, ◌<◌, [], get_or, length, sym, ap, ◌∙◌, subst, arith}
use Rattle.base.specs.declared.tree.Program.{Program}
use Rattle.base.specs.Items.{plan}
use Rattle.base.specs.Meaning.{lengths_of}
use Rattle.base.specs.Accepted.{section_faults}
use Rattle.outline.specs.Regions.{entries_of}
use Rattle.ranges.specs.Faults.{IsFirst}
use Rattle.mapwalk.specs.Found.{all_found}
use Rattle.mapwalk.proofs.OneRegion.{shown_at}
use Rattle.outline.proofs.Builds.{as_many}
use Rattle.mapcheck.proofs.ItemFaults.{as_region, region_fault, region_fine, sections_first}
use Rattle.mapcheck.proofs.passes.item_footprint.Goals as goal

pub returns-in-Err-clause-fault : goal.returns-in-Err-clause-fault
returns-in-Err-clause-fault c w there =
    let p = c.args.outlined.now in
    let items = c.items.result.now in
    let item = c.index-items-len.result in
    let n = length (all_found c.args.found.now) in
    let many = as_many (entries_of p) items (plan p).items c.items.ensures.shown in
    let inside : n < length items = omega (arith, many, c.requires.inside) in
    let e = shown_at (entries_of p) items (plan p).items n item w c.items.ensures.shown inside
    (c.index-items-len.is ∙ ap (λ (k : ℕ). get_or items k item) c.len.ensures) there in
    sections_first (lengths_of p) (entries_of p) item w c.in-Err.fault e
    (subst (λ (q : Program). IsFirst (section_faults (lengths_of q) item.maps.items item.depends.items) c.in-Err.fault)
    c.program.ensures c.in-Err.ensures.fault)

pub returns-in-Ok-clause-fine : goal.returns-in-Ok-clause-fine
returns-in-Ok-clause-fine c w there =
    let p = c.args.outlined.now in
    let items = c.items.result.now in
    let item = c.index-items-len.result in
    let n = length (all_found c.args.found.now) in
    let many = as_many (entries_of p) items (plan p).items c.items.ensures.shown in
    let inside : n < length items = omega (arith, many, c.requires.inside) in
    let e = shown_at (entries_of p) items (plan p).items n item w c.items.ensures.shown inside
    (c.index-items-len.is ∙ ap (λ (k : ℕ). get_or items k item) c.len.ensures) there in
    let none : section_faults (lengths_of p) item.maps.items item.depends.items ≡ [] =
    ap (λ (q : Program). section_faults (lengths_of q) item.maps.items item.depends.items) (sym c.program.ensures)
    ∙ c.in-Ok.ensures.fine in
    region_fine (lengths_of p) w c.next_footprint.result (as_region (lengths_of p) (entries_of p) item w e none)
    (c.next_footprint.ensures.fine w there)

pub returns-in-Ok-clause-fault : goal.returns-in-Ok-clause-fault
returns-in-Ok-clause-fault c w there =
    let p = c.args.outlined.now in
    let items = c.items.result.now in
    let item = c.index-items-len.result in
    let n = length (all_found c.args.found.now) in
    let many = as_many (entries_of p) items (plan p).items c.items.ensures.shown in
    let inside : n < length items = omega (arith, many, c.requires.inside) in
    let e = shown_at (entries_of p) items (plan p).items n item w c.items.ensures.shown inside
    (c.index-items-len.is ∙ ap (λ (k : ℕ). get_or items k item) c.len.ensures) there in
    let none : section_faults (lengths_of p) item.maps.items item.depends.items ≡ [] =
    ap (λ (q : Program). section_faults (lengths_of q) item.maps.items item.depends.items) (sym c.program.ensures)
    ∙ c.in-Ok.ensures.fine in
    region_fault (lengths_of p) w c.next_footprint.result (as_region (lengths_of p) (entries_of p) item w e none)
    (c.next_footprint.ensures.fault w there)
