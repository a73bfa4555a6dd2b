use Rattle.std.proofs.Common.{◌≡◌, Some, sym, ap, ◌∙◌, subst}
use Rattle.std.specs.Prelude.{slice_get}
use Rattle.std.proofs.lemmas.Option.{slice_get-get_or}
use Rattle.base.specs.declared.tree.Program.{Program}
use Rattle.base.specs.Meaning.{lengths_of}
use Rattle.base.specs.Items.{Work}
use Rattle.base.specs.Accepted.{region_faults}
use Rattle.outline.specs.Regions.{entries_of}
use Rattle.outline.specs.Shown.{shown, work_with}
use Rattle.ranges.specs.Found.{IsFootprintFault}
use Rattle.mapwalk.specs.Regions.{IsFoundFor}
use Rattle.mapwalk.proofs.Touched.{all_inside, same_work, shown_is}
use Rattle.mapwalk.proofs.footprints.footprint_of.Goals as goal

pub returns-in-Ok-clause-found : goal.returns-in-Ok-clause-found
returns-in-Ok-clause-found c w e =
    let p = c.args.outlined.now in
    let item = c.args.item.now in
    let entry = c.in-Some-get.entry.now in
    let lookup = c.in-Some-get.ensures.lookup in
    let there : slice_get c.regions.result.now c.in-Some.number ≡ Some entry = slice_get-get_or c.regions.result.now
    c.in-Some.number entry lookup.3.0 ∙ ap Some (sym lookup.1) in
    let is : shown (entries_of p) item ≡ Some (work_with item (Some entry.region.now)) = shown_is c.regions.result.now
    (entries_of p) item c.in-Some.number entry c.regions.ensures c.in-Some.is there in
    subst (λ (v : Work). IsFoundFor (lengths_of p) v (Some c.in-Ok.found))
    (same_work (work_with item (Some entry.region.now)) w (shown (entries_of p) item) is e)
    (record {
      touches = record {
        exposed = c.in-Ok.ensures.exposed;
        read = c.in-Ok.ensures.read;
        write = c.in-Ok.ensures.write;
        sure = c.in-Ok.ensures.sure;
        meeting = c.in-Ok.ensures.meeting;
      };
      within = all_inside (lengths_of p) item.loops.values.items entry.region.now c.in-Ok.found
          (ap (λ (q : Program). region_faults (lengths_of q) item.loops.values.items (Some entry.region.now))
          (sym c.program.ensures) ∙ c.in-Ok.ensures.fine) c.in-Ok.ensures.exposed c.in-Ok.ensures.read c.in-Ok.ensures.write
          c.in-Ok.ensures.sure;
    })

pub returns-in-Ok-clause-fine : goal.returns-in-Ok-clause-fine
returns-in-Ok-clause-fine c w e =
    let p = c.args.outlined.now in
    let item = c.args.item.now in
    let entry = c.in-Some-get.entry.now in
    let lookup = c.in-Some-get.ensures.lookup in
    let there : slice_get c.regions.result.now c.in-Some.number ≡ Some entry = slice_get-get_or c.regions.result.now
    c.in-Some.number entry lookup.3.0 ∙ ap Some (sym lookup.1) in
    let is : shown (entries_of p) item ≡ Some (work_with item (Some entry.region.now)) = shown_is c.regions.result.now
    (entries_of p) item c.in-Some.number entry c.regions.ensures c.in-Some.is there in
    ap (λ (v : Work). region_faults (lengths_of p) v.loops v.region)
    (same_work w (work_with item (Some entry.region.now)) (shown (entries_of p) item) e is)
    ∙ (ap (λ (q : Program). region_faults (lengths_of q) item.loops.values.items (Some entry.region.now))
    (sym c.program.ensures) ∙ c.in-Ok.ensures.fine)

pub returns-in-Err-clause-fault : goal.returns-in-Err-clause-fault
returns-in-Err-clause-fault c w e =
    let p = c.args.outlined.now in
    let item = c.args.item.now in
    let entry = c.in-Some-get.entry.now in
    let lookup = c.in-Some-get.ensures.lookup in
    let there : slice_get c.regions.result.now c.in-Some.number ≡ Some entry = slice_get-get_or c.regions.result.now
    c.in-Some.number entry lookup.3.0 ∙ ap Some (sym lookup.1) in
    let is : shown (entries_of p) item ≡ Some (work_with item (Some entry.region.now)) = shown_is c.regions.result.now
    (entries_of p) item c.in-Some.number entry c.regions.ensures c.in-Some.is there in
    subst (λ (v : Work). IsFootprintFault (region_faults (lengths_of p) v.loops v.region) c.in-Err.fault)
    (same_work (work_with item (Some entry.region.now)) w (shown (entries_of p) item) is e)
    (subst
    (λ (q : Program). IsFootprintFault (region_faults (lengths_of q) item.loops.values.items (Some entry.region.now)) c.in-Err.fault)
    c.program.ensures c.in-Err.ensures.fault)
