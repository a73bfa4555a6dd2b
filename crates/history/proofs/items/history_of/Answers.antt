use Rattle.std.proofs.Common.{◌≡◌, Some, refl, sym, ap, ◌∙◌, arith}
use Rattle.std.specs.Prelude.{slice_get}
use Rattle.std.proofs.lemmas.Option.{slice_get-get_or}
use Rattle.base.specs.Items.{plan}
use Rattle.outline.specs.Regions.{entries_of}
use Rattle.outline.proofs.Builds.{as_many}
use Rattle.mapwalk.specs.Found.{all_found}
use Rattle.mapwalk.proofs.Prints.{at_inside, found_at}
use Rattle.mapwalk.proofs.Walking.{work_at}
use Rattle.history.specs.Moves.{stepped}
use Rattle.history.specs.Places.{before, shown}
use Rattle.history.proofs.Histories.{all_since_next, next_shown}
use Rattle.history.proofs.items.history_of.Goals as goal

pub items-init : goal.items-init
items-init c = record {
  cell = c.in_ok-history.ensures.cell;
  current = c.in_ok-history.ensures.shown;
  since = c.in_ok-history.ensures.since (before (plan c.args.outlined.now) c.args.cell) refl;
}

pub items-preserved : goal.items-preserved
items-preserved c =
    let p = c.args.outlined.now in
    let i = c.items.number in
    let item = c.index-items-number.result in
    let row = c.index-acts-number.result in
    let many = as_many (entries_of p) c.items-items.result.now (plan p).items c.items-items.ensures.shown in
    let few = c.requires.items in
    let rows = c.requires.rows in
    let low = c.items-test.true in
    let at = work_at (entries_of p) c.items-items.result.now (plan p).items i item c.items-items.ensures.shown
    (omega (arith, many, few, low)) c.index-items-number.is in
    let inside = at_inside (plan p) i at.work (all_found c.args.found.now) i c.requires.found at.there refl in
    let found = found_at (plan p) (all_found c.args.found.now) i i at.work c.get.result.now c.requires.found at.there refl inside c.get.ensures in
    let there : slice_get c.args.acts.now i ≡ Some row =
    slice_get-get_or c.args.acts.now i row (omega (arith, rows, low)) ∙ ap (λ r. Some r) (sym c.index-acts-number.is) in
    let now = next_shown (plan p) c.args.cell i (entries_of p) item at.work c.args.acts.now row c.get.result.now c.items.history c.step.new.self
    c.requires.spelled there at.there at.is found.touches c.items.invariant.current
    (c.in_ok-step.ensures.shown
    ∙ (λ j. stepped item.kind item.device.number (c.items.invariant.cell j) item.maps.items (c.deref.ensures.value j) c.get.result.now (shown c.items.history))) in
    record {
      cell = c.in_ok-step.ensures.cell ∙ c.items.invariant.cell;
      current = now;
      since = all_since_next (before (plan p) c.args.cell) i c.step.new.self
          (c.in_ok-step.ensures.since (before (plan p) c.args.cell) c.items.invariant.since) now;
    }
