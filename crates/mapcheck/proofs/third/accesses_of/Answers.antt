use Rattle.std.proofs.Common.{◌+◌, length, sym, subst, List, arith}
use Rattle.base.specs.Items.{plan}
use Rattle.outline.specs.Regions.{entries_of}
use Rattle.mapwalk.proofs.Prints.{found_at}
use Rattle.outline.proofs.Builds.{as_many}
use Rattle.mapwalk.proofs.Walking.{work_at}
use Rattle.mapcheck.specs.declared.accesses.Accesses.{Accesses}
use Rattle.mapcheck.specs.Accesses.{AreAccesses}
use Rattle.mapwalk.specs.declared.rows.Acts.{Acts}
use Rattle.mapwalk.specs.Found.{all_found}
use Rattle.mapwalk.specs.Laws.{actions_of}
use Rattle.mapcheck.specs.Third.{AreOfFirst}
use Rattle.mapcheck.proofs.Stages.{accesses_at, one_item, row_at, rows_inside}
use Rattle.mapcheck.proofs.third.accesses_of.Goals as goal

pub bounds-items-number : goal.bounds-items-number
bounds-items-number c =
    let p = c.args.outlined.now in
    let same = as_many (entries_of p) c.items-items.result.now (plan p).items c.items-items.ensures.shown in
    let inside = rows_inside (plan p) c.args.acts.now c.requires.rows in omega (arith, same, inside, c.rows-test.true)

pub offset_bounds-items-number : goal.offset_bounds-items-number
offset_bounds-items-number c =
    let p = c.args.outlined.now in
    let same = as_many (entries_of p) c.items-items.result.now (plan p).items c.items-items.ensures.shown in
    let inside = rows_inside (plan p) c.args.acts.now c.requires.rows in
    let few = c.items-items.ensures.few in omega (arith, same, inside, few, c.rows-test.true)

pub get-requires : goal.get-requires
get-requires c =
    let p = c.args.outlined.now in
    let count = c.requires.found.count in
    let inside = rows_inside (plan p) c.args.acts.now c.requires.rows in omega (arith, count, inside, c.rows-test.true)

pub rows-preserved : goal.rows-preserved
rows-preserved c =
    let p = c.args.outlined.now in
    let i = c.rows.number in
    let same = as_many (entries_of p) c.items-items.result.now (plan p).items c.items-items.ensures.shown in
    let inside = rows_inside (plan p) c.args.acts.now c.requires.rows in
    let count = c.requires.found.count in
    let at = work_at (entries_of p) c.items-items.result.now (plan p).items i c.index-items-number.result
    c.items-items.ensures.shown (omega (arith, same, inside, c.rows-test.true)) c.index-items-number.is in
    let found = found_at (plan p) (all_found c.args.found.now) i i at.work c.get.result.now c.requires.found at.there
    (λ t. i) (omega (arith, count, inside, c.rows-test.true)) c.get.ensures in
    let row = row_at (plan p) c.args.acts.now i c.index-acts-number.result c.requires.rows c.rows-test.true c.index-acts-number.is in
    let accesses = c.in_ok-of_item.field-0 in
    subst (λ (xs : List Accesses). AreOfFirst (plan p) (i + 1) xs) (sym c.in_ok-push.ensures.items)
    (one_item (plan p) i c.rows.list.items accesses c.rows.invariant
    (accesses_at p (length c.args.acts.now) i at.work c.index-acts-number.result.items accesses c.requires.fine c.requires.alone
    c.rows-test.true at.there row
    (subst (λ (xs : List Acts). AreAccesses accesses at.work.device (actions_of at.work xs)) c.deref.ensures.value
    (c.in_ok-of_item.ensures (entries_of p) at.work at.is found.touches))))

pub returns-clause-few : goal.returns-clause-few
returns-clause-few c =
    let p = c.args.outlined.now in
    let same = as_many (entries_of p) c.items-items.result.now (plan p).items c.items-items.ensures.shown in
    let inside = rows_inside (plan p) c.args.acts.now c.requires.rows in
    let few = c.items-items.ensures.few in omega (arith, same, inside, few)
