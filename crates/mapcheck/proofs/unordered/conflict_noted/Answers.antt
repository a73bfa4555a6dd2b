use Rattle.std.proofs.Common.{◌≡◌, Bool, length, refl, subst}
use Rattle.std.specs.Prelude.{Some, slice_get}
use Rattle.std.proofs.lemmas.Option.{slice_get_read}
use Rattle.base.specs.Items.{plan}
use Rattle.mapcheck.specs.Noted.{IsAccessed, IsSeen}
use Rattle.mapcheck.proofs.Clearance.{no_conflict, one_noted}
use Rattle.mapcheck.proofs.unordered.conflict_noted.Goals as goal

pub returns-then-branch-clause-conflict : goal.returns-then-branch-clause-conflict
returns-then-branch-clause-conflict c =
    let p = plan c.args.order.now in
    let list = c.args.accesses.now in
    let a = c.index-accesses-item.result in
    let there : slice_get list c.args.item ≡ Some a =
    slice_get_read list (length list) c.args.item a refl c.requires.inside c.index-accesses-item.is in
    no_conflict p list c.args.noted.now c.note.new.self c.args.item a c.requires.accesses c.requires.noted there
    (subst (λ (b : Bool). IsSeen p c.args.noted.now c.note.new.self c.args.item (IsAccessed a.list.items) b) c.if-branch.true
    c.in_ok-note.ensures)

pub returns-then-branch-clause-noted : goal.returns-then-branch-clause-noted
returns-then-branch-clause-noted c =
    let p = plan c.args.order.now in
    let list = c.args.accesses.now in
    let a = c.index-accesses-item.result in
    let there : slice_get list c.args.item ≡ Some a =
    slice_get_read list (length list) c.args.item a refl c.requires.inside c.index-accesses-item.is in
    one_noted p list c.args.noted.now c.note.new.self c.args.item a c.in_ok-note.field-0 c.requires.noted there
    c.in_ok-note.ensures

pub returns-else-branch-clause-noted : goal.returns-else-branch-clause-noted
returns-else-branch-clause-noted c =
    let p = plan c.args.order.now in
    let list = c.args.accesses.now in
    let a = c.index-accesses-item.result in
    let there : slice_get list c.args.item ≡ Some a =
    slice_get_read list (length list) c.args.item a refl c.requires.inside c.index-accesses-item.is in
    one_noted p list c.args.noted.now c.note.new.self c.args.item a c.in_ok-note.field-0 c.requires.noted there
    c.in_ok-note.ensures
