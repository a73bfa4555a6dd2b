use Rattle.std.proofs.Common.{Bool, Some, sym, subst}
use Rattle.base.specs.Items.{plan}
use Rattle.mapcheck.specs.declared.rows.Row.{Row}
use Rattle.mapcheck.specs.Rows.{AreSeen, IsClearAt}
use Rattle.mapcheck.specs.Segments.{is_from}
use Rattle.mapcheck.proofs.RowItems.{just_read, written}
use Rattle.mapcheck.proofs.rows.Row.note.Goals as goal

pub returns-then-not-writes : goal.returns-then-not-writes
returns-then-not-writes c =
    let p = plan c.args.order.now in
    let old = c.args.self.now in
    let new : Row = record { reads = c.add.new.self; writes = old.writes } in
    let here = is_from c.args.first c.args.end in
    let clear = c.is_clear-clear.result in
    let added = c.in_ok-add.ensures in
    subst (λ (w : Bool). AreSeen p (Some old) (Some new) c.args.item w here clear) (sym c.if-not-writes.true)
    (just_read p old new c.args.item here clear
    (λ e place is. subst (λ (w : Bool). IsClearAt p (Some old) c.args.item w place) c.if-not-writes.true
    (c.is_clear-clear.ensures e place is))
    added.kept (λ place m h. h) added.added)

pub returns : goal.returns
returns c =
    let p = plan c.args.order.now in
    let old = c.args.self.now in
    let new = c.write.new.self in
    let here = is_from c.args.first c.args.end in
    let clear = c.is_clear-clear.result in
    let done = c.in_ok-write.ensures in
    subst (λ (w : Bool). AreSeen p (Some old) (Some new) c.args.item w here clear) (sym c.if-not-writes.false)
    (written p old new c.args.item here clear
    (λ e place is. subst (λ (w : Bool). IsClearAt p (Some old) c.args.item w place) c.if-not-writes.false
    (c.is_clear-clear.ensures e place is))
    done.reads done.writes done.added)
