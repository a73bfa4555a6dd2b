use Rattle.std.proofs.Common.{rules, ◌≡◌, ◌∙◌, Some, None, sym, ap}
use Rattle.std.specs.Prelude.{nat_eq}
use Rattle.std.specs.HashMap.{get}
use Rattle.std.proofs.lemmas.Result.{IfOk-weaker}
use Rattle.base.specs.Items.{plan}
use Rattle.mapcheck.specs.declared.noted.Noted.{Noted}
use Rattle.mapcheck.specs.Segments.{is_from}
use Rattle.mapcheck.proofs.Noting.{seen_in_row}
use Rattle.mapcheck.proofs.RowItems.{seen_first}
use Rattle.mapcheck.proofs.noted.Noted.note_places.Goals as goal

pub returns-in-Some : goal.returns-in-Some
returns-in-Some c =
    let old = c.args.self.now in
    let r = c.args.places.row in
    let w = c.note.new.self in
    let new : Noted = record { alloc = old.alloc; rows = c.get_mut.follows.lender w } in
    let there : get nat_eq old.rows r ≡ Some c.in-Some.row.now = sym c.in-Some.ensures.value in
    let updated = (c.get_mut.follows.holds w).3 (search rules) in
    IfOk-weaker c.note.result _ _
    (λ clear h. seen_in_row (plan c.args.order.now) old new (Some c.in-Some.row.now) (Some w) r c.args.item c.args.writes
    (is_from c.args.places.first c.args.places.end) clear there updated.1 updated.2 h)
    c.note.ensures

pub returns-in_ok-insert-in-None : goal.returns-in_ok-insert-in-None
returns-in_ok-insert-in-None c =
    let old = c.args.self.now in
    let r = c.args.places.row in
    let new : Noted = record { alloc = old.alloc; rows = c.insert.new.self } in
    let updated = c.in_ok-insert-in-None.ensures.updates in
    let here = is_from c.args.places.first c.args.places.end in
    seen_in_row (plan c.args.order.now) old new None (Some c.note-in-None.new.self) r c.args.item c.args.writes here
    c.in_ok-clear-in-None.clear (sym c.in-None.ensures.value) updated.1
    (λ q e. updated.2 q e ∙ ap (λ m. get nat_eq m q) c.get_mut.follows.holds-at-none)
    (seen_first (plan c.args.order.now) c.new-row.result (Some c.note-in-None.new.self) c.args.item c.args.writes here
    c.in_ok-clear-in-None.clear c.in_ok-clear-in-None.ensures)
