use Rattle.std.proofs.Common.{ap}
use Rattle.std.proofs.lemmas.Result.{IfOk-weaker}
use Rattle.base.specs.Items.{plan}
use Rattle.base.specs.Memory.{is_in}
use Rattle.mapcheck.specs.Accesses.{has_cell}
use Rattle.ranges.specs.Cells.{has as has_member}
use Rattle.mapcheck.proofs.NotedItems.{seen_access}
use Rattle.mapcheck.proofs.noted.Noted.note_access.Goals as goal

pub returns-in-Section : goal.returns-in-Section
returns-in-Section c =
    IfOk-weaker c.note_section.result _ _
    (λ clear h. seen_access (plan c.args.order.now) c.args.self.now c.note_section.new.self c.args.access.now c.args.item
    (λ x. is_in x c.in-Section.section) clear (λ x. ap (λ cells. has_cell cells x) c.in-Section.is) h)
    c.note_section.ensures

pub returns-in-Set : goal.returns-in-Set
returns-in-Set c =
    IfOk-weaker c.note_set.result _ _
    (λ clear h. seen_access (plan c.args.order.now) c.args.self.now c.note_set.new.self c.args.access.now c.args.item
    (has_member c.in-Set.set.now) clear (λ x. ap (λ cells. has_cell cells x) c.in-Set.is) h)
    c.note_set.ensures
