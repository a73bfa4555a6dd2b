use Rattle.std.proofs.Common.{◌≡◌, ◌+◌}
use Rattle.std.proofs.lemmas.Result.{IfOk-weaker}
use Rattle.base.specs.Items.{plan}
use Rattle.base.specs.Memory.{is_in}
use Rattle.mapcheck.specs.Noted.{is_run}
use Rattle.mapcheck.proofs.NotedCells.{section_run, seen_fewer}
use Rattle.mapcheck.proofs.noted.Noted.note_section.Goals as goal

pub returns : goal.returns
returns c =
    let section = c.args.section.now in
    let end = c.from.result + c.from-2.result in
    let is : section.first + section.length ≡ end = cc in
    IfOk-weaker c.note_run.result _ _
    (λ clear h. seen_fewer (plan c.args.order.now) c.args.self.now c.note_run.new.self c.args.touch
    (is_run section.array section.first end) (λ x. is_in x section) clear h (section_run section end is))
    c.note_run.ensures
