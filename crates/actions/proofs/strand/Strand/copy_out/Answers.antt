use Rattle.fine_machine.specs.Left as left
use Rattle.actions.proofs.Answered.{copies_out, copies_none}
use Rattle.actions.proofs.strand.Strand.copy_out.Goals as goal

pub returns-in_ok-push : goal.returns-in_ok-push
returns-in_ok-push c =
    copies_out c.args.copies c.cells_of.result c.args.section.now c.args.self.now c.push.new.self c.if-copies.true
    c.cells_of.ensures.array c.cells_of.ensures.first c.cells_of.ensures.count c.in_ok-push.ensures.pushed c.requires.zero

pub returns-else-copies : goal.returns-else-copies
returns-else-copies c =
    copies_none left.CopyOut c.args.copies c.args.section.now c.args.self.now c.if-copies.false
