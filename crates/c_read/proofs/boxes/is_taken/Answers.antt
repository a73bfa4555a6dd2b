use Rattle.std.proofs.Common.{◌∙◌, sym, ap, is_some}
use Rattle.c_expressions.specs.Scopes.{box_numbers, names_of}
use Rattle.c_read.proofs.Boxed.{taken_by}
use Rattle.c_read.proofs.boxes.is_taken.Goals as goal

pub returns-else-is_some : goal.returns-else-is_some
returns-else-is_some c =
    taken_by (names_of c.args.scope.now) (box_numbers c.args.scope.now) c.args.name.now c.is_some-else-is_some.result
    (c.is_some-else-is_some.ensures ∙ c.box_of.ensures.named)
    (ap is_some (sym c.meaning.ensures.means) ∙ sym c.is_some.ensures ∙ c.if-is_some.false)
