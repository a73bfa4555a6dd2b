use Rattle.c_expressions.specs.Scopes.{names_of}
use Rattle.c_expressions.specs.Signs.{seen_operator}
use Rattle.c_expressions.proofs.Joins.{read_join}
use Rattle.c_expressions.proofs.Expressions.{read_scalar, read_prefix, read_loop, read_index, read_group}
use Rattle.c_expressions.proofs.Terms.{stop_operand, skip_tail, prefix_operand, name_operand, group_operand, go_operator, bad_operand_number, behind_name}
use Rattle.std.proofs.Common.{arith}
use Rattle.c_expressions.proofs.scope.Scope.+expr.Goals as goal

pub joined-returns-clause-tree : goal.joined-returns-clause-tree
joined-returns-clause-tree t c = λ least before low left.
    read_join (names_of c.args.self.now) least c.args.tally.now.top c.chain.new.tally.top c.level.result
    (seen_operator c.args.op) before c.args.tokens.now c.spend.new.tokens c.chain.new.tokens c.args.left
    c.in_ok-right.right c.join.result
    left low c.requires.sign c.requires.top c.in_ok-spend.ensures.taken c.level.ensures.level
    c.in_ok-right.ensures.tree c.in_ok-right.ensures.stops c.join.ensures.made

pub group-returns-in_err-inner-clause-read : goal.group-returns-in_err-inner-clause-read
group-returns-in_err-inner-clause-read t c = grind (arith, group_operand)

pub group-returns-clause-read : goal.group-returns-clause-read
group-returns-clause-read t c = grind (arith, group_operand, skip_tail)

pub group-returns-clause-tree : goal.group-returns-clause-tree
group-returns-clause-tree t c = grind (arith, read_group)

pub index-returns-clause-read : goal.index-returns-clause-read
index-returns-clause-read t c = grind (arith, skip_tail)

pub index-returns-clause-tree : goal.index-returns-clause-tree
index-returns-clause-tree t c = grind (arith, read_index)

pub joined-returns-in_err-spend-clause-read : goal.joined-returns-in_err-spend-clause-read
joined-returns-in_err-spend-clause-read t c = grind (arith, go_operator)

pub joined-returns-in_err-right-clause-read : goal.joined-returns-in_err-right-clause-read
joined-returns-in_err-right-clause-read t c = grind (arith, go_operator)

pub joined-returns-clause-read : goal.joined-returns-clause-read
joined-returns-clause-read t c = grind (arith, go_operator)

pub named-returns-in_err-meaning-clause-read : goal.named-returns-in_err-meaning-clause-read
named-returns-in_err-meaning-clause-read t c = grind (arith, name_operand)

pub named-returns-in-Scalar-clause-read : goal.named-returns-in-Scalar-clause-read
named-returns-in-Scalar-clause-read t c = grind (arith, name_operand, behind_name)

pub named-returns-in-Scalar-clause-tree : goal.named-returns-in-Scalar-clause-tree
named-returns-in-Scalar-clause-tree t c = grind (arith, read_scalar)

pub named-returns-in-Loop-clause-read : goal.named-returns-in-Loop-clause-read
named-returns-in-Loop-clause-read t c = grind (arith, name_operand, behind_name)

pub named-returns-in-Loop-clause-tree : goal.named-returns-in-Loop-clause-tree
named-returns-in-Loop-clause-tree t c = grind (arith, read_loop)

pub operand-returns-in-BadNumber-clause-read : goal.operand-returns-in-BadNumber-clause-read
operand-returns-in-BadNumber-clause-read t c = grind (arith, bad_operand_number)

pub operand-returns-in_default-clause-read : goal.operand-returns-in_default-clause-read
operand-returns-in_default-clause-read t c = grind (arith, stop_operand)

pub prefixed-returns-in_err-spend-clause-read : goal.prefixed-returns-in_err-spend-clause-read
prefixed-returns-in_err-spend-clause-read t c = grind (arith, prefix_operand)

pub prefixed-returns-in_err-inner-clause-read : goal.prefixed-returns-in_err-inner-clause-read
prefixed-returns-in_err-inner-clause-read t c = grind (arith, prefix_operand)

pub prefixed-returns-clause-read : goal.prefixed-returns-clause-read
prefixed-returns-clause-read t c = grind (arith, prefix_operand)

pub prefixed-returns-clause-tree : goal.prefixed-returns-clause-tree
prefixed-returns-clause-tree t c = grind (arith, read_prefix)
