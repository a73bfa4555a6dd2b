use Rattle.std.proofs.Common.{rules, ◌∙◌, ◌++◌, ap, sym, arith}
use Rattle.c_grammar.specs.Loops.{head_at}
use Rattle.c_terminals.specs.Seen.{seen, seen_all}
use Rattle.c_loops.specs.State.{seen_state}
use Rattle.c_loops.specs.Limits.{seen_limit}
use Rattle.c_loops.proofs.Passing.{loop_begun}
use Rattle.c_loops.proofs.loops.Loops.take.Goals as goal

pub returns-in-Some : goal.returns-in-Some
returns-in-Some c =
    loop_begun (seen_state c.args.self.now) c.args.self.now.left (seen c.args.token) (seen_all c.args.rest.now) _ _
    (seen_limit c.in-Some.limit) (sym c.is_directive.ensures ∙ c.if-is_directive.false) (omega (arith, c.if-self-gt0.false))
    (search rules)
    (c.in_ok-put_head.ensures
    ∙ ap (λ x. seen_all c.args.self.now.done.items ++ head_at (seen c.args.token) x c.in-Some.limit.most) c.turn_name.ensures)
