use Rattle.std.proofs.Common.{◌∙◌, sym, arith}
use Rattle.c_terminals.specs.Ahead.{ahead}
use Rattle.c_terminals.specs.Seen.{seen}
use Rattle.c_loops.specs.Growing.{seen_within}
use Rattle.c_loops.specs.Limits.{seen_limit}
use Rattle.c_loops.proofs.Stepping.{changed, once, starting, twice, unchanged}
use Rattle.c_loops.proofs.growth.behind_other.Goals as goal

pub returns-then-within-clause-value : goal.returns-then-within-clause-value
returns-then-within-clause-value c =
    twice (seen_limit c.args.limit) (seen_within c.args.within) (seen c.args.token) (ahead c.args.rest) c.step_at-left.result
    (sym c.is_continue.ensures ∙ c.if-is_continue.false) (sym c.step_at-left.ensures.value) (omega (arith, c.if-left-gt0.true))
    c.if-within.true

pub returns-then-left-gt0-clause-value : goal.returns-then-left-gt0-clause-value
returns-then-left-gt0-clause-value c =
    once (seen_limit c.args.limit) (seen_within c.args.within) (seen c.args.token) (ahead c.args.rest) c.step_at-left.result
    (sym c.is_continue.ensures ∙ c.if-is_continue.false) (sym c.step_at-left.ensures.value) (omega (arith, c.if-left-gt0.true))
    c.if-within.false

pub returns-then-changes-clause-value : goal.returns-then-changes-clause-value
returns-then-changes-clause-value c =
    changed (seen_limit c.args.limit) (seen_within c.args.within) (seen c.args.token) (ahead c.args.rest)
    c.step_at-left.result (sym c.is_continue.ensures ∙ c.if-is_continue.false) (sym c.step_at-left.ensures.value)
    (omega (arith, c.if-left-gt0.false)) (sym c.changes.ensures ∙ c.if-changes.true)

pub returns-clause-value : goal.returns-clause-value
returns-clause-value c =
    starting (seen_limit c.args.limit) c.args.within.depth c.is_boundary.result _ c.args.within.grown _ (ahead c.args.rest)
    c.is_boundary.ensures
    (unchanged (seen_limit c.args.limit) (seen_within c.args.within) (seen c.args.token) (ahead c.args.rest)
    c.step_at-left.result (sym c.is_continue.ensures ∙ c.if-is_continue.false) (sym c.step_at-left.ensures.value)
    (omega (arith, c.if-left-gt0.false)) (sym c.changes.ensures ∙ c.if-changes.false))
