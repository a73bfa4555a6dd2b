use Rattle.std.proofs.Common.{◌≡◌, ◌∙◌, ◌<◌, ◌≤◌, sym, Some, None, rules}
use Rattle.c_grammar.specs.Expressions.{tightness}
use Rattle.c_written.specs.declared.expressions.Waiting.TheVariants as waiting
use Rattle.c_written.specs.Stack.{held, item_at}
use Rattle.c_written.specs.Work.{seen_work}
use Rattle.c_written.proofs.Reducing.{reduce_stop, reduce_stuck, reduce_bracket, reduce_none}
use Rattle.c_written.proofs.expressions.Reader.reduce.Goals as goal

pub returns-then-tightness-clause-reduced : goal.returns-then-tightness-clause-reduced
returns-then-tightness-clause-reduced c =
    let first : item_at 0 (held c.waiting.self.waiting) ≡ Some (waiting.Behind c.in-Some-Behind.left c.in-Some-Behind.operator) =
    search rules in
    let looser : tightness (seen_work c.in-Some-Behind.operator.work) < c.args.tightness = search rules in
    sym c.waiting.invariant.same ∙ reduce_stop _ _ _ _ _ first looser

pub returns-in-None-clause-reduced : goal.returns-in-None-clause-reduced
returns-in-None-clause-reduced c =
    let first : item_at 0 (held c.waiting.self.waiting) ≡ Some (waiting.Behind c.in-Some-Behind.left c.in-Some-Behind.operator) =
    search rules in
    let tight : c.args.tightness ≤ tightness (seen_work c.in-Some-Behind.operator.work) = search rules in
    sym c.waiting.invariant.same ∙ reduce_stuck _ _ _ _ _ first tight (sym c.result.ensures ∙ c.in-None.is)

pub returns-in_default-clause-reduced : goal.returns-in_default-clause-reduced
returns-in_default-clause-reduced c =
    let first : item_at 0 (held c.waiting.self.waiting) ≡ Some waiting.Bracket = search rules in
    sym c.waiting.invariant.same ∙ reduce_bracket _ _ _ first

pub returns-in_default-2-clause-reduced : goal.returns-in_default-2-clause-reduced
returns-in_default-2-clause-reduced c =
    let first : item_at 0 (held c.waiting.self.waiting) ≡ None = search rules in
    sym c.waiting.invariant.same ∙ reduce_none _ _ _ first
