use Rattle.std.proofs.Common.{◌≡◌, ◌∙◌, ◌<◌, ◌≤◌, sym, Some, None, rules}
use Rattle.c_grammar.specs.Conditions.{tightness}
use Rattle.c_written.specs.declared.condition.Waiting.TheVariants as waiting
use Rattle.c_written.specs.Conditions.{seen_operator}
use Rattle.c_written.specs.Stack.{held, item_at}
use Rattle.c_written.proofs.Negating.{reduce_bracket, reduce_none, reduce_stop, reduce_stuck}
use Rattle.c_written.proofs.condition.Reader.reduce.Goals as goal

pub returns-in-Bracket : goal.returns-in-Bracket
returns-in-Bracket c =
    let first : item_at 0 (held c.waiting.self.waiting) ≡ Some waiting.Bracket = search rules in
    sym c.waiting.invariant ∙ reduce_bracket _ _ _ first

pub returns-then-tightness : goal.returns-then-tightness
returns-then-tightness c =
    let first : item_at 0 (held c.waiting.self.waiting) ≡ Some (waiting.Behind c.in-Behind.left c.in-Behind.operator) =
    search rules in
    let looser : tightness (seen_operator c.in-Behind.operator) < c.args.tightness = search rules in
    sym c.waiting.invariant ∙ reduce_stop _ _ _ _ _ first looser

pub returns-in-None : goal.returns-in-None
returns-in-None c =
    let first : item_at 0 (held c.waiting.self.waiting) ≡ Some (waiting.Behind c.in-Behind.left c.in-Behind.operator) =
    search rules in
    let tight : c.args.tightness ≤ tightness (seen_operator c.in-Behind.operator) = search rules in
    sym c.waiting.invariant ∙ reduce_stuck _ _ _ _ _ first tight (sym c.result.ensures ∙ c.in-None.is)

pub returns : goal.returns
returns c =
    let first : item_at 0 (held c.waiting.self.waiting) ≡ None = search rules in
    sym c.waiting.invariant ∙ reduce_none _ _ _ first
