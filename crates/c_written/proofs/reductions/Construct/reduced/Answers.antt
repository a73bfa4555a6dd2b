use Rattle.std.proofs.Common.{◌≡◌, ◌∙◌, ◌++◌, Some, true, ap, rules}
use Rattle.c_grammar.specs.Lexeme.{Placed}
use Rattle.c_grammar.specs.Updates.{all_mapped, taken_at}
use Rattle.std.proofs.Common.{List}
use Rattle.c_written.specs.Forms.{all_placed}
use Rattle.c_written.specs.Reductions.{seen_reduction}
use Rattle.c_terminals.specs.Seen.{seen_all}
use Rattle.c_written.specs.Spots.{all_kinds}
use Rattle.c_written.proofs.TakenClauses.{left_out}
use Rattle.c_written.proofs.reductions.Construct.reduced.Goals as goal

pub tokens-preserved-then-all_mapped : goal.tokens-preserved-then-all_mapped
tokens-preserved-then-all_mapped c =
    let line = all_kinds c.args.self.line.now in
    let region = seen_all c.args.self.region.now in
    let reduction = seen_reduction c.in-Some.reduction in
    let found : Some reduction ≡ taken_at line region (all_kinds c.tokens.rest.now) = search rules in
    let mapped : all_mapped reduction.names line ≡ true = search rules in
    ap (λ (ps : List Placed). all_placed c.tokens.done.items ++ ps)
    (left_out line region c.tokens.left c.saturating_sub-left.result c.tokens.rest.now reduction c.in-len1-up.len_at_least
    c.if-left-gt0.false found mapped c.saturating_sub-left.ensures)
    ∙ c.tokens.invariant
