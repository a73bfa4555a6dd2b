use Rattle.std.proofs.Common.{◌∙◌, ap}
use Rattle.std.proofs.lemmas.List.{take_rest}
use Rattle.c_grammar.specs.Loops.{last_limit}
use Rattle.c_terminals.specs.Seen.{seen_all}
use Rattle.c_loops.proofs.Passing.{from_the_end}
use Rattle.c_loops.proofs.bounds.back_limit.Goals as goal

pub returns : goal.returns
returns c =
    from_the_end c.args.tokens.now _ c.saturating_sub.result c.saturating_sub.ensures
    (c.last_limit.ensures ∙ ap (λ ts. last_limit (seen_all ts)) (take_rest c.args.tokens.now c.saturating_sub.result))
