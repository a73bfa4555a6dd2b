use Rattle.std.proofs.Common.{◌≡◌, drop, map}
use Rattle.c_grammar.specs.Updates.{are_summed}
use Rattle.c_terminals.specs.Seen.{seen_all}
use Rattle.c_written.specs.Regions.{seen_operation}
use Rattle.c_written.proofs.regions.are_summed.Given as goal

abbrev pub invariant-names : goal.invariant-names
invariant-names l =
    are_summed (map (λ x. x.now) (drop l.name-index l.names)) (seen_operation l.op) (seen_all l.tokens)
    ≡ are_summed (map (λ x. x.now) l.names) (seen_operation l.op) (seen_all l.tokens)
