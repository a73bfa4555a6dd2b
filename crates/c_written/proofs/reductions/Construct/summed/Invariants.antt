use Rattle.std.proofs.Common.{◌≡◌, ◌++◌, length, map}
use Rattle.c_grammar.specs.Updates.{summed}
use Rattle.c_terminals.specs.Seen.{seen_all}
use Rattle.c_written.specs.Spots.{all_kinds}
use Rattle.c_written.proofs.reductions.Construct.summed.Given as goal

abbrev pub invariant-tokens : goal.invariant-tokens
invariant-tokens l =
    map (λ x. x.now) l.names.items ++ summed (all_kinds l.self.line.now) (seen_all l.self.region.now) (all_kinds l.rest)
    ≡ summed (all_kinds l.self.line.now) (seen_all l.self.region.now) (all_kinds l.self.line.now)

abbrev pub decreases-tokens : goal.decreases-tokens
decreases-tokens l = length l.rest
