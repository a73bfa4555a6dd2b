use Rattle.std.proofs.Common.{◌≡◌, drop, map}
use Rattle.c_grammar.specs.Updates.{all_mapped}
use Rattle.c_written.specs.Spots.{all_kinds}
use Rattle.c_written.proofs.reductions.all_mapped.Given as goal

abbrev pub invariant-names : goal.invariant-names
invariant-names l =
    all_mapped (map (λ x. x.now) (drop l.name-index l.names)) (all_kinds l.tokens)
    ≡ all_mapped (map (λ x. x.now) l.names) (all_kinds l.tokens)
