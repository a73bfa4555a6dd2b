use Rattle.std.proofs.Common.{◌≡◌, drop, map}
use Rattle.c_grammar.specs.Updates.{none_mapped}
use Rattle.c_written.specs.Spots.{all_kinds}
use Rattle.c_written.proofs.reductions.none_mapped.Given as goal

abbrev pub invariant-names : goal.invariant-names
invariant-names l =
    none_mapped (map (λ x. x.now) (drop l.name-index l.names)) (all_kinds l.tokens)
    ≡ none_mapped (map (λ x. x.now) l.names) (all_kinds l.tokens)
