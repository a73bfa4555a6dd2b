use Rattle.std.proofs.Common.{◌≡◌, drop, map}
use Rattle.c_grammar.specs.Constants.{is_among}
use Rattle.c_terminals.proofs.one_of.is_among.Given as goal

abbrev pub invariant-names : goal.invariant-names
invariant-names l = is_among (map (λ x. x.now) (drop l.own-index l.names)) l.name ≡ is_among (map (λ x. x.now) l.names) l.name
