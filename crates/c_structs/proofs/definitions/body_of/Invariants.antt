use Rattle.std.proofs.Common.{◌≡◌, length}
use Rattle.c_grammar.specs.Structs.{OnType, body}
use Rattle.c_structs.specs.Definitions.{seen_spot}
use Rattle.c_terminals.specs.Ahead.{ahead}
use Rattle.c_structs.proofs.definitions.body_of.Given as goal

abbrev pub invariant-tokens : goal.invariant-tokens
invariant-tokens l = body (seen_spot l.spot) l.len (ahead l.ahead) ≡ body OnType 0 (ahead l.start)

abbrev pub decreases-tokens : goal.decreases-tokens
decreases-tokens l = length (ahead l.ahead)
