use Rattle.std.proofs.Common.{◌≡◌, length}
use Rattle.c_tokens.specs.Ahead.{ahead}
use Rattle.c_tokens.proofs.stream.Tokens.next_token.Given as goal

abbrev pub invariant-pieces : goal.invariant-pieces
invariant-pieces l = ahead l.self ≡ ahead l.fn.self

abbrev pub decreases-pieces : goal.decreases-pieces
decreases-pieces l = length l.self.rest.now
