use Rattle.std.proofs.Common.{◌≡◌, false, length}
use Rattle.directives.specs.Ahead.{ahead_in_bytes}
use Rattle.directives.proofs.line_bytes.LineBytes.next.Given as goal

abbrev pub invariant-pieces : goal.invariant-pieces
invariant-pieces l = record {
  same : ahead_in_bytes l.self ≡ ahead_in_bytes l.fn.self;
  going : l.self.over ≡ false;
}

abbrev pub decreases-pieces : goal.decreases-pieces
decreases-pieces l = length l.self.rest.now
