use Rattle.std.proofs.Common.{◌≡◌, ◌++◌, map, length}
use Rattle.directives.specs.Seen.{seen_placed}
use Rattle.directives.specs.Ahead.{ahead_in_bytes}
use Rattle.directives.proofs.line_bytes.LineBytes.tokens.Given as goal

abbrev pub invariant-tokens : goal.invariant-tokens
invariant-tokens l = map seen_placed l.tokens.items ++ ahead_in_bytes l.self ≡ ahead_in_bytes l.fn.self

abbrev pub decreases-tokens : goal.decreases-tokens
decreases-tokens l = length (ahead_in_bytes l.self)
