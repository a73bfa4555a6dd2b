use Rattle.std.proofs.Common.{◌≡◌, ◌++◌}
use Rattle.c_lines.specs.Spliced.{feeds}
use Rattle.c_lines.proofs.lines.put_feeds.Given as goal

abbrev pub invariant-feeds : goal.invariant-feeds
invariant-feeds l = l.done.items ≡ l.fn.done.items ++ feeds l.counter
