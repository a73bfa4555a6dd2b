use Rattle.std.proofs.Common.{◌≡◌, ◌+◌, ◌≤◌, false, length}
use Rattle.c_grammar.specs.Updates.{is_gathered}
use Rattle.c_terminals.specs.Seen.{seen_all}
use Rattle.c_written.proofs.regions.is_gathered.Given as goal

abbrev pub invariant-tokens : goal.invariant-tokens
invariant-tokens l = record {
  same : is_gathered l.name l.greatest l.place.depth l.place.starts l.left (seen_all l.rest)
      ≡ is_gathered l.name l.greatest 0 false 0 (seen_all l.fn.tokens);
  few : l.place.depth + length l.rest ≤ length l.fn.tokens;
}

abbrev pub decreases-tokens : goal.decreases-tokens
decreases-tokens l = length l.rest
