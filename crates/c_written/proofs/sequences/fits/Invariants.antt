use Rattle.std.proofs.Common.{◌≡◌, ◌+◌, ◌≤◌, length}
use Rattle.c_grammar.specs.Sequences.{Between, fits}
use Rattle.c_terminals.specs.Seen.{seen, seen_all}
use Rattle.c_written.specs.Sequences.{opens_at, seen_at}
use Rattle.c_written.proofs.sequences.fits.Given as goal

abbrev pub invariant-tokens : goal.invariant-tokens
invariant-tokens l = record {
  same :
      fits (seen l.target).terminal (seen_at l.at) (seen_all l.rest)
      ≡ fits (seen l.fn.target).terminal (Between 0) (seen_all l.fn.tokens);
  target : l.target ≡ l.fn.target;
  few : opens_at l.at + length l.rest ≤ length l.fn.tokens;
}

abbrev pub decreases-tokens : goal.decreases-tokens
decreases-tokens l = length l.rest
