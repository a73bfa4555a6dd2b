use Rattle.std.proofs.Common.{◌≡◌, ◌+◌, ◌≤◌, ◌++◌, length}
use Rattle.c_grammar.specs.Locals.{settings}
use Rattle.c_terminals.specs.Seen.{seen_all}
use Rattle.c_locals.proofs.lists.put_settings.Given as goal

abbrev pub invariant-tokens : goal.invariant-tokens
invariant-tokens l = record {
  put : seen_all l.done.items ++ settings l.name l.cell l.brackets (seen_all l.rest)
      ≡ seen_all l.fn.done.items ++ settings l.fn.name 0 0 (seen_all l.fn.tokens);
  cells : l.cell + length l.rest ≤ length l.fn.tokens;
  within : l.brackets + length l.rest ≤ length l.fn.tokens;
}

abbrev pub decreases-tokens : goal.decreases-tokens
decreases-tokens l = length l.rest
