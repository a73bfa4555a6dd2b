use Rattle.std.proofs.Common.{◌≡◌, ◌++◌, length, map}
use Rattle.c_tokens.specs.Ahead.{ahead}
use Rattle.c_tokens.specs.Text.{tokens_of}
use Rattle.c_grammar.specs.Source.{item_of}
use Rattle.c_terminals.specs.Held.{written_all}
use Rattle.c_written.proofs.source.raw.Given as goal

abbrev pub invariant-tokens : goal.invariant-tokens
invariant-tokens l =
    written_all l.written.items ++ map (item_of l.bytes) (ahead l.stream) ≡ map (item_of l.fn.bytes) (tokens_of l.fn.bytes)

abbrev pub decreases-tokens : goal.decreases-tokens
decreases-tokens l = length (ahead l.stream)
