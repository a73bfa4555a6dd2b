use Rattle.std.proofs.Common.{◌≡◌, length}
use Rattle.c_grammar.specs.Locals.{begin, scan}
use Rattle.c_terminals.specs.Seen.{seen_all}
use Rattle.c_locals.specs.Locals.{seen_pass, with_locals}
use Rattle.c_locals.proofs.locals.scan.Given as goal

abbrev pub invariant-tokens : goal.invariant-tokens
invariant-tokens l = with_locals l.locals (seen_all l.rest) ≡ scan (seen_pass l.fn.pass) begin 0 (seen_all l.fn.tokens)

abbrev pub decreases-tokens : goal.decreases-tokens
decreases-tokens l = length l.rest
