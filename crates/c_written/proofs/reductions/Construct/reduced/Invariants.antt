use Rattle.std.proofs.Common.{◌≡◌, ◌++◌, length}
use Rattle.c_grammar.specs.Updates.{reduced}
use Rattle.c_written.specs.Forms.{all_placed}
use Rattle.c_terminals.specs.Seen.{seen_all}
use Rattle.c_written.specs.Spots.{all_kinds}
use Rattle.c_written.proofs.reductions.Construct.reduced.Given as goal

abbrev pub invariant-tokens : goal.invariant-tokens
invariant-tokens l =
    all_placed l.done.items
    ++ reduced (all_kinds l.self.line.now) (seen_all l.self.region.now) l.left (all_placed l.rest)
    ≡ reduced (all_kinds l.self.line.now) (seen_all l.self.region.now) 0 (all_placed l.self.line.now)

abbrev pub decreases-tokens : goal.decreases-tokens
decreases-tokens l = length l.rest
