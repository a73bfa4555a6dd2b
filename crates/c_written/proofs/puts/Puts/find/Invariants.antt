use Rattle.std.proofs.Common.{◌≡◌, drop}
use Rattle.c_grammar.specs.Functions.{put_for}
use Rattle.c_written.proofs.Putting.{all_puts}
use Rattle.c_written.proofs.puts.Puts.find.Given as goal

abbrev pub invariant-puts : goal.invariant-puts
invariant-puts l =
    put_for (all_puts (drop l.own-index l.self.list.items)) l.name ≡ put_for (all_puts l.self.list.items) l.name
