use Rattle.std.proofs.Common.{◌≡◌, ◌++◌, length, take, drop}
use Rattle.mapwalk.specs.Acts.{joined}
use Rattle.mapwalk.proofs.rows.join_all.Given as goal

abbrev pub invariant-entries : goal.invariant-entries
invariant-entries l = record {
  long : length l.entries.items ≡ length l.fn.entries.items;
  joined : take l.i l.entries.items ++ joined (drop l.i l.entries.items) (drop l.i l.exits) ≡ joined l.fn.entries.items l.exits;
}
