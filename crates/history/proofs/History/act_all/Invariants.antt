use Rattle.std.proofs.Common.{◌≡◌, ℕ, drop}
use Rattle.history.specs.Moves.{all_acted}
use Rattle.history.specs.Places.{Places, shown}
use Rattle.history.specs.Since.{AreSince}
use Rattle.history.proofs.History.act_all.Given as goal

abbrev pub invariant-maps : goal.invariant-maps
invariant-maps l = record {
  shown : all_acted l.part l.device l.fn.self.cell (drop l.i l.maps) (drop l.i l.row) (shown l.self)
      ≡ all_acted l.part l.device l.fn.self.cell l.maps l.row (shown l.fn.self);
  since : (past : ℕ → Places) → AreSince past l.number l.fn.self → AreSince past l.number l.self;
  cell : l.self.cell ≡ l.fn.self.cell;
}
