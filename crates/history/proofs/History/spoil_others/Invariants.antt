use Rattle.std.proofs.Common.{◌≡◌, ℕ}
use Rattle.history.specs.declared.Side.TheVariants.{Device}
use Rattle.history.specs.Moves.{spoiled_below}
use Rattle.history.specs.Places.{Places, shown}
use Rattle.history.specs.Since.{AreSince}
use Rattle.history.proofs.History.spoil_others.Given as goal

abbrev pub invariant-devices : goal.invariant-devices
invariant-devices l = record {
  shown : shown l.self ≡ spoiled_below l.device (Device l.own) (shown l.fn.self);
  since : (past : ℕ → Places) → AreSince past l.item l.fn.self → AreSince past l.item l.self;
  cell : l.self.cell ≡ l.fn.self.cell;
}
