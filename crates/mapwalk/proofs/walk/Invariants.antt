use Rattle.std.proofs.Common.{◌≡◌, ℕ, ◌*◌, ◌^◌, ◌<◌, ◌≤◌, length, map}
use Rattle.base.specs.Meaning.{lengths_of}
use Rattle.base.specs.Items.{plan}
use Rattle.mapwalk.specs.Current.{row_lengths}
use Rattle.mapwalk.specs.Heads.{state_of}
use Rattle.mapwalk.specs.Steps.{current_of, entries_of}
use Rattle.mapwalk.specs.Walk.{row_items}
use Rattle.mapwalk.proofs.Walks.{Stands}
use Rattle.mapwalk.proofs.walk.Given as goal

abbrev pub invariant-items : goal.invariant-items
invariant-items l = record {
  stands : Stands (plan l.outlined) (current_of l.initial.state.host.items l.initial.state.devices.items) l.number
      (state_of l.state) l.heads.head (map row_items l.acts.items);
  entries : (d : ℕ) → entries_of l.state.devices.items d ≤ l.number * 2 ^ 64;
  few : length l.state.host.items < 2 ^ 32;
  lengths : row_lengths l.state.host.items ≡ lengths_of l.outlined;
}
