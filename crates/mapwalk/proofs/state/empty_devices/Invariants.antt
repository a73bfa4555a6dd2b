use Rattle.std.proofs.Common.{◌≡◌, ℕ, [], length}
use Rattle.mapwalk.specs.Current.{AreNotCurrent}
use Rattle.mapwalk.specs.Steps.{AreAlike, entries_of, marks_of, tables_of}
use Rattle.mapwalk.proofs.state.empty_devices.Given as goal

abbrev pub invariant-devices : goal.invariant-devices
invariant-devices l = record {
  count : length l.devices.items ≡ l.made;
  same : AreAlike l.lengths l.devices.items;
  tables : (d : ℕ) → tables_of l.devices.items d ≡ [];
  entries : (d : ℕ) → entries_of l.devices.items d ≡ 0;
  current : (d : ℕ) → AreNotCurrent l.lengths (marks_of l.devices.items d);
}
