use Rattle.std.proofs.Common.{◌≡◌, ℕ, Some, false, length}
use Rattle.std.specs.Prelude.{slice_get}
use Rattle.history.specs.declared.State.{State}
use Rattle.history.specs.Places.{Places, is_current}
use Rattle.history.specs.Since.{IsSince}
use Rattle.history.proofs.History.new.Given as goal

abbrev pub invariant-devices : goal.invariant-devices
invariant-devices l = record {
  count : length l.devices.items ≡ l.device;
  events : length l.events.items ≡ l.device;
  none : (d : ℕ) (s : State) → slice_get l.devices.items d ≡ Some s → is_current s ≡ false;
  since : (past : ℕ → Places) → ((d : ℕ) → (past 0).devices d ≡ false) → (d : ℕ) (s : State) → slice_get l.devices.items d ≡ Some s →
      IsSince (λ k. (past k).devices d) 0 l.events.items s;
}
