-- The cells in use of a state that is shown.
use Rattle.std.proofs.Common.{ℕ, arith, Some}
use Rattle.base.specs.declared.tree.Program.{Program}
use Rattle.base.specs.Items.{plan}
use Rattle.device.specs.Devices.{HaveRoom}
use Rattle.device.proofs.Tables.{own_table}
use Rattle.fine_machine.specs.Machine.{State}
use Rattle.stepper.specs.declared.standing.Standing.{Standing}
use Rattle.stepper.specs.Answering.{IsWithin}
use Rattle.stepper.specs.Standing.{IsAt}

pub within : (p : Program) (capacity : ℕ) (now : Standing) (s : State) → IsAt (plan p) now s → HaveRoom now.devices capacity →
    IsWithin capacity (Some s)
within p capacity now s at room d lt =
    let t = own_table now.devices at.alike d lt in
    let shown = at.devices d t.0 t.1 in
    let used = shown.in_use in
    let most = t.0.room in
    let is = room d t.0 t.1 in
    omega arith
