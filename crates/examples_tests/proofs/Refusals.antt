-- The refused programs, each by one computation.
use Rattle.std.proofs.Common.{◌≡◌, ℕ, List, ◌∷◌, [], true, refl, sym, ap₂, subst, Option, Some, None}
use Rattle.base.specs.declared.fault.RefusalCode.{RefusalCode}
use Rattle.base.specs.declared.fault.RefusalCode.TheVariants.{ExitOfAbsent, NotPresent, HostNotCurrent, DeviceNotCurrent, TurnsMeet, Conflict}
use Rattle.base.specs.declared.tree.Part.{Part}
use Rattle.base.specs.Items.{Plan, plan_of}
use Rattle.base.specs.Accepted.{IsFirstFault, Refused}
use Rattle.examples_tests.specs.Pieces.{a}
use Rattle.examples_tests.specs.FirstFault.{refusal, refused_first}
use Rattle.examples_tests.specs.Refused.{FirstRefusalAt, not_copied_back, deleted_inside_data, exit_too_early, stale_on_device, stale_on_another, present_elsewhere, next_cell, same_cells, shared_scalar, two_operators, looked_at, two_updates, nothing_to_update, TheyAreRefused}
use Rattle.examples_tests.proofs.FirstFaults.{first_fault_by}

-- one computation serves every program with these arrays and parts
first_refusal : (n : ℕ) (lengths : List ℕ) (parts : List Part) (code : RefusalCode) (j index : ℕ) (other : Option ℕ) →
    refused_first n (plan_of lengths parts) (refusal code j (record { array = a; index = index }) other) ≡ true →
    FirstRefusalAt lengths parts code j index other
first_refusal n lengths parts code j index other h p l e =
    subst (λ (plan : Plan). IsFirstFault plan (Refused (refusal code j (record { array = a; index = index }) other)))
    (sym (ap₂ plan_of l e))
    (first_fault_by n (plan_of lengths parts) (refusal code j (record { array = a; index = index }) other) h)

pub they_are_refused : TheyAreRefused
they_are_refused v p = record {
  not_copied_back_refused = first_refusal 0 (4 ∷ []) (not_copied_back v p) HostNotCurrent 2 0 None refl;
  deleted_inside_data_refused = first_refusal 0 (2 ∷ []) (deleted_inside_data v p) ExitOfAbsent 2 0 None refl;
  exit_too_early_refused = first_refusal 1 (8 ∷ []) (exit_too_early v p) Conflict 3 0 (Some 1) refl;
  stale_on_device_refused = first_refusal 0 (4 ∷ 4 ∷ []) (stale_on_device v p) DeviceNotCurrent 2 0 None refl;
  stale_on_another_refused = first_refusal 0 (4 ∷ 4 ∷ []) (stale_on_another v p) DeviceNotCurrent 2 0 None refl;
  present_elsewhere_refused = first_refusal 0 (4 ∷ []) (present_elsewhere v p) NotPresent 1 0 None refl;
  next_cell_refused = first_refusal 0 (8 ∷ []) (next_cell v p) TurnsMeet 0 1 None refl;
  same_cells_refused = first_refusal 0 (2 ∷ []) (same_cells v p) TurnsMeet 0 0 None refl;
  shared_scalar_refused = first_refusal 0 (4 ∷ []) (shared_scalar v p) TurnsMeet 0 0 None refl;
  two_operators_refused = first_refusal 0 (1 ∷ []) (two_operators v p) TurnsMeet 0 0 None refl;
  looked_at_refused = first_refusal 0 (5 ∷ []) (looked_at v p) TurnsMeet 0 0 None refl;
  two_updates_refused = first_refusal 1 (1 ∷ []) (two_updates v p) Conflict 2 0 (Some 1) refl;
  nothing_to_update_refused = first_refusal 0 (1 ∷ []) (nothing_to_update v p) DeviceNotCurrent 0 0 None refl;
}
