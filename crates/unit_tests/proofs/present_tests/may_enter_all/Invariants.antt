use Rattle.std.proofs.Common.{◌≡◌, ℕ, ◌<◌, length, Some}
use Rattle.std.specs.Prelude.{slice_get}
use Rattle.base.specs.declared.item.MapItem.{MapItem}
use Rattle.host_memory.specs.Arrays.{IsWithin}
use Rattle.present.specs.Blocks.{IsSection}
use Rattle.present.specs.Table.{CountFits}
use Rattle.unit_tests.proofs.present_tests.may_enter_all.Given as goal

abbrev pub invariant-loop-item : goal.invariant-loop-item
invariant-loop-item l = (k : ℕ) (item : MapItem) → k < l.item-index → slice_get l.items k ≡ Some item →
    IsSection item.section × IsWithin l.host item.section × CountFits l.table (length l.items) item.section
