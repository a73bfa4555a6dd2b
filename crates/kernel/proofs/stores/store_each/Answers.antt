use Rattle.std.proofs.Common.{◌≡◌, ℕ, ◌+◌, Bool, false, length, subst, refl, arith}
use Rattle.std.specs.Prelude.{slice_index, slice_index_or}
use Rattle.kernel.specs.Lanes.{IsStoredIn}
use Rattle.kernel.specs.Rows.{cells_kept, parts_stored}
use Rattle.kernel.proofs.SomeStores.{one_more_stored, still_there}
use Rattle.kernel.proofs.stores.store_each.Goals as goal

pub store_if-requires : goal.store_if-requires
store_if-requires c part =
    still_there (λ k. slice_index_or c.args.mask.now k false) c.args.first c.args.array (slice_index c.args.numbers.now) c.lanes.j
    (cells_kept c.args.rows.now) (cells_kept c.lanes.rows) c.lanes.invariant.cells
    (record { array = c.args.array; index = c.args.first + c.lanes.j }) (c.requires.there c.lanes.j (omega arith) part)

pub lanes-preserved : goal.lanes-preserved
lanes-preserved c =
    let part : ℕ → Bool = λ k. slice_index_or c.args.mask.now k false in
    record {
      cells =
          one_more_stored part c.args.first c.args.array (slice_index c.args.numbers.now) c.lanes.j (cells_kept c.args.rows.now)
          (cells_kept c.lanes.rows) c.lanes.invariant.cells (cells_kept c.store_if.new.rows) (slice_index c.args.numbers.now c.lanes.j)
          (slice_index_or c.args.mask.now c.lanes.j false) refl refl c.in_ok-store_if.ensures.cells;
      stored =
          one_more_stored part c.args.first c.args.array (slice_index c.args.numbers.now) c.lanes.j (parts_stored c.args.rows.now)
          (parts_stored c.lanes.rows) c.lanes.invariant.stored (parts_stored c.store_if.new.rows) (slice_index c.args.numbers.now c.lanes.j)
          (slice_index_or c.args.mask.now c.lanes.j false) refl refl c.in_ok-store_if.ensures.stored;
    }

pub returns-clause-cells : goal.returns-clause-cells
returns-clause-cells c =
    let same : c.lanes.j ≡ length c.args.numbers.now = omega arith in
    subst (λ (n : ℕ). IsStoredIn (λ k. slice_index_or c.args.mask.now k false) c.args.first n c.args.array.0 (slice_index c.args.numbers.now)
    (cells_kept c.args.rows.now) (cells_kept c.lanes.rows)) same c.lanes.invariant.cells

pub returns-clause-stored : goal.returns-clause-stored
returns-clause-stored c =
    let same : c.lanes.j ≡ length c.args.numbers.now = omega arith in
    subst (λ (n : ℕ). IsStoredIn (λ k. slice_index_or c.args.mask.now k false) c.args.first n c.args.array.0 (slice_index c.args.numbers.now)
    (parts_stored c.args.rows.now) (parts_stored c.lanes.rows)) same c.lanes.invariant.stored
