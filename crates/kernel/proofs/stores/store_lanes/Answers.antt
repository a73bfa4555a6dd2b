use Rattle.std.proofs.Common.{◌+◌, ap}
use Rattle.std.proofs.lemmas.Result.{on_ok_weaker}
use Rattle.kernel.specs.Rows.{cells_kept, parts_stored}
use Rattle.kernel.proofs.Parts.{stored_all, stored_some}
use Rattle.kernel.proofs.stores.store_lanes.Goals as goal

pub returns-in-None-clause-cells : goal.returns-in-None-clause-cells
returns-in-None-clause-cells c =
    on_ok_weaker c.store_run.result
    (stored_all c.args.at.now c.args.array c.args.numbers.now _ (cells_kept c.args.rows.now) (cells_kept c.store_run.new.rows) c.in-None.is
    (ap (λ o. o + c.args.at.now.first) c.unwrap_or-offset.ensures) c.requires.size)
    c.store_run.ensures.cells

pub returns-in-None-clause-stored : goal.returns-in-None-clause-stored
returns-in-None-clause-stored c =
    on_ok_weaker c.store_run.result
    (stored_all c.args.at.now c.args.array c.args.numbers.now _ (parts_stored c.args.rows.now) (parts_stored c.store_run.new.rows) c.in-None.is
    (ap (λ o. o + c.args.at.now.first) c.unwrap_or-offset.ensures) c.requires.size)
    c.store_run.ensures.stored

pub returns-then-has_run-clause-cells : goal.returns-then-has_run-clause-cells
returns-then-has_run-clause-cells c =
    on_ok_weaker c.store_masked.result
    (stored_some c.args.at.now c.in-Some.mask c.args.array c.args.numbers.now _ (cells_kept c.args.rows.now)
    (cells_kept c.store_masked.new.rows) c.in-Some.is
    (ap (λ o. o + c.args.at.now.first) c.unwrap_or-offset.ensures) c.requires.size)
    c.store_masked.ensures.cells

pub returns-then-has_run-clause-stored : goal.returns-then-has_run-clause-stored
returns-then-has_run-clause-stored c =
    on_ok_weaker c.store_masked.result
    (stored_some c.args.at.now c.in-Some.mask c.args.array c.args.numbers.now _ (parts_stored c.args.rows.now)
    (parts_stored c.store_masked.new.rows) c.in-Some.is
    (ap (λ o. o + c.args.at.now.first) c.unwrap_or-offset.ensures) c.requires.size)
    c.store_masked.ensures.stored

pub returns-else-has_run-clause-cells : goal.returns-else-has_run-clause-cells
returns-else-has_run-clause-cells c =
    on_ok_weaker c.store_each.result
    (stored_some c.args.at.now c.in-Some.mask c.args.array c.args.numbers.now _ (cells_kept c.args.rows.now)
    (cells_kept c.store_each.new.rows) c.in-Some.is
    (ap (λ o. o + c.args.at.now.first) c.unwrap_or-offset.ensures) c.requires.size)
    c.store_each.ensures.cells

pub returns-else-has_run-clause-stored : goal.returns-else-has_run-clause-stored
returns-else-has_run-clause-stored c =
    on_ok_weaker c.store_each.result
    (stored_some c.args.at.now c.in-Some.mask c.args.array c.args.numbers.now _ (parts_stored c.args.rows.now)
    (parts_stored c.store_each.new.rows) c.in-Some.is
    (ap (λ o. o + c.args.at.now.first) c.unwrap_or-offset.ensures) c.requires.size)
    c.store_each.ensures.stored
