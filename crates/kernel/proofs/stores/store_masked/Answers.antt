use Rattle.std.proofs.Common.{false}
use Rattle.std.specs.Prelude.{slice_index_or}
use Rattle.std.proofs.lemmas.Result.{on_ok_weaker}
use Rattle.kernel.proofs.Runs.{cells_put, stored_put}
use Rattle.kernel.proofs.stores.store_masked.Goals as goal

pub returns-clause-cells : goal.returns-clause-cells
returns-clause-cells c =
    on_ok_weaker c.put_some.result
    (cells_put c.args.rows.now c.args.array c.args.first c.first.result (λ k. slice_index_or c.args.mask.now k false) c.args.numbers.now
    c.index-rows-array.result c.put_some.new.self c.requires.some c.requires.there c.first.ensures)
    c.put_some.ensures

pub returns-clause-stored : goal.returns-clause-stored
returns-clause-stored c =
    on_ok_weaker c.put_some.result
    (stored_put c.args.rows.now c.args.array c.args.first c.first.result (λ k. slice_index_or c.args.mask.now k false) c.args.numbers.now
    c.index-rows-array.result c.put_some.new.self c.requires.some c.requires.there c.first.ensures)
    c.put_some.ensures
