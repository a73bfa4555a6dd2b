use Rattle.std.proofs.lemmas.Result.{on_ok_weaker}
use Rattle.kernel.specs.Lanes.{all_of}
use Rattle.kernel.proofs.Runs.{cells_put, stored_put}
use Rattle.kernel.proofs.stores.store_run.Goals as goal

pub returns-clause-cells : goal.returns-clause-cells
returns-clause-cells c =
    on_ok_weaker c.put_run.result
    (cells_put c.args.rows.now c.args.array c.args.first c.first.result all_of c.args.numbers.now c.index-rows-array.result c.put_run.new.self
    c.requires.some c.requires.there c.first.ensures)
    c.put_run.ensures

pub returns-clause-stored : goal.returns-clause-stored
returns-clause-stored c =
    on_ok_weaker c.put_run.result
    (stored_put c.args.rows.now c.args.array c.args.first c.first.result all_of c.args.numbers.now c.index-rows-array.result c.put_run.new.self
    c.requires.some c.requires.there c.first.ensures)
    c.put_run.ensures
