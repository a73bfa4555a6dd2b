use Rattle.std.proofs.Common.{Some}
use Rattle.host.proofs.run.run_through.Given as goal

abbrev pub ghosts-run_from : goal.ghosts-run_from
ghosts-run_from g a =
    record {
      start = Some (record { program = a.image.now; input = a.input.now; capacity = a.capacity });
      table = a.ends.pass.table_id;
      key = a.ends.pass.me.0.of;
    }
