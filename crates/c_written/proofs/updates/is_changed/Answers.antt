use Rattle.std.proofs.Common.{◌<◌, ◌^◌, length, rules}
use Rattle.c_written.proofs.Summing.{few_tokens}
use Rattle.c_written.proofs.updates.is_changed.Goals as goal

pub update-requires : goal.update-requires
update-requires c =
    let small : length c.args.rest.now < 2 ^ 63 = search rules in
    few_tokens c.args.rest.now _ small c.new.ensures
