use Rattle.std.proofs.Common.{◌<◌, ◌^◌, length, rules}
use Rattle.c_written.proofs.Targeting.{few_ahead}
use Rattle.c_written.proofs.targets.is_target_ended.Goals as goal

pub closes_index-requires : goal.closes_index-requires
closes_index-requires c =
    let small : length c.args.rest.now < 2 ^ 64 = search rules in
    few_ahead c.args.rest.now _ _ _ _ small c.new-ahead.ensures c.in-Some.ensures
