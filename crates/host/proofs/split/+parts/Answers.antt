use Rattle.std.proofs.lemmas.Result.{IfOk-at_ok}
use Rattle.kernel.specs.Spread.{IsPart}
use Rattle.host.proofs.split.+parts.Goals as goal

pub join_parts-requires-clause-front : goal.join_parts-requires-clause-front
join_parts-requires-clause-front g t c =
    let of = c.args.of.now in
    IfOk-at_ok (IsPart of.frame.now of.body.now c.in-Some.front) {r = c.join-a.result.0} c.in_ok-a.was c.join-a.ensures.first

pub join_parts-requires-clause-back : goal.join_parts-requires-clause-back
join_parts-requires-clause-back g t c =
    let of = c.args.of.now in
    IfOk-at_ok (IsPart of.frame.now of.body.now c.in-Some.back) {r = c.join-a.result.1} c.in_ok-b.was c.join-a.ensures.second
