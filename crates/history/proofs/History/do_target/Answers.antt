use Rattle.history.proofs.Standing.{since_then}
use Rattle.history.proofs.History.do_target.Goals as goal

pub returns-clause-since : goal.returns-clause-since
returns-clause-since c =
    since_then c.act_all-2.result c.args.number c.args.self.now c.run_found.new.self c.act_all-2.new.self
    (λ past h. c.in_ok-run_found.ensures.since past (c.in_ok-act_all.ensures.since past h)) c.act_all-2.ensures.since
