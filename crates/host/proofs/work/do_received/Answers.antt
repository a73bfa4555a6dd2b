use Rattle.std.proofs.Common.{sym}
use Rattle.host.proofs.work.do_received.Goals as goal

pub close_received-inbox-requires : goal.close_received-inbox-requires
close_received-inbox-requires g c = (c.args.job, c.requires, sym c.in-Ok.ensures.region, sym c.in-Ok.ensures.frame)
