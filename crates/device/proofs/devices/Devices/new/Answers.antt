use Rattle.device.proofs.Tables.{four_alike}
use Rattle.device.proofs.devices.Devices.new.Goals as goal

pub returns-clause-alike : goal.returns-clause-alike
returns-clause-alike c =
    four_alike c.new-first.result c.another-second.result c.another-third.result c.another-fourth.result
    c.another-second.ensures.kept.fill c.another-third.ensures.kept.fill c.another-fourth.ensures.kept.fill
