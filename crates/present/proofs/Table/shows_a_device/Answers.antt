use Rattle.present.proofs.Undone.{own_shown}
use Rattle.present.proofs.Table.shows_a_device.Goals as goal

pub returns : goal.returns
returns c = own_shown c.args.self.now
