use Rattle.mapwalk.specs.Marks.{has_mark}
use Rattle.mapwalk.proofs.AllMarked.{all_or_not}
use Rattle.mapwalk.proofs.marks.Marks.is_full.Goals as goal

pub returns : goal.returns
returns c = all_or_not (has_mark c.args.self.now) c.args.self.now.length c.has_all.result c.has_all.ensures
