use Rattle.regions.proofs.Alike.{agreeing_items_touch_alike}
use Rattle.regions.proofs.agreeing_items_touch_alike.Goals as goal

pub returns : goal.returns
returns c = agreeing_items_touch_alike
