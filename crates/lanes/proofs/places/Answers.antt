use Rattle.lanes.proofs.Moved.{own_value_places_are, moved_places_are}
use Rattle.lanes.proofs.places.Goals as goal

pub returns-clause-own_value : goal.returns-clause-own_value
returns-clause-own_value c = own_value_places_are

pub returns-clause-moved : goal.returns-clause-moved
returns-clause-moved c = moved_places_are
