use Rattle.std.proofs.lemmas.Result.{IfOk-weaker}
use Rattle.base.specs.Items.{plan}
use Rattle.mapcheck.specs.Noted.{is_run}
use Rattle.mapcheck.specs.Segments.{is_from}
use Rattle.mapcheck.proofs.NotedCells.{seen_at}
use Rattle.mapcheck.proofs.noted.Noted.note_run.Goals as goal

pub returns : goal.returns
returns c =
    let places = c.places_of-places.result in
    IfOk-weaker c.note_places.result _ _
    (λ clear h. seen_at (plan c.args.order.now) c.args.self.now c.note_places.new.self c.args.touch
    (is_run c.args.array c.args.first c.args.end) places.row (is_from places.first places.end) clear h
    c.places_of-places.ensures.row c.places_of-places.ensures.places)
    c.note_places.ensures
