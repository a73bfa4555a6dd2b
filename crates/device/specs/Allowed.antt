-- The events that the order of items allows.
use Rattle.std.specs.Prelude.{ℕ, List, [], ◌∷◌, ◌++◌, filter, map}
use Rattle.std.specs.List.{range_with_len}
use Rattle.base.specs.declared.item.Event.{Event}
use Rattle.base.specs.declared.item.Event.TheVariants.{Gen, Open, Close, Wait, End}
use Rattle.taskgraph.specs.Board.{Board, allows}

-- of so many items, in the order in which choices count them
abbrev pub allowed_at : Board → ℕ → List Event
allowed_at b count =
    let all = range_with_len 0 count in
    filter (allows b) (map Close all ++ (map Open all ++ (Gen b.place ∷ Wait b.place ∷ End ∷ [])))
