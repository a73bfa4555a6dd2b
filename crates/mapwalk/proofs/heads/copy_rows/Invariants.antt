use Rattle.std.proofs.Common.{◌≡◌, ◌++◌, drop, map, take}
use Rattle.mapwalk.specs.Walk.{row_items}
use Rattle.mapwalk.proofs.heads.copy_rows.Given as goal

abbrev pub invariant-rows : goal.invariant-rows
invariant-rows l =
    map row_items l.acts.items
    ≡ map row_items l.initial.acts.items ++ take l.j (drop l.first (map row_items l.initial.acts.items))
