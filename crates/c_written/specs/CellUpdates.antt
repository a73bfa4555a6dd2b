-- A cell that stands again.
use Rattle.std.specs.Prelude.{[], ◌∷◌, Option, Some, None, if◌then◌else◌}
use Rattle.c_grammar.specs.Blocks.{Items}
use Rattle.c_grammar.specs.Updates.{equal}

-- what stands behind these tokens, if they stand at the front
abbrev pub rest_behind : Items → Items → Option Items
rest_behind [] js = Some js
rest_behind (i ∷ is) [] = None
rest_behind (i ∷ is) (j ∷ js) = if equal i.terminal j.terminal then rest_behind is js else None
