-- Updates that commute, from what has been read.
use Rattle.std.specs.Prelude.{ℕ, ◌++◌, Bool, false, true, ◌&&◌, if◌then◌else◌, List, map, Option, Some, None}
use Rattle.c_grammar.specs.Lexeme.{Lexeme}
use Rattle.c_grammar.specs.Terminal.{Terminal, Line}
use Rattle.c_grammar.specs.Texts.{Item}
use Rattle.c_grammar.specs.Blocks.{Items, bare}
use Rattle.c_grammar.specs.Constants.{Names, with_tokens}
use Rattle.c_grammar.specs.Expressions.{placed_of}
use Rattle.c_grammar.specs.Updates.{Region, Outside, Inside, atomic_tokens, behind, commuting, has_extreme, has_update, is_atomic, is_changed, is_combined, is_compare, reduced, summed}
use Rattle.c_written.specs.declared.regions.Place.{Place}
use Rattle.c_written.specs.declared.updates.Updates.{Updates}
use Rattle.c_terminals.specs.Held.{written_all}

abbrev pub region_at : Names → Option Place → Region
region_at xs None = Outside
region_at xs (Some p) = Inside xs p.depth p.starts

abbrev pub region_of : Updates → Region
region_of u = region_at (map (λ x. x.now) u.names.items) u.place

abbrev pub depth_at : Option Place → ℕ
depth_at None = 0
depth_at (Some p) = p.depth

abbrev pub depth_of : Updates → ℕ
depth_of u = depth_at u.place

-- what is written in the end, where these tokens follow
abbrev pub with_updates : Updates → Items → Items
with_updates u is = written_all u.done.items ++ commuting (region_of u) is

-- ---- a directive line

abbrev pub line_changed : Item Terminal → List Lexeme → Items → Item Terminal
line_changed i ts is =
    if is_combined ts then with_tokens i ts (reduced ts is 0 (placed_of ts i.columns))
    else (if is_atomic ts then with_tokens i ts (atomic_tokens (has_update (bare is)) (placed_of ts i.columns))
    else (if is_compare ts && has_extreme is then with_tokens i ts (atomic_tokens true (placed_of ts i.columns)) else i))

-- the line as it is put
abbrev pub line_put : Item Terminal → Terminal → Items → Item Terminal
line_put i (Line ts) is = line_changed i ts is
line_put i t is = i

-- the region behind it
abbrev pub line_region : Terminal → Items → Region → Region
line_region (Line ts) is r = if is_combined ts then Inside (summed ts is ts) 0 false else r
line_region t is r = r

-- ---- another token

-- it is marked
abbrev pub is_marked : Region → Item Terminal → Items → Bool
is_marked Outside i is = false
is_marked (Inside xs d starts) i is = starts && is_changed xs i is

abbrev pub region_behind : Region → Item Terminal → Items → Region
region_behind Outside i is = Outside
region_behind (Inside xs d starts) i is = behind xs d i is
