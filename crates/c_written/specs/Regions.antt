-- The region of a construct: so many open parts, and whether a statement begins.
use Rattle.std.specs.Prelude.{ℕ, zero, suc, ◌+◌, ◌-◌, ◌==◌, Bool, true, false, ◌&&◌, if◌then◌else◌, List, Option, Some, None}
use Rattle.c_tokens.specs.declared.kind.Sign.{Sign}
use Rattle.c_tokens.specs.declared.kind.Sign.TheVariants as sign
use Rattle.c_grammar.specs.Terminal.{Terminal}
use Rattle.c_grammar.specs.Texts.{Item}
use Rattle.c_grammar.specs.Blocks.{Items}
use Rattle.c_grammar.specs.Changes.{is_boundary, is_mark}
use Rattle.c_grammar.specs.Presence.{goes_on, opens_part}
use Rattle.c_grammar.specs.Updates.{Operation, BySign, ByExtreme, again_at, is_by, place_len, update}
use Rattle.c_written.specs.declared.regions.Operation.{Operation as Given}
use Rattle.c_written.specs.declared.regions.Operation.TheVariants as given
use Rattle.c_written.specs.declared.regions.Place.{Place}

abbrev pub seen_operation : Given → Operation
seen_operation (given.BySign op) = BySign op
seen_operation (given.ByExtreme greatest) = ByExtreme greatest

abbrev pub seen_place : Place → ℕ × Bool
seen_place p = (p.depth, p.starts)

-- behind a token; nothing where the region ends
abbrev pub place_behind : ℕ → Item Terminal → Items → Option (ℕ × Bool)
place_behind d i is =
    if opens_part i then Some (d + 1, is_boundary i.terminal)
    else (if is_mark sign.CloseBrace i then (if goes_on d is then Some (d - 1, true) else None)
    else (if is_mark sign.CloseParen i then Some (d - 1, false)
    else (if is_mark sign.Semicolon i && (d == 0) then None else Some (d, is_boundary i.terminal))))

-- behind the name, how many tokens there are up to the name that may stand again; nothing where it stands in no such update
abbrev pub mentioned : List ℕ → Sign → Bool → ℕ → Items → Option ℕ
mentioned x op starts (suc zero) is = Some 0
mentioned x op starts n is =
    if starts && is_by op (update x is) then Some (again_at (place_len is) is) else None
