-- The texts of a run: its events, and the values of arrays.
use Rattle.std.specs.Prelude.{ℕ, List, ◌++◌, Vec, codes, decimal, flat_map}
use Rattle.std.specs.declared.alloc.Global.{Global}
use Rattle.base.specs.declared.item.Event.{Event}
use Rattle.base.specs.declared.item.Event.TheVariants.{Gen, Open, Step, Close, Wait, End}
use Rattle.base.specs.declared.tree.ArrayId.{ArrayId}
use Rattle.base.specs.declared.tree.Program.{Program}
use Rattle.report.specs.Listing.{name_of}

abbrev pub event_line : Event → List ℕ
event_line (Gen i) = codes "gen " ++ (decimal i ++ codes "\n")
event_line (Open i) = codes "open " ++ (decimal i ++ codes "\n")
event_line (Step i) = codes "step " ++ (decimal i ++ codes "\n")
event_line (Close i) = codes "close " ++ (decimal i ++ codes "\n")
event_line (Wait i) = codes "wait " ++ (decimal i ++ codes "\n")
event_line End = codes "end\n"

-- a line for each event
abbrev pub log_bytes : List Event → List ℕ
log_bytes history = flat_map event_line history

abbrev pub spaced : ℕ → List ℕ
spaced n = codes " " ++ decimal n

-- `NAME: 1 2 3`
abbrev pub final_line : Program → ArrayId × Vec ℕ Global → List ℕ
final_line p final = name_of p final.0.0 ++ (codes ":" ++ (flat_map spaced final.1.items ++ codes "\n"))

-- a line for each array
abbrev pub finals_bytes : Program → List (ArrayId × Vec ℕ Global) → List ℕ
finals_bytes p finals = flat_map (final_line p) finals
