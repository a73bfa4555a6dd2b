-- Macros as they are held, and what is read.
use Rattle.std.specs.Prelude.{ℕ, Bool, List, map, reverse, Vec, Option, Some, None, if◌then◌else◌}
use Rattle.std.specs.declared.alloc.Global.{Global}
use Rattle.std.specs.Borrow.{Bor}
use Rattle.c_grammar.specs.Blocks.{Items}
use Rattle.c_grammar.specs.Constants.{Names}
use Rattle.c_grammar.specs.Macros as macros
use Rattle.c_macros.specs.declared.macros.Macro.{Macro}
use Rattle.c_macros.specs.declared.reading.Call.{Call}
use Rattle.c_macros.specs.declared.reading.Calls.{Calls}
use Rattle.c_macros.specs.declared.reading.Reading.{Reading}
use Rattle.c_terminals.specs.declared.token.Token.{Token}
use Rattle.c_terminals.specs.Seen.{seen, seen_all, seen_terminal}

abbrev pub names_of : List (Bor (List ℕ)) → Names
names_of xs = map (λ x. x.now) xs

abbrev pub seen_macro : Macro → macros.Macro
seen_macro m = record { name = m.name.now; parameters = names_of m.parameters.items; body = map seen_terminal m.body.items }

abbrev pub all_macros : List Macro → macros.Macros
all_macros ms = map seen_macro ms

abbrev pub lists_of : List (Vec Token Global) → List Items
lists_of vs = map (λ v. seen_all v.items) vs

abbrev pub seen_call : Call → macros.Call
seen_call c = record { place = seen c.place; depth = c.depth; before = lists_of c.before.items; now = seen_all c.now.items }

-- the innermost first
abbrev pub seen_calls : Calls → List macros.Call
seen_calls c = reverse (map seen_call c.calls.items)

abbrev pub seen_reading : Reading → macros.Reading
seen_reading r = record { done = seen_all r.done.items; calls = seen_calls r.calls; room = r.room }

-- what is read, if all of it could be
abbrev pub read_so_far : Bool → Reading → Option macros.Reading
read_so_far b r = if b then Some (seen_reading r) else None
