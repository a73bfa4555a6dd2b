-- Ifs that store the greater or the lesser of two numbers, as they are read.
use Rattle.std.specs.Prelude.{List, map}
use Rattle.std.specs.Borrow.{Bor}
use Rattle.c_grammar.specs.Terminal.{Terminal}
use Rattle.c_grammar.specs.Updates.{Extreme, Given, Stored}
use Rattle.c_terminals.specs.declared.token.Terminal.{Terminal as Token}
use Rattle.c_terminals.specs.Seen.{seen_terminal}
use Rattle.c_written.specs.declared.extremes.Extreme.{Extreme as GivenExtreme}
use Rattle.c_written.specs.declared.extremes.Given.{Given as GivenGiven}
use Rattle.c_written.specs.declared.extremes.Stored.{Stored as GivenStored}

abbrev pub all_seen : List Token → List Terminal
all_seen ts = map seen_terminal ts

abbrev pub seen_cut : Bor (List Token) × Bor (List Token) → List Terminal × List Terminal
seen_cut p = (all_seen p.0.now, all_seen p.1.now)

abbrev pub seen_stored : GivenStored → Stored
seen_stored s = record { place = all_seen s.place.now; value = all_seen s.value.now; rest = all_seen s.rest.now }

abbrev pub seen_given : GivenGiven → Given
seen_given g = record { value = all_seen g.value.now; otherwise = g.otherwise; mentions = g.mentions }

abbrev pub seen_extreme : GivenExtreme → Extreme
seen_extreme e = record { name = e.name.now; greatest = e.greatest; mentions = e.mentions }
