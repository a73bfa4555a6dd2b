-- Where a token stands, as the code has it.
use Rattle.c_grammar.specs.Lasting.{State, Place, Elsewhere, Heading, Sizing, Dividing}
use Rattle.c_written.specs.declared.lasting.Place.{Place as Stands}
use Rattle.c_written.specs.declared.lasting.Place.TheVariants as stands
use Rattle.c_written.specs.declared.lasting.State.{State as Given}

abbrev pub seen_state : Given → State
seen_state s = record { depth = s.depth; main = s.main; starts = s.starts; left = s.left }

abbrev pub seen_place : Stands → Place
seen_place stands.Elsewhere = Elsewhere
seen_place stands.Heading = Heading
seen_place stands.Sizing = Sizing
seen_place (stands.Dividing d) = Dividing d
