-- Definitions of structs, as they are held.
use Rattle.std.specs.Prelude.{ℕ, List}
use Rattle.std.specs.Borrow.{Bor}
use Rattle.std.specs.Option.{option_map}
use Rattle.c_grammar.specs.Structs as structs
use Rattle.c_structs.specs.declared.definitions.Body.{Body}
use Rattle.c_structs.specs.declared.definitions.Definition.{Definition}
use Rattle.c_structs.specs.declared.definitions.Spot.{Spot}
use Rattle.c_structs.specs.declared.definitions.Spot.TheVariants as given
use Rattle.c_structs.specs.declared.structs.Struct.{Struct}
use Rattle.c_terminals.specs.Ahead.{ahead}

abbrev pub name_of : Bor (List ℕ) → List ℕ
name_of x = x.now

abbrev pub seen_spot : Spot → structs.Spot
seen_spot given.OnType = structs.OnType
seen_spot given.OnName = structs.OnName
seen_spot given.Behind = structs.Behind

abbrev pub seen_body : Body → structs.Body
seen_body b = record { len = b.len; rest = ahead b.rest }

abbrev pub seen_definition : Definition → structs.Definition
seen_definition d = record {
  tag = option_map name_of d.tag;
  own = option_map name_of d.own;
  members = ahead d.members;
  len = d.len;
}

abbrev pub seen_struct : Struct → structs.Struct
seen_struct s = record { tagged = s.tagged; name = s.name.now; members = ahead s.members }
