-- Where a token stands, as the definition has it, and what is written in the end.
use Rattle.std.specs.Prelude.{◌≡◌, ◌++◌}
use Rattle.c_grammar.specs.Terminal.{Terminal}
use Rattle.c_grammar.specs.Texts.{Item}
use Rattle.c_grammar.specs.Blocks.{Items}
use Rattle.c_grammar.specs.Types as spec
use Rattle.c_terminals.specs.Names.{names_of}
use Rattle.c_terminals.specs.Seen.{seen_all}
use Rattle.c_types.specs.States.{seen_state}
use Rattle.c_types.specs.declared.checks.Left.{Left}
use Rattle.c_types.specs.declared.retyping.Place.{Place}
use Rattle.c_types.specs.declared.retyping.Retyping.{Retyping}
use Rattle.c_types.specs.declared.retyping.Sized.{Sized}
use Rattle.c_types.specs.declared.retyping.Sized.TheVariants as sizes

abbrev pub seen_left : Left → spec.Left
seen_left l = record {
  name = l.name.now;
  cell = l.cell;
  outer = names_of l.outer.items;
  returns = l.returns;
  depth = l.depth;
}

abbrev pub seen_sized : Sized → spec.Sized
seen_sized sizes.Unsized = spec.Unsized
seen_sized sizes.IsSizeof = spec.IsSizeof
seen_sized sizes.Sizing = spec.Sizing

abbrev pub seen_place : Place → spec.Place
seen_place p = record {
  state = seen_state p.state;
  sized = seen_sized p.sized;
  wide = p.wide;
  name = p.name.now;
  given = p.given.now;
}

-- what is written in the end, where these tokens follow
abbrev pub with_rest : spec.Found → Retyping → Items → Items
with_rest f r is = seen_all r.done.items ++ spec.retyped f (seen_place r.place) r.left is

-- whatever follows, the one is written behind the token and these, and the other then, from the place behind the token
abbrev pub IsPut : spec.Found → Retyping → Item Terminal → Items → Retyping → Type 0
IsPut f old i is new =
    (go : spec.Onward) → seen_all old.done.items ++ spec.put_on f (seen_place old.place) old.left i is go ≡
    seen_all new.done.items ++ go (spec.place_behind f (seen_place old.place) i is) new.left
