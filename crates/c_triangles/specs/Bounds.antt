-- What bounds here stand for in the grammar.
use Rattle.std.specs.Prelude.{if◌then◌else◌, List, Option, None}
use Rattle.c_tokens.specs.declared.kind.Sign.TheVariants as sign
use Rattle.c_grammar.specs.Terminal.{Terminal}
use Rattle.c_grammar.specs.Texts.{Item}
use Rattle.c_grammar.specs.Constants.{is_mark}
use Rattle.c_grammar.specs.Grids.{Range, range}
use Rattle.c_grammar.specs.Triangles.{Bound, Open, adds, operand, with_operand}
use Rattle.c_triangles.specs.declared.ranges.Bound.{Bound as Given}
use Rattle.c_triangles.specs.declared.ranges.Range.{Range as GivenRange}

abbrev pub seen_range : GivenRange → Range
seen_range r = range r.first r.last

abbrev pub seen_bound : Given → Bound
seen_bound b = record { range = seen_range b.range; varies = b.varies }

-- with what is added to it or taken away
abbrev pub next_bound : List Open → Bound → Item Terminal → Item Terminal → Option Bound
next_bound os b o i = if adds o then with_operand (is_mark sign.Minus o) b (operand os i.terminal) else None
