-- Which numbers a second subscript may be.
use Rattle.std.specs.Prelude.{◌≡◌, ℕ, ◌-◌, nat_le, nat_lt, ◌&&◌, List, [], ◌∷◌, map, reverse, ◌++◌, Option, Some, None, if◌then◌else◌}
use Rattle.c_tokens.specs.declared.kind.Sign.TheVariants as sign
use Rattle.c_grammar.specs.Terminal.{Terminal, Mark, Num, same}
use Rattle.c_grammar.specs.Blocks.{Items}
use Rattle.c_grammar.specs.Grids.{Range, Ranges, Index, OnOperand, anything, range}
use Rattle.c_written.specs.declared.indices.Named.{Named}
use Rattle.c_written.specs.declared.indices.Ranges.{Ranges as GivenRanges}
use Rattle.c_written.specs.declared.indices.Index.{Index as GivenIndex}
use Rattle.c_written.specs.declared.indices.Seven.{Seven}
use Rattle.c_written.specs.declared.indices.Sums.{Sums}
use Rattle.c_written.specs.Ranges.{seen_range}
use Rattle.c_terminals.specs.Seen.{seen}

abbrev pub seen_named : Named → List ℕ × Range
seen_named n = (n.name.now, seen_range n.range)

abbrev pub ranges_in : List Named → Ranges
ranges_in ns = reverse (map seen_named ns)

-- the last one first
abbrev pub ranges_of : GivenRanges → Ranges
ranges_of r = ranges_in r.names.items

abbrev pub seen_index : GivenIndex → Index
seen_index i = record { len = i.len; range = seen_range i.range }

-- behind an operand, what goes on
abbrev pub on_sums : Option Sums → OnOperand → Option Index
on_sums None go = None
on_sums (Some s) go = go (seen_range s.before) s.minus (seen_range s.product)

abbrev pub all_seven : Seven → Items
all_seven s =
    seen s.first ∷ seen s.second ∷ seen s.third ∷ seen s.fourth ∷ seen s.fifth ∷ seen s.sixth ∷ seen s.seventh ∷ []

-- they begin with these tokens
pub record BeginsWith (is : Items) (s : Seven) : Type 0 where
  pub rest : Items
  pub all : is ≡ all_seven s ++ rest

-- of a loop: its first number, its comparison, its limit
abbrev pub bounds : Terminal → Terminal → Terminal → Range
bounds (Num (Some a)) l (Num (Some b)) =
    if same (Mark sign.Less) l && nat_lt a b then range a (b - 1)
    else (if same (Mark sign.LessEqual) l && nat_le a b then range a b else anything)
bounds a l b = anything
