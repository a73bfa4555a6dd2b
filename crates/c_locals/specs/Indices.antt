-- Subscripts that are numbers.
use Rattle.std.specs.Prelude.{ℕ, List, map, Option, reverse}
use Rattle.std.specs.Option.{option_map}
use Rattle.c_grammar.specs.Blocks.{Items}
use Rattle.c_grammar.specs.Expressions.{Product, Quotient, Rest, Work}
use Rattle.c_grammar.specs.Locals.{Ends, Factor, Goes, Has, Index, Join, Last, Next, Stops, Sum, Wants, index_from}
use Rattle.c_locals.specs.declared.indices.Factor.{Factor as GivenFactor}
use Rattle.c_locals.specs.declared.indices.Going.{Going}
use Rattle.c_locals.specs.declared.indices.Going.TheVariants as going
use Rattle.c_locals.specs.declared.indices.Index.{Index as GivenIndex}
use Rattle.c_locals.specs.declared.indices.Join.{Join as GivenJoin}
use Rattle.c_locals.specs.declared.indices.Last.{Last as GivenLast}
use Rattle.c_locals.specs.declared.indices.Last.TheVariants as last
use Rattle.c_locals.specs.declared.indices.Reader.{Reader}
use Rattle.c_locals.specs.declared.indices.Sum.{Sum as GivenSum}
use Rattle.c_locals.specs.declared.indices.Work.{Work as GivenWork}
use Rattle.c_locals.specs.declared.indices.Work.TheVariants as work

abbrev pub seen_index : GivenIndex → Index
seen_index i = record { len = i.len; value = i.value }

abbrev pub seen_sum : GivenSum → Sum
seen_sum s = record { before = s.before; minus = s.minus; product = s.product }

abbrev pub seen_work : GivenWork → Work
seen_work work.Product = Product
seen_work work.Quotient = Quotient
seen_work work.Rest = Rest

abbrev pub seen_factor : GivenFactor → Factor
seen_factor f = record { product = f.product; work = seen_work f.work }

abbrev pub seen_join : GivenJoin → Join
seen_join j = record { before = j.before; minus = j.minus; factor = option_map seen_factor j.factor }

abbrev pub seen_last : GivenLast → Last
seen_last (last.Wants j) = Wants (seen_join j)
seen_last (last.Has s) = Has (seen_sum s)

-- the innermost bracket first
abbrev pub waiting_of : List GivenJoin → List Join
waiting_of js = reverse (map seen_join js)

-- how it goes on, with what the reader has then
abbrev pub next_of : Going → Reader → Next
next_of going.On r = Goes (seen_last r.last) (waiting_of r.waiting.items)
next_of (going.Ends n) r = Ends n
next_of going.Stops r = Stops

-- what is found from there on, of which so many tokens are read
abbrev pub rest_of : Reader → ℕ → Items → Option Index
rest_of r k is = index_from (seen_last r.last) (waiting_of r.waiting.items) k is
