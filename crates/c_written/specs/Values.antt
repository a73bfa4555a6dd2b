-- Constants, the last one first.
use Rattle.std.specs.Prelude.{ℕ, List, map, reverse}
use Rattle.c_grammar.specs.Expressions.{Values}
use Rattle.c_written.specs.declared.values.Constant.{Constant}
use Rattle.c_written.specs.declared.values.Values.{Values as Given}

abbrev pub seen_constant : Constant → List ℕ × ℕ
seen_constant c = (c.name.now, c.value)

abbrev pub values_of : List Constant → Values
values_of cs = reverse (map seen_constant cs)

abbrev pub seen_values : Given → Values
seen_values v = values_of v.constants.items
