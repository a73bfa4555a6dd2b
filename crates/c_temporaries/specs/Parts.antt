-- What values, and names that are known, stand for.
use Rattle.std.specs.Prelude.{ℕ, Bool, true, false, List, map, reverse, Option, Some, None}
use Rattle.c_grammar.specs.Terminal.{Terminal, Mark, Name, Num}
use Rattle.c_terminals.specs.Ahead.{ahead}
use Rattle.c_temporaries.specs.Temporaries as spec
use Rattle.c_temporaries.specs.Temporaries.{Terminals}
use Rattle.c_temporaries.specs.declared.parts.Part.{Part}
use Rattle.c_temporaries.specs.declared.parts.Part.TheVariants as parts
use Rattle.c_temporaries.specs.declared.knowns.Known.{Known}
use Rattle.c_temporaries.specs.declared.knowns.Knowns.{Knowns}
use Rattle.c_temporaries.specs.declared.values.Wanted.{Wanted}
use Rattle.c_temporaries.specs.declared.values.Wanted.TheVariants as wanted
use Rattle.c_temporaries.specs.declared.values.Value.{Value}
use Rattle.c_temporaries.specs.declared.values.Whole.{Whole}

abbrev pub seen_part : Part → Terminal
seen_part (parts.Sign s) = Mark s
seen_part (parts.Name x) = Name x.now
seen_part (parts.Number n) = Num (Some n)

abbrev pub seen_parts : List Part → Terminals
seen_parts ps = map seen_part ps

-- ---- names

abbrev pub seen_known : Known → spec.Known
seen_known k = record { name = k.name.now; value = seen_parts k.value.items; depth = k.depth }

-- the last one first
abbrev pub knowns_of : List Known → List spec.Known
knowns_of ks = reverse (map seen_known ks)

abbrev pub seen_knowns : Knowns → List spec.Known
seen_knowns k = knowns_of k.items.items

-- ---- values

abbrev pub seen_wanted : Wanted → spec.Wanted
seen_wanted wanted.Operand = spec.AnOperand
seen_wanted wanted.Divisor = spec.ADivisor
seen_wanted wanted.Shift = spec.AShift
seen_wanted wanted.Operator = spec.AnOperator

abbrev pub seen_value : Value → spec.Value
seen_value v = record { wanted = seen_wanted v.wanted; brackets = v.brackets; tokens = seen_parts v.tokens.items }

-- the value so far, if it could go on
abbrev pub so_far : Bool → Value → Option spec.Value
so_far true v = Some (seen_value v)
so_far false v = None

abbrev pub seen_whole : Whole → spec.Whole
seen_whole w = record { tokens = seen_parts w.tokens.items; len = w.len; more = w.more; rest = ahead w.rest }
