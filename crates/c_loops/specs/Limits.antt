-- The scalar that a condition bounds.
use Rattle.c_grammar.specs.Loops.{Limit}
use Rattle.c_loops.specs.declared.bounds.Limit.{Limit as Given}

abbrev pub seen_limit : Given → Limit
seen_limit l = record { name = l.name.now; most = l.most }
