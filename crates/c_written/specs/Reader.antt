-- An expression that is being read.
use Rattle.std.specs.Prelude.{◌≡◌, ℕ, if◌then◌else◌, List, Option, Some, None, Result, Ok, Err}
use Rattle.c_grammar.specs.Terminal.{Terminal}
use Rattle.c_grammar.specs.Texts.{Item}
use Rattle.std.specs.Option.{option_map}
use Rattle.c_grammar.specs.Blocks.{Items}
use Rattle.c_grammar.specs.Expressions.{Read, Waiting, Worked, Number, Reduced, To, Stuck, work_of, is_over, put, at_operand, behind_value, expression}
use Rattle.c_written.specs.declared.work.Operator.{Operator}
use Rattle.c_written.specs.declared.expressions.Reader.{Reader}
use Rattle.c_written.specs.declared.expressions.Going.{Going}
use Rattle.c_written.specs.declared.expressions.Going.TheVariants as going
use Rattle.c_written.specs.Values.{seen_values}
use Rattle.c_written.specs.Work.{seen_operator, seen_worked, waiting_of, read_of}

-- what came of working out
abbrev pub reduced : Result ℕ Operator → List Waiting → Reduced
reduced (Ok n) ws = To n ws
reduced (Err o) ws = Stuck (seen_operator o)

-- what is asked only is the same
pub record IsKept (old new : Reader) : Type 0 where
  pub values : new.values.now ≡ old.values.now
  pub single : new.single ≡ old.single
  pub count : new.count ≡ old.count

-- what is found, where go is what is found behind
abbrev pub Goes : Going → Reader → (Read → List Waiting → Option Worked) → Option Worked
Goes going.On r go = go (read_of r.value) (waiting_of r.waiting)
Goes (going.Over o) r go = option_map seen_worked o

-- what is found from there on
abbrev pub rest_of : Reader → Items → Option Worked
rest_of r is = expression (seen_values r.values.now) r.single (read_of r.value) (waiting_of r.waiting) r.count is

abbrev pub GoesOn : Going → Reader → Items → Option Worked
GoesOn going.On r is = rest_of r is
GoesOn (going.Over o) r is = option_map seen_worked o

-- the same at a token, where go is what is found behind
abbrev pub by_value : Reader → Option ℕ → Item Terminal → (Read → List Waiting → Option Worked) → Option Worked
by_value r None i go = at_operand (waiting_of r.waiting) (put (seen_values r.values.now) i.terminal) go
by_value r (Some n) i go =
    if is_over r.single (waiting_of r.waiting) then Some (Number r.count n)
    else behind_value r.count n (waiting_of r.waiting) i (work_of i.terminal) go

abbrev pub stepped : Reader → Item Terminal → (Read → List Waiting → Option Worked) → Option Worked
stepped r i go = by_value r r.value i go
