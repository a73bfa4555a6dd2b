-- Conditions that are being read.
use Rattle.std.specs.Prelude.{ℕ, List, map, Option, Some, None}
use Rattle.c_grammar.specs.Conditions.{Found, Going, Goes, Ends, Fails, Operator, Or, And, Same, Other, Less, AtMost, Greater, AtLeast, By, Reduced, To, Stuck, Waiting, Behind, Bracket, Negated}
use Rattle.c_grammar.specs.Expressions.{Read}
use Rattle.c_written.specs.declared.condition.Reader.{Reader as GivenReader}
use Rattle.c_written.specs.declared.condition.Found.{Found as GivenFound}
use Rattle.c_written.specs.declared.condition.Going.{Going as GivenGoing}
use Rattle.c_written.specs.declared.condition.Going.TheVariants as going
use Rattle.c_written.specs.declared.condition.Operator.{Operator as GivenOperator}
use Rattle.c_written.specs.declared.condition.Operator.TheVariants as given
use Rattle.c_written.specs.declared.condition.Waiting.{Waiting as GivenWaiting}
use Rattle.c_written.specs.declared.condition.Waiting.TheVariants as waiting
use Rattle.c_written.specs.declared.stack.Stack.{Stack}
use Rattle.c_written.specs.Stack.{held}
use Rattle.c_written.specs.Work.{read_of, seen_work}

abbrev pub seen_operator : GivenOperator → Operator
seen_operator given.Or = Or
seen_operator given.And = And
seen_operator given.Same = Same
seen_operator given.Other = Other
seen_operator given.Less = Less
seen_operator given.AtMost = AtMost
seen_operator given.Greater = Greater
seen_operator given.AtLeast = AtLeast
seen_operator (given.By w) = By (seen_work w)

abbrev pub seen_waiting : GivenWaiting → Waiting
seen_waiting (waiting.Behind n o) = Behind n (seen_operator o)
seen_waiting waiting.Bracket = Bracket
seen_waiting waiting.Negated = Negated

-- the last one first
abbrev pub waiting_of : Stack GivenWaiting → List Waiting
waiting_of ws = map seen_waiting (held ws)

abbrev pub reduced : Option ℕ → List Waiting → Reduced
reduced None ws = Stuck
reduced (Some n) ws = To n ws

abbrev pub read_in : GivenReader → Read
read_in c = read_of c.value

-- what came of a token
abbrev pub gone : GivenGoing → GivenReader → Going
gone going.On c = Goes (read_in c) (waiting_of c.waiting)
gone (going.Ends n) c = Ends n
gone going.Fails c = Fails

abbrev pub seen_found : GivenFound → Found
seen_found f = record { value = f.value; len = f.len }
