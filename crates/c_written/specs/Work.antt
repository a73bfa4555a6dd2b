-- What the operators, and what waits for an operand, stand for in the grammar.
use Rattle.std.specs.Prelude.{ℕ, List, [], map, Option, Some, None}
use Rattle.c_tokens.specs.declared.kind.Sign.{Sign}
use Rattle.c_tokens.specs.declared.kind.Sign.TheVariants as sign
use Rattle.c_grammar.specs.Terminal.{Terminal, Mark}
use Rattle.c_grammar.specs.Texts.{Item}
use Rattle.c_grammar.specs.Expressions.{Work, Sum, Difference, Product, Quotient, Rest, Left, Right, Waiting, Behind, Bracket, Read, Nothing, Value, Worked, Number, Fault}
use Rattle.c_written.specs.declared.stack.Stack.{Stack}
use Rattle.c_written.specs.Stack.{held}
use Rattle.c_written.specs.declared.work.Work.{Work as GivenWork}
use Rattle.c_written.specs.declared.work.Work.TheVariants as given
use Rattle.c_written.specs.declared.work.Operator.{Operator}
use Rattle.c_written.specs.declared.expressions.Waiting.{Waiting as GivenWaiting}
use Rattle.c_written.specs.declared.expressions.Waiting.TheVariants as waiting
use Rattle.c_written.specs.declared.expressions.Worked.{Worked as GivenWorked}
use Rattle.c_written.specs.declared.expressions.Worked.TheVariants as worked

abbrev pub seen_work : GivenWork → Work
seen_work given.Sum = Sum
seen_work given.Difference = Difference
seen_work given.Product = Product
seen_work given.Quotient = Quotient
seen_work given.Rest = Rest
seen_work given.Left = Left
seen_work given.Right = Right

abbrev pub sign_of : GivenWork → Sign
sign_of given.Sum = sign.Plus
sign_of given.Difference = sign.Minus
sign_of given.Product = sign.Star
sign_of given.Quotient = sign.Slash
sign_of given.Rest = sign.Percent
sign_of given.Left = sign.ShiftLeft
sign_of given.Right = sign.ShiftRight

-- its token
abbrev pub seen_operator : Operator → Item Terminal
seen_operator o = record { terminal = Mark (sign_of o.work); line = o.line; column = o.column; columns = [] }

abbrev pub seen_waiting : GivenWaiting → Waiting
seen_waiting (waiting.Behind n o) = Behind n (seen_work o.work) (seen_operator o)
seen_waiting waiting.Bracket = Bracket

-- the last one first
abbrev pub waiting_of : Stack GivenWaiting → List Waiting
waiting_of ws = map seen_waiting (held ws)

abbrev pub read_of : Option ℕ → Read
read_of None = Nothing
read_of (Some n) = Value n

abbrev pub seen_worked : GivenWorked → Worked
seen_worked (worked.Number k n) = Number k n
seen_worked (worked.Fault k o) = Fault k (seen_operator o)
