-- The tokens that stand before.
use Rattle.std.specs.Prelude.{List, map}
use Rattle.c_grammar.specs.Terminal.{Terminal, Mark, Fixed}
use Rattle.c_grammar.specs.Constants.{Shape, Is, AnyName, AnyNumber, const_word, enum_word, malloc_word, calloc_word, sizeof_word}
use Rattle.directives.specs.Seen.{seen_word}
use Rattle.c_terminals.specs.declared.token.Terminal.{Terminal as Given}
use Rattle.c_written.specs.declared.stack.Stack.{Stack}
use Rattle.c_written.specs.Stack.{held}
use Rattle.c_written.specs.declared.shapes.Shape.{Shape as GivenShape}
use Rattle.c_written.specs.declared.shapes.Shape.TheVariants as given
use Rattle.c_terminals.specs.Seen.{seen_terminal}

-- the last one first
abbrev pub past_of : Stack Given → List Terminal
past_of ts = map seen_terminal (held ts)

abbrev pub seen_shape : GivenShape → Shape
seen_shape (given.Sign s) = Is (Mark s)
seen_shape (given.Word w) = Is (Fixed (seen_word w))
seen_shape given.Const = Is const_word
seen_shape given.Enum = Is enum_word
seen_shape given.Malloc = Is malloc_word
seen_shape given.Calloc = Is calloc_word
seen_shape given.Sizeof = Is sizeof_word
seen_shape given.Name = AnyName
seen_shape given.Number = AnyNumber
