-- Lines that begin with #, and what they define.
use Rattle.std.specs.Prelude.{ℕ, ◌+◌, true, if◌then◌else◌, List, [], ◌∷◌, length, Option, None}
use Rattle.c_grammar.specs.Terminal.{Terminal, Name, Unknown, End}
use Rattle.c_grammar.specs.Texts.{Item}
use Rattle.c_grammar.specs.Lexeme.{Placed}
use Rattle.c_grammar.specs.Blocks.{Items}
use Rattle.c_grammar.specs.Expressions.{Values, Nothing, as_items, as_terminal, expression}
use Rattle.c_grammar.specs.Constants.{Definition, Defines, Misdefines, defined, has_parameters}
use Rattle.c_written.specs.declared.definition.Definition.{Definition as Given}
use Rattle.c_written.specs.declared.definition.Definition.TheVariants as given
use Rattle.c_written.specs.Work.{seen_operator}

-- the end of a line is no token of a source: like a byte that begins no token, it belongs to no expression
abbrev pub no_end : Terminal → Terminal
no_end End = Unknown
no_end t = t

abbrev pub unended : Items → Items
unended [] = []
unended (i ∷ is) = record { terminal = no_end i.terminal; line = i.line; column = i.column; columns = i.columns } ∷ unended is

-- what is defined behind the word define: by a token, and those behind it
abbrev pub named_by : Values → ℕ → Terminal → ℕ → List Placed → Option Definition
named_by vs line (Name x) column ps =
    if has_parameters (column + length x) (as_items line ps) then None
    else defined x (as_items line ps) (expression vs true Nothing [] 0 (as_items line ps))
named_by vs line t column ps = None

abbrev pub named : Values → ℕ → Placed → List Placed → Option Definition
named vs line p ps = named_by vs line (as_terminal p.lexeme) p.column ps

abbrev pub seen_definition : Given → Definition
seen_definition (given.Defines c) = Defines c.name.now c.value
seen_definition (given.Misdefines o) = Misdefines (seen_operator o)
