-- What follows, without directive lines.
use Rattle.std.specs.Prelude.{[], ◌∷◌, Option, Some, None}
use Rattle.c_grammar.specs.Blocks.{Items, bare}
use Rattle.c_terminals.specs.Seen.{seen, seen_all}
use Rattle.c_terminals.specs.declared.ahead.Ahead.{Ahead}
use Rattle.c_terminals.specs.declared.token.Token.{Token}

abbrev pub ahead : Ahead → Items
ahead a = bare (seen_all a.rest.now)

-- the next token, if there is one
abbrev pub next_of : Option Token → Items
next_of None = []
next_of (Some t) = seen t ∷ []
