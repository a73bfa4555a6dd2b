-- What becomes of a token.
use Rattle.std.specs.Prelude.{[], ◌∷◌, Option, Some, None}
use Rattle.c_grammar.specs.Blocks.{Items}
use Rattle.c_terminals.specs.declared.held.Written.{Written}
use Rattle.c_terminals.specs.Held.{seen_written}

abbrev pub put_list : Option Written → Items
put_list None = []
put_list (Some w) = seen_written w ∷ []
