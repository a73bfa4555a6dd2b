-- A line whose clauses private are left out.
use Rattle.std.specs.Prelude.{◌++◌, List}
use Rattle.c_grammar.specs.Lexeme.{Placed}
use Rattle.c_grammar.specs.Privates.{kept}
use Rattle.c_written.specs.declared.privates.Kept.{Kept}
use Rattle.c_written.specs.Clauses.{seen_place, seen_scope}
use Rattle.c_written.specs.Forms.{all_placed}

-- what is written in the end where these tokens follow
abbrev pub with_kept : Kept → List Placed → List Placed
with_kept c ps = all_placed c.done.items ++ kept (seen_scope c.scope) (seen_place c.place) c.left ps
