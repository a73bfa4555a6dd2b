-- Where tokens of a line stand, with sections of arrays with rows.
use Rattle.std.specs.Prelude.{suc, true, List, [], ◌∷◌, if◌then◌else◌}
use Rattle.c_tokens.specs.declared.kind.Sign.TheVariants as sign
use Rattle.c_grammar.specs.Grids as grids
use Rattle.c_grammar.specs.Grids.{Elsewhere, Named, Within, Behind, Left, Grids, bound_at, is_whole_row, name_at, no_row, term_in_rows}
use Rattle.c_grammar.specs.Lexeme.{Lexeme, Placed}
use Rattle.c_grammar.specs.LineForms.{is_sign}
use Rattle.c_written.specs.declared.row_sections.At.{At}
use Rattle.c_written.specs.declared.row_sections.At.TheVariants as given

abbrev pub seen_at : At → grids.At
seen_at given.Elsewhere = Elsewhere
seen_at (given.Named m) = Named m
seen_at (given.Within m term) = Within m term
seen_at (given.Behind m) = Behind m
seen_at (given.Left k) = Left k

-- what a token is written as, before others
abbrev pub put_at : grids.At → Placed → List Lexeme → List Placed
put_at (Left (suc k)) p ts = []
put_at (Within m true) p ts = term_in_rows m p p.lexeme
put_at (Behind m) p ts = if is_whole_row m (p.lexeme ∷ ts) then [] else no_row p
put_at at p ts = p ∷ []

-- behind a token, before others
abbrev pub next_at : Grids → grids.At → Lexeme → List Lexeme → grids.At
next_at gs (Left (suc k)) t ts = Left k
next_at gs (Within m term) t ts = bound_at m t
next_at gs (Named m) t ts = if is_sign sign.OpenBracket t then Within m true else name_at gs t
next_at gs (Behind m) t ts = if is_whole_row m (t ∷ ts) then Left 4 else name_at gs t
next_at gs at t ts = name_at gs t
