-- Scalars in the place of cells.
use Rattle.std.specs.Prelude.{ℕ, [], ◌∷◌, Some}
use Rattle.c_tokens.specs.declared.kind.Sign.TheVariants as sign
use Rattle.c_grammar.specs.Terminal.{Terminal, Mark, Name, Num}
use Rattle.c_grammar.specs.Texts.{Item}
use Rattle.c_grammar.specs.Blocks.{Items, at}
use Rattle.c_grammar.specs.Locals.{cell_name}

-- uint64_t NAME = 0 ;
abbrev pub scalar : Item Terminal → Item Terminal → ℕ → Items
scalar i x k =
    i ∷ at x (Name (cell_name k)) ∷ at x (Mark sign.Equal) ∷ at x (Num (Some 0)) ∷ at x (Mark sign.Semicolon) ∷ []
