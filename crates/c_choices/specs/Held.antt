-- The two parts of a statement whose value a local holds.
use Rattle.std.specs.Prelude.{[], ◌∷◌, ◌++◌}
use Rattle.c_tokens.specs.declared.kind.Sign.TheVariants as sign
use Rattle.c_grammar.specs.Lexeme.{Uint64}
use Rattle.c_grammar.specs.Terminal.{Terminal, Fixed, Mark}
use Rattle.c_grammar.specs.Texts.{Item}
use Rattle.c_grammar.specs.Blocks.{Items, at}
use Rattle.c_grammar.specs.Choices.{declared, held_name}

-- the local
abbrev pub value_put : Item Terminal → Items → Items
value_put i vs =
    at i (Mark sign.OpenBrace) ∷ declared (at i (Fixed Uint64)) (at i held_name ∷ at i (Mark sign.Equal) ∷ vs)

-- the cell, and the end of the block
abbrev pub cell_put : Item Terminal → Items → Items
cell_put i ls =
    i ∷ (ls ++ (at i held_name ∷ at i (Mark sign.Semicolon) ∷ at i (Mark sign.CloseBrace) ∷ []))
