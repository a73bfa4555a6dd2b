-- The if in the block of a loop, by its parts.
use Rattle.std.specs.Prelude.{[], ◌∷◌}
use Rattle.c_tokens.specs.declared.kind.Sign.TheVariants as sign
use Rattle.c_grammar.specs.Lexeme.{If}
use Rattle.c_grammar.specs.Terminal.{Terminal, Fixed, Mark}
use Rattle.c_grammar.specs.Texts.{Item}
use Rattle.c_grammar.specs.Blocks.{Items, at}

-- if (
abbrev pub opening : Item Terminal → Items
opening i = at i (Fixed If) ∷ at i (Mark sign.OpenParen) ∷ []

-- ) {
abbrev pub ending : Item Terminal → Items
ending i = at i (Mark sign.CloseParen) ∷ at i (Mark sign.OpenBrace) ∷ []
