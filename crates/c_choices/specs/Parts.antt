-- The parts of a statement, and what is put in between them.
use Rattle.std.specs.Prelude.{[], ◌∷◌, ◌++◌}
use Rattle.c_tokens.specs.declared.kind.Sign.TheVariants as sign
use Rattle.c_grammar.specs.Lexeme.{If, Else}
use Rattle.c_grammar.specs.Terminal.{Terminal, Fixed, Mark}
use Rattle.c_grammar.specs.Texts.{Item}
use Rattle.c_grammar.specs.Blocks.{Items, at}
use Rattle.c_grammar.specs.Choices.{Parts, all_alone}
use Rattle.c_choices.specs.declared.parts.Parted.{Parted as Given}
use Rattle.c_terminals.specs.Seen.{seen, seen_all}

abbrev pub seen_parts : Given → Parts
seen_parts p = record {
  mark = seen p.mark;
  before = seen_all p.before.now;
  condition = seen_all p.condition.now;
  first = seen_all p.first.now;
  second = seen_all p.second.now;
  behind = seen_all p.behind.now;
}

-- if ( c ) {
abbrev pub if_at : Item Terminal → Items → Items
if_at i c =
    at i (Fixed If) ∷ at i (Mark sign.OpenParen) ∷ (all_alone c ++
    (at i (Mark sign.CloseParen) ∷ at i (Mark sign.OpenBrace) ∷ []))

-- } else {
abbrev pub else_at : Item Terminal → Items
else_at i = at i (Mark sign.CloseBrace) ∷ at i (Fixed Else) ∷ at i (Mark sign.OpenBrace) ∷ []
