-- The head of a loop that is put in, by its parts.
use Rattle.std.specs.Prelude.{ℕ, List, [], ◌∷◌, Some}
use Rattle.c_tokens.specs.declared.kind.Sign.TheVariants as sign
use Rattle.c_grammar.specs.Lexeme.{Uint64, For, If}
use Rattle.c_grammar.specs.Terminal.{Terminal, Fixed, Mark, Name, Num}
use Rattle.c_grammar.specs.Texts.{Item}
use Rattle.c_grammar.specs.Blocks.{Items, at}

-- for ( uint64_t NAME = 0 ;
abbrev pub first_at : Item Terminal → List ℕ → Items
first_at i x =
    at i (Fixed For) ∷ at i (Mark sign.OpenParen) ∷ at i (Fixed Uint64) ∷ at i (Name x) ∷ at i (Mark sign.Equal) ∷
    at i (Num (Some 0)) ∷ at i (Mark sign.Semicolon) ∷ []

-- NAME < NUM ;
abbrev pub test_at : Item Terminal → List ℕ → ℕ → Items
test_at i x n = at i (Name x) ∷ at i (Mark sign.Less) ∷ at i (Num (Some n)) ∷ at i (Mark sign.Semicolon) ∷ []

-- NAME += 1 ) { if
abbrev pub step_at : Item Terminal → List ℕ → Items
step_at i x =
    at i (Name x) ∷ at i (Mark sign.PlusEqual) ∷ at i (Num (Some 1)) ∷ at i (Mark sign.CloseParen) ∷
    at i (Mark sign.OpenBrace) ∷ at i (Fixed If) ∷ []
