-- Functions that are declared for the devices: every function may be called within a target, so the lines that say so of
-- functions alone say nothing.
use Rattle.std.specs.Prelude.{ℕ, ◌+◌, ◌-◌, ◌==◌, Bool, true, false, not, ◌&&◌, ◌||◌, if◌then◌else◌, List, [], ◌∷◌, codes}
use Rattle.c_tokens.specs.declared.kind.Sign.TheVariants as sign
use Rattle.c_grammar.specs.Lexeme as lexeme
use Rattle.c_grammar.specs.Lexeme.{Lexeme, Ended, Uint64}
use Rattle.c_grammar.specs.Terminal.{Terminal, Fixed, Line, same}
use Rattle.c_grammar.specs.Texts.{Item}
use Rattle.c_grammar.specs.Blocks.{Items}
use Rattle.c_grammar.specs.Changes.{is_mark}
use Rattle.c_grammar.specs.Lines.{is_omp}
use Rattle.c_grammar.specs.Presence.{is_word, opens_part}

abbrev pub is_declaration : List Lexeme → Bool
is_declaration (d ∷ t ∷ e ∷ ts) = is_word (codes "declare") d && is_word (codes "target") t && lexeme.same Ended e
is_declaration ts = false

-- declare target, or begin declare target
abbrev pub begins_lexemes : List Lexeme → Bool
begins_lexemes (p ∷ o ∷ b ∷ ts) =
    if is_word (codes "begin") b then is_declaration ts else is_declaration (b ∷ ts)
begins_lexemes ts = false

-- end declare target
abbrev pub ends_lexemes : List Lexeme → Bool
ends_lexemes (p ∷ o ∷ e ∷ ts) = is_word (codes "end") e && is_declaration ts
ends_lexemes ts = false

abbrev pub begins_part : Terminal → Bool
begins_part (Line ts) = is_omp ts && begins_lexemes ts
begins_part t = false

abbrev pub ends_part : Terminal → Bool
ends_part (Line ts) = is_omp ts && ends_lexemes ts
ends_part t = false

abbrev pub closes_part : Item Terminal → Bool
closes_part i = is_mark sign.CloseBrace i || is_mark sign.CloseParen i

-- a name with a bracket behind it
abbrev pub is_called : Items → Bool
is_called (x ∷ o ∷ is) = is_mark sign.OpenParen o
is_called is = false

-- up to the end of the part no variable is declared outside of brackets, of which so many are open
abbrev pub has_functions : ℕ → Items → Bool
has_functions d [] = false
has_functions d (i ∷ is) =
    if ends_part i.terminal then d == 0
    else (if opens_part i then has_functions (d + 1) is
    else (if closes_part i then has_functions (d - 1) is
    else (if same (Fixed Uint64) i.terminal && (d == 0) && not (is_called is) then false else has_functions d is)))

-- the tokens without such lines; a part may be open
abbrev pub undeclared : Bool → Items → Items
undeclared inside [] = []
undeclared inside (i ∷ is) =
    if inside && ends_part i.terminal then undeclared false is
    else (if not inside && begins_part i.terminal && has_functions 0 is then undeclared true is
    else i ∷ undeclared inside is)
