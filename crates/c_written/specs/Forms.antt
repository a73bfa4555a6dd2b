-- A directive line that is being written in full.
use Rattle.std.specs.Prelude.{◌≡◌, ℕ, ◌++◌, Bool, false, not, ◌&&◌, ◌||◌, List, [], ◌∷◌, map, Option, Some, None}
use Rattle.c_tokens.specs.declared.kind.Sign.TheVariants as sign
use Rattle.c_grammar.specs.Lexeme.{Lexeme, Signed, Worded, Numbered, Placed}
use Rattle.c_grammar.specs.Expressions.{Values, Worked, Number}
use Rattle.c_grammar.specs.LineForms.{is_sign, left_out, line_from, put_word}
use Rattle.directives.specs.declared.lexeme.Lexeme.{Lexeme as Given}
use Rattle.directives.specs.declared.lexeme.PlacedLexeme.{PlacedLexeme}
use Rattle.directives.specs.Seen.{seen_lexeme, seen_placed}
use Rattle.c_written.specs.declared.stack.Stack.{Stack}
use Rattle.c_written.specs.declared.line_forms.Forms.{Forms}
use Rattle.c_written.specs.Stack.{held}
use Rattle.c_written.specs.Values.{seen_values}

-- the last one first
abbrev pub line_past : Stack Given → List Lexeme
line_past ts = map seen_lexeme (held ts)

abbrev pub all_placed : List PlacedLexeme → List Placed
all_placed ps = map seen_placed ps

-- a constant expression of so many tokens, and its value
abbrev pub seen_bound : ℕ × ℕ → Worked
seen_bound b = Number b.0 b.1

abbrev pub numbers : Option ℕ → List Lexeme
numbers None = []
numbers (Some n) = Numbered (Some n) ∷ []

-- its text, if it is a word
abbrev pub text_of : Lexeme → List ℕ
text_of (Worded x) = x
text_of _ = []

-- the number, or the name, that it is
abbrev pub number_in : Lexeme → Option ℕ
number_in (Numbered n) = n
number_in _ = None

abbrev pub name_in : Lexeme → Option (List ℕ)
name_in (Worded x) = Some x
name_in _ = None

-- the colon behind a first bound, and the bracket before it
abbrev pub begins_rest : Lexeme → Lexeme → Bool
begins_rest c o = is_sign sign.Colon c && is_sign sign.OpenBracket o

-- the first bound of a section does not go on over the token
abbrev pub ends_bound : Lexeme → Bool
ends_bound t = is_sign sign.Colon t || is_sign sign.CloseBracket t || is_sign sign.OpenParen t

-- no sum of numbers has the token
abbrev pub is_more : Lexeme → Bool
is_more (Signed s) = not (is_sign sign.Plus (Signed s))
is_more _ = false

-- the token, behind what is left out before it
abbrev pub in_full : Values → Values → List Lexeme → Lexeme → List Lexeme
in_full vs lengths past t = left_out lengths past t ++ put_word vs t ∷ []

pub record IsSameForm (old new : Forms) : Type 0 where
  pub values : new.values.now ≡ old.values.now
  pub lengths : new.lengths.now ≡ old.lengths.now
  pub left : new.left ≡ old.left

-- what is written in the end where these tokens follow
abbrev pub with_line : Forms → List Placed → List Placed
with_line f ps = all_placed f.done.items
    ++ line_from (seen_values f.values.now) (seen_values f.lengths.now) (line_past f.past) f.left ps
