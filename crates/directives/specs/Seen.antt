-- What the reader's values stand for in the grammar.
use Rattle.std.specs.Prelude.{Bool, true, false, not, ◌&&◌, List, [], ◌∷◌, Some, None}
use Rattle.c_grammar.specs.Lexeme.{Word, Uint64, Int, Main, Void, For, If, Else, Print, Read, Lexeme, Reserved, Signed, Worded, Numbered, Strange, Ended, Placed}
use Rattle.directives.specs.declared.word.Word.{Word as GivenWord}
use Rattle.directives.specs.declared.word.Word.TheVariants as word
use Rattle.directives.specs.declared.lexeme.Lexeme.{Lexeme as GivenLexeme}
use Rattle.directives.specs.declared.lexeme.Lexeme.TheVariants as lexeme
use Rattle.directives.specs.declared.lexeme.PlacedLexeme.{PlacedLexeme}

-- the reserved word
abbrev pub seen_word : GivenWord → Word
seen_word word.Uint64 = Uint64
seen_word word.Int = Int
seen_word word.Main = Main
seen_word word.Void = Void
seen_word word.For = For
seen_word word.If = If
seen_word word.Else = Else
seen_word word.Print = Print
seen_word word.Read = Read

-- the token of a line
abbrev pub seen_lexeme : GivenLexeme → Lexeme
seen_lexeme (lexeme.Reserved w) = Reserved (seen_word w)
seen_lexeme (lexeme.Name x) = Worded x.now
seen_lexeme (lexeme.Number n) = Numbered (Some n)
seen_lexeme lexeme.BadNumber = Numbered None
seen_lexeme (lexeme.Sign s) = Signed s
seen_lexeme lexeme.Strange = Strange
seen_lexeme lexeme.Ended = Ended

abbrev pub seen_placed : PlacedLexeme → Placed
seen_placed p = record { lexeme = seen_lexeme p.lexeme; column = p.column }

-- nothing follows the end of a line, and something each other token that is known
abbrev pub ends_well : Lexeme → Bool → Bool
ends_well Ended over = over
ends_well Strange over = true
ends_well (Reserved w) over = not over
ends_well (Worded x) over = not over
ends_well (Numbered n) over = not over
ends_well (Signed s) over = not over

abbrev pub is_empty : {X : Type 0} → List X → Bool
is_empty [] = true
is_empty (x ∷ xs) = false

-- so does each of these tokens
abbrev pub all_end_well : List Placed → Bool
all_end_well [] = true
all_end_well (p ∷ ps) = ends_well p.lexeme (is_empty ps) && all_end_well ps

-- a line has at least its end
abbrev pub is_whole : List Placed → Bool
is_whole ps = not (is_empty ps) && all_end_well ps
