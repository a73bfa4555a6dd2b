-- The tokens of a line, and comments at its end.
use Rattle.std.proofs.Common.{◌≡◌, ◌<◌, false, List, [], ◌∷◌, length, map, refl, arith}
use Rattle.c_tokens.specs.declared.kind.Sign.{Sign}
use Rattle.c_grammar.specs.Lexeme.{Lexeme, Reserved, Signed, Worded, Numbered, Strange, Ended, same as same_lexeme}
use Rattle.c_grammar.specs.Terminal.{Mark, End, same}
use Rattle.c_grammar.specs.Expressions.{as_items, as_terminal}
use Rattle.c_grammar.specs.Constants.{ends_remark}
use Rattle.directives.specs.declared.lexeme.PlacedLexeme.{PlacedLexeme}
use Rattle.directives.specs.Seen.{seen_placed}

pub same_sign : (s : Sign) (t : Lexeme) → same_lexeme (Signed s) t ≡ same (Mark s) (as_terminal t)
same_sign s (Reserved w) = refl
same_sign s (Signed r) = refl
same_sign s (Worded x) = refl
same_sign s (Numbered n) = refl
same_sign s Strange = refl
same_sign s Ended = refl

pub same_end : (t : Lexeme) → same_lexeme Ended t ≡ same End (as_terminal t)
same_end (Reserved w) = refl
same_end (Signed r) = refl
same_end (Worded x) = refl
same_end (Numbered n) = refl
same_end Strange = refl
same_end Ended = refl

-- ---- a comment

pub remark_short : (ps : List PlacedLexeme) → length ps < 3 → ends_remark (as_items 0 (map seen_placed ps)) ≡ false
remark_short [] h = refl
remark_short (p ∷ []) h = refl
remark_short (p ∷ q ∷ []) h = refl
remark_short (p ∷ q ∷ r ∷ ps) h = absurd (omega arith)
