-- Lines that are too short to declare functions.
use Rattle.std.proofs.Common.{◌≡◌, ◌<◌, false, List, [], ◌∷◌, length, refl, arith}
use Rattle.c_grammar.specs.DeclaredFunctions.{begins_lexemes, ends_lexemes, is_declaration}
use Rattle.directives.specs.declared.lexeme.PlacedLexeme.{PlacedLexeme}
use Rattle.c_written.specs.Spots.{all_kinds}

pub no_declaration : (ts : List PlacedLexeme) → length ts < 3 → false ≡ is_declaration (all_kinds ts)
no_declaration [] h = refl
no_declaration (a ∷ []) h = refl
no_declaration (a ∷ b ∷ []) h = refl
no_declaration (a ∷ b ∷ c ∷ ts) h = absurd (omega (arith, h))

pub no_begin : (ts : List PlacedLexeme) → length ts < 3 → false ≡ begins_lexemes (all_kinds ts)
no_begin [] h = refl
no_begin (a ∷ []) h = refl
no_begin (a ∷ b ∷ []) h = refl
no_begin (a ∷ b ∷ c ∷ ts) h = absurd (omega (arith, h))

pub no_end : (ts : List PlacedLexeme) → length ts < 3 → false ≡ ends_lexemes (all_kinds ts)
no_end [] h = refl
no_end (a ∷ []) h = refl
no_end (a ∷ b ∷ []) h = refl
no_end (a ∷ b ∷ c ∷ ts) h = absurd (omega (arith, h))
