-- Lines atomic: their words, and their end.
use Rattle.std.proofs.Common.{◌≡◌, ◌<◌, ◌≤◌, Bool, true, false, List, [], ◌∷◌, length, refl, arith}
use Rattle.std.specs.Prelude.{◌&&◌}
use Rattle.c_grammar.specs.Lexeme.{Placed}
use Rattle.c_grammar.specs.Updates.{atomic_tokens, is_atomic, is_compare}
use Rattle.directives.specs.declared.lexeme.PlacedLexeme.{PlacedLexeme}
use Rattle.directives.specs.Seen.{ends_well, is_whole}
use Rattle.directives.specs.Spells.{kinds_of}
use Rattle.c_written.specs.Atomics.{ends_atomic, ends_compare}
use Rattle.c_written.specs.Spots.{all_kinds}

pub no_end : (ts : List PlacedLexeme) → length ts < 1 → false ≡ ends_atomic (all_kinds ts)
no_end [] h = refl
no_end (a ∷ ts) h = absurd (omega (arith, h))

pub late_end : (ts : List PlacedLexeme) → 3 ≤ length ts → false ≡ ends_atomic (all_kinds ts)
late_end [] h = absurd (omega (arith, h))
late_end (a ∷ []) h = absurd (omega (arith, h))
late_end (a ∷ b ∷ []) h = absurd (omega (arith, h))
late_end (a ∷ b ∷ c ∷ ts) h = refl

pub no_words : (ts : List PlacedLexeme) → length ts < 3 → false ≡ is_atomic (all_kinds ts)
no_words [] h = refl
no_words (a ∷ []) h = refl
no_words (a ∷ b ∷ []) h = refl
no_words (a ∷ b ∷ c ∷ ts) h = absurd (omega (arith, h))

pub no_compare_end : (ts : List PlacedLexeme) → length ts < 2 → false ≡ ends_compare (all_kinds ts)
no_compare_end [] h = refl
no_compare_end (a ∷ []) h = refl
no_compare_end (a ∷ b ∷ ts) h = absurd (omega (arith, h))

pub late_compare_end : (ts : List PlacedLexeme) → 3 ≤ length ts → false ≡ ends_compare (all_kinds ts)
late_compare_end [] h = absurd (omega (arith, h))
late_compare_end (a ∷ []) h = absurd (omega (arith, h))
late_compare_end (a ∷ b ∷ []) h = absurd (omega (arith, h))
late_compare_end (a ∷ b ∷ c ∷ ts) h = refl

pub no_compare : (ts : List PlacedLexeme) → length ts < 3 → false ≡ is_compare (all_kinds ts)
no_compare [] h = refl
no_compare (a ∷ []) h = refl
no_compare (a ∷ b ∷ []) h = refl
no_compare (a ∷ b ∷ c ∷ ts) h = absurd (omega (arith, h))

-- without the word before the end
without : (a b c d e : Bool) → (a && (b && (c && (d && e)))) ≡ true → (a && (b && (c && e))) ≡ true
without true true true true e h = h
without true true true false e h = absurd cc
without true true false d e h = h
without true false c d e h = h
without false b c d e h = h

pub atomic_whole : (b : Bool) (ps : List Placed) → is_whole ps ≡ true → is_atomic (kinds_of ps) ≡ true →
    is_whole (atomic_tokens b ps) ≡ true
atomic_whole b [] w e = absurd cc
atomic_whole b (p ∷ []) w e = absurd cc
atomic_whole b (p ∷ o ∷ []) w e = absurd cc
atomic_whole b (p ∷ o ∷ a ∷ []) w e = absurd cc
atomic_whole true (p ∷ o ∷ a ∷ z ∷ []) w e = w
atomic_whole false (p ∷ o ∷ a ∷ z ∷ []) w e = w
atomic_whole true (p ∷ o ∷ a ∷ u ∷ z ∷ []) w e =
    without (ends_well p.lexeme false) (ends_well o.lexeme false) (ends_well a.lexeme false) (ends_well u.lexeme false)
    (ends_well z.lexeme true && true) w
atomic_whole false (p ∷ o ∷ a ∷ u ∷ z ∷ []) w e =
    without (ends_well p.lexeme false) (ends_well o.lexeme false) (ends_well a.lexeme false) (ends_well u.lexeme false)
    (ends_well z.lexeme true && true) w
atomic_whole b (p ∷ o ∷ a ∷ u ∷ y ∷ z ∷ ps) w e = absurd cc

pub compare_whole : (ps : List Placed) → is_whole ps ≡ true → is_compare (kinds_of ps) ≡ true →
    is_whole (atomic_tokens true ps) ≡ true
compare_whole [] w e = absurd cc
compare_whole (p ∷ []) w e = absurd cc
compare_whole (p ∷ o ∷ []) w e = absurd cc
compare_whole (p ∷ o ∷ a ∷ []) w e = absurd cc
compare_whole (p ∷ o ∷ a ∷ z ∷ []) w e = absurd cc
compare_whole (p ∷ o ∷ a ∷ u ∷ z ∷ []) w e =
    without (ends_well p.lexeme false) (ends_well o.lexeme false) (ends_well a.lexeme false) (ends_well u.lexeme false)
    (ends_well z.lexeme true && true) w
compare_whole (p ∷ o ∷ a ∷ u ∷ y ∷ z ∷ ps) w e = absurd cc
