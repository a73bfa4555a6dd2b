-- The tokens of a line are the same at whatever column it stands.
use Rattle.std.proofs.Common.{◌≡◌, ℕ, zero, suc, ◌+◌, ◌-◌, Bool, false, List, [], ◌∷◌, map, take, refl, ap}
use Rattle.c_tokens.specs.declared.kind.Kind.{Kind}
use Rattle.c_tokens.specs.declared.kind.Kind.TheVariants as kind
use Rattle.c_tokens.specs.declared.kind.Mood.{Mood}
use Rattle.c_tokens.specs.declared.kind.Mood.TheVariants.{Inside}
use Rattle.c_tokens.specs.declared.kind.Piece.{Piece}
use Rattle.c_tokens.specs.declared.kind.Piece.TheVariants as piece
use Rattle.c_tokens.specs.Text.{after_kind}
use Rattle.c_grammar.specs.Lexeme.{Lexeme, Placed, lexeme_of, lexemes_of, lexemes_from, placed, piece_on_line}
use Rattle.c_grammar.specs.Lines.{is_omp}

abbrev pub kinds_on : List Placed → List Lexeme
kinds_on ps = map (λ p. p.lexeme) ps

rest_same : (bs : List ℕ) (k : ℕ) (m : Mood) (c d : ℕ) → kinds_on (lexemes_from bs k m c) ≡ kinds_on (lexemes_from bs k m d)
unfolding lexemes_from
rest_same [] k m c d = refl
rest_same (b ∷ bs) zero m c d = go (piece_on_line m b bs) (λ k m. rest_same bs k m (c + 1) (d + 1))
  where
    go : (q : Piece) →
        ((k : ℕ) (m : Mood) → kinds_on (lexemes_from bs k m (c + 1)) ≡ kinds_on (lexemes_from bs k m (d + 1))) →
        kinds_on (placed q (b ∷ bs) c (λ k m. lexemes_from bs k m (c + 1)))
        ≡ kinds_on (placed q (b ∷ bs) d (λ k m. lexemes_from bs k m (d + 1)))
    go (piece.Layout n m) ih = ih (n - 1) m
    go (piece.Token k n) ih =
        ap (λ (ts : List Lexeme). lexeme_of k (take n (b ∷ bs)) ∷ ts) (ih (n - 1) (after_kind k))
    go piece.Unknown ih = refl
rest_same (b ∷ bs) (suc k) m c d = rest_same bs k m (c + 1) (d + 1)

pub kinds_same : (line : List ℕ) (c d : ℕ) → kinds_on (lexemes_of line c) ≡ kinds_on (lexemes_of line d)
kinds_same [] c d = rest_same [] 0 Inside (c + 1) (d + 1)
kinds_same (b ∷ bs) c d = rest_same bs 0 Inside (c + 1) (d + 1)

-- whether a token of that text is a line whose words are pragma omp
abbrev pub directs : Kind → List ℕ → Bool
directs kind.Line x = is_omp (kinds_on (lexemes_of x 1))
directs _ x = false
