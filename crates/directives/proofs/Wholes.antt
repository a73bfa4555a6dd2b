-- The tokens of a line end with its end.
use Rattle.std.proofs.Common.{◌≡◌, ℕ, zero, suc, ◌+◌, ◌-◌, Bool, ◌&&◌, true, false, List, [], ◌∷◌, take, map, drop, refl}
use Rattle.c_tokens.specs.declared.kind.Kind.{Kind}
use Rattle.c_tokens.specs.declared.kind.Kind.TheVariants as kind
use Rattle.c_tokens.specs.declared.kind.Mood.{Mood}
use Rattle.c_tokens.specs.declared.kind.Piece.{Piece}
use Rattle.c_tokens.specs.declared.kind.Piece.TheVariants as piece
use Rattle.std.specs.Prelude.{Option, Some, None}
use Rattle.c_grammar.specs.Lexeme.{Word, Placed, word_of, reserved_or_not, lexeme_of, piece_on_line, placed, lexemes_from, lexemes_of}
use Rattle.directives.specs.declared.lexeme.PlacedLexeme.{PlacedLexeme}
use Rattle.directives.specs.Seen.{seen_placed, ends_well, is_empty, all_end_well, is_whole}

pub and_left : (a b : Bool) → (a && b) ≡ true → a ≡ true
and_left true b e = refl
and_left false b e = absurd cc

pub and_right : (a b : Bool) → (a && b) ≡ true → b ≡ true
and_right true b e = e
and_right false b e = absurd cc

both : (a b : Bool) → a ≡ true → b ≡ true → (a && b) ≡ true
both a b e f = rw (e, f) refl

-- something may follow a token that was read
word_on : (x : List ℕ) (o : Option Word) → ends_well (reserved_or_not x o) false ≡ true
word_on x None = refl
word_on x (Some w) = refl

read_on : (k : Kind) (x : List ℕ) → ends_well (lexeme_of k x) false ≡ true
read_on kind.Name x = word_on x (word_of x)
read_on (kind.Number n) x = refl
read_on kind.BadNumber x = refl
read_on (kind.Sign s) x = refl
read_on kind.Line x = refl
read_on kind.Unknown x = refl

more : (p : Placed) (ps : List Placed) → ends_well p.lexeme false ≡ true → is_whole ps ≡ true → is_whole (p ∷ ps) ≡ true
more p [] e h = absurd cc
more p (q ∷ qs) e h = both (ends_well p.lexeme false) (all_end_well (q ∷ qs)) e h

placed_whole : (x : Piece) (text : List ℕ) (c : ℕ) (go : ℕ → Mood → List Placed) →
    ((k : ℕ) (m : Mood) → is_whole (go k m) ≡ true) → is_whole (placed x text c go) ≡ true
placed_whole (piece.Layout n m) text c go h = h (n - 1) m
placed_whole (piece.Token k n) text c go h =
    more (record { lexeme = lexeme_of k (take n text); column = c }) (go (n - 1) _) (read_on k (take n text)) (h (n - 1) _)
placed_whole piece.Unknown text c go h = refl

whole_from : (bs : List ℕ) (k : ℕ) (mood : Mood) (c : ℕ) → is_whole (lexemes_from bs k mood c) ≡ true
unfolding lexemes_from
whole_from [] k mood c = refl
whole_from (b ∷ bs) zero mood c =
    placed_whole (piece_on_line mood b bs) (b ∷ bs) c (λ k m. lexemes_from bs k m (c + 1)) (λ k m. whole_from bs k m (c + 1))
whole_from (b ∷ bs) (suc k) mood c = whole_from bs k mood (c + 1)

pub line_whole : (line : List ℕ) (c : ℕ) → is_whole (lexemes_of line c) ≡ true
line_whole line c = whole_from (drop 1 line) 0 _ (c + 1)

-- of tokens that end well, so do the others behind the first
pub first_ends : (p : PlacedLexeme) (ps : List PlacedLexeme) → all_end_well (map seen_placed (p ∷ ps)) ≡ true →
    ends_well (seen_placed p).lexeme (is_empty ps) ≡ true
first_ends p [] h = and_left _ _ h
first_ends p (q ∷ qs) h = and_left _ _ h

pub rest_ends : (p : PlacedLexeme) (ps : List PlacedLexeme) → all_end_well (map seen_placed (p ∷ ps)) ≡ true →
    all_end_well (map seen_placed ps) ≡ true
rest_ends p ps h = and_right _ _ h
