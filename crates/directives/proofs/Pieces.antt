-- The tokens of a line behind a piece.
use Rattle.std.proofs.Common.{◌≡◌, ℕ, zero, suc, ◌+◌, ◌-◌, ◌<◌, ◌≤◌, false, List, [], ◌∷◌, length, drop, take, refl, sym, ap, ◌∙◌, arith}
use Rattle.c_tokens.specs.declared.kind.Kind.{Kind}
use Rattle.c_tokens.specs.declared.kind.Mood.{Mood}
use Rattle.c_tokens.specs.declared.kind.Piece.TheVariants as piece
use Rattle.c_tokens.specs.Text.{after_kind}
use Rattle.c_grammar.specs.Lexeme.{Strange, Ended, Placed, lexeme_of, lexemes_from}
use Rattle.directives.specs.declared.line_bytes.LineBytes.{LineBytes}
use Rattle.directives.specs.Pieces.{piece_on}
use Rattle.directives.specs.Ahead.{ahead_in_bytes}

skips : (bs : List ℕ) (k : ℕ) (mood : Mood) (c : ℕ) → k ≤ length bs → lexemes_from bs k mood c ≡ lexemes_from
    (drop k bs) 0 mood (c + k)
unfolding lexemes_from
skips [] zero mood c le = let e : c ≡ c + 0 = omega arith in ap (λ (n : ℕ). lexemes_from [] 0 mood n) e
skips [] (suc k) mood c le = absurd (omega arith)
skips (b ∷ bs) zero mood c le = let e : c ≡ c + 0 = omega arith in ap (λ (n : ℕ). lexemes_from (b ∷ bs) 0 mood n) e
skips (b ∷ bs) (suc k) mood c le = let e : c + 1 + k ≡ c + suc k = omega arith in skips bs k mood (c + 1)
    (omega arith) ∙ ap (λ (n : ℕ). lexemes_from (drop k bs) 0 mood n) e

layout_from : (bs : List ℕ) (mood : Mood) (c n : ℕ) (m : Mood) → piece_on mood bs ≡ piece.Layout n m → 0 < n →
    n ≤ length bs → lexemes_from bs 0 mood c ≡ lexemes_from (drop n bs) 0 m (c + n)
unfolding lexemes_from
layout_from [] mood c n m e lt le = absurd (omega arith)
layout_from (b ∷ bs) mood c zero m e lt le = absurd (omega arith)
layout_from (b ∷ bs) mood c (suc n) m e lt le =
    let one : suc n - 1 ≡ n = omega arith in
    let more : c + 1 + n ≡ c + suc n = omega arith in
    rw (e, one) (skips bs n m (c + 1) (omega arith) ∙ ap (λ (k : ℕ). lexemes_from (drop n bs) 0 m k) more)

token_from : (bs : List ℕ) (mood : Mood) (c : ℕ) (k : Kind) (n : ℕ) → piece_on mood bs ≡ piece.Token k n → 0 < n →
    n ≤ length bs → lexemes_from bs 0 mood c ≡ record { lexeme = lexeme_of k (take n bs); column = c } ∷ lexemes_from
    (drop n bs) 0 (after_kind k) (c + n)
unfolding lexemes_from
token_from [] mood c k n e lt le = absurd (omega arith)
token_from (b ∷ bs) mood c k zero e lt le = absurd (omega arith)
token_from (b ∷ bs) mood c k (suc n) e lt le =
    let one : suc n - 1 ≡ n = omega arith in
    let more : c + 1 + n ≡ c + suc n = omega arith in
    rw (e, one) (ap (λ (ps : List Placed). record { lexeme = lexeme_of k (take (suc n) (b ∷ bs)); column = c } ∷ ps)
    (skips bs n (after_kind k) (c + 1) (omega arith) ∙ ap
    (λ (j : ℕ). lexemes_from (drop n bs) 0 (after_kind k) j) more))

unknown_from : (bs : List ℕ) (mood : Mood) (c : ℕ) → 0 < length bs → piece_on mood bs ≡ piece.Unknown →
    lexemes_from bs 0 mood c ≡ record { lexeme = Strange; column = c } ∷ []
unfolding lexemes_from
unknown_from [] mood c lt e = absurd (omega arith)
unknown_from (b ∷ bs) mood c lt e = rw e refl

end_from : (bs : List ℕ) (mood : Mood) (c : ℕ) → length bs ≡ 0 → lexemes_from bs 0 mood c ≡
    record { lexeme = Ended; column = c } ∷ []
unfolding lexemes_from
end_from [] mood c e = refl
end_from (b ∷ bs) mood c e = absurd (omega arith)

going : (l : LineBytes) → l.over ≡ false → ahead_in_bytes l ≡ lexemes_from l.rest.now 0 l.mood l.column
going l e = rw e refl

-- another reader that has come this far
pub behind_is : (l' : LineBytes) (bs : List ℕ) (m : Mood) (c : ℕ) → l'.over ≡ false → l'.rest.now ≡ bs → l'.mood ≡ m →
    l'.column ≡ c → lexemes_from bs 0 m c ≡ ahead_in_bytes l'
behind_is l' bs m c o e f g = sym (going l' o ∙ rw (e, f, g) refl)

pub at_layout : (l l' : LineBytes) (n : ℕ) (m : Mood) → l.over ≡ false → piece_on l.mood l.rest.now ≡ piece.Layout n m →
    0 < n → n ≤ length l.rest.now → l'.over ≡ l.over → l'.rest.now ≡ drop n l.rest.now → l'.mood ≡ m → l'.column ≡
    l.column + n → ahead_in_bytes l ≡ ahead_in_bytes l'
at_layout l l' n m o e lt le o' r f g = going l o ∙ layout_from l.rest.now l.mood l.column n m e lt le ∙ behind_is l'
    (drop n l.rest.now) m (l.column + n) (o' ∙ o) r f g

pub at_token : (l l' : LineBytes) (k : Kind) (n : ℕ) → l.over ≡ false → piece_on l.mood l.rest.now ≡ piece.Token k n →
    0 < n → n ≤ length l.rest.now → l'.over ≡ l.over → l'.rest.now ≡ drop n l.rest.now → l'.mood ≡ after_kind k →
    l'.column ≡ l.column + n → ahead_in_bytes l ≡ record {
      lexeme = lexeme_of k (take n l.rest.now);
      column =
          l.column;
    } ∷ ahead_in_bytes l'
at_token l l' k n o e lt le o' r f g = going l o ∙ token_from l.rest.now l.mood l.column k n e lt le ∙ ap
    (λ (ps : List Placed). record { lexeme = lexeme_of k (take n l.rest.now); column = l.column } ∷ ps)
    (behind_is l' (drop n l.rest.now) (after_kind k) (l.column + n) (o' ∙ o) r f g)

pub at_unknown : (l : LineBytes) → l.over ≡ false → 0 < length l.rest.now → piece_on l.mood l.rest.now ≡ piece.Unknown →
    ahead_in_bytes l ≡ record { lexeme = Strange; column = l.column } ∷ []
at_unknown l o lt e = going l o ∙ unknown_from l.rest.now l.mood l.column lt e

pub at_end : (l : LineBytes) → l.over ≡ false → length l.rest.now ≡ 0 → ahead_in_bytes l ≡
    record { lexeme = Ended; column = l.column } ∷ []
at_end l o e = going l o ∙ end_from l.rest.now l.mood l.column e
