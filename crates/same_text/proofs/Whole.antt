-- The text without its directive lines, which go whole, byte by byte.
use Rattle.std.proofs.Common.{◌≡◌, ℕ, zero, suc, ◌-◌, Bool, true, false, cond, List, [], ◌∷◌, ◌++◌, take, refl}
use Rattle.c_tokens.specs.declared.kind.Mood.{Mood}
use Rattle.c_tokens.specs.declared.kind.Mood.TheVariants.{Fresh, Inside, AfterNumber}
use Rattle.c_tokens.specs.declared.kind.Piece.{Piece}
use Rattle.c_tokens.specs.declared.kind.Piece.TheVariants as piece
use Rattle.c_tokens.specs.Piece.{is_blank, piece_at}
use Rattle.c_tokens.specs.Text.{after_kind}
use Rattle.erasure.proofs.Columns.{directs}
use Rattle.erasure.proofs.Pieces.{Alike, alike_same, alike_front}
use Rattle.erasure.proofs.Sound.{IsSound, piece_sound}
use Rattle.erasure.proofs.Cuts.{line_is, not_fresh, piece_blank, inside_not_fresh, blank_no_part}
use Rattle.mend.specs.Bare.{is_space}

-- a blank at the front of a line is kept or not as what follows it
abbrev pub waits : Mood → ℕ → Bool
waits Fresh b = is_space b
waits Inside b = false
waits AfterNumber b = false

-- a piece behind blanks that wait, and go for what its other bytes leave
abbrev pub whole_piece : Piece → ℕ → List ℕ → List ℕ → (ℕ → Bool → Mood → List ℕ) → List ℕ
whole_piece (piece.Layout n m) b bs blanks go = blanks ++ b ∷ go (n - 1) true m
whole_piece (piece.Token k n) b bs blanks go =
    cond (directs k (take n (b ∷ bs))) (go (n - 1) false Inside) (blanks ++ b ∷ go (n - 1) true (after_kind k))
whole_piece piece.Unknown b bs blanks go = blanks ++ b ∷ bs

-- a text without its directive lines, of which the first k bytes are the rest of a piece that is kept or not; behind one that is
-- not kept its line feed goes too
unfoldable pub whole_from : List ℕ → ℕ → Bool → Mood → List ℕ → List ℕ
whole_from [] k keep mood blanks = blanks
whole_from (b ∷ bs) zero true mood blanks =
    cond (waits mood b) (whole_from bs 0 true mood (blanks ++ b ∷ []))
    (whole_piece (piece_at mood b bs) b bs blanks (λ k keep m. whole_from bs k keep m []))
whole_from (b ∷ bs) zero false mood blanks = whole_from bs 0 true Fresh []
whole_from (b ∷ bs) (suc k) true mood blanks = b ∷ whole_from bs k true mood blanks
whole_from (b ∷ bs) (suc k) false mood blanks = whole_from bs k false mood blanks

no_wait : (mood : Mood) (b : ℕ) → (mood ≡ Fresh → ⊥) → waits mood b ≡ false
no_wait Fresh b h = absurd (h refl)
no_wait Inside b h = refl
no_wait AfterNumber b h = refl

-- where no line can begin the first byte is kept
whole_front : (mood : Mood) (b : ℕ) (bs : List ℕ) → (mood ≡ Fresh → ⊥) →
    ((k : ℕ) (m : Mood) → (m ≡ Fresh → ⊥) → Alike 0 bs (whole_from bs k true m [])) →
    Alike 0 (b ∷ bs) (whole_from (b ∷ bs) 0 true mood [])
unfolding whole_from
whole_front mood b bs h more = rw (no_wait mood b h) (start (is_blank b) refl)
  where
    go : (q : Piece) → IsSound (piece_at mood b) mood b bs q →
        Alike 0 (b ∷ bs) (whole_piece q b bs [] (λ k keep m. whole_from bs k keep m []))
    go (piece.Layout n m) s = (refl, λ e. more (n - 1) m (inside_not_fresh m s.2))
    go (piece.Token k n) s = pick (directs k (take n (b ∷ bs))) refl
      where
        pick : (t : Bool) → directs k (take n (b ∷ bs)) ≡ t →
            Alike 0 (b ∷ bs)
            (cond t (whole_from bs (n - 1) false Inside []) (b ∷ whole_from bs (n - 1) true (after_kind k) []))
        pick true e = absurd (h (s.2 (line_is k (take n (b ∷ bs)) e)).0)
        pick false e = (refl, λ i. more (n - 1) (after_kind k) (not_fresh k))
    go piece.Unknown s = (refl, λ e. alike_same bs)

    start : (t : Bool) → is_blank b ≡ t →
        Alike 0 (b ∷ bs) (whole_piece (piece_at mood b bs) b bs [] (λ k keep m. whole_from bs k keep m []))
    start true e = rw (piece_blank mood b bs e) (refl, λ f. absurd (blank_no_part b e f))
    start false e = go (piece_at mood b bs) (piece_sound mood b bs e)

-- the rest of a piece and the byte behind it are kept
pub whole_alike : (bs : List ℕ) (k : ℕ) (mood : Mood) → (mood ≡ Fresh → ⊥) → Alike k bs (whole_from bs k true mood [])
unfolding whole_from
whole_alike [] zero mood h = tt
whole_alike [] (suc k) mood h = tt
whole_alike (b ∷ bs) zero mood h = whole_front mood b bs h (λ k m g. alike_front k bs _ (whole_alike bs k m g))
whole_alike (b ∷ bs) (suc k) mood h = (refl, whole_alike bs k mood h)
