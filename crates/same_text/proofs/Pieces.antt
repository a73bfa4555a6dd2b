-- What the first piece of a text tells where directive lines go whole.
use Rattle.std.proofs.Common.{◌≡◌, ℕ, ◌+◌, ◌-◌, ◌<◌, ◌≤◌, Bool, true, false, cond, List, [], ◌∷◌, ◌++◌, length, take, refl, sym, ap, ◌∙◌, arith, append_assoc}
use Rattle.std.specs.List.{prefix_len}
use Rattle.std.proofs.lemmas.Bool.Decides.{nat_tests}
use Rattle.c_tokens.specs.declared.kind.Mood.{Mood}
use Rattle.c_tokens.specs.declared.kind.Mood.TheVariants.{Fresh, Inside, AfterNumber}
use Rattle.c_tokens.specs.declared.kind.Piece.{Piece}
use Rattle.c_tokens.specs.declared.kind.Piece.TheVariants as piece
use Rattle.c_tokens.specs.Piece.{is_blank, is_not_feed, after_blank, piece_at}
use Rattle.c_tokens.specs.Text.{after_kind}
use Rattle.c_grammar.specs.Blocks.{Items}
use Rattle.erasure.proofs.Columns.{directs}
use Rattle.erasure.proofs.Pieces.{Alike, alike_cons, alike_take}
use Rattle.erasure.proofs.Sound.{IsSound, piece_sound}
use Rattle.erasure.proofs.Cuts.{column_after, item_at, line_is, not_fresh, piece_blank, inside_not_fresh}
use Rattle.mend.specs.Bare.{is_space}
use Rattle.same_text.proofs.Told.{told, told_from}
use Rattle.same_text.proofs.Places.{blank_feed}
use Rattle.same_text.proofs.Whole.{waits, whole_piece, whole_from, whole_alike}

pub space_blank : (b : ℕ) → is_space b ≡ true → is_blank b ≡ true
space_blank b e = grind (arith, nat_tests)

-- the blanks, which stand before a column, tell nothing
abbrev pub Skips : Mood → List ℕ → ℕ → ℕ → Type 0
Skips mood blanks c d = (xs : List ℕ) → told_from (blanks ++ xs) 0 mood c ≡ told_from xs 0 mood d

abbrev pub Waiting : List ℕ → Type 0
Waiting bs = (mood : Mood) (blanks : List ℕ) (c d : ℕ) → Skips mood blanks c d → (mood ≡ Fresh → c ≡ 1) →
    told_from (whole_from bs 0 true mood blanks) 0 mood c ≡ told_from bs 0 mood d

abbrev pub Kept : List ℕ → Type 0
Kept bs = (k : ℕ) (mood : Mood) (c : ℕ) → k ≤ length bs → (mood ≡ Fresh → (k ≡ 0) × (c ≡ 1)) →
    told_from (whole_from bs k true mood []) k mood c ≡ told_from bs k mood c

abbrev pub Lined : List ℕ → Type 0
Lined bs = (k c : ℕ) → k ≡ prefix_len is_not_feed bs →
    told_from (whole_from bs k false Inside []) 0 Fresh 1 ≡ told_from bs k Inside c

module _ (mood : Mood) (b c : ℕ) where
  told_at : (xs : List ℕ) (q : Piece) → piece_at mood b xs ≡ q →
      told_from (b ∷ xs) 0 mood c ≡ told q (b ∷ xs) c (λ k m. told_from xs k m (column_after c b))
  unfolding told_from
  told_at xs q e = ap (λ (r : Piece). told r (b ∷ xs) c (λ k m. told_from xs k m (column_after c b))) e

space_skips : (mood : Mood) (b c : ℕ) (xs : List ℕ) → waits mood b ≡ true →
    told_from (b ∷ xs) 0 mood c ≡ told_from xs 0 mood (column_after c b)
space_skips Fresh b c xs e = told_at Fresh b c xs (piece.Layout 1 Fresh) (piece_blank Fresh b xs (space_blank b e))
space_skips Inside b c xs e = absurd cc
space_skips AfterNumber b c xs e = absurd cc

module _ (mood : Mood) (b : ℕ) (bs blanks : List ℕ) (first c : ℕ) (skips : Skips mood blanks first c)
    (front : mood ≡ Fresh → first ≡ 1) (kept : Kept bs) (lined : Lined bs) where
  abbrev go : ℕ → Bool → Mood → List ℕ
  go k keep m = whole_from bs k keep m []

  abbrev next : ℕ
  next = column_after c b

  abbrev rest : ℕ → Mood → Items
  rest k m = told_from bs k m (column_after c b)

  line_gone : (n : ℕ) → 0 < n → n ≡ prefix_len is_not_feed (b ∷ bs) → mood ≡ Fresh →
      told_from (whole_from bs (n - 1) false Inside []) 0 mood first ≡ rest (n - 1) Inside
  line_gone n more e fresh = step (is_not_feed b) refl
    where
      step : (t : Bool) → is_not_feed b ≡ t →
          told_from (whole_from bs (n - 1) false Inside []) 0 mood first ≡ rest (n - 1) Inside
      step true f =
          let size : prefix_len is_not_feed (b ∷ bs) ≡ 1 + prefix_len is_not_feed bs = rw f refl in
          ap (λ (m : Mood). told_from (whole_from bs (n - 1) false Inside []) 0 m first) fresh
          ∙ ap (λ (d : ℕ). told_from (whole_from bs (n - 1) false Inside []) 0 Fresh d) (front fresh)
          ∙ lined (n - 1) (column_after c b) (omega (arith, e, size))
      step false f =
          let size : prefix_len is_not_feed (b ∷ bs) ≡ 0 = rw f refl in absurd (omega (arith, e, size, more))

  piece_told : (q : Piece) → piece_at mood b bs ≡ q → IsSound (piece_at mood b) mood b bs q →
      told_from (whole_piece q b bs blanks go) 0 mood first ≡ told q (b ∷ bs) c rest
  piece_told (piece.Layout n m) e s =
      let xs : List ℕ = whole_from bs (n - 1) true m [] in
      skips (b ∷ xs)
      ∙ told_at mood b c xs (piece.Layout n m) (s.3 xs (whole_alike bs (n - 1) m (inside_not_fresh m s.2)))
      ∙ kept (n - 1) m (column_after c b) (omega (arith, s.0, s.1)) (λ f. absurd (inside_not_fresh m s.2 f))
  piece_told (piece.Token k n) e s = pick (directs k (take n (b ∷ bs))) refl
    where
      pick : (t : Bool) → directs k (take n (b ∷ bs)) ≡ t →
          told_from (cond t (go (n - 1) false Inside) (blanks ++ b ∷ go (n - 1) true (after_kind k))) 0 mood first
          ≡ cond t (rest (n - 1) Inside) (item_at k (take n (b ∷ bs)) 0 c ∷ rest (n - 1) (after_kind k))
      pick true i = let line = s.2 (line_is k (take n (b ∷ bs)) i) in line_gone n s.0 line.1 line.0
      pick false i =
          let xs : List ℕ = whole_from bs (n - 1) true (after_kind k) [] in
          let alike : Alike (n - 1) bs xs = whole_alike bs (n - 1) (after_kind k) (not_fresh k) in
          let text : take n (b ∷ xs) ≡ take n (b ∷ bs) =
          sym (alike_take n (b ∷ bs) (b ∷ xs) (alike_cons n b bs xs s.0 alike)) in
          let tail = kept (n - 1) (after_kind k) (column_after c b) (omega (arith, s.0, s.1)) (λ f. absurd (not_fresh k f)) in
          skips (b ∷ xs) ∙ told_at mood b c xs (piece.Token k n) (s.3 xs alike)
          ∙ ap
          (λ (t : Bool). cond t (told_from xs (n - 1) Inside (column_after c b))
          (item_at k (take n (b ∷ xs)) 0 c ∷ told_from xs (n - 1) (after_kind k) (column_after c b)))
          (ap (directs k) text ∙ i)
          ∙ ap (λ (x : List ℕ). item_at k x 0 c ∷ told_from xs (n - 1) (after_kind k) (column_after c b)) text
          ∙ ap (λ (is : Items). item_at k (take n (b ∷ bs)) 0 c ∷ is) tail
  piece_told piece.Unknown e s = skips (b ∷ bs) ∙ told_at mood b c bs piece.Unknown e

  byte_told : waits mood b ≡ false →
      told_from (whole_piece (piece_at mood b bs) b bs blanks go) 0 mood first ≡ told_from (b ∷ bs) 0 mood c
  byte_told w = step (is_blank b) refl
    where
      step : (t : Bool) → is_blank b ≡ t →
          told_from (whole_piece (piece_at mood b bs) b bs blanks go) 0 mood first ≡ told_from (b ∷ bs) 0 mood c
      step true e =
          let m : Mood = after_blank b mood in
          let xs : List ℕ = whole_from bs 0 true m [] in
          ap (λ (q : Piece). told_from (whole_piece q b bs blanks go) 0 mood first) (piece_blank mood b bs e)
          ∙ skips (b ∷ xs) ∙ told_at mood b c xs (piece.Layout 1 m) (piece_blank mood b xs e)
          ∙ kept 0 m (column_after c b) (omega arith) (λ f. (refl, ap (column_after c) (blank_feed mood b e w f)))
          ∙ sym (told_at mood b c bs (piece.Layout 1 m) (piece_blank mood b bs e))
      step false e =
          piece_told (piece_at mood b bs) refl (piece_sound mood b bs e)
          ∙ sym (told_at mood b c bs (piece_at mood b bs) refl)

  pub waiting_byte : Waiting bs → told_from (whole_from (b ∷ bs) 0 true mood blanks) 0 mood first ≡ told_from (b ∷ bs) 0 mood c
  unfolding whole_from
  waiting_byte waiting = step (waits mood b) refl
    where
      step : (t : Bool) → waits mood b ≡ t →
          told_from (cond t (whole_from bs 0 true mood (blanks ++ b ∷ []))
          (whole_piece (piece_at mood b bs) b bs blanks go)) 0 mood first
          ≡ told_from (b ∷ bs) 0 mood c
      step true e =
          waiting mood (blanks ++ b ∷ []) first (column_after c b)
          (λ xs. ap (λ (ys : List ℕ). told_from ys 0 mood first) (append_assoc blanks (b ∷ []) xs)
          ∙ skips (b ∷ xs) ∙ space_skips mood b c xs e)
          front
          ∙ sym (space_skips mood b c bs e)
      step false e = byte_told e
