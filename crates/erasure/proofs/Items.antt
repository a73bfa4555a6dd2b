-- The tokens of a text without its directive lines are its tokens that are no such lines, each with its line and column.
use Rattle.std.proofs.Common.{◌≡◌, ℕ, zero, suc, ◌+◌, ◌-◌, ◌<◌, ◌≤◌, Bool, true, false, cond, List, [], ◌∷◌, length, take, refl, sym, ap, subst, ◌∙◌, arith}
use Rattle.std.specs.List.{prefix_len}
use Rattle.c_tokens.specs.declared.kind.Kind.{Kind}
use Rattle.c_tokens.specs.declared.kind.Mood.{Mood}
use Rattle.c_tokens.specs.declared.kind.Mood.TheVariants.{Fresh, Inside}
use Rattle.c_tokens.specs.declared.kind.Piece.{Piece}
use Rattle.c_tokens.specs.declared.kind.Piece.TheVariants as piece
use Rattle.c_tokens.specs.Piece.{is_blank, is_not_feed, after_blank, piece_at}
use Rattle.c_tokens.specs.Text.{after_kind}
use Rattle.c_grammar.specs.Terminal.{Terminal}
use Rattle.c_grammar.specs.Texts.{Item}
use Rattle.c_grammar.specs.Blocks.{bare}
use Rattle.erasure.proofs.Columns.{directs}
use Rattle.erasure.proofs.Pieces.{Alike, alike_cons, alike_take}
use Rattle.erasure.proofs.Sound.{IsSound, piece_sound}
use Rattle.erasure.proofs.Cuts.{cut_piece, cut_from, line_after, column_after, item_at, made, items_from, line_item, line_is, not_fresh, feed_blank, feed_line, piece_blank, inside_not_fresh, cut_alike}

-- what one byte leaves for those behind it
abbrev Kept : List ℕ → Type 0
Kept bs = (k : ℕ) (mood : Mood) (l c : ℕ) → k ≤ length bs →
    items_from (cut_from bs k true mood) k mood l c ≡ bare (items_from bs k mood l c)

abbrev Lined : List ℕ → Type 0
Lined bs = (k l c d : ℕ) → k ≡ prefix_len is_not_feed bs →
    items_from (cut_from bs k false Inside) 0 Fresh l c ≡ bare (items_from bs k Inside l d)

item_kept : (k : Kind) (x y : List ℕ) (l c : ℕ) (is : List (Item Terminal)) → directs k y ≡ false → x ≡ y →
    item_at k x l c ∷ bare is ≡ bare (item_at k y l c ∷ is)
item_kept k x y l c is e same =
    ap (λ (z : List ℕ). item_at k z l c ∷ bare is) same
    ∙ ap (λ (t : Bool). cond t (bare is) (item_at k y l c ∷ bare is)) (sym (line_item k y l c ∙ e))

module _ (mood : Mood) (b : ℕ) (bs : List ℕ) (l c : ℕ) (ih : Kept bs) (line_ih : Lined bs) where
  abbrev rest_of : List ℕ → ℕ → Mood → List (Item Terminal)
  rest_of xs k m = items_from xs k m (line_after l b) (column_after c b)

  abbrev cut : ℕ → Bool → Mood → List ℕ
  cut k keep m = cut_from bs k keep m

  made_at : (xs : List ℕ) (q : Piece) → piece_at mood b xs ≡ q →
      items_from (b ∷ xs) 0 mood l c ≡ made q (b ∷ xs) l c (λ k m. rest_of xs k m)
  unfolding items_from
  made_at xs q e = ap (λ (r : Piece). made r (b ∷ xs) l c (λ k m. rest_of xs k m)) e

  kept_line : (n : ℕ) → 0 < n → n ≡ prefix_len is_not_feed (b ∷ bs) → mood ≡ Fresh →
      items_from (cut_from bs (n - 1) false Inside) 0 mood l c ≡ bare (rest_of bs (n - 1) Inside)
  kept_line n more e fresh = step (is_not_feed b) refl
    where
      step : (t : Bool) → is_not_feed b ≡ t →
          items_from (cut_from bs (n - 1) false Inside) 0 mood l c ≡ bare (rest_of bs (n - 1) Inside)
      step true f =
          let size : prefix_len is_not_feed (b ∷ bs) ≡ 1 + prefix_len is_not_feed bs = rw f refl in
          let line : line_after l b ≡ l = ap (λ (t : Bool). cond t (l + 1) l) (feed_line b f) in
          ap (λ (m : Mood). items_from (cut_from bs (n - 1) false Inside) 0 m l c) fresh
          ∙ line_ih (n - 1) l c (column_after c b) (omega (arith, e, size))
          ∙ ap (λ (k : ℕ). bare (items_from bs (n - 1) Inside k (column_after c b))) (sym line)
      step false f =
          let size : prefix_len is_not_feed (b ∷ bs) ≡ 0 = rw f refl in absurd (omega (arith, e, size, more))

  kept_piece : (q : Piece) → piece_at mood b bs ≡ q → IsSound (piece_at mood b) mood b bs q →
      items_from (cut_piece q b bs cut) 0 mood l c ≡ bare (made q (b ∷ bs) l c (λ k m. rest_of bs k m))
  kept_piece (piece.Layout n m) e s =
      let xs : List ℕ = cut_from bs (n - 1) true m in
      made_at xs (piece.Layout n m) (s.3 xs (cut_alike bs (n - 1) m (inside_not_fresh m s.2)))
      ∙ ih (n - 1) m (line_after l b) (column_after c b) (omega (arith, s.0, s.1))
  kept_piece (piece.Token k n) e s = pick (directs k (take n (b ∷ bs))) refl
    where
      pick : (t : Bool) → directs k (take n (b ∷ bs)) ≡ t →
          items_from (cond t (cut_from bs (n - 1) false Inside) (b ∷ cut_from bs (n - 1) true (after_kind k))) 0 mood l c
          ≡ bare (made (piece.Token k n) (b ∷ bs) l c (λ k m. rest_of bs k m))
      pick true i =
          let is_one = line_is k (take n (b ∷ bs)) i in
          let line = s.2 is_one in
          let is : List (Item Terminal) = rest_of bs (n - 1) Inside in
          let mood_is : after_kind k ≡ Inside = ap after_kind is_one in
          let item : Item Terminal = item_at k (take n (b ∷ bs)) l c in
          kept_line n s.0 line.1 line.0
          ∙ ap (λ (t : Bool). cond t (bare is) (item ∷ bare is)) (sym (line_item k (take n (b ∷ bs)) l c ∙ i))
          ∙ ap (λ (m : Mood). bare (item ∷ rest_of bs (n - 1) m)) (sym mood_is)
      pick false i =
          let xs : List ℕ = cut_from bs (n - 1) true (after_kind k) in
          let alike : Alike (n - 1) bs xs = cut_alike bs (n - 1) (after_kind k) (not_fresh k) in
          let text : take n (b ∷ xs) ≡ take n (b ∷ bs) = sym (alike_take n (b ∷ bs) (b ∷ xs) (alike_cons n b bs xs s.0 alike)) in
          let tail = ih (n - 1) (after_kind k) (line_after l b) (column_after c b) (omega (arith, s.0, s.1)) in
          made_at xs (piece.Token k n) (s.3 xs alike)
          ∙ ap (λ (is : List (Item Terminal)). item_at k (take n (b ∷ xs)) l c ∷ is) tail
          ∙ item_kept k (take n (b ∷ xs)) (take n (b ∷ bs)) l c (rest_of bs (n - 1) (after_kind k)) i text
  kept_piece piece.Unknown e s = made_at bs piece.Unknown e

  kept_byte : items_from (cut_from (b ∷ bs) 0 true mood) 0 mood l c ≡ bare (items_from (b ∷ bs) 0 mood l c)
  unfolding cut_from
  kept_byte = step (is_blank b) refl
    where
      step : (t : Bool) → is_blank b ≡ t →
          items_from (cut_piece (piece_at mood b bs) b bs cut) 0 mood l c ≡ bare (items_from (b ∷ bs) 0 mood l c)
      step true e =
          let m : Mood = after_blank b mood in
          let xs : List ℕ = cut_from bs 0 true m in
          ap (λ (q : Piece). items_from (cut_piece q b bs cut) 0 mood l c) (piece_blank mood b bs e)
          ∙ made_at xs (piece.Layout 1 m) (piece_blank mood b xs e)
          ∙ ih 0 m (line_after l b) (column_after c b) (omega arith)
          ∙ ap bare (sym (made_at bs (piece.Layout 1 m) (piece_blank mood b bs e)))
      step false e =
          kept_piece (piece_at mood b bs) refl (piece_sound mood b bs e)
          ∙ ap bare (sym (made_at bs (piece_at mood b bs) refl))

lined_feed : (bs : List ℕ) (l c d : ℕ) → Kept bs →
    items_from (cut_from (10 ∷ bs) 0 false Inside) 0 Fresh l c ≡ bare (items_from (10 ∷ bs) 0 Inside l d)
unfolding cut_from items_from piece_at
lined_feed bs l c d ih = ih 0 Fresh (l + 1) 1 (omega arith)

lined_byte : (b : ℕ) (bs : List ℕ) → Kept bs → Lined bs → Lined (b ∷ bs)
unfolding cut_from items_from
lined_byte b bs ih line_ih k l c d e = step (is_not_feed b) refl k e
  where
    step : (t : Bool) → is_not_feed b ≡ t → (k : ℕ) → k ≡ prefix_len is_not_feed (b ∷ bs) →
        items_from (cut_from (b ∷ bs) k false Inside) 0 Fresh l c ≡ bare (items_from (b ∷ bs) k Inside l d)
    step true f zero e =
        let size : prefix_len is_not_feed (b ∷ bs) ≡ 1 + prefix_len is_not_feed bs = rw f refl in absurd (omega (arith, e, size))
    step true f (suc k) e =
        let size : prefix_len is_not_feed (b ∷ bs) ≡ 1 + prefix_len is_not_feed bs = rw f refl in
        let line : line_after l b ≡ l = ap (λ (t : Bool). cond t (l + 1) l) (feed_line b f) in
        line_ih k l c (column_after d b) (omega (arith, e, size))
        ∙ ap (λ (j : ℕ). bare (items_from bs k Inside j (column_after d b))) (sym line)
    step false f zero e =
        subst (λ (x : ℕ). items_from (cut_from (x ∷ bs) 0 false Inside) 0 Fresh l c ≡ bare (items_from (x ∷ bs) 0 Inside l d))
        (sym (feed_blank b f).0) (lined_feed bs l c d ih)
    step false f (suc k) e =
        let size : prefix_len is_not_feed (b ∷ bs) ≡ 0 = rw f refl in absurd (omega (arith, e, size))

mutual
  unfolding cut_from items_from

  kept_items : (bs : List ℕ) → Kept bs
  kept_items [] k mood l c h = refl
  kept_items (b ∷ bs) zero mood l c h = kept_byte mood b bs l c (kept_items bs) (lined_items bs)
  kept_items (b ∷ bs) (suc k) mood l c h = kept_items bs k mood (line_after l b) (column_after c b) (omega (arith, h))

  lined_items : (bs : List ℕ) → Lined bs
  lined_items [] k l c d e = refl
  lined_items (b ∷ bs) k l c d e = lined_byte b bs (kept_items bs) (lined_items bs) k l c d e

pub cut_items : (bs : List ℕ) (l c : ℕ) →
    items_from (cut_from bs 0 true Fresh) 0 Fresh l c ≡ bare (items_from bs 0 Fresh l c)
cut_items bs l c = kept_items bs 0 Fresh l c (omega arith)
