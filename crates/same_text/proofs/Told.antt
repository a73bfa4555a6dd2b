-- The tokens of a text that are no directive lines, byte by byte, with their columns and without their lines.
use Rattle.std.proofs.Common.{◌≡◌, ℕ, zero, suc, ◌-◌, Bool, true, false, cond, List, [], ◌∷◌, take, refl, ap, ◌∙◌}
use Rattle.c_tokens.specs.declared.kind.Kind.{Kind}
use Rattle.c_tokens.specs.declared.kind.Kind.TheVariants as kind
use Rattle.c_tokens.specs.declared.kind.Mood.{Mood}
use Rattle.c_tokens.specs.declared.kind.Mood.TheVariants.{Fresh, Inside}
use Rattle.c_tokens.specs.declared.kind.Piece.{Piece}
use Rattle.c_tokens.specs.declared.kind.Piece.TheVariants as piece
use Rattle.c_tokens.specs.Piece.{piece_at}
use Rattle.c_tokens.specs.Text.{start, after_kind}
use Rattle.c_grammar.specs.Blocks.{Items, bare}
use Rattle.erasure.proofs.Columns.{directs}
use Rattle.erasure.proofs.Cuts.{line_after, column_after, item_at, made, items_from, line_item, line_is}
use Rattle.erasure.proofs.Tokens.{items_are}
use Rattle.same_text.specs.Laws.{bare_tokens}
use Rattle.same_text.proofs.Unlined.{all_unlined}

-- what a piece of a text tells, and go for what its other bytes do
abbrev pub told : Piece → List ℕ → ℕ → (ℕ → Mood → Items) → Items
told (piece.Layout n m) text c go = go (n - 1) m
told (piece.Token k n) text c go =
    cond (directs k (take n text)) (go (n - 1) Inside) (item_at k (take n text) 0 c ∷ go (n - 1) (after_kind k))
told piece.Unknown text c go = item_at kind.Unknown [] 0 c ∷ []

-- the tokens of a text of which the first k bytes are read, from a column on
unfoldable pub told_from : List ℕ → ℕ → Mood → ℕ → Items
told_from [] k mood c = []
told_from (b ∷ bs) zero mood c = told (piece_at mood b bs) (b ∷ bs) c (λ k m. told_from bs k m (column_after c b))
told_from (b ∷ bs) (suc k) mood c = told_from bs k mood (column_after c b)

-- ---- those are the tokens with their lines

abbrev bare_in : Items → Items
bare_in is = all_unlined (bare is)

told_piece : (q : Piece) (text : List ℕ) (l c : ℕ) (f g : ℕ → Mood → Items) →
    ((k : ℕ) (m : Mood) → bare_in (f k m) ≡ g k m) → bare_in (made q text l c f) ≡ told q text c g
told_piece (piece.Layout n m) text l c f g h = h (n - 1) m
told_piece (piece.Token k n) text l c f g h =
    let x : List ℕ = take n text in
    ap
    (λ (t : Bool). all_unlined
    (cond t (bare (f (n - 1) (after_kind k))) (item_at k x l c ∷ bare (f (n - 1) (after_kind k)))))
    (line_item k x l c) ∙ pick (directs k x) refl
  where
    pick : (t : Bool) → directs k (take n text) ≡ t →
        all_unlined
        (cond t (bare (f (n - 1) (after_kind k)))
        (item_at k (take n text) l c ∷ bare (f (n - 1) (after_kind k))))
        ≡ cond t (g (n - 1) Inside) (item_at k (take n text) 0 c ∷ g (n - 1) (after_kind k))
    pick true e =
        h (n - 1) (after_kind k) ∙ ap (λ (i : Kind). g (n - 1) (after_kind i)) (line_is k (take n text) e)
    pick false e = ap (λ (is : Items). item_at k (take n text) 0 c ∷ is) (h (n - 1) (after_kind k))
told_piece piece.Unknown text l c f g h = refl

told_are : (bs : List ℕ) (k : ℕ) (mood : Mood) (l c : ℕ) → bare_in (items_from bs k mood l c) ≡ told_from bs k mood c
unfolding items_from told_from
told_are [] k mood l c = refl
told_are (b ∷ bs) zero mood l c =
    told_piece (piece_at mood b bs) (b ∷ bs) l c
    (λ k m. items_from bs k m (line_after l b) (column_after c b)) (λ k m. told_from bs k m (column_after c b))
    (λ k m. told_are bs k m (line_after l b) (column_after c b))
told_are (b ∷ bs) (suc k) mood l c = told_are bs k mood (line_after l b) (column_after c b)

pub bare_told : (bytes : List ℕ) → bare_tokens bytes ≡ told_from bytes 0 Fresh 1
bare_told bytes = ap bare_in (items_are bytes bytes 0 Fresh start refl) ∙ told_are bytes 0 Fresh 1 1
