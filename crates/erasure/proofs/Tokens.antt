-- The tokens of a text stand one behind another; its bytes that are those of no line are the text without its lines.
use Rattle.std.proofs.Common.{◌≡◌, ℕ, zero, suc, ◌+◌, ◌-◌, ◌<◌, ◌≤◌, Bool, true, false, eqb, List, [], ◌∷◌, length, map, take, drop, refl, sym, ap, subst, ◌∙◌, arith}
use Rattle.std.specs.List.{prefix_len}
use Rattle.c_tokens.specs.declared.kind.Kind.{Kind}
use Rattle.c_tokens.specs.declared.kind.Kind.TheVariants as kind
use Rattle.c_tokens.specs.declared.kind.Mood.{Mood}
use Rattle.c_tokens.specs.declared.kind.Piece.{Piece}
use Rattle.c_tokens.specs.declared.kind.Piece.TheVariants as piece
use Rattle.c_tokens.specs.Piece.{is_blank, is_not_feed, piece_at}
use Rattle.c_tokens.specs.Text.{Place, after, after_kind, token_at, given, tokens_from}
use Rattle.c_grammar.specs.Source.{item_of, text_of}
use Rattle.c_grammar.specs.Terminal.{Terminal}
use Rattle.c_grammar.specs.Texts.{Item}
use Rattle.erasure.proofs.Sound.{IsSound, piece_sound}
use Rattle.erasure.proofs.Cuts.{line_after, column_after, item_at, made, items_from, piece_blank}
use Rattle.c_grammar.proofs.AsciiNames.{next_rest}

-- ---- the bytes of a piece are within the text

abbrev pub IsWithin : ℕ → Piece → Type 0
IsWithin len (piece.Layout n m) = (0 < n) × (n ≤ len)
IsWithin len (piece.Token k n) = (0 < n) × (n ≤ len)
IsWithin len piece.Unknown = Unit {0}

pub piece_within : (mood : Mood) (b : ℕ) (bs : List ℕ) → IsWithin (suc (length bs)) (piece_at mood b bs)
piece_within mood b bs = step (is_blank b) refl
  where
    go : (q : Piece) → IsSound (piece_at mood b) mood b bs q → IsWithin (suc (length bs)) q
    go (piece.Layout n m) s = (s.0, s.1)
    go (piece.Token k n) s = (s.0, s.1)
    go piece.Unknown s = tt

    step : (t : Bool) → is_blank b ≡ t → IsWithin (suc (length bs)) (piece_at mood b bs)
    step true e =
        subst (λ (q : Piece). IsWithin (suc (length bs)) q) (sym (piece_blank mood b bs e)) (omega arith, omega arith)
    step false e = go (piece_at mood b bs) (piece_sound mood b bs e)

-- a line ends before the next line feed
abbrev pub IsLineEnd : ℕ → List ℕ → Piece → Type 0
IsLineEnd b bs (piece.Token k n) = k ≡ kind.Line → n ≡ prefix_len is_not_feed (b ∷ bs)
IsLineEnd b bs _ = Unit {0}

pub piece_lined : (mood : Mood) (b : ℕ) (bs : List ℕ) → IsLineEnd b bs (piece_at mood b bs)
piece_lined mood b bs = step (is_blank b) refl
  where
    go : (q : Piece) → IsSound (piece_at mood b) mood b bs q → IsLineEnd b bs q
    go (piece.Layout n m) s = tt
    go (piece.Token k n) s = λ e. (s.2 e).1
    go piece.Unknown s = tt

    step : (t : Bool) → is_blank b ≡ t → IsLineEnd b bs (piece_at mood b bs)
    step true e = subst (λ (q : Piece). IsLineEnd b bs q) (sym (piece_blank mood b bs e)) tt
    step false e = go (piece_at mood b bs) (piece_sound mood b bs e)

-- ---- places

after_line : (p : Place) (b : ℕ) → (after p b).line ≡ line_after p.line b
unfolding after
after_line p b = step (eqb b 10) refl
  where
    step : (t : Bool) → eqb b 10 ≡ t → (after p b).line ≡ line_after p.line b
    step true e = rw e refl
    step false e = rw e refl

after_column : (p : Place) (b : ℕ) → (after p b).column ≡ column_after p.column b
unfolding after
after_column p b = step (eqb b 10) refl
  where
    step : (t : Bool) → eqb b 10 ≡ t → (after p b).column ≡ column_after p.column b
    step true e = rw e refl
    step false e = rw e refl

-- ---- the tokens as items

pub text_is : (bytes : List ℕ) (b : ℕ) (bs : List ℕ) (p : Place) (k : Kind) (n : ℕ) → 0 < n → b ∷ bs ≡ drop p.at bytes →
    text_of bytes (token_at k n p) ≡ take n (b ∷ bs)
text_is bytes b bs p k n more e =
    let size : p.at + n - 1 - p.at + 1 ≡ n = omega (arith, more) in
    ap (λ (j : ℕ). take j (drop p.at bytes)) size ∙ ap (take n) (sym e)

item_is : (bytes : List ℕ) (b : ℕ) (bs : List ℕ) (p : Place) (k : Kind) (n : ℕ) → 0 < n → b ∷ bs ≡ drop p.at bytes →
    item_of bytes (token_at k n p) ≡ item_at k (take n (b ∷ bs)) p.line p.column
item_is bytes b bs p k n more e = at_kind k (text_is bytes b bs p k n more e)
  where
    at_kind : (k : Kind) → text_of bytes (token_at k n p) ≡ take n (b ∷ bs) →
        item_of bytes (token_at k n p) ≡ item_at k (take n (b ∷ bs)) p.line p.column
    at_kind kind.Name t = ap (λ (x : List ℕ). item_at kind.Name x p.line p.column) t
    at_kind (kind.Number v) t = refl
    at_kind kind.BadNumber t = refl
    at_kind (kind.Sign s) t = refl
    at_kind kind.Line t = ap (λ (x : List ℕ). item_at kind.Line x p.line p.column) t
    at_kind kind.Unknown t = refl

pub items_are : (bytes bs : List ℕ) (k : ℕ) (mood : Mood) (p : Place) → bs ≡ drop p.at bytes →
    map (item_of bytes) (tokens_from bs k mood p) ≡ items_from bs k mood p.line p.column
unfolding tokens_from items_from
items_are bytes [] k mood p e = refl
items_are bytes (b ∷ bs) zero mood p e =
    go (piece_at mood b bs) (piece_within mood b bs)
    (λ k m. items_are bytes bs k m (after p b) (next_rest bytes b bs p e) ∙ same k m)
  where
    same : (k : ℕ) (m : Mood) → items_from bs k m (after p b).line (after p b).column
        ≡ items_from bs k m (line_after p.line b) (column_after p.column b)
    same k m =
        ap (λ (l : ℕ). items_from bs k m l (after p b).column) (after_line p b)
        ∙ ap (λ (c : ℕ). items_from bs k m (line_after p.line b) c) (after_column p b)

    go : (q : Piece) → IsWithin (suc (length bs)) q →
        ((k : ℕ) (m : Mood) → map (item_of bytes) (tokens_from bs k m (after p b))
        ≡ items_from bs k m (line_after p.line b) (column_after p.column b)) →
        map (item_of bytes) (given q p (λ k m. tokens_from bs k m (after p b)))
        ≡ made q (b ∷ bs) p.line p.column (λ k m. items_from bs k m (line_after p.line b) (column_after p.column b))
    go (piece.Layout n m) w ih = ih (n - 1) m
    go (piece.Token k n) w ih =
        let head = item_is bytes b bs p k n w.0 e in
        let tail = ih (n - 1) (after_kind k) in
        ap (λ (i : Item Terminal). i ∷ map (item_of bytes) (tokens_from bs (n - 1) (after_kind k) (after p b))) head
        ∙ ap (λ (is : List (Item Terminal)). item_at k (take n (b ∷ bs)) p.line p.column ∷ is) tail
    go piece.Unknown w ih = refl
items_are bytes (b ∷ bs) (suc k) mood p e =
    items_are bytes bs k mood (after p b) (next_rest bytes b bs p e)
    ∙ ap (λ (l : ℕ). items_from bs k mood l (after p b).column) (after_line p b)
    ∙ ap (λ (c : ℕ). items_from bs k mood (line_after p.line b) c) (after_column p b)
