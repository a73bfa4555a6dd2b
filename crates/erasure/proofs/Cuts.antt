-- The text without its directive lines, byte by byte, and its tokens with their places.
use Rattle.std.proofs.Common.{◌≡◌, ℕ, zero, suc, ◌+◌, ◌-◌, Bool, true, false, cond, eqb, List, [], ◌∷◌, take, Option, Some, None, refl, sym, ap, ◌∙◌, arith}
use Rattle.std.proofs.lemmas.Bool.{cond-true}
use Rattle.std.proofs.lemmas.Bool.Decides.{nat_tests}
use Rattle.c_tokens.specs.declared.kind.Kind.{Kind}
use Rattle.c_tokens.specs.declared.kind.Kind.TheVariants as kind
use Rattle.c_tokens.specs.declared.kind.Mood.{Mood}
use Rattle.c_tokens.specs.declared.kind.Mood.TheVariants.{Fresh, Inside}
use Rattle.c_tokens.specs.declared.kind.Piece.{Piece}
use Rattle.c_tokens.specs.declared.kind.Piece.TheVariants as piece
use Rattle.c_tokens.specs.Piece.{is_blank, is_name_part, is_not_feed, after_blank, piece_at}
use Rattle.c_tokens.specs.Text.{after_kind}
use Rattle.c_grammar.specs.Lexeme.{Placed, lexemes_of, Word, word_of}
use Rattle.c_grammar.specs.Source.{kind_terminal, columns_of, on_line, text_of, word_or_name}
use Rattle.c_grammar.specs.Terminal.{Terminal}
use Rattle.c_grammar.specs.Texts.{Item}
use Rattle.c_grammar.specs.Blocks.{is_directive}
use Rattle.c_grammar.specs.Lines.{is_omp}
use Rattle.c_tokens.specs.declared.kind.Token.{Token}
use Rattle.erasure.specs.Erased.{is_taken}
use Rattle.erasure.proofs.Columns.{kinds_on, directs, kinds_same}
use Rattle.erasure.proofs.Pieces.{Alike, alike_same, alike_front}
use Rattle.erasure.proofs.Sound.{IsSound, piece_sound}

-- go for what follows a piece, whose other bytes are kept or not
abbrev pub cut_piece : Piece → ℕ → List ℕ → (ℕ → Bool → Mood → List ℕ) → List ℕ
cut_piece (piece.Layout n m) b bs go = b ∷ go (n - 1) true m
cut_piece (piece.Token k n) b bs go = cond (directs k (take n (b ∷ bs))) (go (n - 1) false Inside) (b ∷ go (n - 1) true (after_kind k))
cut_piece piece.Unknown b bs go = b ∷ bs

-- a text without its directive lines, of which the first k bytes are the rest of a piece that is kept or not
unfoldable pub cut_from : List ℕ → ℕ → Bool → Mood → List ℕ
cut_from [] k keep mood = []
cut_from (b ∷ bs) zero keep mood = cut_piece (piece_at mood b bs) b bs (λ k keep m. cut_from bs k keep m)
cut_from (b ∷ bs) (suc k) true mood = b ∷ cut_from bs k true mood
cut_from (b ∷ bs) (suc k) false mood = cut_from bs k false mood

-- ---- tokens with their places

abbrev pub line_after : ℕ → ℕ → ℕ
line_after l b = cond (eqb b 10) (l + 1) l

abbrev pub column_after : ℕ → ℕ → ℕ
column_after c b = cond (eqb b 10) 1 (c + 1)

abbrev pub placed_on : List ℕ → ℕ → Kind → List Placed
placed_on x c kind.Line = lexemes_of x c
placed_on x c _ = []

abbrev pub item_at : Kind → List ℕ → ℕ → ℕ → Item Terminal
item_at k x l c =
    record {
      terminal = kind_terminal x (placed_on x c k) k;
      line = l;
      column = c;
      columns = columns_of (placed_on x c k) k;
    }

abbrev pub made : Piece → List ℕ → ℕ → ℕ → (ℕ → Mood → List (Item Terminal)) → List (Item Terminal)
made (piece.Layout n m) text l c go = go (n - 1) m
made (piece.Token k n) text l c go = item_at k (take n text) l c ∷ go (n - 1) (after_kind k)
made piece.Unknown text l c go = item_at kind.Unknown [] l c ∷ []

-- the tokens of a text of which the first k bytes are read, from a line and a column on
unfoldable pub items_from : List ℕ → ℕ → Mood → ℕ → ℕ → List (Item Terminal)
items_from [] k mood l c = []
items_from (b ∷ bs) zero mood l c = made (piece_at mood b bs) (b ∷ bs) l c (λ k m. items_from bs k m (line_after l b) (column_after c b))
items_from (b ∷ bs) (suc k) mood l c = items_from bs k mood (line_after l b) (column_after c b)

-- ---- without lines

pub line_item : (k : Kind) (x : List ℕ) (l c : ℕ) → is_directive (item_at k x l c).terminal ≡ directs k x
line_item kind.Name x l c = word (word_of x)
  where
    word : (o : Option Word) → is_directive (word_or_name x o) ≡ false
    word None = refl
    word (Some w) = refl
line_item (kind.Number n) x l c = refl
line_item kind.BadNumber x l c = refl
line_item (kind.Sign s) x l c = refl
line_item kind.Line x l c = ap is_omp (kinds_same x c 1)
line_item kind.Unknown x l c = refl

pub taken_is : (bytes : List ℕ) (t : Token) → is_taken bytes t ≡ directs t.kind (text_of bytes t)
taken_is bytes t = go t.kind
  where
    word : (o : Option Word) → is_directive (word_or_name (text_of bytes t) o) ≡ false
    word None = refl
    word (Some w) = refl

    go : (k : Kind) → is_directive (kind_terminal (text_of bytes t) (on_line bytes t k) k) ≡ directs k (text_of bytes t)
    go kind.Name = word (word_of (text_of bytes t))
    go (kind.Number n) = refl
    go kind.BadNumber = refl
    go (kind.Sign s) = refl
    go kind.Line = ap is_omp (kinds_same (text_of bytes t) t.column 1)
    go kind.Unknown = refl

-- what the code finds of a token
pub line_taken : (bytes : List ℕ) (t : Token) → t.kind ≡ kind.Line →
    is_omp (kinds_on (lexemes_of (text_of bytes t) 1)) ≡ is_taken bytes t
line_taken bytes t e = sym (taken_is bytes t ∙ ap (λ (k : Kind). directs k (text_of bytes t)) e)

pub other_taken : (bytes : List ℕ) (t : Token) → (t.kind ≡ kind.Line → ⊥) → false ≡ is_taken bytes t
other_taken bytes t h = go t.kind h ∙ sym (taken_is bytes t)
  where
    go : (k : Kind) → (k ≡ kind.Line → ⊥) → false ≡ directs k (text_of bytes t)
    go kind.Name h = refl
    go (kind.Number n) h = refl
    go kind.BadNumber h = refl
    go (kind.Sign s) h = refl
    go kind.Line h = absurd (h refl)
    go kind.Unknown h = refl

pub line_is : (k : Kind) (x : List ℕ) → directs k x ≡ true → k ≡ kind.Line
line_is kind.Name x e = absurd cc
line_is (kind.Number n) x e = absurd cc
line_is kind.BadNumber x e = absurd cc
line_is (kind.Sign s) x e = absurd cc
line_is kind.Line x e = refl
line_is kind.Unknown x e = absurd cc

pub not_fresh : (k : Kind) → after_kind k ≡ Fresh → ⊥
not_fresh kind.Name e = absurd cc
not_fresh (kind.Number n) e = absurd cc
not_fresh kind.BadNumber e = absurd cc
not_fresh (kind.Sign s) e = absurd cc
not_fresh kind.Line e = absurd cc
not_fresh kind.Unknown e = absurd cc

pub feed_blank : (b : ℕ) → is_not_feed b ≡ false → (b ≡ 10) × (is_blank b ≡ true)
feed_blank b e = (grind (arith, nat_tests), grind (arith, nat_tests))

pub feed_line : (b : ℕ) → is_not_feed b ≡ true → eqb b 10 ≡ false
feed_line b e = grind (arith, nat_tests)

pub piece_blank : (mood : Mood) (b : ℕ) (bs : List ℕ) → is_blank b ≡ true → piece_at mood b bs ≡ piece.Layout 1 (after_blank b mood)
unfolding piece_at
piece_blank mood b bs e = cond-true (is_blank b) _ _ e

pub inside_not_fresh : (m : Mood) → m ≡ Inside → m ≡ Fresh → ⊥
inside_not_fresh m e f = let bad : Inside ≡ Fresh = sym e ∙ f in absurd cc

pub blank_no_part : (b : ℕ) → is_blank b ≡ true → is_name_part b ≡ true → ⊥
blank_no_part b e f = grind (arith, nat_tests)

-- where no line can begin the first byte is kept
cut_front : (mood : Mood) (b : ℕ) (bs : List ℕ) → (mood ≡ Fresh → ⊥) →
    ((k : ℕ) (m : Mood) → (m ≡ Fresh → ⊥) → Alike 0 bs (cut_from bs k true m)) →
    Alike 0 (b ∷ bs) (cut_from (b ∷ bs) 0 true mood)
unfolding cut_from
cut_front mood b bs h more = start (is_blank b) refl
  where
    go : (q : Piece) → IsSound (piece_at mood b) mood b bs q →
        Alike 0 (b ∷ bs) (cut_piece q b bs (λ k keep m. cut_from bs k keep m))
    go (piece.Layout n m) s = (refl, λ e. more (n - 1) m (inside_not_fresh m s.2))
    go (piece.Token k n) s = pick (directs k (take n (b ∷ bs))) refl
      where
        pick : (t : Bool) → directs k (take n (b ∷ bs)) ≡ t →
            Alike 0 (b ∷ bs) (cond t (cut_from bs (n - 1) false Inside) (b ∷ cut_from bs (n - 1) true (after_kind k)))
        pick true e = absurd (h (s.2 (line_is k (take n (b ∷ bs)) e)).0)
        pick false e = (refl, λ i. more (n - 1) (after_kind k) (not_fresh k))
    go piece.Unknown s = (refl, λ e. alike_same bs)

    start : (t : Bool) → is_blank b ≡ t → Alike 0 (b ∷ bs) (cut_from (b ∷ bs) 0 true mood)
    start true e = rw (piece_blank mood b bs e) (refl, λ f. absurd (blank_no_part b e f))
    start false e = go (piece_at mood b bs) (piece_sound mood b bs e)

-- the rest of a piece and the byte behind it are kept
pub cut_alike : (bs : List ℕ) (k : ℕ) (mood : Mood) → (mood ≡ Fresh → ⊥) → Alike k bs (cut_from bs k true mood)
unfolding cut_from
cut_alike [] zero mood h = tt
cut_alike [] (suc k) mood h = tt
cut_alike (b ∷ bs) zero mood h = cut_front mood b bs h (λ k m g. alike_front k bs _ (cut_alike bs k m g))
cut_alike (b ∷ bs) (suc k) mood h = (refl, cut_alike bs k mood h)
