-- The bytes of a text that are those of no directive line.
use Rattle.std.proofs.Common.{◌≡◌, ℕ, zero, suc, ◌+◌, ◌-◌, ◌<◌, ◌≤◌, Bool, true, false, cond, List, [], ◌∷◌, length, take, drop, refl, sym, ap, subst, ◌∙◌, arith}
use Rattle.std.specs.Prelude.{◌&&◌, nat_le}
use Rattle.std.specs.List.{prefix_len, list_any}
use Rattle.std.proofs.lemmas.Bool.{cond-true, cond-false}
use Rattle.std.proofs.lemmas.Bool.Decides.{nat_tests}
use Rattle.c_tokens.specs.declared.kind.Kind.{Kind}
use Rattle.c_tokens.specs.declared.kind.Kind.TheVariants as kind
use Rattle.c_tokens.specs.declared.kind.Mood.{Mood}
use Rattle.c_tokens.specs.declared.kind.Mood.TheVariants.{Fresh, Inside}
use Rattle.c_tokens.specs.declared.kind.Piece.{Piece}
use Rattle.c_tokens.specs.declared.kind.Piece.TheVariants as piece
use Rattle.c_tokens.specs.declared.kind.Token.{Token}
use Rattle.c_tokens.specs.Piece.{is_not_feed, piece_at}
use Rattle.c_tokens.specs.Text.{Place, start, after, after_kind, token_at, unknown_at, given, tokens_from}
use Rattle.c_grammar.specs.Blocks.{bare}
use Rattle.erasure.specs.Erased.{is_taken, covers, uncovered, erased_text, items_in}
use Rattle.erasure.proofs.Columns.{directs}
use Rattle.erasure.proofs.Cuts.{cut_piece, cut_from, items_from, feed_blank, taken_is}
use Rattle.erasure.proofs.Items.{cut_items}
use Rattle.erasure.proofs.Tokens.{items_are, text_is, IsWithin, piece_within, IsLineEnd, piece_lined}
use Rattle.c_grammar.proofs.AsciiNames.{after_at, next_rest}

-- tokens that stand one behind another, from a place on and up to an end
abbrev pub AreFrom : ℕ → ℕ → List Token → Type 0
AreFrom k end [] = k ≤ end
AreFrom k end (t ∷ ts) = (k ≤ t.first) × (t.first ≤ t.last) × AreFrom (t.last + 1) end ts

pub from_less : (j k end : ℕ) (ts : List Token) → j ≤ k → AreFrom k end ts → AreFrom j end ts
from_less j k end [] h a = omega (arith, h, a)
from_less j k end (t ∷ ts) h a = (omega (arith, h, a.0), a.1, a.2)

pub from_same : (k j end : ℕ) (ts : List Token) (other : ℕ) → j ≤ k → end ≡ other → AreFrom k end ts → AreFrom j other ts
from_same k j end ts other h e a = subst (λ (n : ℕ). AreFrom j n ts) e (from_less j k end ts h a)

pub in_order : (bs : List ℕ) (k : ℕ) (mood : Mood) (p : Place) → k ≤ length bs →
    AreFrom (p.at + k) (p.at + length bs) (tokens_from bs k mood p)
unfolding tokens_from
in_order [] k mood p h = omega (arith, h)
in_order (b ∷ bs) (suc k) mood p h =
    let at = after_at p b in
    from_same ((after p b).at + k) (p.at + suc k) ((after p b).at + length bs) _ (p.at + suc (length bs))
    (omega (arith, at)) (omega (arith, at)) (in_order bs k mood (after p b) (omega (arith, h)))
in_order (b ∷ bs) zero mood p h =
    go (piece_at mood b bs) (piece_within mood b bs) (λ k m l. in_order bs k m (after p b) l)
  where
    go : (q : Piece) → IsWithin (suc (length bs)) q →
        ((k : ℕ) (m : Mood) → k ≤ length bs → AreFrom ((after p b).at + k) ((after p b).at + length bs) (tokens_from bs k m (after p b))) →
        AreFrom (p.at + 0) (p.at + suc (length bs)) (given q p (λ k m. tokens_from bs k m (after p b)))
    go (piece.Layout n m) w ih =
        let at = after_at p b in
        from_same ((after p b).at + (n - 1)) (p.at + 0) ((after p b).at + length bs) _ (p.at + suc (length bs))
        (omega (arith, at)) (omega (arith, at)) (ih (n - 1) m (omega (arith, w.0, w.1)))
    go (piece.Token k n) w ih =
        let at = after_at p b in (
          omega arith,
          omega (arith, w.0),
          from_same ((after p b).at + (n - 1)) (p.at + n - 1 + 1) ((after p b).at + length bs) _ (p.at + suc (length bs))
              (omega (arith, at, w.0)) (omega (arith, at)) (ih (n - 1) (after_kind k) (omega (arith, w.0, w.1))),
        )
    go piece.Unknown w ih = (omega arith, omega arith, omega arith)

-- ---- which bytes are covered

before_all : (u : Bool) (k f l : ℕ) → k < f → (u && (nat_le f k && nat_le k l)) ≡ false
before_all u k f l h = grind (arith, nat_tests)

behind_all : (u : Bool) (k f l : ℕ) → l < k → (u && (nat_le f k && nat_le k l)) ≡ false
behind_all u k f l h = grind (arith, nat_tests)

pub clear : (bytes : List ℕ) (k j end : ℕ) (ts : List Token) → k < j → AreFrom j end ts → list_any (covers bytes k) ts ≡ false
clear bytes k j end [] h a = refl
clear bytes k j end (t ∷ ts) h a =
    let none : covers bytes k t ≡ false = before_all (is_taken bytes t) k t.first t.last (omega (arith, h, a.0)) in
    let rest = clear bytes k (t.last + 1) end ts (omega (arith, h, a.0, a.1)) a.2 in
    rw (none, rest) refl

pub keeps : (bytes : List ℕ) (ts : List Token) (k b : ℕ) (bs : List ℕ) → list_any (covers bytes k) ts ≡ false →
    uncovered bytes ts k (b ∷ bs) ≡ b ∷ uncovered bytes ts (k + 1) bs
keeps bytes ts k b bs e = cond-false (list_any (covers bytes k) ts) _ _ e

pub drops : (bytes : List ℕ) (t : Token) (ts : List Token) (k b : ℕ) (bs : List ℕ) → covers bytes k t ≡ true →
    uncovered bytes (t ∷ ts) k (b ∷ bs) ≡ uncovered bytes (t ∷ ts) (k + 1) bs
drops bytes t ts k b bs e =
    let one : list_any (covers bytes k) (t ∷ ts) ≡ true = rw e refl in
    cond-true (list_any (covers bytes k) (t ∷ ts)) _ _ one

pub without_first : (bytes : List ℕ) (t : Token) (ts : List Token) (k : ℕ) (bs : List ℕ) →
    ((j : ℕ) → k ≤ j → covers bytes j t ≡ false) → uncovered bytes (t ∷ ts) k bs ≡ uncovered bytes ts k bs
without_first bytes t ts k [] h = refl
without_first bytes t ts k (b ∷ bs) h =
    let none = h k (omega arith) in
    let tail = without_first bytes t ts (k + 1) bs (λ j l. h j (omega (arith, l))) in
    let test : list_any (covers bytes k) (t ∷ ts) ≡ list_any (covers bytes k) ts = rw none refl in
    ap (λ (u : Bool). cond u (uncovered bytes (t ∷ ts) (k + 1) bs) (b ∷ uncovered bytes (t ∷ ts) (k + 1) bs)) test
    ∙ ap (λ (xs : List ℕ). cond (list_any (covers bytes k) ts) xs (b ∷ xs)) tail

pub no_line : (bytes : List ℕ) (t : Token) (j : ℕ) → is_taken bytes t ≡ false → covers bytes j t ≡ false
no_line bytes t j e = ap (λ (u : Bool). u && (nat_le t.first j && nat_le j t.last)) e

pub behind : (bytes : List ℕ) (t : Token) (j : ℕ) → t.last < j → covers bytes j t ≡ false
behind bytes t j h = behind_all (is_taken bytes t) j t.first t.last h

pub within : (bytes : List ℕ) (t : Token) (j : ℕ) → is_taken bytes t ≡ true → t.first ≤ j → j ≤ t.last →
    covers bytes j t ≡ true
within bytes t j e f l = ap (λ (u : Bool). u && (nat_le t.first j && nat_le j t.last)) e ∙ both t.first j t.last f l
  where
    both : (f j l : ℕ) → f ≤ j → j ≤ l → (nat_le f j && nat_le j l) ≡ true
    both f j l p q = grind (arith, nat_tests)

pub all_kept : (bytes : List ℕ) (k : ℕ) (bs : List ℕ) → uncovered bytes [] k bs ≡ bs
all_kept bytes k [] = refl
all_kept bytes k (b ∷ bs) = ap (λ (xs : List ℕ). b ∷ xs) (all_kept bytes (k + 1) bs)

-- ---- those of no directive line are the text without such lines

abbrev Covered : List ℕ → List ℕ → Type 0
Covered bytes bs = (k : ℕ) (mood : Mood) (p : Place) → k ≤ length bs → bs ≡ drop p.at bytes →
    uncovered bytes (tokens_from bs k mood p) p.at bs ≡ cut_from bs k true mood

abbrev LineCovered : List ℕ → List ℕ → Type 0
LineCovered bytes bs = (k : ℕ) (t : Token) (p : Place) → k ≤ length bs → bs ≡ drop p.at bytes →
    k ≡ prefix_len is_not_feed bs → is_taken bytes t ≡ true → t.first ≤ p.at → t.last + 1 ≡ p.at + k →
    uncovered bytes (t ∷ tokens_from bs k Inside p) p.at bs ≡ cut_from bs k false Inside

module _ (bytes : List ℕ) (b : ℕ) (bs : List ℕ) (ih : Covered bytes bs) where
  -- a byte that is kept, and what follows it
  kept_byte : (k : ℕ) (m : Mood) (p : Place) → k ≤ length bs → b ∷ bs ≡ drop p.at bytes →
      uncovered bytes (tokens_from bs k m (after p b)) p.at (b ∷ bs) ≡ b ∷ cut_from bs k true m
  kept_byte k m p h r =
      let at = after_at p b in
      let ts : List Token = tokens_from bs k m (after p b) in
      keeps bytes ts p.at b bs
      (clear bytes p.at ((after p b).at + k) _ ts (omega (arith, at)) (in_order bs k m (after p b) h))
      ∙ ap (λ (j : ℕ). b ∷ uncovered bytes ts j bs) (sym at)
      ∙ ap (λ (xs : List ℕ). b ∷ xs) (ih k m (after p b) h (next_rest bytes b bs p r))

  kept_token : (k : Kind) (n : ℕ) (p : Place) → is_taken bytes (token_at k n p) ≡ false → 0 < n → n ≤ suc (length bs) →
      b ∷ bs ≡ drop p.at bytes →
      uncovered bytes (token_at k n p ∷ tokens_from bs (n - 1) (after_kind k) (after p b)) p.at (b ∷ bs)
      ≡ b ∷ cut_from bs (n - 1) true (after_kind k)
  kept_token k n p e l h r =
      without_first bytes (token_at k n p) (tokens_from bs (n - 1) (after_kind k) (after p b)) p.at (b ∷ bs)
      (λ j u. no_line bytes (token_at k n p) j e)
      ∙ kept_byte (n - 1) (after_kind k) p (omega (arith, l, h)) r

  line_token : (n : ℕ) (p : Place) → LineCovered bytes bs → is_taken bytes (token_at kind.Line n p) ≡ true → 0 < n →
      n ≤ suc (length bs) → b ∷ bs ≡ drop p.at bytes → n ≡ prefix_len is_not_feed (b ∷ bs) →
      uncovered bytes (token_at kind.Line n p ∷ tokens_from bs (n - 1) Inside (after p b)) p.at (b ∷ bs)
      ≡ cut_from bs (n - 1) false Inside
  line_token n p line_ih i l h r e =
      let at = after_at p b in
      let t : Token = token_at kind.Line n p in
      let ts : List Token = tokens_from bs (n - 1) Inside (after p b) in
      drops bytes t ts p.at b bs (within bytes t p.at i (omega arith) (omega (arith, l)))
      ∙ ap (λ (j : ℕ). uncovered bytes (t ∷ ts) j bs) (sym at)
      ∙ line_ih (n - 1) t (after p b) (omega (arith, h)) (next_rest bytes b bs p r) (rest (is_not_feed b) refl) i
      (omega (arith, at)) (omega (arith, at, l))
    where
      rest : (u : Bool) → is_not_feed b ≡ u → n - 1 ≡ prefix_len is_not_feed bs
      rest true f = let size : prefix_len is_not_feed (b ∷ bs) ≡ 1 + prefix_len is_not_feed bs = rw f refl in omega (arith, e, size)
      rest false f = let size : prefix_len is_not_feed (b ∷ bs) ≡ 0 = rw f refl in absurd (omega (arith, e, size, l))

  taken_at : (k : Kind) (n : ℕ) (p : Place) → 0 < n → b ∷ bs ≡ drop p.at bytes →
      is_taken bytes (token_at k n p) ≡ directs k (take n (b ∷ bs))
  taken_at k n p l r = taken_is bytes (token_at k n p) ∙ ap (directs k) (text_is bytes b bs p k n l r)

  line_piece_covered : (n : ℕ) (p : Place) → LineCovered bytes bs → 0 < n → n ≤ suc (length bs) → b ∷ bs ≡ drop p.at bytes →
      n ≡ prefix_len is_not_feed (b ∷ bs) → (u : Bool) → is_taken bytes (token_at kind.Line n p) ≡ u →
      uncovered bytes (token_at kind.Line n p ∷ tokens_from bs (n - 1) Inside (after p b)) p.at (b ∷ bs)
      ≡ cond u (cut_from bs (n - 1) false Inside) (b ∷ cut_from bs (n - 1) true Inside)
  line_piece_covered n p line_ih l h r e true i = line_token n p line_ih i l h r e
  line_piece_covered n p line_ih l h r e false i = kept_token kind.Line n p i l h r

  kept_piece : (mood : Mood) (p : Place) (q : Piece) → LineCovered bytes bs → IsWithin (suc (length bs)) q →
      IsLineEnd b bs q → b ∷ bs ≡ drop p.at bytes →
      uncovered bytes (given q p (λ k m. tokens_from bs k m (after p b))) p.at (b ∷ bs)
      ≡ cut_piece q b bs (λ k keep m. cut_from bs k keep m)
  kept_piece mood p (piece.Layout n m) line_ih w e r = kept_byte (n - 1) m p (omega (arith, w.0, w.1)) r
  kept_piece mood p (piece.Token kind.Line n) line_ih w e r =
      line_piece_covered n p line_ih w.0 w.1 r (e refl) (directs kind.Line (take n (b ∷ bs))) (taken_at kind.Line n p w.0 r)
  kept_piece mood p (piece.Token kind.Name n) line_ih w e r =
      kept_token kind.Name n p (taken_at kind.Name n p w.0 r) w.0 w.1 r
  kept_piece mood p (piece.Token (kind.Number v) n) line_ih w e r =
      kept_token (kind.Number v) n p (taken_at (kind.Number v) n p w.0 r) w.0 w.1 r
  kept_piece mood p (piece.Token kind.BadNumber n) line_ih w e r =
      kept_token kind.BadNumber n p (taken_at kind.BadNumber n p w.0 r) w.0 w.1 r
  kept_piece mood p (piece.Token (kind.Sign s) n) line_ih w e r =
      kept_token (kind.Sign s) n p (taken_at (kind.Sign s) n p w.0 r) w.0 w.1 r
  kept_piece mood p (piece.Token kind.Unknown n) line_ih w e r =
      kept_token kind.Unknown n p (taken_at kind.Unknown n p w.0 r) w.0 w.1 r
  kept_piece mood p piece.Unknown line_ih w e r =
      without_first bytes (unknown_at p) [] p.at (b ∷ bs) (λ j u. refl) ∙ all_kept bytes p.at (b ∷ bs)

  line_feed : (t : Token) (p : Place) → t.last + 1 ≡ p.at → b ∷ bs ≡ drop p.at bytes →
      uncovered bytes (t ∷ tokens_from bs 0 Fresh (after p b)) p.at (b ∷ bs) ≡ b ∷ cut_from bs 0 true Fresh
  line_feed t p e r =
      without_first bytes t (tokens_from bs 0 Fresh (after p b)) p.at (b ∷ bs) (λ j u. behind bytes t j (omega (arith, u, e)))
      ∙ kept_byte 0 Fresh p (omega arith) r

lined_feed : (bytes bs : List ℕ) (t : Token) (p : Place) → Covered bytes bs → t.last + 1 ≡ p.at →
    10 ∷ bs ≡ drop p.at bytes →
    uncovered bytes (t ∷ tokens_from (10 ∷ bs) 0 Inside p) p.at (10 ∷ bs) ≡ cut_from (10 ∷ bs) 0 false Inside
unfolding cut_from tokens_from piece_at
lined_feed bytes bs t p ih e r = line_feed bytes 10 bs ih t p e r

lined_byte : (bytes : List ℕ) (b : ℕ) (bs : List ℕ) → Covered bytes bs → LineCovered bytes bs → LineCovered bytes (b ∷ bs)
unfolding cut_from tokens_from
lined_byte bytes b bs ih line_ih k t p h r e i f l = step (is_not_feed b) refl k h e l
  where
    step : (u : Bool) → is_not_feed b ≡ u → (k : ℕ) → k ≤ suc (length bs) → k ≡ prefix_len is_not_feed (b ∷ bs) →
        t.last + 1 ≡ p.at + k →
        uncovered bytes (t ∷ tokens_from (b ∷ bs) k Inside p) p.at (b ∷ bs) ≡ cut_from (b ∷ bs) k false Inside
    step true g zero h e l =
        let size : prefix_len is_not_feed (b ∷ bs) ≡ 1 + prefix_len is_not_feed bs = rw g refl in absurd (omega (arith, e, size))
    step true g (suc k) h e l =
        let at = after_at p b in
        let size : prefix_len is_not_feed (b ∷ bs) ≡ 1 + prefix_len is_not_feed bs = rw g refl in
        let ts : List Token = tokens_from bs k Inside (after p b) in
        drops bytes t ts p.at b bs (within bytes t p.at i f (omega (arith, l)))
        ∙ ap (λ (j : ℕ). uncovered bytes (t ∷ ts) j bs) (sym at)
        ∙ line_ih k t (after p b) (omega (arith, h)) (next_rest bytes b bs p r) (omega (arith, e, size)) i
        (omega (arith, at, f)) (omega (arith, at, l))
    step false g zero h e l =
        subst
        (λ (x : ℕ). x ∷ bs ≡ drop p.at bytes →
        uncovered bytes (t ∷ tokens_from (x ∷ bs) 0 Inside p) p.at (x ∷ bs) ≡ cut_from (x ∷ bs) 0 false Inside)
        (sym (feed_blank b g).0) (λ o. lined_feed bytes bs t p ih (omega (arith, l)) o) r
    step false g (suc k) h e l =
        let size : prefix_len is_not_feed (b ∷ bs) ≡ 0 = rw g refl in absurd (omega (arith, e, size))

mutual
  unfolding cut_from tokens_from

  covered : (bytes bs : List ℕ) → Covered bytes bs
  covered bytes [] k mood p h r = refl
  covered bytes (b ∷ bs) zero mood p h r =
      kept_piece bytes b bs (covered bytes bs) mood p (piece_at mood b bs) (line_covered bytes bs) (piece_within mood b bs)
      (piece_lined mood b bs) r
  covered bytes (b ∷ bs) (suc k) mood p h r = kept_byte bytes b bs (covered bytes bs) k mood p (omega (arith, h)) r

  line_covered : (bytes bs : List ℕ) → LineCovered bytes bs
  line_covered bytes [] k t p h r e i f l = refl
  line_covered bytes (b ∷ bs) k t p h r e i f l =
      lined_byte bytes b bs (covered bytes bs) (line_covered bytes bs) k t p h r e i f l

pub erased_is_cut : (bytes : List ℕ) → erased_text bytes ≡ cut_from bytes 0 true Fresh
unfolding erased_text
erased_is_cut bytes = covered bytes bytes 0 Fresh start (omega arith) refl

-- the tokens of the text without its directive lines
pub erased_items : (bytes : List ℕ) → items_in (erased_text bytes) ≡ bare (items_in bytes)
erased_items bytes =
    items_are (erased_text bytes) (erased_text bytes) 0 Fresh start refl
    ∙ ap (λ (bs : List ℕ). items_from bs 0 Fresh 1 1) (erased_is_cut bytes) ∙ cut_items bytes 1 1
    ∙ ap bare (sym (items_are bytes bytes 0 Fresh start refl))
