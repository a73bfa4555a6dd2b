-- The bytes of a text that are in no gap are the text without its directive lines.
use Rattle.std.proofs.Common.{◌≡◌, ℕ, zero, suc, ◌+◌, ◌-◌, ◌<◌, Bool, true, false, cond, List, [], ◌∷◌, ◌++◌, length, take, drop, refl, sym, ap, subst, ◌∙◌, arith, append-nil}
use Rattle.c_tokens.specs.declared.kind.Kind.{Kind}
use Rattle.c_tokens.specs.declared.kind.Mood.{Mood}
use Rattle.c_tokens.specs.declared.kind.Mood.TheVariants.{Fresh, Inside}
use Rattle.c_tokens.specs.declared.kind.Piece.{Piece}
use Rattle.c_tokens.specs.declared.kind.Piece.TheVariants as piece
use Rattle.c_tokens.specs.declared.kind.Token.{Token}
use Rattle.c_tokens.specs.Piece.{is_blank, after_blank, piece_at}
use Rattle.c_tokens.specs.Text.{Place, start, after, after_kind, token_at, given, tokens_from}
use Rattle.erasure.specs.Erased.{is_taken}
use Rattle.erasure.proofs.Columns.{directs}
use Rattle.erasure.proofs.Tokens.{text_is}
use Rattle.erasure.proofs.Sound.{IsSound, piece_sound}
use Rattle.erasure.proofs.Cuts.{line_is, taken_is, not_fresh, piece_blank, inside_not_fresh}
use Rattle.mend.specs.Bare.{gap, outside, without_directives}
use Rattle.same_text.proofs.Whole.{waits, whole_piece, whole_from}
use Rattle.same_text.proofs.Places.{behind_end, blank_feed}
use Rattle.same_text.proofs.Copies.{Split, Stands, Copied, kept_byte, wait_byte}
use Rattle.same_text.proofs.Gaps.{Gone, line_gone, gone_byte}

module _ (bytes : List ℕ) where
  module _ (b : ℕ) (bs : List ℕ) (mood : Mood) (p : Place) (before blanks : List ℕ) (j : ℕ)
      (ih : Copied bytes bs) (gone : Gone bytes bs)
      (s : Split bytes (b ∷ bs) before blanks j p.at) (t : Stands bytes 0 mood blanks p.at (j + length before)) where
    abbrev go : ℕ → Mood → List Token
    go k m = tokens_from bs k m (after p b)

    abbrev left : ℕ → Bool → Mood → List ℕ
    left k keep m = whole_from bs k keep m []

    taken : (k : Kind) (n : ℕ) → 0 < n → is_taken bytes (token_at k n p) ≡ directs k (take n (b ∷ bs))
    taken k n l = taken_is bytes (token_at k n p) ∙ ap (directs k) (text_is bytes b bs p k n l s.here)

    piece_copied : (q : Piece) → IsSound (piece_at mood b) mood b bs q →
        outside bytes j (given q p go) ≡ before ++ whole_piece q b bs blanks left
    piece_copied (piece.Layout n m) u =
        kept_byte bytes b bs p before blanks j (n - 1) m ih s (λ e. absurd (inside_not_fresh m u.2 e))
    piece_copied (piece.Token k n) u =
        ap
        (λ (v : Bool). cond v (take ((gap bytes (token_at k n p)).0 - j) (drop j bytes)
        ++ outside bytes (gap bytes (token_at k n p)).1 (go (n - 1) (after_kind k)))
        (outside bytes j (go (n - 1) (after_kind k)))) (taken k n u.0)
        ∙ pick (directs k (take n (b ∷ bs))) refl
      where
        pick : (v : Bool) → directs k (take n (b ∷ bs)) ≡ v →
            cond v (take ((gap bytes (token_at k n p)).0 - j) (drop j bytes)
            ++ outside bytes (gap bytes (token_at k n p)).1 (go (n - 1) (after_kind k)))
            (outside bytes j (go (n - 1) (after_kind k)))
            ≡ before ++ cond v (left (n - 1) false Inside) (blanks ++ b ∷ left (n - 1) true (after_kind k))
        pick true i =
            let is_one = line_is k (take n (b ∷ bs)) i in
            let line = u.2 is_one in
            subst
            (λ (k : Kind). take ((gap bytes (token_at k n p)).0 - j) (drop j bytes)
            ++ outside bytes (gap bytes (token_at k n p)).1 (go (n - 1) (after_kind k))
            ≡ before ++ left (n - 1) false Inside)
            (sym is_one)
            (line_gone bytes b bs p before (blanks ++ b ∷ bs) j n gone u.0 line.1 s.here s.text (t.fresh line.0).1)
        pick false i =
            kept_byte bytes b bs p before blanks j (n - 1) (after_kind k) ih s (λ e. absurd (not_fresh k e))
    piece_copied piece.Unknown u = s.text

    byte_copied : outside bytes j (tokens_from (b ∷ bs) 0 mood p) ≡ before ++ whole_from (b ∷ bs) 0 true mood blanks
    unfolding tokens_from whole_from
    byte_copied = step (waits mood b) refl
      where
        sound : waits mood b ≡ false → (v : Bool) → is_blank b ≡ v →
            outside bytes j (given (piece_at mood b bs) p go)
            ≡ before ++ whole_piece (piece_at mood b bs) b bs blanks left
        sound w true e =
            let m : Mood = after_blank b mood in
            subst (λ (q : Piece). outside bytes j (given q p go) ≡ before ++ whole_piece q b bs blanks left)
            (sym (piece_blank mood b bs e))
            (kept_byte bytes b bs p before blanks j 0 m ih s (λ f. (refl, blank_feed mood b e w f)))
        sound w false e = piece_copied (piece_at mood b bs) (piece_sound mood b bs e)

        step : (v : Bool) → waits mood b ≡ v →
            outside bytes j (given (piece_at mood b bs) p go)
            ≡ before ++ cond v (whole_from bs 0 true mood (blanks ++ b ∷ []))
            (whole_piece (piece_at mood b bs) b bs blanks left)
        step true w = wait_byte bytes b bs mood p before blanks j ih w s t
        step false w = sound w (is_blank b) refl

  later_byte : (b : ℕ) (bs : List ℕ) → Copied bytes bs → (k : ℕ) (mood : Mood) (p : Place) (before blanks : List ℕ)
      (j : ℕ) →
      Split bytes (b ∷ bs) before blanks j p.at → (mood ≡ Fresh → ⊥) → blanks ≡ [] →
      outside bytes j (tokens_from bs k mood (after p b)) ≡ before ++ (b ∷ whole_from bs k true mood blanks)
  later_byte b bs ih k mood p before blanks j s h none =
      kept_byte bytes b bs p before blanks j k mood ih s (λ e. absurd (h e))
      ∙ ap (λ (xs : List ℕ). before ++ (xs ++ b ∷ whole_from bs k true mood [])) none
      ∙ ap (λ (xs : List ℕ). before ++ (b ∷ whole_from bs k true mood xs)) (sym none)

  not_zero : (k : ℕ) → suc k ≡ 0 → ⊥
  not_zero k e = absurd cc

  mutual
    unfolding tokens_from whole_from

    copied : (bs : List ℕ) → Copied bytes bs
    copied [] k mood p before blanks j s t = s.text ∙ ap (λ (xs : List ℕ). before ++ xs) (append-nil blanks)
    copied (b ∷ bs) zero mood p before blanks j s t =
        byte_copied b bs mood p before blanks j (copied bs) (gone_all bs) s t
    copied (b ∷ bs) (suc k) mood p before blanks j s t =
        let not_first : mood ≡ Fresh → ⊥ = λ e. not_zero k (t.fresh e).0 in
        later_byte b bs (copied bs) k mood p before blanks j s not_first (t.other not_first)

    gone_all : (bs : List ℕ) → Gone bytes bs
    gone_all [] k p e here = behind_end bytes p.at (p.at + k) here (omega arith)
    gone_all (b ∷ bs) k p e here = gone_byte bytes b bs (copied bs) (gone_all bs) k p e here

pub without_is_whole : (bytes : List ℕ) → without_directives bytes ≡ whole_from bytes 0 true Fresh []
unfolding without_directives
without_is_whole bytes =
    copied bytes bytes 0 Fresh start [] [] 0 (record { here = refl; text = refl; place = refl })
    (record { fresh = λ e. (refl, refl); other = λ h. refl })
