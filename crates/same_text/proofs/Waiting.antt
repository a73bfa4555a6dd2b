-- The tokens of a text without its directive lines, which go whole, are its other tokens, at their columns.
use Rattle.std.proofs.Common.{◌≡◌, ℕ, zero, suc, ◌+◌, Bool, true, false, List, [], ◌∷◌, refl, sym, ap, subst, ◌∙◌, arith, append-nil}
use Rattle.std.specs.List.{prefix_len}
use Rattle.c_tokens.specs.declared.kind.Mood.{Mood}
use Rattle.c_tokens.specs.declared.kind.Mood.TheVariants.{Fresh, Inside}
use Rattle.c_tokens.specs.Piece.{is_not_feed, piece_at}
use Rattle.erasure.proofs.Cuts.{column_after, feed_blank}
use Rattle.same_text.proofs.Told.{told_from}
use Rattle.same_text.proofs.Whole.{whole_from}
use Rattle.same_text.proofs.Pieces.{Skips, Waiting, Kept, Lined, waiting_byte}

lined_feed : (bs : List ℕ) → Kept bs →
    (c : ℕ) → told_from (whole_from (10 ∷ bs) 0 false Inside []) 0 Fresh 1 ≡ told_from (10 ∷ bs) 0 Inside c
unfolding whole_from told_from piece_at
lined_feed bs kept c = kept 0 Fresh 1 (omega arith) (λ e. (refl, refl))

lined_byte : (b : ℕ) (bs : List ℕ) → Kept bs → Lined bs → Lined (b ∷ bs)
unfolding whole_from told_from
lined_byte b bs kept lined k c e = step (is_not_feed b) refl k e
  where
    step : (t : Bool) → is_not_feed b ≡ t → (k : ℕ) → k ≡ prefix_len is_not_feed (b ∷ bs) →
        told_from (whole_from (b ∷ bs) k false Inside []) 0 Fresh 1 ≡ told_from (b ∷ bs) k Inside c
    step true f zero e =
        let size : prefix_len is_not_feed (b ∷ bs) ≡ 1 + prefix_len is_not_feed bs = rw f refl in
        absurd (omega (arith, e, size))
    step true f (suc k) e =
        let size : prefix_len is_not_feed (b ∷ bs) ≡ 1 + prefix_len is_not_feed bs = rw f refl in
        lined k (column_after c b) (omega (arith, e, size))
    step false f zero e =
        subst (λ (x : ℕ). told_from (whole_from (x ∷ bs) 0 false Inside []) 0 Fresh 1 ≡ told_from (x ∷ bs) 0 Inside c)
        (sym (feed_blank b f).0) (lined_feed bs kept c)
    step false f (suc k) e =
        let size : prefix_len is_not_feed (b ∷ bs) ≡ 0 = rw f refl in absurd (omega (arith, e, size))

no_more : (mood : Mood) (blanks : List ℕ) (c d : ℕ) → Skips mood blanks c d →
    told_from (whole_from [] 0 true mood blanks) 0 mood c ≡ told_from [] 0 mood d
unfolding whole_from
no_more mood blanks c d skips =
    ap (λ (xs : List ℕ). told_from xs 0 mood c) (sym (append-nil blanks)) ∙ skips []

not_zero : (k : ℕ) → suc k ≡ 0 → ⊥
not_zero k e = absurd cc

mutual
  unfolding whole_from told_from

  waiting_all : (bs : List ℕ) → Waiting bs
  waiting_all [] mood blanks c d skips front = no_more mood blanks c d skips
  waiting_all (b ∷ bs) mood blanks c d skips front =
      waiting_byte mood b bs blanks c d skips front (kept_all bs) (lined_all bs) (waiting_all bs)

  kept_all : (bs : List ℕ) → Kept bs
  kept_all [] k mood c h f = refl
  kept_all (b ∷ bs) zero mood c h f =
      waiting_byte mood b bs [] c c (λ xs. refl) (λ e. (f e).1) (kept_all bs) (lined_all bs) (waiting_all bs)
  kept_all (b ∷ bs) (suc k) mood c h f =
      kept_all bs k mood (column_after c b) (omega (arith, h)) (λ e. absurd (not_zero k (f e).0))

  lined_all : (bs : List ℕ) → Lined bs
  lined_all [] k c e = refl
  lined_all (b ∷ bs) k c e = lined_byte b bs (kept_all bs) (lined_all bs) k c e

pub whole_told : (bytes : List ℕ) → told_from (whole_from bytes 0 true Fresh []) 0 Fresh 1 ≡ told_from bytes 0 Fresh 1
whole_told bytes = waiting_all bytes Fresh [] 1 1 (λ xs. refl) (λ e. refl)
