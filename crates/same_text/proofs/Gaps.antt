-- The bytes of a directive line, and its line feed.
use Rattle.std.proofs.Common.{◌≡◌, ℕ, zero, suc, ◌+◌, ◌-◌, ◌<◌, Bool, true, false, List, [], ◌∷◌, ◌++◌, length, take, drop, Some, refl, sym, ap, subst, ◌∙◌, arith}
use Rattle.std.specs.List.{prefix_len}
use Rattle.c_tokens.specs.declared.kind.Kind.TheVariants as kind
use Rattle.c_tokens.specs.declared.kind.Mood.TheVariants.{Fresh, Inside}
use Rattle.c_tokens.specs.declared.kind.Token.{Token}
use Rattle.c_tokens.specs.Piece.{is_not_feed, piece_at}
use Rattle.c_tokens.specs.Text.{Place, after, token_at, tokens_from}
use Rattle.c_grammar.proofs.AsciiNames.{next_rest, after_at}
use Rattle.erasure.proofs.Cuts.{feed_blank}
use Rattle.mend.specs.Bare.{start_before, behind, gap, outside}
use Rattle.same_text.proofs.Whole.{whole_from}
use Rattle.same_text.proofs.Places.{byte_at, start_feed, behind_feed, gap_is, front_is}
use Rattle.same_text.proofs.Copies.{Copied}

module _ (bytes : List ℕ) where
  abbrev pub Gone : List ℕ → Type 0
  Gone bs = (k : ℕ) (p : Place) → k ≡ prefix_len is_not_feed bs → bs ≡ drop p.at bytes →
      outside bytes (behind bytes (p.at + k)) (tokens_from bs k Inside p) ≡ whole_from bs k false Inside []

  pub line_gone : (b : ℕ) (bs : List ℕ) (p : Place) (before rest : List ℕ) (j n : ℕ) → Gone bs → 0 < n →
      n ≡ prefix_len is_not_feed (b ∷ bs) → b ∷ bs ≡ drop p.at bytes → drop j bytes ≡ before ++ rest →
      start_before bytes p.at ≡ Some (j + length before) →
      take ((gap bytes (token_at kind.Line n p)).0 - j) (drop j bytes)
      ++ outside bytes (gap bytes (token_at kind.Line n p)).1 (tokens_from bs (n - 1) Inside (after p b))
      ≡ before ++ whole_from bs (n - 1) false Inside []
  line_gone b bs p before rest j n gone more e here text line =
      let t : Token = token_at kind.Line n p in
      let ts : List Token = tokens_from bs (n - 1) Inside (after p b) in
      let last : t.last + 1 ≡ (after p b).at + (n - 1) = omega (arith, more, after_at p b) in
      let cut = gap_is bytes t (j + length before) line in
      ap (λ (g : ℕ × ℕ). take (g.0 - j) (drop j bytes) ++ outside bytes g.1 ts) cut
      ∙ ap (λ (xs : List ℕ). xs ++ outside bytes (behind bytes (t.last + 1)) ts) (front_is bytes before rest j text)
      ∙ ap (λ (m : ℕ). before ++ outside bytes (behind bytes m) ts) last
      ∙ ap (λ (xs : List ℕ). before ++ xs)
      (gone (n - 1) (after p b) (size (is_not_feed b) refl) (next_rest bytes b bs p here))
    where
      size : (u : Bool) → is_not_feed b ≡ u → n - 1 ≡ prefix_len is_not_feed bs
      size true f =
          let more : prefix_len is_not_feed (b ∷ bs) ≡ 1 + prefix_len is_not_feed bs = rw f refl in
          omega (arith, e, more)
      size false f =
          let none : prefix_len is_not_feed (b ∷ bs) ≡ 0 = rw f refl in absurd (omega (arith, e, none, more))

  feed_gone : (bs : List ℕ) (p : Place) → Copied bytes bs → 10 ∷ bs ≡ drop p.at bytes →
      outside bytes (behind bytes (p.at + 0)) (tokens_from (10 ∷ bs) 0 Inside p)
      ≡ whole_from (10 ∷ bs) 0 false Inside []
  unfolding tokens_from whole_from piece_at
  feed_gone bs p ih here =
      let at : p.at + 0 ≡ p.at = omega arith in
      let next_is : (after p 10).at ≡ suc p.at = omega (arith, after_at p 10) in
      let end : behind bytes (p.at + 0) ≡ (after p 10).at =
      ap (behind bytes) at ∙ behind_feed bytes p.at 10 bs here refl ∙ sym (after_at p 10) in
      let rest : bs ≡ drop (after p 10).at bytes = next_rest bytes 10 bs p here in
      ap (λ (j : ℕ). outside bytes j (tokens_from bs 0 Fresh (after p 10))) end
      ∙ ih 0 Fresh (after p 10) [] [] (after p 10).at
      (record { here = rest; text = sym rest; place = omega arith })
      (record {
        fresh = λ e. (
          refl,
          ap (start_before bytes) next_is ∙ start_feed bytes p.at 10 (byte_at bytes p.at 10 bs here).0 refl
              ∙ ap (λ (n : ℕ). Some n) (let same : suc p.at ≡ (after p 10).at + 0 = omega (arith, next_is) in same),
        );
        other = λ h. refl;
      })

  pub gone_byte : (b : ℕ) (bs : List ℕ) → Copied bytes bs → Gone bs → Gone (b ∷ bs)
  unfolding tokens_from whole_from
  gone_byte b bs ih gone k p e here = step (is_not_feed b) refl k e
    where
      step : (v : Bool) → is_not_feed b ≡ v → (k : ℕ) → k ≡ prefix_len is_not_feed (b ∷ bs) →
          outside bytes (behind bytes (p.at + k)) (tokens_from (b ∷ bs) k Inside p)
          ≡ whole_from (b ∷ bs) k false Inside []
      step true f zero e =
          let size : prefix_len is_not_feed (b ∷ bs) ≡ 1 + prefix_len is_not_feed bs = rw f refl in
          absurd (omega (arith, e, size))
      step true f (suc k) e =
          let size : prefix_len is_not_feed (b ∷ bs) ≡ 1 + prefix_len is_not_feed bs = rw f refl in
          let same : p.at + suc k ≡ (after p b).at + k = omega (arith, after_at p b) in
          ap (λ (m : ℕ). outside bytes (behind bytes m) (tokens_from bs k Inside (after p b))) same
          ∙ gone k (after p b) (omega (arith, e, size)) (next_rest bytes b bs p here)
      step false f zero e =
          let feed : b ≡ 10 = (feed_blank b f).0 in
          subst
          (λ (x : ℕ). outside bytes (behind bytes (p.at + 0)) (tokens_from (x ∷ bs) 0 Inside p)
          ≡ whole_from (x ∷ bs) 0 false Inside [])
          (sym feed) (feed_gone bs p ih (ap (λ (x : ℕ). x ∷ bs) (sym feed) ∙ here))
      step false f (suc k) e =
          let size : prefix_len is_not_feed (b ∷ bs) ≡ 0 = rw f refl in absurd (omega (arith, e, size))
