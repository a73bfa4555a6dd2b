-- The bytes of a text that are kept, one by one.
use Rattle.std.proofs.Common.{◌≡◌, ℕ, suc, ◌+◌, true, List, [], ◌∷◌, ◌++◌, length, drop, Some, refl, sym, ap, ◌∙◌, arith, append_assoc}
use Rattle.std.proofs.lemmas.List.{length-append}
use Rattle.c_tokens.specs.declared.kind.Mood.{Mood}
use Rattle.c_tokens.specs.declared.kind.Mood.TheVariants.{Fresh, Inside, AfterNumber}
use Rattle.c_tokens.specs.declared.kind.Piece.{Piece}
use Rattle.c_tokens.specs.Text.{Place, after, given, tokens_from}
use Rattle.c_grammar.proofs.AsciiNames.{next_rest, after_at}
use Rattle.erasure.proofs.Cuts.{piece_blank}
use Rattle.mend.specs.Bare.{start_before, outside}
use Rattle.same_text.proofs.Whole.{waits, whole_from}
use Rattle.same_text.proofs.Places.{byte_at, start_space, start_feed}
use Rattle.same_text.proofs.Pieces.{space_blank}

-- the bytes are read up to a place, and copied up to j: what is between is kept, but for the blanks, which wait
pub record Split (bytes bs before blanks : List ℕ) (j at : ℕ) : Type 0 where
  pub here : bs ≡ drop at bytes
  pub text : drop j bytes ≡ before ++ (blanks ++ bs)
  pub place : j + length before + length blanks ≡ at

-- at the front of a line only blanks wait, and elsewhere none
pub record Stands (bytes : List ℕ) (k : ℕ) (mood : Mood) (blanks : List ℕ) (at line : ℕ) : Type 0 where
  pub fresh : mood ≡ Fresh → (k ≡ 0) × (start_before bytes at ≡ Some line)
  pub other : (mood ≡ Fresh → ⊥) → blanks ≡ []

module _ (bytes : List ℕ) where
  abbrev pub Copied : List ℕ → Type 0
  Copied bs =
      (k : ℕ) (mood : Mood) (p : Place) (before blanks : List ℕ) (j : ℕ) → Split bytes bs before blanks j p.at →
      Stands bytes k mood blanks p.at (j + length before) →
      outside bytes j (tokens_from bs k mood p) ≡ before ++ whole_from bs k true mood blanks

  -- ---- a byte that is kept

  kept_split : (b : ℕ) (bs : List ℕ) (p : Place) (before blanks : List ℕ) (j : ℕ) →
      Split bytes (b ∷ bs) before blanks j p.at →
      Split bytes bs ((before ++ blanks) ++ b ∷ []) [] j (after p b).at
  kept_split b bs p before blanks j s =
      let one : length ((before ++ blanks) ++ b ∷ []) ≡ length (before ++ blanks) + 1 =
      length-append (before ++ blanks) (b ∷ []) in
      let two : length (before ++ blanks) ≡ length before + length blanks = length-append before blanks in
      record {
        here = next_rest bytes b bs p s.here;
        text = s.text ∙ sym (append_assoc before blanks (b ∷ bs)) ∙ sym (append_assoc (before ++ blanks) (b ∷ []) bs);
        place = omega (arith, one, two, s.place, after_at p b);
      }

  pub kept_byte : (b : ℕ) (bs : List ℕ) (p : Place) (before blanks : List ℕ) (j k : ℕ) (m : Mood) → Copied bs →
      Split bytes (b ∷ bs) before blanks j p.at →
      (m ≡ Fresh → (k ≡ 0) × (b ≡ 10)) →
      outside bytes j (tokens_from bs k m (after p b)) ≡ before ++ (blanks ++ b ∷ whole_from bs k true m [])
  kept_byte b bs p before blanks j k m ih s feed =
      let next = kept_split b bs p before blanks j s in
      let next_is : (after p b).at ≡ suc p.at = omega (arith, after_at p b) in
      let line : suc p.at ≡ j + length ((before ++ blanks) ++ b ∷ []) = omega (arith, next.place, next_is) in
      ih k m (after p b) ((before ++ blanks) ++ b ∷ []) [] j next
      (record {
        fresh = λ e. (
          (feed e).0,
          ap (start_before bytes) next_is
              ∙ start_feed bytes p.at b (byte_at bytes p.at b bs s.here).0 (feed e).1 ∙ ap (λ (n : ℕ). Some n) line,
        );
        other = λ h. refl;
      })
      ∙ append_assoc (before ++ blanks) (b ∷ []) (whole_from bs k true m [])
      ∙ append_assoc before blanks (b ∷ whole_from bs k true m [])

  -- ---- a blank that waits

  pub wait_byte : (b : ℕ) (bs : List ℕ) (mood : Mood) (p : Place) (before blanks : List ℕ) (j : ℕ) →
      Copied bs → waits mood b ≡ true →
      Split bytes (b ∷ bs) before blanks j p.at → Stands bytes 0 mood blanks p.at (j + length before) →
      outside bytes j (tokens_from (b ∷ bs) 0 mood p) ≡ before ++ whole_from bs 0 true mood (blanks ++ b ∷ [])
  unfolding tokens_from
  wait_byte b bs Inside p before blanks j ih w s t = absurd cc
  wait_byte b bs AfterNumber p before blanks j ih w s t = absurd cc
  wait_byte b bs Fresh p before blanks j ih w s t =
      let size : length (blanks ++ b ∷ []) ≡ length blanks + 1 = length-append blanks (b ∷ []) in
      let next_is : (after p b).at ≡ suc p.at = omega (arith, after_at p b) in
      ap (λ (q : Piece). outside bytes j (given q p (λ k m. tokens_from bs k m (after p b))))
      (piece_blank Fresh b bs (space_blank b w))
      ∙ ih 0 Fresh (after p b) before (blanks ++ b ∷ []) j
      (record {
        here = next_rest bytes b bs p s.here;
        text = s.text ∙ ap (λ (xs : List ℕ). before ++ xs) (sym (append_assoc blanks (b ∷ []) bs));
        place = omega (arith, size, s.place, after_at p b);
      })
      (record {
        fresh = λ e. (
          refl,
          ap (start_before bytes) next_is
              ∙ start_space bytes p.at b (byte_at bytes p.at b bs s.here).0 w ∙ (t.fresh refl).1,
        );
        other = λ h. absurd (h refl);
      })
