-- Where a directive line begins and ends, and what is copied before it.
use Rattle.std.proofs.Common.{◌≡◌, ℕ, zero, suc, ◌+◌, ◌-◌, ◌<◌, ◌≤◌, Bool, true, false, cond, eqb, List, [], ◌∷◌, ◌++◌, length, take, drop, Option, Some, None, refl, ap, ◌∙◌, arith}
use Rattle.std.specs.Prelude.{◌&&◌, nat_lt, slice_index}
use Rattle.std.specs.Option.{option_map_or}
use Rattle.std.proofs.lemmas.List.{drop_all, length-drop, take-append-le, take_all}
use Rattle.std.proofs.lemmas.Bool.Decides.{nat_tests}
use Rattle.c_tokens.specs.declared.kind.Mood.{Mood}
use Rattle.c_tokens.specs.declared.kind.Mood.TheVariants.{Fresh, Inside, AfterNumber}
use Rattle.c_tokens.specs.declared.kind.Token.{Token}
use Rattle.c_tokens.specs.Piece.{is_blank, after_blank}
use Rattle.mend.specs.Bare.{is_space, start_before, behind, gap}
use Rattle.same_text.proofs.Whole.{waits}

-- the byte at a place
pub byte_at : (bytes : List ℕ) (k b : ℕ) (bs : List ℕ) → b ∷ bs ≡ drop k bytes →
    (slice_index bytes k ≡ b) × (k < length bytes)
byte_at [] zero b bs e = absurd cc
byte_at [] (suc k) b bs e = absurd cc
byte_at (x ∷ xs) zero b bs e = (cc, omega arith)
byte_at (x ∷ xs) (suc k) b bs e = let both = byte_at xs k b bs e in (both.0, omega (arith, both.1))

space_no_feed : (b : ℕ) → is_space b ≡ true → eqb b 10 ≡ false
space_no_feed b e = grind (arith, nat_tests)

-- a line begins where it does before a blank
pub start_space : (bytes : List ℕ) (k b : ℕ) → slice_index bytes k ≡ b → is_space b ≡ true →
    start_before bytes (suc k) ≡ start_before bytes k
start_space bytes k b i e =
    let no_feed : eqb b 10 ≡ false = space_no_feed b e in
    ap (λ (x : ℕ). cond (eqb x 10) (Some (suc k)) (cond (is_space x) (start_before bytes k) None)) i
    ∙ ap (λ (t : Bool). cond t (Some (suc k)) (cond (is_space b) (start_before bytes k) None)) no_feed
    ∙ ap (λ (t : Bool). cond t (start_before bytes k) None) e

-- one begins behind a line feed
pub start_feed : (bytes : List ℕ) (k b : ℕ) → slice_index bytes k ≡ b → b ≡ 10 →
    start_before bytes (suc k) ≡ Some (suc k)
start_feed bytes k b i e =
    ap (λ (x : ℕ). cond (eqb x 10) (Some (suc k)) (cond (is_space x) (start_before bytes k) None)) (i ∙ e)

pub behind_feed : (bytes : List ℕ) (k b : ℕ) (bs : List ℕ) → b ∷ bs ≡ drop k bytes → b ≡ 10 → behind bytes k ≡ k + 1
behind_feed bytes k b bs e feed =
    let both = byte_at bytes k b bs e in
    ap (λ (t : Bool). cond t (k + 1) k) (tests (length bytes) (slice_index bytes k) both.1 (both.0 ∙ feed))
  where
    tests : (n x : ℕ) → k < n → x ≡ 10 → (nat_lt k n && eqb x 10) ≡ true
    tests n x l i = grind (arith, nat_tests)

-- nothing is left behind the end
pub behind_end : (bytes : List ℕ) (k m : ℕ) → [] ≡ drop k bytes → k ≤ m → drop (behind bytes m) bytes ≡ []
behind_end bytes k m e l = step (nat_lt m (length bytes) && eqb (slice_index bytes m) 10)
  where
    short : length bytes ≤ m
    short = let size : 0 ≡ length (drop k bytes) = ap length e in omega (arith, size, length-drop k bytes, l)

    step : (t : Bool) → drop (cond t (m + 1) m) bytes ≡ []
    step true = drop_all (m + 1) bytes (omega (arith, short))
    step false = drop_all m bytes short

-- the blank of a new line is a line feed, unless it waits
pub blank_feed : (mood : Mood) (b : ℕ) → is_blank b ≡ true → waits mood b ≡ false → after_blank b mood ≡ Fresh → b ≡ 10
blank_feed Fresh b e w f = grind (arith, nat_tests)
blank_feed Inside b e w f = step (eqb b 10) refl f
  where
    step : (t : Bool) → eqb b 10 ≡ t → cond t Fresh Inside ≡ Fresh → b ≡ 10
    step true i f = grind (arith, nat_tests)
    step false i f = absurd cc
blank_feed AfterNumber b e w f = step (eqb b 10) refl f
  where
    step : (t : Bool) → eqb b 10 ≡ t → cond t Fresh Inside ≡ Fresh → b ≡ 10
    step true i f = grind (arith, nat_tests)
    step false i f = absurd cc

-- a line's gap, where the line begins there
pub gap_is : (bytes : List ℕ) (t : Token) (start : ℕ) → start_before bytes t.first ≡ Some start →
    gap bytes t ≡ (start, behind bytes (t.last + 1))
gap_is bytes t start e =
    ap (λ (o : Option ℕ). option_map_or (λ s. (s, behind bytes (t.last + 1))) o (t.first, t.last + 1)) e

-- what stands before the gap
pub front_is : (bytes pre rest : List ℕ) (j : ℕ) → drop j bytes ≡ pre ++ rest →
    take (j + length pre - j) (drop j bytes) ≡ pre
front_is bytes pre rest j e =
    let size : j + length pre - j ≡ length pre = omega arith in
    ap (λ (n : ℕ). take n (drop j bytes)) size ∙ ap (take (length pre)) e
    ∙ take-append-le (length pre) pre rest (omega arith) ∙ take_all (length pre) pre (omega arith)
