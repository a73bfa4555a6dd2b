-- What is known of the piece at the front of a text: its size, what it leaves, and which bytes it depends on.
use Rattle.std.proofs.Common.{◌≡◌, ℕ, suc, ◌+◌, ◌-◌, ◌<◌, ◌≤◌, Bool, true, false, cond, eqb, List, [], ◌∷◌, length, take, drop, Option, Some, None, refl, sym, ap, subst, ◌∙◌, arith}
use Rattle.std.specs.Prelude.{◌&&◌}
use Rattle.std.specs.List.{prefix_len}
use Rattle.std.proofs.lemmas.List.Sums.{prefix_len-le-length}
use Rattle.std.proofs.lemmas.List.Folds.{length-prefix_len}
use Rattle.std.proofs.lemmas.Bool.{cond-true, cond-false, true≢false, or_left, or_right}
use Rattle.std.proofs.lemmas.Bool.Decides.{nat_tests}
use Rattle.c_tokens.specs.declared.kind.Sign.{Sign}
use Rattle.c_tokens.specs.declared.kind.Kind.TheVariants as kind
use Rattle.c_tokens.specs.declared.kind.Mood.{Mood}
use Rattle.c_tokens.specs.declared.kind.Mood.TheVariants.{Fresh, Inside, AfterNumber}
use Rattle.c_tokens.specs.declared.kind.Piece.{Piece}
use Rattle.c_tokens.specs.declared.kind.Piece.TheVariants as piece
use Rattle.c_tokens.specs.Piece.{is_blank, is_digit, is_name_start, is_name_part, is_not_feed, is_include, after_blank, comment_end, comment_end_from, sign_at, format_at, mark_at, starts_with_byte, piece_at, number_piece, name_piece, line_piece, comment_piece, sign_piece}
use Rattle.erasure.proofs.Pieces.{Alike, alike_front, alike_take, alike_cons, alike_prefix, more_prefix, positive, word_same, include_alike, comment_above, comment_alike}
use Rattle.erasure.proofs.Signs.{IsFit, sign_fits}
use Rattle.erasure.proofs.Formats.{IsFormatFit, format_fits}
use Rattle.erasure.proofs.Numbers.{IsNumber, number_is}

-- the piece of f at the front of b ∷ bs, where f takes what stands behind b: it has at least one byte and no more than
-- there are; f answers the same where the piece's bytes and the one behind it are the same
abbrev pub IsSound : (List ℕ → Piece) → Mood → ℕ → List ℕ → Piece → Type 0
IsSound f mood b bs (piece.Layout n m) =
    (0 < n) × (n ≤ suc (length bs)) × (m ≡ Inside) × ((cs : List ℕ) → Alike (n - 1) bs cs → f cs ≡ piece.Layout n m)
IsSound f mood b bs (piece.Token k n) =
    (0 < n) × (n ≤ suc (length bs)) × (k ≡ kind.Line → (mood ≡ Fresh) × (n ≡ prefix_len is_not_feed (b ∷ bs))) ×
    ((cs : List ℕ) → Alike (n - 1) bs cs → f cs ≡ piece.Token k n)
IsSound f mood b bs piece.Unknown = Unit {0}

module _ (mood : Mood) (b : ℕ) (bs : List ℕ) where
  passed : (f h : List ℕ → Piece) (q : Piece) → ((k : ℕ) (cs : List ℕ) → Alike k bs cs → h cs ≡ f cs) →
      IsSound f mood b bs q → IsSound h mood b bs q
  passed f h (piece.Layout n m) e s = (s.0, s.1, s.2, λ cs a. e (n - 1) cs a ∙ s.3 cs a)
  passed f h (piece.Token k n) e s = (s.0, s.1, s.2, λ cs a. e (n - 1) cs a ∙ s.3 cs a)
  passed f h piece.Unknown e s = tt

  chosen : (T : List ℕ → Bool) (f g : List ℕ → Piece) → ((k : ℕ) (cs : List ℕ) → Alike k bs cs → T cs ≡ T bs) →
      (T bs ≡ true → IsSound f mood b bs (f bs)) → (T bs ≡ false → IsSound g mood b bs (g bs)) →
      IsSound (λ u. cond (T u) (f u) (g u)) mood b bs (cond (T bs) (f bs) (g bs))
  chosen T f g same h k = step (T bs) refl
    where
      both : List ℕ → Piece
      both u = cond (T u) (f u) (g u)

      step : (t : Bool) → T bs ≡ t → IsSound (λ u. cond (T u) (f u) (g u)) mood b bs (cond t (f bs) (g bs))
      step true e =
          passed f (λ u. cond (T u) (f u) (g u)) (f bs) (λ j cs a. cond-true (T cs) (f cs) (g cs) (same j cs a ∙ e)) (h e)
      step false e =
          passed g (λ u. cond (T u) (f u) (g u)) (g bs) (λ j cs a. cond-false (T cs) (f cs) (g cs) (same j cs a ∙ e)) (k e)

  -- a prefix of such bytes at the front
  run : (p : ℕ → Bool) (cs : List ℕ) → p b ≡ true → Alike (prefix_len p (b ∷ bs) - 1) bs cs →
      (prefix_len p (b ∷ cs) ≡ prefix_len p (b ∷ bs)) × (take (prefix_len p (b ∷ cs)) (b ∷ cs) ≡ take (prefix_len p (b ∷ bs)) (b ∷ bs))
  run p cs e a =
      let n : ℕ = prefix_len p (b ∷ bs) in
      let all : Alike n (b ∷ bs) (b ∷ cs) = alike_cons n b bs cs (positive p b bs e) a in
      let same : prefix_len p (b ∷ cs) ≡ n = alike_prefix p n (b ∷ bs) (b ∷ cs) (omega arith) all in
      (same, ap (λ (k : ℕ). take k (b ∷ cs)) same ∙ sym (alike_take n (b ∷ bs) (b ∷ cs) all))

  within : (p : ℕ → Bool) → prefix_len p (b ∷ bs) ≤ suc (length bs)
  within p = prefix_len-le-length p (b ∷ bs)

  abbrev digits : List ℕ → Piece
  digits u = number_piece (take (prefix_len is_name_part (b ∷ u)) (b ∷ u))

  digits_sound : is_digit b ≡ true → IsSound digits mood b bs (digits bs)
  digits_sound e = go (digits bs) refl (subst (λ (w : List ℕ). IsNumber (length w) (number_piece w)) (sym word) (number_is (b ∷ rest) (positive is_digit b rest e)))
    where
      rest : List ℕ
      rest = take (prefix_len is_name_part bs) bs

      is_part : is_name_part b ≡ true
      is_part = or_right (is_name_start b) (is_digit b) e

      word : take (prefix_len is_name_part (b ∷ bs)) (b ∷ bs) ≡ b ∷ rest
      word = ap (λ (k : ℕ). take k (b ∷ bs)) (more_prefix is_name_part b bs is_part)

      short : length (take (prefix_len is_name_part (b ∷ bs)) (b ∷ bs)) ≤ suc (length bs)
      short = omega (arith, length-prefix_len is_name_part (b ∷ bs), prefix_len-le-length is_name_part (b ∷ bs))

      go : (q : Piece) → digits bs ≡ q → IsNumber (length (take (prefix_len is_name_part (b ∷ bs)) (b ∷ bs))) q →
          IsSound digits mood b bs q
      go (piece.Token k n) f h = (
        h.0,
        omega (arith, h.1, short),
        λ i. absurd (h.2 i),
        λ cs a. ap number_piece (word_same (b ∷ bs) (b ∷ cs) (refl, λ j. alike_front (n - 1) bs cs a)) ∙ f,
      )
      go (piece.Layout n m) f h = absurd h
      go piece.Unknown f h = absurd h

  name_sound : is_name_start b ≡ true → IsSound (λ u. name_piece mood (b ∷ u)) mood b bs (name_piece mood (b ∷ bs))
  name_sound e = go mood
    where
      is_part : is_name_part b ≡ true
      is_part = or_left (is_name_start b) (is_digit b) e

      plain : IsSound (λ u. piece.Token kind.Name (prefix_len is_name_part (b ∷ u))) mood b bs
          (piece.Token kind.Name (prefix_len is_name_part (b ∷ bs)))
      plain = (
        positive is_name_part b bs is_part,
        within is_name_part,
        λ i. absurd cc,
        λ cs a. ap (λ (n : ℕ). piece.Token kind.Name n) (run is_name_part cs is_part a).0,
      )

      go : (m : Mood) → IsSound (λ u. name_piece m (b ∷ u)) mood b bs (name_piece m (b ∷ bs))
      go Fresh = plain
      go Inside = plain
      go AfterNumber = tt

  remark_sound : is_not_feed b ≡ true → IsSound (λ u. piece.Layout (prefix_len is_not_feed (b ∷ u)) Inside) mood b bs
      (piece.Layout (prefix_len is_not_feed (b ∷ bs)) Inside)
  remark_sound e = (
    positive is_not_feed b bs e,
    within is_not_feed,
    refl,
    λ cs a. ap (λ (n : ℕ). piece.Layout n Inside) (run is_not_feed cs e a).0,
  )

  less_one : is_not_feed b ≡ true → prefix_len is_not_feed bs ≤ prefix_len is_not_feed (b ∷ bs) - 1
  less_one e = let more : prefix_len is_not_feed (b ∷ bs) ≡ 1 + prefix_len is_not_feed bs = rw e refl in omega (arith, more)

  line_sound : is_not_feed b ≡ true → IsSound (λ u. line_piece mood (b ∷ u)) mood b bs (line_piece mood (b ∷ bs))
  line_sound e = go mood refl
    where
      len : ℕ
      len = prefix_len is_not_feed (b ∷ bs)

      fresh : (t : Bool) → is_include bs ≡ t → mood ≡ Fresh → IsSound (λ u. line_piece Fresh (b ∷ u)) mood b bs
          (cond t (piece.Layout (prefix_len is_not_feed (b ∷ bs)) Inside) (piece.Token kind.Line (prefix_len is_not_feed (b ∷ bs))))
      fresh true i f = (
        positive is_not_feed b bs e,
        within is_not_feed,
        refl,
        λ cs a. let same = include_alike (prefix_len is_not_feed (b ∷ bs) - 1) bs cs (less_one e) a ∙ i in
            cond-true (is_include cs) _ _ same ∙ ap (λ (n : ℕ). piece.Layout n Inside) (run is_not_feed cs e a).0,
      )
      fresh false i f = (
        positive is_not_feed b bs e,
        within is_not_feed,
        λ j. (f, refl),
        λ cs a. let same = include_alike (prefix_len is_not_feed (b ∷ bs) - 1) bs cs (less_one e) a ∙ i in
            cond-false (is_include cs) _ _ same ∙ ap (λ (n : ℕ). piece.Token kind.Line n) (run is_not_feed cs e a).0,
      )

      go : (m : Mood) → mood ≡ m → IsSound (λ u. line_piece m (b ∷ u)) mood b bs (line_piece m (b ∷ bs))
      go Fresh f = fresh (is_include bs) refl f
      go Inside f = tt
      go AfterNumber f = tt

starts_alike : (x k : ℕ) (bs cs : List ℕ) → Alike k bs cs → starts_with_byte x cs ≡ starts_with_byte x bs
starts_alike x k bs cs a = go bs cs (alike_front k bs cs a)
  where
    go : (bs cs : List ℕ) → Alike 0 bs cs → starts_with_byte x cs ≡ starts_with_byte x bs
    go [] [] a = refl
    go (b ∷ bs) (c ∷ cs) a = ap (λ (y : ℕ). eqb y x) (sym a.0)
    go [] (c ∷ cs) a = absurd a
    go (b ∷ bs) [] a = absurd a

sign_sound : (mood : Mood) (b : ℕ) (bs : List ℕ) → IsSound (λ u. sign_piece (sign_at (b ∷ u))) mood b bs (sign_piece (sign_at (b ∷ bs)))
sign_sound mood b bs = go (sign_at (b ∷ bs)) (sign_fits b bs)
  where
    go : (o : Option (Sign × ℕ)) → IsFit b bs o → IsSound (λ u. sign_piece (sign_at (b ∷ u))) mood b bs (sign_piece o)
    go None f = tt
    go (Some s) f = (f.0, f.1, λ i. absurd cc, λ cs a. ap sign_piece (f.2 cs a))

format_sound : (mood : Mood) (b : ℕ) (bs : List ℕ) →
    IsSound (λ u. sign_piece (format_at (b ∷ u))) mood b bs (sign_piece (format_at (b ∷ bs)))
format_sound mood b bs = go (format_at (b ∷ bs)) (format_fits b bs)
  where
    go : (o : Option (Sign × ℕ)) → IsFormatFit b bs o → IsSound (λ u. sign_piece (format_at (b ∷ u))) mood b bs (sign_piece o)
    go None f = tt
    go (Some s) f = (f.0, f.1, λ i. absurd cc, λ cs a. ap sign_piece (f.2 cs a))

mark_sound : (mood : Mood) (b : ℕ) (bs : List ℕ) →
    IsSound (λ u. sign_piece (mark_at (b ∷ u))) mood b bs (sign_piece (mark_at (b ∷ bs)))
mark_sound mood b bs = go (eqb b 34)
  where
    go : (t : Bool) → IsSound (λ u. sign_piece (cond t (format_at (b ∷ u)) (sign_at (b ∷ u)))) mood b bs
        (sign_piece (cond t (format_at (b ∷ bs)) (sign_at (b ∷ bs))))
    go true = format_sound mood b bs
    go false = sign_sound mood b bs

comment_sound : (mood : Mood) (b : ℕ) (bs : List ℕ) →
    IsSound (λ u. comment_piece (comment_end (drop 1 u))) mood b bs (comment_piece (comment_end (drop 1 bs)))
unfolding comment_end_from
comment_sound mood b [] = tt
comment_sound mood b (x ∷ bs) = go (comment_end bs) refl
  where
    go : (o : Option ℕ) → comment_end bs ≡ o →
        IsSound (λ u. comment_piece (comment_end (drop 1 u))) mood b (x ∷ bs) (comment_piece o)
    go None e = tt
    go (Some r) e = (
      omega arith,
      (let both = comment_above 0 bs r e in omega (arith, both.1)),
      refl,
      λ cs a. stable cs (let P : ℕ → Type 0 = λ n. Alike n (x ∷ bs) cs in let size : r + 2 - 1 ≡ suc r = omega arith in subst P size a),
    )
      where
        stable : (cs : List ℕ) → Alike (suc r) (x ∷ bs) cs → comment_piece (comment_end (drop 1 cs)) ≡ piece.Layout (r + 2) Inside
        stable [] a = absurd a
        stable (y ∷ cs) a = ap comment_piece (comment_alike 0 bs r r cs e (omega arith) a.1)

hash_no_feed : (b : ℕ) → eqb b 35 ≡ true → is_not_feed b ≡ true
hash_no_feed b e = grind (arith, nat_tests)

slash_no_feed : (b : ℕ) (t : Bool) → (eqb b 47 && t) ≡ true → is_not_feed b ≡ true
slash_no_feed b t e = grind (arith, nat_tests)

-- the piece at the front of a text that does not begin with a blank
pub piece_sound : (mood : Mood) (b : ℕ) (bs : List ℕ) → is_blank b ≡ false → IsSound (piece_at mood b) mood b bs (piece_at mood b bs)
unfolding piece_at
piece_sound mood b bs not_blank =
    let sixth : List ℕ → Piece = λ u. sign_piece (mark_at (b ∷ u)) in
    let comment : List ℕ → Piece = λ u. comment_piece (comment_end (drop 1 u)) in
    let fifth : List ℕ → Piece = λ u. cond (eqb b 47 && starts_with_byte 42 u) (comment u) (sixth u) in
    let remark : List ℕ → Piece = λ u. piece.Layout (prefix_len is_not_feed (b ∷ u)) Inside in
    let fourth : List ℕ → Piece = λ u. cond (eqb b 47 && starts_with_byte 47 u) (remark u) (fifth u) in
    let line : List ℕ → Piece = λ u. line_piece mood (b ∷ u) in
    let third : List ℕ → Piece = λ u. cond (eqb b 35) (line u) (fourth u) in
    let name : List ℕ → Piece = λ u. name_piece mood (b ∷ u) in
    let second : List ℕ → Piece = λ u. cond (is_name_start b) (name u) (third u) in
    let number : List ℕ → Piece = λ u. digits mood b bs u in
    let first : List ℕ → Piece = λ u. cond (is_digit b) (number u) (second u) in
    let blank : List ℕ → Piece = λ u. piece.Layout 1 (after_blank b mood) in
    chosen mood b bs (λ u. is_blank b) blank first (λ k cs a. refl) (λ e. absurd (true≢false (sym e ∙ not_blank)))
    (λ e. chosen mood b bs (λ u. is_digit b) number second (λ k cs a. refl) (λ f. digits_sound mood b bs f)
    (λ f. chosen mood b bs (λ u. is_name_start b) name third (λ k cs a. refl) (λ g. name_sound mood b bs g)
    (λ g. chosen mood b bs (λ u. eqb b 35) line fourth (λ k cs a. refl) (λ h. line_sound mood b bs (hash_no_feed b h))
    (λ h. chosen mood b bs (λ u. eqb b 47 && starts_with_byte 47 u) remark fifth
    (λ k cs a. ap (λ (t : Bool). eqb b 47 && t) (starts_alike 47 k bs cs a))
    (λ i. remark_sound mood b bs (slash_no_feed b _ i))
    (λ i. chosen mood b bs (λ u. eqb b 47 && starts_with_byte 42 u) comment sixth
    (λ k cs a. ap (λ (t : Bool). eqb b 47 && t) (starts_alike 42 k bs cs a))
    (λ j. comment_sound mood b bs) (λ j. mark_sound mood b bs))))))
