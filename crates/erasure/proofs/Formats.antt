-- The text of printf at the front of a text: its size, and which bytes it depends on.
use Rattle.std.proofs.Common.{◌≡◌, ℕ, suc, ◌-◌, ◌<◌, ◌≤◌, Bool, true, false, cond, List, ◌∷◌, length, take, Option, Some, None, refl, sym, ap, subst, ◌∙◌, arith}
use Rattle.std.specs.Prelude.{nat_eq, codes}
use Rattle.std.specs.Cmp.Lexicographic.{pointwise, same_text}
use Rattle.std.proofs.lemmas.List.{length-take}
use Rattle.c_tokens.specs.declared.kind.Sign.{Sign}
use Rattle.c_tokens.specs.declared.kind.Sign.TheVariants.{FormatNumber, FormatStart, FormatEnd, FormatInt}
use Rattle.c_tokens.specs.Piece.{begins, format_at}
use Rattle.erasure.proofs.Pieces.{Alike, alike_cons, alike_less, alike_take}

abbrev start : List ℕ
start = codes "\"%\""

abbrev end : List ℕ
end = codes "\"\\n\""

abbrev small : List ℕ
small = codes "\"%d\\n\""

abbrev long : List ℕ
long = codes "\"%lu\\n\""

abbrev longer : List ℕ
longer = codes "\"%llu\\n\""

-- the text, by which of them stands at the front
abbrev found : Bool → Bool → Bool → Bool → Bool → Option (Sign × ℕ)
found s e i l m =
    cond s (Some (FormatStart, 3))
    (cond e (Some (FormatEnd, 4))
    (cond i (Some (FormatInt, 6)) (cond l (Some (FormatNumber, 7)) (cond m (Some (FormatNumber, 8)) None))))

format_is : (bs : List ℕ) →
    format_at bs ≡ found (begins start bs) (begins end bs) (begins small bs) (begins long bs) (begins longer bs)
unfolding format_at
format_is bs = refl

begins_within : (p bs : List ℕ) → begins p bs ≡ true → length p ≤ length bs
begins_within p bs e =
    let same : length p ≡ length (take (length p) bs) = ap length (same_text p (take (length p) bs) (sym e)) in
    omega (arith, same, length-take (length p) bs)

begins_alike : (p : List ℕ) (n b : ℕ) (bs cs : List ℕ) (t : Bool) → length p ≤ n → 0 < n → Alike (n - 1) bs cs →
    begins p (b ∷ bs) ≡ t → begins p (b ∷ cs) ≡ t
begins_alike p n b bs cs t le more a e =
    let all : Alike (length p) (b ∷ bs) (b ∷ cs) =
    alike_less (length p) n (b ∷ bs) (b ∷ cs) le (alike_cons n b bs cs more a) in
    ap (λ (xs : List ℕ). pointwise nat_eq p xs) (sym (alike_take (length p) (b ∷ bs) (b ∷ cs) all)) ∙ e

-- it has at least one byte and no more than there are, and is the same where its bytes and the one behind it are
abbrev pub IsFormatFit : ℕ → List ℕ → Option (Sign × ℕ) → Type 0
IsFormatFit b bs None = Unit {0}
IsFormatFit b bs (Some s) =
    (0 < s.1) × (s.1 ≤ suc (length bs)) × ((cs : List ℕ) → Alike (s.1 - 1) bs cs → format_at (b ∷ cs) ≡ Some s)

module _ (b : ℕ) (bs : List ℕ) where
  starts : begins start (b ∷ bs) ≡ true → IsFormatFit b bs (Some (FormatStart, 3))
  starts e = (omega arith, begins_within start (b ∷ bs) e, same)
    where
      same : (cs : List ℕ) → Alike 2 bs cs → format_at (b ∷ cs) ≡ Some (FormatStart, 3)
      same cs a =
          format_is (b ∷ cs)
          ∙ ap (λ (t : Bool). found t (begins end (b ∷ cs)) (begins small (b ∷ cs))
          (begins long (b ∷ cs)) (begins longer (b ∷ cs)))
          (begins_alike start 3 b bs cs true (omega arith) (omega arith) a e)

  ends : begins start (b ∷ bs) ≡ false → begins end (b ∷ bs) ≡ true → IsFormatFit b bs (Some (FormatEnd, 4))
  ends d e = (omega arith, begins_within end (b ∷ bs) e, same)
    where
      same : (cs : List ℕ) → Alike 3 bs cs → format_at (b ∷ cs) ≡ Some (FormatEnd, 4)
      same cs a =
          format_is (b ∷ cs)
          ∙ ap (λ (t : Bool). found t (begins end (b ∷ cs)) (begins small (b ∷ cs))
          (begins long (b ∷ cs)) (begins longer (b ∷ cs)))
          (begins_alike start 4 b bs cs false (omega arith) (omega arith) a d)
          ∙ ap (λ (t : Bool). found false t (begins small (b ∷ cs)) (begins long (b ∷ cs)) (begins longer (b ∷ cs)))
          (begins_alike end 4 b bs cs true (omega arith) (omega arith) a e)

  small_numbers : begins start (b ∷ bs) ≡ false → begins end (b ∷ bs) ≡ false → begins small (b ∷ bs) ≡ true →
      IsFormatFit b bs (Some (FormatInt, 6))
  small_numbers c d e = (omega arith, begins_within small (b ∷ bs) e, same)
    where
      same : (cs : List ℕ) → Alike 5 bs cs → format_at (b ∷ cs) ≡ Some (FormatInt, 6)
      same cs a =
          format_is (b ∷ cs)
          ∙ ap (λ (t : Bool). found t (begins end (b ∷ cs)) (begins small (b ∷ cs))
          (begins long (b ∷ cs)) (begins longer (b ∷ cs)))
          (begins_alike start 6 b bs cs false (omega arith) (omega arith) a c)
          ∙ ap (λ (t : Bool). found false t (begins small (b ∷ cs)) (begins long (b ∷ cs)) (begins longer (b ∷ cs)))
          (begins_alike end 6 b bs cs false (omega arith) (omega arith) a d)
          ∙ ap (λ (t : Bool). found false false t (begins long (b ∷ cs)) (begins longer (b ∷ cs)))
          (begins_alike small 6 b bs cs true (omega arith) (omega arith) a e)

  numbers : begins start (b ∷ bs) ≡ false → begins end (b ∷ bs) ≡ false → begins small (b ∷ bs) ≡ false →
      begins long (b ∷ bs) ≡ true → IsFormatFit b bs (Some (FormatNumber, 7))
  numbers c d e f = (omega arith, begins_within long (b ∷ bs) f, same)
    where
      same : (cs : List ℕ) → Alike 6 bs cs → format_at (b ∷ cs) ≡ Some (FormatNumber, 7)
      same cs a =
          format_is (b ∷ cs)
          ∙ ap (λ (t : Bool). found t (begins end (b ∷ cs)) (begins small (b ∷ cs))
          (begins long (b ∷ cs)) (begins longer (b ∷ cs)))
          (begins_alike start 7 b bs cs false (omega arith) (omega arith) a c)
          ∙ ap (λ (t : Bool). found false t (begins small (b ∷ cs)) (begins long (b ∷ cs)) (begins longer (b ∷ cs)))
          (begins_alike end 7 b bs cs false (omega arith) (omega arith) a d)
          ∙ ap (λ (t : Bool). found false false t (begins long (b ∷ cs)) (begins longer (b ∷ cs)))
          (begins_alike small 7 b bs cs false (omega arith) (omega arith) a e)
          ∙ ap (λ (t : Bool). found false false false t (begins longer (b ∷ cs)))
          (begins_alike long 7 b bs cs true (omega arith) (omega arith) a f)

  long_numbers : begins start (b ∷ bs) ≡ false → begins end (b ∷ bs) ≡ false → begins small (b ∷ bs) ≡ false →
      begins long (b ∷ bs) ≡ false → begins longer (b ∷ bs) ≡ true → IsFormatFit b bs (Some (FormatNumber, 8))
  long_numbers c d e f g = (omega arith, begins_within longer (b ∷ bs) g, same)
    where
      same : (cs : List ℕ) → Alike 7 bs cs → format_at (b ∷ cs) ≡ Some (FormatNumber, 8)
      same cs a =
          format_is (b ∷ cs)
          ∙ ap (λ (t : Bool). found t (begins end (b ∷ cs)) (begins small (b ∷ cs))
          (begins long (b ∷ cs)) (begins longer (b ∷ cs)))
          (begins_alike start 8 b bs cs false (omega arith) (omega arith) a c)
          ∙ ap (λ (t : Bool). found false t (begins small (b ∷ cs)) (begins long (b ∷ cs)) (begins longer (b ∷ cs)))
          (begins_alike end 8 b bs cs false (omega arith) (omega arith) a d)
          ∙ ap (λ (t : Bool). found false false t (begins long (b ∷ cs)) (begins longer (b ∷ cs)))
          (begins_alike small 8 b bs cs false (omega arith) (omega arith) a e)
          ∙ ap (λ (t : Bool). found false false false t (begins longer (b ∷ cs)))
          (begins_alike long 8 b bs cs false (omega arith) (omega arith) a f)
          ∙ ap (λ (t : Bool). found false false false false t)
          (begins_alike longer 8 b bs cs true (omega arith) (omega arith) a g)

  pub format_fits : IsFormatFit b bs (format_at (b ∷ bs))
  format_fits =
      subst (λ (o : Option (Sign × ℕ)). IsFormatFit b bs o) (sym (format_is (b ∷ bs)))
      (first (begins start (b ∷ bs)) (begins end (b ∷ bs)) (begins small (b ∷ bs)) (begins long (b ∷ bs))
      (begins longer (b ∷ bs)) refl refl refl refl refl)
    where
      first : (s e i l m : Bool) → begins start (b ∷ bs) ≡ s → begins end (b ∷ bs) ≡ e → begins small (b ∷ bs) ≡ i →
          begins long (b ∷ bs) ≡ l → begins longer (b ∷ bs) ≡ m → IsFormatFit b bs (found s e i l m)
      first true e i l m g h j k n = starts g
      first false true i l m g h j k n = ends g h
      first false false true l m g h j k n = small_numbers g h j
      first false false false true m g h j k n = numbers g h j k
      first false false false false true g h j k n = long_numbers g h j k n
      first false false false false false g h j k n = tt
