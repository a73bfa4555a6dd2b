-- The sign at the front of a text: its size, and which bytes it depends on.
use Rattle.std.proofs.Common.{◌≡◌, ℕ, suc, ◌-◌, ◌<◌, ◌≤◌, Bool, true, false, eqb, List, [], ◌∷◌, length, Option, Some, None, refl, sym, ap, ◌∙◌, arith}
use Rattle.std.specs.Prelude.{◌&&◌}
use Rattle.std.proofs.lemmas.Bool.Decides.{nat_tests}
use Rattle.c_tokens.specs.declared.kind.Sign.{Sign}
use Rattle.c_tokens.specs.Piece.{sign_one, sign_two, sign_three, sign_at, one_of, two_or, three_or, short_sign}
use Rattle.erasure.proofs.Pieces.{Alike}

-- ---- a sign of three bytes begins with one of two

both_are : (a b x : ℕ) → (sign_two x x ≡ None → ⊥) → sign_two a b ≡ None → (eqb a x && eqb b x) ≡ false
both_are a b x h e = step (eqb a x) (eqb b x) refl refl
  where
    step : (t u : Bool) → eqb a x ≡ t → eqb b x ≡ u → (eqb a x && eqb b x) ≡ false
    step true true f g =
        let first : a ≡ x = grind (arith, nat_tests) in
        let second : b ≡ x = grind (arith, nat_tests) in
        absurd (h (ap (λ (y : ℕ). sign_two y x) (sym first) ∙ ap (λ (y : ℕ). sign_two a y) (sym second) ∙ e))
    step true false f g = rw (f, g) refl
    step false u f g = rw f refl

left_is : sign_two 60 60 ≡ None → ⊥
unfolding sign_two
left_is e = absurd cc

right_is : sign_two 62 62 ≡ None → ⊥
unfolding sign_two
right_is e = absurd cc

no_third : (x y z : Bool) → (x && y) ≡ false → (x && y && z) ≡ false
no_third true true z e = absurd cc
no_third true false z e = refl
no_third false y z e = refl

no_three : (a b c : ℕ) → sign_two a b ≡ None → sign_three a b c ≡ None
unfolding sign_three
no_three a b c e =
    let l : (eqb a 60 && eqb b 60 && eqb c 61) ≡ false = no_third (eqb a 60) (eqb b 60) (eqb c 61) (both_are a b 60 left_is e) in
    let r : (eqb a 62 && eqb b 62 && eqb c 61) ≡ false = no_third (eqb a 62) (eqb b 62) (eqb c 61) (both_are a b 62 right_is e) in
    rw (l, r) refl

-- ---- the sign with what follows

short_is : (a b : ℕ) (s : Option Sign) → sign_two a b ≡ None → sign_one a ≡ s → short_sign a b ≡ one_of s
short_is a b s e f = rw (e, f) refl

-- where the second byte belongs to no sign
alone : (a b : ℕ) (bs : List ℕ) (o : Option Sign) → sign_two a b ≡ None → sign_one a ≡ o → sign_at (a ∷ b ∷ bs) ≡ one_of o
unfolding sign_at
alone a b [] o e f = short_is a b o e f
alone a b (c ∷ bs) o e f = rw (no_three a b c e) (short_is a b o e f)

pair : (a b c : ℕ) (bs : List ℕ) (s : Sign) → sign_three a b c ≡ None → sign_two a b ≡ Some s →
    sign_at (a ∷ b ∷ c ∷ bs) ≡ Some (s, 2)
unfolding sign_at
pair a b c bs s e f = rw (e, f) refl

pair_ends : (a b : ℕ) (s : Sign) → sign_two a b ≡ Some s → sign_at (a ∷ b ∷ []) ≡ Some (s, 2)
unfolding sign_at
pair_ends a b s f = rw f refl

triple : (a b c : ℕ) (bs : List ℕ) (s : Sign) → sign_three a b c ≡ Some s → sign_at (a ∷ b ∷ c ∷ bs) ≡ Some (s, 3)
unfolding sign_at
triple a b c bs s e = rw e refl

ends : (a : ℕ) (o : Option Sign) → sign_one a ≡ o → sign_at (a ∷ []) ≡ one_of o
unfolding sign_at
ends a o e = ap one_of e

-- ---- which bytes it depends on

-- it has at least one byte and no more than there are, and is the same where its bytes and the one behind it are
abbrev pub IsFit : ℕ → List ℕ → Option (Sign × ℕ) → Type 0
IsFit b bs None = Unit {0}
IsFit b bs (Some s) =
    (0 < s.1) × (s.1 ≤ suc (length bs)) × ((cs : List ℕ) → Alike (s.1 - 1) bs cs → sign_at (b ∷ cs) ≡ Some s)

fit_end : (b : ℕ) (o : Option Sign) → sign_one b ≡ o → IsFit b [] (one_of o)
fit_end b None e = tt
fit_end b (Some s) e = (omega arith, omega arith, same)
  where
    same : (cs : List ℕ) → Alike 0 [] cs → sign_at (b ∷ cs) ≡ Some (s, 1)
    same [] a = ends b (Some s) e
    same (c ∷ cs) a = absurd a

fit_one : (b c : ℕ) (bs : List ℕ) (o : Option Sign) → sign_two b c ≡ None → sign_one b ≡ o → IsFit b (c ∷ bs) (one_of o)
fit_one b c bs None h e = tt
fit_one b c bs (Some s) h e = (omega arith, omega arith, same)
  where
    same : (cs : List ℕ) → Alike 0 (c ∷ bs) cs → sign_at (b ∷ cs) ≡ Some (s, 1)
    same [] a = absurd a
    same (d ∷ cs) a = alone b d cs (Some s) (ap (λ (x : ℕ). sign_two b x) (sym a.0) ∙ h) e

fit_two : (b c : ℕ) (s : Sign) → sign_two b c ≡ Some s → IsFit b (c ∷ []) (Some (s, 2))
fit_two b c s h = (omega arith, omega arith, same)
  where
    same : (cs : List ℕ) → Alike 1 (c ∷ []) cs → sign_at (b ∷ cs) ≡ Some (s, 2)
    same [] a = absurd a
    same (d ∷ []) a = pair_ends b d s (ap (λ (x : ℕ). sign_two b x) (sym a.0) ∙ h)
    same (d ∷ f ∷ cs) a = absurd a.1

fit_pair : (b c d : ℕ) (bs : List ℕ) (s : Sign) → sign_three b c d ≡ None → sign_two b c ≡ Some s →
    IsFit b (c ∷ d ∷ bs) (Some (s, 2))
fit_pair b c d bs s g h = (omega arith, omega arith, same)
  where
    same : (cs : List ℕ) → Alike 1 (c ∷ d ∷ bs) cs → sign_at (b ∷ cs) ≡ Some (s, 2)
    same [] a = absurd a
    same (x ∷ []) a = absurd a.1
    same (x ∷ y ∷ cs) a =
        pair b x y cs s
        (ap (λ (z : ℕ). sign_three b z y) (sym a.0) ∙ ap (λ (z : ℕ). sign_three b c z) (sym a.1.0) ∙ g)
        (ap (λ (z : ℕ). sign_two b z) (sym a.0) ∙ h)

fit_triple : (b c d : ℕ) (bs : List ℕ) (s : Sign) → sign_three b c d ≡ Some s → IsFit b (c ∷ d ∷ bs) (Some (s, 3))
fit_triple b c d bs s g = (omega arith, omega arith, same)
  where
    same : (cs : List ℕ) → Alike 2 (c ∷ d ∷ bs) cs → sign_at (b ∷ cs) ≡ Some (s, 3)
    same [] a = absurd a
    same (x ∷ []) a = absurd a.1
    same (x ∷ y ∷ cs) a =
        triple b x y cs s (ap (λ (z : ℕ). sign_three b z y) (sym a.0) ∙ ap (λ (z : ℕ). sign_three b c z) (sym a.1.0) ∙ g)

pub sign_fits : (b : ℕ) (bs : List ℕ) → IsFit b bs (sign_at (b ∷ bs))
unfolding sign_at
sign_fits b [] = fit_end b (sign_one b) refl
sign_fits b (c ∷ []) = two (sign_two b c) refl
  where
    two : (o : Option Sign) → sign_two b c ≡ o → IsFit b (c ∷ []) (two_or o (one_of (sign_one b)))
    two None h = fit_one b c [] (sign_one b) h refl
    two (Some s) h = fit_two b c s h
sign_fits b (c ∷ d ∷ bs) = three (sign_three b c d) refl
  where
    two : (o : Option Sign) → sign_three b c d ≡ None → sign_two b c ≡ o →
        IsFit b (c ∷ d ∷ bs) (two_or o (one_of (sign_one b)))
    two None g h = fit_one b c (d ∷ bs) (sign_one b) h refl
    two (Some s) g h = fit_pair b c d bs s g h

    three : (o : Option Sign) → sign_three b c d ≡ o → IsFit b (c ∷ d ∷ bs) (three_or o (short_sign b c))
    three None g = two (sign_two b c) g refl
    three (Some s) g = fit_triple b c d bs s g
