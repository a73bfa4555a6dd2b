-- The last tokens, and their shapes.
use Rattle.std.proofs.Common.{◌≡◌, ◌∙◌, ℕ, zero, suc, ◌+◌, ◌<◌, ◌-◌, length, get_or, take, Bool, true, false, List, [], ◌∷◌, map, drop, reverse, Some, None, refl, sym, ap, arith}
use Rattle.std.specs.Prelude.{◌&&◌}
use Rattle.std.proofs.lemmas.List.{length-reverse, take_all}
use Rattle.c_tokens.specs.declared.kind.Sign.TheVariants as sign
use Rattle.c_grammar.specs.Terminal.{Terminal}
use Rattle.c_grammar.specs.Constants.{Shape as SpecShape, Is, AnyName, AnyNumber, ends_with, enum_word, enumerated_value, has_shape, in_enumeration, sign_is}
use Rattle.c_written.specs.declared.shapes.Shape.{Shape}
use Rattle.c_written.specs.Past.{seen_shape}
use Rattle.c_written.specs.Stack.{item_at}

pub drop_at : {X Y : Type 0} (f : X → Y) (xs : List X) (k : ℕ) (x : X) → item_at k xs ≡ Some x →
    drop k (map f xs) ≡ f x ∷ drop (k + 1) (map f xs)
drop_at f [] k x e = absurd cc
drop_at f (y ∷ ys) zero x e = let same : y ≡ x = cc in ap (λ z. f z ∷ map f ys) same
drop_at f (y ∷ ys) (suc k) x e =
    drop_at f ys k x e ∙ ap (λ (n : ℕ). f x ∷ drop n (f y ∷ map f ys)) (let one : suc (k + 1) ≡ suc k + 1 = omega arith in one)

pub drop_none : {X Y : Type 0} (f : X → Y) (xs : List X) (k : ℕ) → item_at k xs ≡ None → drop k (map f xs) ≡ []
drop_none f [] zero e = refl
drop_none f [] (suc k) e = refl
drop_none f (y ∷ ys) zero e = absurd cc
drop_none f (y ∷ ys) (suc k) e = drop_none f ys k e

within : {X : Type 0} (xs : List X) (k : ℕ) (x : X) → item_at k xs ≡ Some x → k < length xs
within [] k x e = absurd cc
within (y ∷ ys) zero x e = omega arith
within (y ∷ ys) (suc k) x e = let less : k < length ys = within ys k x e in omega arith

-- what is found is one of the items
pub peek_within : {X : Type 0} (xs : List X) (k : ℕ) (x : X) → item_at k (reverse xs) ≡ Some x → k < length xs
peek_within xs k x e = omega (arith, within (reverse xs) k x e, length-reverse xs)

-- ---- one shape after another

rest_of : {X : Type 0} (x : X) (xs : List X) → take (length (x ∷ xs) - 1) xs ≡ xs
rest_of x xs = take_all (length (x ∷ xs) - 1) xs (omega arith)

pub shapes_more : (ss : List Shape) (d : Shape) (us ws : List Terminal) (t : Terminal) → 0 < length ss → us ≡ t ∷ ws →
    has_shape (seen_shape (get_or ss 0 d)) t ≡ true →
    ends_with (map seen_shape (take (length ss - 1) (drop 1 ss))) ws ≡ ends_with (map seen_shape ss) us
shapes_more [] d us ws t l e h = absurd (omega arith)
shapes_more (s ∷ ss) d us ws t l e h =
    ap (λ (xs : List Shape). ends_with (map seen_shape xs) ws) (rest_of s ss)
    ∙ sym (ap (ends_with (map seen_shape (s ∷ ss))) e ∙ ap (λ (b : Bool). b && ends_with (map seen_shape ss) ws) h)

pub shapes_less : (ss : List Shape) (n m : ℕ) → 0 < length ss → n + length ss ≡ m →
    (n + 1) + length (take (length ss - 1) (drop 1 ss)) ≡ m
shapes_less [] n m l e = absurd (omega arith)
shapes_less (s ∷ ss) n m l e = let same = ap (λ (xs : List Shape). length xs) (rest_of s ss) in omega arith

pub shapes_not : (ss : List Shape) (d : Shape) (us ws : List Terminal) (t : Terminal) → 0 < length ss → us ≡ t ∷ ws →
    has_shape (seen_shape (get_or ss 0 d)) t ≡ false → false ≡ ends_with (map seen_shape ss) us
shapes_not [] d us ws t l e h = absurd (omega arith)
shapes_not (s ∷ ss) d us ws t l e h =
    sym (ap (ends_with (map seen_shape (s ∷ ss))) e ∙ ap (λ (b : Bool). b && ends_with (map seen_shape ss) ws) h)

pub shapes_none : (ss : List Shape) (us : List Terminal) → 0 < length ss → us ≡ [] → false ≡ ends_with (map seen_shape ss) us
shapes_none [] us l e = absurd (omega arith)
shapes_none (s ∷ ss) us l e = sym (ap (ends_with (map seen_shape (s ∷ ss))) e)

-- ---- enumerations

two : (a b : Bool) → (a && (b && true)) ≡ (a && b)
two true true = refl
two true false = refl
two false b = refl

none : (a : Bool) → (a && false) ≡ false
none true = refl
none false = refl

abbrev start : List SpecShape
start = sign_is sign.OpenBrace ∷ Is enum_word ∷ []

abbrev constant : List SpecShape
constant = sign_is sign.Comma ∷ AnyNumber ∷ sign_is sign.Equal ∷ AnyName ∷ []

pub enumeration_starts : (ts : List Terminal) → ends_with start ts ≡ true → in_enumeration ts ≡ true
enumeration_starts [] e = absurd cc
enumeration_starts (t ∷ []) e = absurd (let no = none (has_shape (sign_is sign.OpenBrace) t) in cc)
enumeration_starts (t ∷ u ∷ []) e = sym (two (has_shape (sign_is sign.OpenBrace) t) (has_shape (Is enum_word) u)) ∙ e
enumeration_starts (t ∷ u ∷ v ∷ []) e = sym (two (has_shape (sign_is sign.OpenBrace) t) (has_shape (Is enum_word) u)) ∙ e
enumeration_starts (t ∷ u ∷ v ∷ x ∷ ts) e =
    rw (sym (two (has_shape (sign_is sign.OpenBrace) t) (has_shape (Is enum_word) u)) ∙ e) refl

four : (a b c d e : Bool) → (a && (b && (c && (d && true)))) ≡ true → (a && b && c && d && e) ≡ e
four true true true true e h = refl
four false b c d e h = absurd cc
four true false c d e h = absurd cc
four true true false d e h = absurd cc
four true true true false e h = absurd cc

not_four : (a b c d e : Bool) → (a && (b && (c && (d && true)))) ≡ false → (a && b && c && d && e) ≡ false
not_four true true true true e h = absurd cc
not_four false b c d e h = refl
not_four true false c d e h = refl
not_four true true false d e h = refl
not_four true true true false e h = refl

pub enumeration_more : (ts : List Terminal) → ends_with start ts ≡ false → ends_with constant ts ≡ true →
    in_enumeration ts ≡ in_enumeration (drop 4 ts)
enumeration_more [] h e = absurd cc
enumeration_more (t ∷ []) h e = absurd (let no = none (has_shape (sign_is sign.Comma) t) in cc)
enumeration_more (t ∷ u ∷ []) h e =
    absurd (let no = none (has_shape AnyNumber u) in let more = none (has_shape (sign_is sign.Comma) t) in cc)
enumeration_more (t ∷ u ∷ v ∷ []) h e =
    absurd (let no = none (has_shape (sign_is sign.Equal) v) in let more = none (has_shape AnyNumber u) in
    let most = none (has_shape (sign_is sign.Comma) t) in cc)
enumeration_more (t ∷ u ∷ v ∷ x ∷ ts) h e =
    rw (sym (two (has_shape (sign_is sign.OpenBrace) t) (has_shape (Is enum_word) u)) ∙ h)
    (four (has_shape (sign_is sign.Comma) t) (has_shape AnyNumber u) (has_shape (sign_is sign.Equal) v) (has_shape AnyName x)
    (in_enumeration ts) e)

pub enumeration_not : (ts : List Terminal) → ends_with start ts ≡ false → ends_with constant ts ≡ false → in_enumeration ts ≡ false
enumeration_not [] h e = refl
enumeration_not (t ∷ []) h e = refl
enumeration_not (t ∷ u ∷ []) h e = sym (two (has_shape (sign_is sign.OpenBrace) t) (has_shape (Is enum_word) u)) ∙ h
enumeration_not (t ∷ u ∷ v ∷ []) h e = sym (two (has_shape (sign_is sign.OpenBrace) t) (has_shape (Is enum_word) u)) ∙ h
enumeration_not (t ∷ u ∷ v ∷ x ∷ ts) h e =
    rw (sym (two (has_shape (sign_is sign.OpenBrace) t) (has_shape (Is enum_word) u)) ∙ h)
    (not_four (has_shape (sign_is sign.Comma) t) (has_shape AnyNumber u) (has_shape (sign_is sign.Equal) v) (has_shape AnyName x)
    (in_enumeration ts) e)

abbrev named : List SpecShape
named = sign_is sign.Equal ∷ AnyName ∷ []

pub enumerated_is : (ts : List Terminal) → ends_with named ts ≡ true → enumerated_value ts ≡ in_enumeration (drop 2 ts)
enumerated_is [] e = absurd cc
enumerated_is (t ∷ []) e = absurd (let no = none (has_shape (sign_is sign.Equal) t) in cc)
enumerated_is (t ∷ x ∷ ts) e = go (has_shape (sign_is sign.Equal) t) (has_shape AnyName x) (in_enumeration ts) e
  where
    go : (a b c : Bool) → (a && (b && true)) ≡ true → (a && b && c) ≡ c
    go true true c h = refl
    go true false c h = absurd cc
    go false b c h = absurd cc
