-- Tokens that spell one thing after another.
use Rattle.std.proofs.Common.{◌≡◌, ℕ, ◌<◌, ◌≤◌, true, List, [], ◌∷◌, ◌++◌, length, Option, None, refl, sym, ap, subst, ◌∙◌, append_assoc, arith, append-nil}
use Rattle.c_tokens.specs.declared.kind.Sign.{Sign}
use Rattle.c_grammar.specs.Lexeme.{Lexeme, Signed, same}
use Rattle.directives.specs.declared.line.Line.{Line}
use Rattle.directives.specs.Cursor.{Items, first_item, behind, items}
use Rattle.directives.specs.Reading.{IsAt, Fits, IsSpelled}
use Rattle.directives.specs.Trees.{Spelling, sign_mark, each_behind}
use Rattle.directives.proofs.Moves.{sign_is}

fits_then : (xs ys : Spelling) (a b c : Items) → Fits xs a b → Fits ys b c → Fits (xs ++ ys) a c
fits_then [] ys a b c e h = subst (λ (u : Items). Fits ys u c) (sym e) h
fits_then (x ∷ xs) ys [] b c e h = absurd e
fits_then (x ∷ xs) ys (i ∷ is) b c e h = (e.0, e.1, fits_then xs ys is b c e.2 h)

pub spelled_then : (xs ys : Spelling) (a b c : Items) → IsSpelled xs a b → IsSpelled ys b c → IsSpelled (xs ++ ys) a c
spelled_then xs ys a b c r s = record {
  fits = fits_then xs ys a b c r.fits s.fits;
  fewer = omega (arith, r.fewer, s.fewer);
}

pub spelled_none : (a : Items) → IsSpelled [] a a
spelled_none a = record { fits = refl; fewer = omega arith }

pub spelled_as : (xs ys : Spelling) (a b : Items) → xs ≡ ys → IsSpelled xs a b → IsSpelled ys a b
spelled_as xs ys a b e r = subst (λ (zs : Spelling). IsSpelled zs a b) e r

-- one token
pub spelled_one : (l : Line) (after : Items) (t : Lexeme) (o : Option ℕ) → (first_item l).terminal ≡ t →
    IsAt o (first_item l).column → behind l ≡ after → IsSpelled ((t, o) ∷ []) (items l) after
spelled_one l after t o e h b = record {
  fits = (e, h, b);
  fewer = omega (arith, ap (λ (is : Items). length is) b);
}

-- one token and what follows it
pub spelled_first : (l l' : Line) (t : Lexeme) (o : Option ℕ) (xs : Spelling) (after : Items) →
    (first_item l).terminal ≡ t → IsAt o (first_item l).column → behind l ≡ items l' →
    IsSpelled xs (items l') after → IsSpelled ((t, o) ∷ xs) (items l) after
spelled_first l l' t o xs after e h b r =
    spelled_then ((t, o) ∷ []) xs (items l) (items l') after (spelled_one l (items l') t o e h b) r

-- one more behind a sign
pub each_more : {X : Type 0} (s : Sign) (f : X → Spelling) (xs : List X) (x : X) →
    each_behind s f (xs ++ x ∷ []) ≡ each_behind s f xs ++ (sign_mark s ∷ f x)
each_more s f [] x = ap (λ (zs : Spelling). sign_mark s ∷ zs) (append-nil (f x))
each_more s f (y ∷ ys) x = ap (λ (zs : Spelling). sign_mark s ∷ zs)
    (ap (λ (zs : Spelling). f y ++ zs) (each_more s f ys x)
    ∙ sym (append_assoc (f y) (each_behind s f ys) (sign_mark s ∷ f x)))

-- what stands behind a sign that is next
pub spelled_behind : (s : Sign) (xs : Spelling) (l l' : Line) (after : Items) → same (Signed s) (first_item l).terminal ≡ true →
    behind l ≡ items l' → IsSpelled xs (items l') after → IsSpelled (sign_mark s ∷ xs) (items l) after
spelled_behind s xs l l' after t b h = spelled_first l l' (Signed s) None xs after (sign_is l s t) tt b h

-- a list to which one more was put, behind a sign
pub spelled_more : {X : Type 0} (s : Sign) (f : X → Spelling) (xs ys : List X) (x : X) (before between after : Items) →
    ys ≡ xs ++ x ∷ [] → IsSpelled (each_behind s f xs) before between → IsSpelled (sign_mark s ∷ f x) between after →
    IsSpelled (each_behind s f ys) before after
spelled_more s f xs ys x before between after e r h =
    spelled_as (each_behind s f xs ++ (sign_mark s ∷ f x)) (each_behind s f ys) before after
    (sym (ap (each_behind s f) e ∙ each_more s f xs x))
    (spelled_then (each_behind s f xs) (sign_mark s ∷ f x) before between after r h)

-- what is spelled by a token and more has a token
fits_fewer : (xs : Spelling) (a b : Items) → Fits xs a b → length b ≤ length a
fits_fewer [] a b e = subst (λ (u : Items). length b ≤ length u) (sym e) (omega arith)
fits_fewer (x ∷ xs) [] b e = absurd e
fits_fewer (x ∷ xs) (i ∷ is) b e = omega (arith, fits_fewer xs is b e.2)

abbrev Mark : Type 0
Mark = Lexeme × Option ℕ

pub spelled_less : (x : Mark) (xs : List Mark) (a b : Items) → Fits (x ∷ xs) a b → length b < length a
spelled_less x xs [] b e = absurd e
spelled_less x xs (i ∷ is) b e = omega (arith, fits_fewer xs is b e.2)
