-- Tokens without directive lines.
use Rattle.std.proofs.Common.{◌≡◌, Bool, true, false, cond, [], ◌∷◌, ◌++◌, refl, ap}
use Rattle.c_grammar.specs.Terminal.{Terminal}
use Rattle.c_grammar.specs.Texts.{Item}
use Rattle.c_grammar.specs.Blocks.{Items, is_directive, bare}

-- no directive line
abbrev pub IsPlain : Item Terminal → Type 0
IsPlain i = is_directive i.terminal ≡ false

abbrev pub ArePlain : Items → Type 0
ArePlain [] = Unit {0}
ArePlain (i ∷ is) = IsPlain i × ArePlain is

-- the first are the second without directive lines
abbrev pub IsBare : Items → Items → Type 0
IsBare bs is = bs ≡ bare is

pub either : (b : Bool) (x y x' y' : Items) → IsBare x' x → IsBare y' y → IsBare (cond b x' y') (cond b x y)
either true x y x' y' h k = h
either false x y x' y' h k = k

pub one : (i : Item Terminal) (x x' : Items) → IsPlain i → IsBare x' x → IsBare (i ∷ x') (i ∷ x)
one i x x' h e = rw h (ap (λ (v : Items). i ∷ v) e)

pub some : (is x x' : Items) → ArePlain is → IsBare x' x → IsBare (is ++ x') (is ++ x)
some [] x x' h e = e
some (i ∷ is) x x' h e = one i (is ++ x) (is ++ x') h.0 (some is x x' h.1 e)

pub either_plain : (b : Bool) (x y : Items) → ArePlain x → ArePlain y → ArePlain (cond b x y)
either_plain true x y h k = h
either_plain false x y h k = k

pub plain_bare : (is : Items) → ArePlain (bare is)
plain_bare [] = tt
plain_bare (i ∷ is) = go (plain_bare is) (is_directive i.terminal) refl
  where
    go : ArePlain (bare is) → (b : Bool) → is_directive i.terminal ≡ b → ArePlain (cond b (bare is) (i ∷ bare is))
    go h true e = h
    go h false e = (e, h)

pub same_bare : (is : Items) → bare (bare is) ≡ bare is
same_bare is = go (bare is) (plain_bare is)
  where
    go : (js : Items) → ArePlain js → bare js ≡ js
    go [] h = refl
    go (j ∷ js) h = (let e : is_directive j.terminal ≡ false = h.0 in rw e (ap (λ (v : Items). j ∷ v) (go js h.1)))

pub both_plain : (is js : Items) → ArePlain is → ArePlain js → ArePlain (is ++ js)
both_plain [] js h k = k
both_plain (i ∷ is) js h k = (h.0, both_plain is js h.1 k)

pub bare_both : (is js : Items) → bare (is ++ js) ≡ bare is ++ bare js
bare_both [] js = refl
bare_both (i ∷ is) js = go (is_directive i.terminal) (bare_both is js)
  where
    go : (b : Bool) → bare (is ++ js) ≡ bare is ++ bare js →
        cond b (bare (is ++ js)) (i ∷ bare (is ++ js)) ≡ cond b (bare is) (i ∷ bare is) ++ bare js
    go true e = e
    go false e = ap (λ (v : Items). i ∷ v) e

pub plain_kept : (is : Items) → ArePlain is → bare is ≡ is
plain_kept [] h = refl
plain_kept (i ∷ is) h =
    (let e : is_directive i.terminal ≡ false = h.0 in rw e (ap (λ (v : Items). i ∷ v) (plain_kept is h.1)))
