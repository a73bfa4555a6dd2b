-- Numbers of the type int are seen, and their types put, without a look at directive lines.
use Rattle.std.proofs.Common.{◌≡◌, ◌∙◌, ◌++◌, ℕ, zero, suc, Bool, true, false, cond, [], ◌∷◌, refl, ap}
use Rattle.std.specs.Prelude.{◌&&◌}
use Rattle.c_tokens.specs.declared.kind.Sign.TheVariants as sign
use Rattle.c_grammar.specs.Lexeme.{Int, Uint64}
use Rattle.c_grammar.specs.Terminal.{Terminal, Fixed, Mark, same}
use Rattle.c_grammar.specs.Texts.{Item}
use Rattle.c_grammar.specs.Blocks.{Items, at, bare, is_directive}
use Rattle.c_grammar.specs.Constants.{is_mark}
use Rattle.c_grammar.specs.Types.{Found, Onward, Place, all_fine, all_fit, converts, first_place, found, is_needless, named_behind, nothing_left, of_one_type, parts, place_behind, put, put_comma, put_on, retyped, retyped_by, same_type, type_at, widens}
use Rattle.c_grammar.proofs.BareTokens.{ArePlain, IsBare, IsPlain, either, either_plain, same_bare, some}

-- ---- what is written

type_plain : (wide : Bool) (i : Item Terminal) → IsPlain (type_at wide i)
type_plain true i = refl
type_plain false i = refl

comma_plain : (f : Found) (p : Place) (i : Item Terminal) (is : Items) → IsPlain i → ArePlain (put_comma f p i is)
comma_plain f p i is h =
    let wide : Bool = converts f (named_behind is) in
    either_plain (same_type wide p.wide) (i ∷ []) (at i (Mark sign.Semicolon) ∷ type_at wide i ∷ []) (h, tt)
    (refl, (type_plain wide i, tt))

word_plain : (b : Bool) (i : Item Terminal) → IsPlain i → IsPlain (cond b (at i (Fixed Uint64)) i)
word_plain true i h = refl
word_plain false i h = h

put_plain : (f : Found) (p : Place) (i : Item Terminal) (is : Items) → IsPlain i → ArePlain (put f p i is)
put_plain f p i is h =
    either_plain (same (Fixed Int) i.terminal) _ _ (word_plain (widens f p is) i h, tt)
    (either_plain (parts p i) _ _ (comma_plain f p i is h)
    (either_plain (is_mark sign.FormatInt i) [] (i ∷ []) tt (h, tt)))

-- ---- all tokens

abbrev OnwardBare : Onward → Onward → Type 0
OnwardBare go' go = (p : Place) (k : ℕ) → IsBare (go' p k) (go p k)

on_bare : (f : Found) (p : Place) (k : ℕ) (i : Item Terminal) (is : Items) (go go' : Onward) → IsPlain i
    → OnwardBare go' go → IsBare (put_on f p k i is go') (put_on f p k i is go)
on_bare f p (suc k) i is go go' h r = r (place_behind f p i is) k
on_bare f p zero i is go go' h r =
    let q : Place = place_behind f p i is in
    either (is_needless f p i is) (go q 1) (put f p i is ++ go q 0) (go' q 1) (put f p i is ++ go' q 0) (r q 1)
    (some (put f p i is) (go q 0) (go' q 0) (put_plain f p i is h) (r q 0))

retyped_bare : (f : Found) (is : Items) (p : Place) (k : ℕ) → IsBare (retyped f p k (bare is)) (retyped f p k is)
retyped_bare f [] p k = refl
retyped_bare f (i ∷ is) p k = step (retyped_bare f is) (is_directive i.terminal) refl
  where
    step : ((p : Place) (k : ℕ) → IsBare (retyped f p k (bare is)) (retyped f p k is)) → (b : Bool) →
        is_directive i.terminal ≡ b → IsBare (retyped f p k (bare (i ∷ is))) (retyped f p k (i ∷ is))
    step ih true e = rw e (rw e (ih p k))
    step ih false e =
        rw e (rw e (ap (λ (js : Items). put_on f p k i js (λ p k. retyped f p k (bare is))) (same_bare is)
        ∙ on_bare f p k i (bare is) (λ p k. retyped f p k is) (λ p k. retyped f p k (bare is)) e (λ p k. ih p k)))

by_bare : (f : Found) (bared is : Items) → IsBare (retyped_by f bared (bare is)) (retyped_by f bared is)
by_bare f bared is =
    either (all_fit f && all_fine f nothing_left bared) (retyped f first_place 0 is) is
    (retyped f first_place 0 (bare is))
    (bare is) (retyped_bare f is first_place 0) refl

pub types_bare : (is : Items) → of_one_type (bare is) ≡ bare (of_one_type is)
types_bare is =
    ap (λ (js : Items). retyped_by (found js) js (bare is)) (same_bare is) ∙ by_bare (found (bare is)) (bare is) is
