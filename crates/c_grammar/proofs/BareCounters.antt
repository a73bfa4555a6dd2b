-- Names of loops that are declared before them, and scalars without a value, are written out without a look at directive
-- lines.
use Rattle.std.proofs.Common.{◌≡◌, ◌∙◌, ℕ, zero, suc, Bool, true, false, [], ◌∷◌, ◌++◌, Option, Some, None, refl, ap}
use Rattle.c_grammar.specs.Lexeme.{Uint64}
use Rattle.c_grammar.specs.Terminal.{Terminal, Fixed}
use Rattle.c_grammar.specs.Texts.{Item}
use Rattle.c_grammar.specs.Blocks.{Items, at, bare, is_directive}
use Rattle.c_grammar.specs.Constants.{depth_behind}
use Rattle.c_grammar.specs.Counters.{Before, Found, Onward, Other, behind, counted, counted_in, counted_on, declaration_len, found, is_bare, nothing_found, put, put_on, type_for}
use Rattle.c_grammar.specs.Unset.{is_unset, zero_at, zero_for, zeroed, zeroed_in}
use Rattle.c_grammar.proofs.BareTokens.{IsBare, IsPlain, either_plain, one, same_bare, some}

-- ---- names of loops

abbrev GoBare : Onward → Onward → Type 0
GoBare go' go = (d : ℕ) (b : Before) (k : ℕ) → IsBare (go' d b k) (go d b k)

put_bare : (f : Found) (d : ℕ) (b : Before) (i : Item Terminal) (is : Items) (go go' : Onward) → IsPlain i → GoBare go' go →
    IsBare (put f d b i is go') (put f d b i is go)
put_bare f d b i is go go' h r =
    some (type_for f b i is) _ _ (either_plain (is_bare f b i is) (at i (Fixed Uint64) ∷ []) [] (refl, tt) tt)
    (one i _ _ h (r _ _ _))

on_bare : (f : Found) (d : ℕ) (b : Before) (i : Item Terminal) (is : Items) (o : Option ℕ) (go go' : Onward) → IsPlain i →
    GoBare go' go → IsBare (put_on f d b i is o go') (put_on f d b i is o go)
on_bare f d b i is None go go' h r = put_bare f d b i is go go' h r
on_bare f d b i is (Some n) go go' h r = r _ _ _

counted_on_bare : (k : ℕ) (f : Found) (d : ℕ) (b : Before) (i : Item Terminal) (is : Items) (go go' : Onward) → IsPlain i →
    GoBare go' go → IsBare (counted_on f d b k i is go') (counted_on f d b k i is go)
counted_on_bare zero f d b i is go go' h r = on_bare f d b i is (declaration_len f d b i is) go go' h r
counted_on_bare (suc k) f d b i is go go' h r = r _ _ _

counted_in_bare : (is : Items) (f : Found) (d : ℕ) (b : Before) (k : ℕ) →
    IsBare (counted_in f d b k (bare is)) (counted_in f d b k is)
counted_in_bare [] f d b k = refl
counted_in_bare (i ∷ is) f d b k = step (counted_in_bare is f) (is_directive i.terminal) refl
  where
    step : GoBare (λ d b k. counted_in f d b k (bare is)) (λ d b k. counted_in f d b k is) → (t : Bool) →
        is_directive i.terminal ≡ t → IsBare (counted_in f d b k (bare (i ∷ is))) (counted_in f d b k (i ∷ is))
    step ih true e = rw e (rw e (ih d b k))
    step ih false e =
        rw e (rw e (ap (λ (js : Items). counted_on f d b k i js (λ d b k. counted_in f d b k (bare is))) (same_bare is)
        ∙ counted_on_bare k f d b i (bare is) (λ d b k. counted_in f d b k is) (λ d b k. counted_in f d b k (bare is)) e ih))

pub counted_bare : (is : Items) → IsBare (counted (bare is)) (counted is)
counted_bare is =
    ap (λ (js : Items). counted_in (found 0 Other nothing_found js) 0 Other 0 (bare is)) (same_bare is)
    ∙ counted_in_bare is (found 0 Other nothing_found (bare is)) 0 Other 0

-- ---- scalars without a value

zeroed_in_bare : (is : Items) (d : ℕ) (b : Before) → IsBare (zeroed_in d b (bare is)) (zeroed_in d b is)
zeroed_in_bare [] d b = refl
zeroed_in_bare (i ∷ is) d b = step (zeroed_in_bare is) (is_directive i.terminal) refl
  where
    step : ((d : ℕ) (b : Before) → IsBare (zeroed_in d b (bare is)) (zeroed_in d b is)) → (t : Bool) →
        is_directive i.terminal ≡ t → IsBare (zeroed_in d b (bare (i ∷ is))) (zeroed_in d b (i ∷ is))
    step ih true e = rw e (rw e (ih d b))
    step ih false e =
        rw e (rw e (ap (λ (js : Items). i ∷ (zero_for d b i js ++ zeroed_in (depth_behind i.terminal d) (behind b i) (bare is)))
        (same_bare is)
        ∙ ap (λ (js : Items). i ∷ js) (some (zero_for d b i (bare is)) _ _
        (either_plain (is_unset d b i (bare is)) (zero_at i) [] (refl, (refl, tt)) tt)
        (ih (depth_behind i.terminal d) (behind b i)))))

pub zeroed_bare : (is : Items) → IsBare (zeroed (bare is)) (zeroed is)
zeroed_bare is = zeroed_in_bare is 0 Other
