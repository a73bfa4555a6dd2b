-- Names of loops that are declared before them, and scalars without a value, are written out without a look at the lines of the
-- tokens.
use Rattle.std.proofs.Common.{◌≡◌, ◌∙◌, ℕ, zero, suc, ◌+◌, Bool, true, false, cond, List, [], ◌∷◌, ◌++◌, Option, Some, None, refl, ap}
use Rattle.std.specs.Prelude.{◌&&◌, ◌==◌, not}
use Rattle.c_tokens.specs.declared.kind.Sign.TheVariants as sign
use Rattle.c_grammar.specs.Lexeme.{Uint64}
use Rattle.c_grammar.specs.Terminal.{Terminal, Fixed, Mark, Name, Num, Line, Unknown, Unworked, End}
use Rattle.c_grammar.specs.Texts.{Item}
use Rattle.c_grammar.specs.Blocks.{Items, at, bare, is_directive}
use Rattle.c_grammar.specs.Changes.{is_ended}
use Rattle.c_grammar.specs.Constants.{depth_behind, is_mark}
use Rattle.c_grammar.specs.Counters.{Barred, Bars, Before, Found, InHead, IsFor, IsNamed, IsType, Onward, Other, behind, counted, counted_in, counted_on, counts, declaration_len, ends_name, found, found_at, in_head, is_bare, is_name, is_set, is_type, list_len, may_begin, named, nothing_found, put_on, type_for, with_head, with_other, with_unset}
use Rattle.c_grammar.specs.Unset.{is_behind_type, is_unset, zero_at, zero_for, zeroed, zeroed_in}
use Rattle.same_text.specs.Laws.{unlined}
use Rattle.same_text.proofs.Unlined.{AreUnlined, all_unlined, bare_unlined, either, one, some}

-- ---- which names these are

set_unlined : (is : Items) → is_set (all_unlined is) ≡ is_set is
set_unlined [] = refl
set_unlined (i ∷ is) = refl

ends_unlined : (is : Items) → ends_name (all_unlined is) ≡ ends_name is
ends_unlined [] = refl
ends_unlined (i ∷ is) = refl

named_unlined : (d : ℕ) (b : Before) (x : List ℕ) (is : Items) (f : Found) → named d b x (all_unlined is) f ≡ named d b x is f
named_unlined d InHead x is f = ap (λ (t : Bool). cond t (with_head x f) f) (set_unlined is)
named_unlined d IsType x is f =
    ap (λ (t : Bool). cond (not (d == 0) && t) (with_unset x f) (with_other x f)) (ends_unlined is)
named_unlined d Barred x is f = refl
named_unlined d Other x is f = refl
named_unlined d IsFor x is f = refl
named_unlined d Bars x is f = refl
named_unlined d IsNamed x is f = refl

at_unlined : (d : ℕ) (b : Before) (t : Terminal) (is : Items) (f : Found) → found_at d b t (all_unlined is) f ≡ found_at d b t is f
at_unlined d b (Name x) is f = named_unlined d b x is f
at_unlined d b (Fixed w) is f = refl
at_unlined d b (Mark s) is f = refl
at_unlined d b (Num n) is f = refl
at_unlined d b (Line ts) is f = refl
at_unlined d b Unknown is f = refl
at_unlined d b Unworked is f = refl
at_unlined d b End is f = refl

found_unlined : (is : Items) (d : ℕ) (b : Before) (f : Found) → found d b f (all_unlined is) ≡ found d b f is
found_unlined [] d b f = refl
found_unlined (i ∷ is) d b f =
    ap (λ (g : Found). found (depth_behind i.terminal d) (behind b i) g (all_unlined is)) (at_unlined d b i.terminal is f)
    ∙ found_unlined is (depth_behind i.terminal d) (behind b i) (found_at d b i.terminal is f)

-- ---- the tokens

list_unlined : (f : Found) (n : ℕ) (is : Items) → list_len f n (all_unlined is) ≡ list_len f n is
list_unlined f n [] = refl
list_unlined f n (x ∷ []) = refl
list_unlined f n (x ∷ s ∷ is) =
    ap (λ (o : Option ℕ). cond (counts f x.terminal)
    (cond (is_mark sign.Semicolon s) (Some (n + 2)) (cond (is_mark sign.Comma s) o None)) None) (list_unlined f (n + 2) is)

len_unlined : (f : Found) (d : ℕ) (b : Before) (i : Item Terminal) (is : Items) →
    declaration_len f d b (unlined i) (all_unlined is) ≡ declaration_len f d b i is
len_unlined f d b i is =
    ap (λ (o : Option ℕ). cond (not (d == 0) && (is_type i.terminal && may_begin b)) o None) (list_unlined f 0 is)

bare_same : (f : Found) (b : Before) (i : Item Terminal) (is : Items) → is_bare f b (unlined i) (all_unlined is) ≡ is_bare f b i is
bare_same f b i is = ap (λ (t : Bool). in_head b && t && counts f i.terminal) (set_unlined is)

type_unlined : (f : Found) (b : Before) (i : Item Terminal) (is : Items) →
    AreUnlined (type_for f b (unlined i) (all_unlined is)) (type_for f b i is)
type_unlined f b i is = either (is_bare f b i is) (is_bare f b (unlined i) (all_unlined is)) (at i (Fixed Uint64) ∷ []) [] _ _ (bare_same f b i is) refl refl

abbrev GoesSame : Onward → Onward → Type 0
GoesSame go' go = (d : ℕ) (b : Before) (k : ℕ) → AreUnlined (go' d b k) (go d b k)

put_unlined : (f : Found) (d : ℕ) (b : Before) (i : Item Terminal) (is : Items) (o : Option ℕ) (go go' : Onward) →
    GoesSame go' go → AreUnlined (put_on f d b (unlined i) (all_unlined is) o go') (put_on f d b i is o go)
put_unlined f d b i is None go go' r =
    some (type_for f b i is) (type_for f b (unlined i) (all_unlined is)) _ _ (type_unlined f b i is)
    (one i (go (depth_behind i.terminal d) (behind b i) 0) _ (r (depth_behind i.terminal d) (behind b i) 0))
put_unlined f d b i is (Some n) go go' r = r d Other n

on_unlined : (k : ℕ) (f : Found) (d : ℕ) (b : Before) (i : Item Terminal) (is : Items) (go go' : Onward) → GoesSame go' go →
    AreUnlined (counted_on f d b k (unlined i) (all_unlined is) go') (counted_on f d b k i is go)
on_unlined zero f d b i is go go' r =
    ap (λ (o : Option ℕ). put_on f d b (unlined i) (all_unlined is) o go') (len_unlined f d b i is)
    ∙ put_unlined f d b i is (declaration_len f d b i is) go go' r
on_unlined (suc k) f d b i is go go' r = r d b k

in_unlined : (is : Items) (f : Found) (d : ℕ) (b : Before) (k : ℕ) →
    AreUnlined (counted_in f d b k (all_unlined is)) (counted_in f d b k is)
in_unlined [] f d b k = refl
in_unlined (i ∷ is) f d b k = step (is_directive i.terminal) (λ d b k. in_unlined is f d b k)
  where
    step : (t : Bool) → GoesSame (λ d b k. counted_in f d b k (all_unlined is)) (λ d b k. counted_in f d b k is) →
        AreUnlined
        (cond t (unlined i ∷ counted_in f d b k (all_unlined is))
        (counted_on f d b k (unlined i) (bare (all_unlined is)) (λ d b k. counted_in f d b k (all_unlined is))))
        (cond t (i ∷ counted_in f d b k is) (counted_on f d b k i (bare is) (λ d b k. counted_in f d b k is)))
    step true ih = one i (counted_in f d b k is) (counted_in f d b k (all_unlined is)) (ih d b k)
    step false ih =
        ap (λ (js : Items). counted_on f d b k (unlined i) js (λ d b k. counted_in f d b k (all_unlined is))) (bare_unlined is)
        ∙ on_unlined k f d b i (bare is) (λ d b k. counted_in f d b k is) (λ d b k. counted_in f d b k (all_unlined is)) ih

pub counted_unlined : (is : Items) → AreUnlined (counted (all_unlined is)) (counted is)
counted_unlined is =
    ap (λ (f : Found). counted_in f 0 Other 0 (all_unlined is))
    (ap (found 0 Other nothing_found) (bare_unlined is) ∙ found_unlined (bare is) 0 Other nothing_found)
    ∙ in_unlined is (found 0 Other nothing_found (bare is)) 0 Other 0

-- ---- scalars without a value

ended_unlined : (is : Items) → is_ended (all_unlined is) ≡ is_ended is
ended_unlined [] = refl
ended_unlined (i ∷ is) = refl

unset_unlined : (d : ℕ) (b : Before) (i : Item Terminal) (is : Items) → is_unset d b (unlined i) (all_unlined is) ≡ is_unset d b i is
unset_unlined d b i is =
    ap (λ (t : Bool). not (d == 0) && (is_behind_type b && (is_name i.terminal && t))) (ended_unlined is)

zero_unlined : (d : ℕ) (b : Before) (i : Item Terminal) (is : Items) →
    AreUnlined (zero_for d b (unlined i) (all_unlined is)) (zero_for d b i is)
zero_unlined d b i is =
    either (is_unset d b i is) (is_unset d b (unlined i) (all_unlined is)) (zero_at i) [] _ _ (unset_unlined d b i is) refl refl

zeroed_in_unlined : (is : Items) (d : ℕ) (b : Before) → AreUnlined (zeroed_in d b (all_unlined is)) (zeroed_in d b is)
zeroed_in_unlined [] d b = refl
zeroed_in_unlined (i ∷ is) d b = step (is_directive i.terminal) (zeroed_in_unlined is)
  where
    rest : Items → Items
    rest js = zeroed_in (depth_behind i.terminal d) (behind b i) js

    step : (t : Bool) → ((d : ℕ) (b : Before) → AreUnlined (zeroed_in d b (all_unlined is)) (zeroed_in d b is)) →
        AreUnlined
        (cond t (unlined i ∷ zeroed_in d b (all_unlined is))
        (unlined i ∷ (zero_for d b (unlined i) (bare (all_unlined is)) ++ rest (all_unlined is))))
        (cond t (i ∷ zeroed_in d b is) (i ∷ (zero_for d b i (bare is) ++ rest is)))
    step true ih = one i (zeroed_in d b is) (zeroed_in d b (all_unlined is)) (ih d b)
    step false ih =
        ap (λ (js : Items). unlined i ∷ (zero_for d b (unlined i) js ++ rest (all_unlined is))) (bare_unlined is)
        ∙ one i _ _ (some (zero_for d b i (bare is)) (zero_for d b (unlined i) (all_unlined (bare is))) (rest is) (rest (all_unlined is)) (zero_unlined d b i (bare is))
        (ih (depth_behind i.terminal d) (behind b i)))

pub zeroed_unlined : (is : Items) → AreUnlined (zeroed (all_unlined is)) (zeroed is)
zeroed_unlined is = zeroed_in_unlined is 0 Other
