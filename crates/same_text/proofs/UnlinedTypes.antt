-- Numbers of the type int become uint64_t without a look at the lines of the tokens.
use Rattle.std.proofs.Common.{◌≡◌, ◌∙◌, ℕ, zero, suc, Bool, true, false, cond, List, [], ◌∷◌, refl, ap}
use Rattle.std.specs.Prelude.{◌&&◌, ◌||◌, ◌==◌, codes, not}
use Rattle.c_tokens.specs.declared.kind.Sign.TheVariants as sign
use Rattle.c_grammar.specs.Lexeme.{Int, Uint64}
use Rattle.c_grammar.specs.LineRules.{is_among}
use Rattle.c_grammar.specs.Terminal.{Terminal, Fixed, Mark, same}
use Rattle.c_grammar.specs.Texts.{Item}
use Rattle.c_grammar.specs.Blocks.{Items, at, bare, is_directive}
use Rattle.c_grammar.specs.Constants.{is_mark}
use Rattle.c_grammar.specs.FunctionHeads.{is_qualifier}
use Rattle.c_grammar.specs.Loops.{is_word}
use Rattle.c_grammar.specs.Types.{Found, IsSizeof, Onward, Place, Sized, Sizing, Unsized, all_fine, all_fit, behind_sized, converts, first_place, found, given_behind, is_cast, is_in_main, is_listed, is_needless, is_zero_given, is_sizing, name_of, named_behind, nothing_left, of_one_type, parts, place_behind, put, put_comma, put_on, retyped, retyped_by, same_type, type_at, wide_behind, widens}
use Rattle.same_text.specs.Laws.{unlined}
use Rattle.same_text.proofs.Unlined.{AreUnlined, all_unlined, bare_unlined, either, one, some}
use Rattle.same_text.proofs.UnlinedFine.{fine_same}
use Rattle.same_text.proofs.UnlinedFound.{behind_same, found_same, next_mark}

-- ---- where a token stands

named_same : (is : Items) → named_behind (all_unlined is) ≡ named_behind is
named_same [] = refl
named_same (i ∷ is) = λ k. cond (is_mark sign.Star i || is_qualifier i.terminal) (named_same is k) (name_of i.terminal)

cast_same : (is : Items) → is_cast (all_unlined is) ≡ is_cast is
cast_same [] = refl
cast_same (i ∷ []) = refl
cast_same (i ∷ j ∷ is) = refl

widens_same : (f : Found) (p : Place) (is : Items) → widens f p (all_unlined is) ≡ widens f p is
widens_same f p is = λ k.
    not (is_in_main p.state.heading) &&
    (converts f (named_same is k) || (cast_same is k || (is_sizing p.sized && (next_mark sign.CloseParen is k && converts f p.given))))

zero_same : (i : Item Terminal) (is : Items) → is_zero_given (unlined i) (all_unlined is) ≡ is_zero_given i is
zero_same i [] = refl
zero_same i (n ∷ []) = refl
zero_same i (n ∷ e ∷ is) = refl

needless_same : (f : Found) (p : Place) (i : Item Terminal) (is : Items) →
    is_needless f p (unlined i) (all_unlined is) ≡ is_needless f p i is
needless_same f p i is = λ k.
    is_listed p.state.mode && ((p.state.round == 0) && (is_among f.untyped p.name && zero_same i is k))

wide_same : (f : Found) (p : Place) (i : Item Terminal) (is : Items) →
    wide_behind f p (unlined i) (all_unlined is) ≡ wide_behind f p i is
wide_same f p i is = λ k.
    cond (same (Fixed Int) i.terminal) (widens_same f p is k) (cond (parts p i) (converts f (named_same is k)) p.wide)

sized_by : (z : Sized) (i : Item Terminal) → behind_sized z (unlined i) ≡ behind_sized z i
sized_by IsSizeof i = refl
sized_by Unsized i = refl
sized_by Sizing i = refl

place_same : (f : Found) (p : Place) (i : Item Terminal) (is : Items) →
    place_behind f p (unlined i) (all_unlined is) ≡ place_behind f p i is
place_same f p i is = λ k. record {
  state = behind_same p.state i k;
  sized = cond (is_word (codes "sizeof") i) IsSizeof (sized_by p.sized i k);
  wide = wide_same f p i is k;
  name = name_of i.terminal;
  given = given_behind p i;
}

-- ---- what is written

type_same : (wide : Bool) (i : Item Terminal) → type_at wide (unlined i) ≡ unlined (type_at wide i)
type_same true i = refl
type_same false i = refl

-- behind a comma of a declaration
abbrev comma : Place → Item Terminal → Bool → Items
comma p i wide = cond (same_type wide p.wide) (i ∷ []) (at i (Mark sign.Semicolon) ∷ type_at wide i ∷ [])

comma_by : (p : Place) (i : Item Terminal) (wide : Bool) → AreUnlined (comma p (unlined i) wide) (comma p i wide)
comma_by p i wide =
    either (same_type wide p.wide) (same_type wide p.wide) (i ∷ [])
    (at i (Mark sign.Semicolon) ∷ type_at wide i ∷ []) _ _ refl refl
    (ap (λ (j : Item Terminal). unlined (at i (Mark sign.Semicolon)) ∷ j ∷ []) (type_same wide i))

comma_same : (f : Found) (p : Place) (i : Item Terminal) (is : Items) →
    AreUnlined (put_comma f p (unlined i) (all_unlined is)) (put_comma f p i is)
comma_same f p i is =
    ap (λ (x : List ℕ). comma p (unlined i) (converts f x)) (named_same is)
    ∙ comma_by p i (converts f (named_behind is))

abbrev word : Item Terminal → Bool → Items
word i wide = cond wide (at i (Fixed Uint64)) i ∷ []

word_by : (i : Item Terminal) (wide : Bool) → AreUnlined (word (unlined i) wide) (word i wide)
word_by i true = refl
word_by i false = refl

put_same : (f : Found) (p : Place) (i : Item Terminal) (is : Items) →
    AreUnlined (put f p (unlined i) (all_unlined is)) (put f p i is)
put_same f p i is =
    either (same (Fixed Int) i.terminal) _ _ _ _ _ refl
    (ap (word (unlined i)) (widens_same f p is) ∙ word_by i (widens f p is))
    (either (parts p i) _ _ _ _ _ refl (comma_same f p i is)
    (either (is_mark sign.FormatInt i) (is_mark sign.FormatInt i) [] (i ∷ []) [] (unlined i ∷ []) refl refl refl))

-- ---- all tokens

abbrev GoesSame : Onward → Onward → Type 0
GoesSame go' go = (p : Place) (k : ℕ) → AreUnlined (go' p k) (go p k)

on_same : (f : Found) (p : Place) (k : ℕ) (i : Item Terminal) (is : Items) (go go' : Onward) → GoesSame go' go →
    AreUnlined (put_on f p k (unlined i) (all_unlined is) go') (put_on f p k i is go)
on_same f p (suc k) i is go go' r =
    ap (λ (q : Place). go' q k) (place_same f p i is) ∙ r (place_behind f p i is) k
on_same f p zero i is go go' r =
    either (is_needless f p i is) _ _ _ _ _ (needless_same f p i is) (goes 1)
    (some (put f p i is) (put f p (unlined i) (all_unlined is)) _ _ (put_same f p i is) (goes 0))
  where
    goes : (n : ℕ) → AreUnlined (go' (place_behind f p (unlined i) (all_unlined is)) n) (go (place_behind f p i is) n)
    goes n = ap (λ (q : Place). go' q n) (place_same f p i is) ∙ r (place_behind f p i is) n

retyped_same : (f : Found) (is : Items) (p : Place) (k : ℕ) →
    AreUnlined (retyped f p k (all_unlined is)) (retyped f p k is)
retyped_same f [] p k = refl
retyped_same f (i ∷ is) p k = step (is_directive i.terminal) (retyped_same f is)
  where
    go : Onward
    go = λ p k. retyped f p k is

    go' : Onward
    go' = λ p k. retyped f p k (all_unlined is)

    step : (b : Bool) → GoesSame go' go →
        AreUnlined (cond b (unlined i ∷ go' p k) (put_on f p k (unlined i) (bare (all_unlined is)) go'))
        (cond b (i ∷ go p k) (put_on f p k i (bare is) go))
    step true ih = one i (go p k) (go' p k) (ih p k)
    step false ih =
        ap (λ (js : Items). put_on f p k (unlined i) js go') (bare_unlined is) ∙ on_same f p k i (bare is) go go' ih

by_same : (f : Found) (bared is : Items) →
    AreUnlined (retyped_by f (all_unlined bared) (all_unlined is)) (retyped_by f bared is)
by_same f bared is =
    either (all_fit f && all_fine f nothing_left bared) _ (retyped f first_place 0 is) is _ (all_unlined is)
    (ap (λ (b : Bool). all_fit f && b) (fine_same f bared nothing_left)) (retyped_same f is first_place 0) refl

pub types_unlined : (is : Items) → AreUnlined (of_one_type (all_unlined is)) (of_one_type is)
types_unlined is =
    ap (λ (js : Items). retyped_by (found js) js (all_unlined is)) (bare_unlined is)
    ∙ ap (λ (f : Found). retyped_by f (all_unlined (bare is)) (all_unlined is)) (found_same (bare is))
    ∙ by_same (found (bare is)) (bare is) is
