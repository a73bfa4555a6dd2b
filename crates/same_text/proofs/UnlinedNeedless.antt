-- What says nothing is left out without a look at the lines of the tokens.
use Rattle.std.proofs.Common.{◌≡◌, ◌∙◌, ℕ, zero, suc, ◌+◌, ◌-◌, Bool, true, false, cond, [], ◌∷◌, Option, Some, None, refl, ap}
use Rattle.std.specs.Prelude.{◌&&◌, ◌==◌, not}
use Rattle.c_tokens.specs.declared.kind.Sign.TheVariants as sign
use Rattle.c_grammar.specs.Terminal.{Terminal, Mark}
use Rattle.c_grammar.specs.Texts.{Item}
use Rattle.c_grammar.specs.Blocks.{Items, at, bare, is_directive}
use Rattle.c_grammar.specs.Changes.{is_boundary}
use Rattle.c_grammar.specs.Constants.{is_mark, is_name}
use Rattle.c_grammar.specs.FunctionHeads.{is_type}
use Rattle.c_grammar.specs.Needless.{Onward, State, begin, behind, closing, declared, emptied, is_begin, is_outside, is_specified, left_out, named, needed, needed_by, needed_in, needed_on}
use Rattle.same_text.specs.Laws.{unlined}
use Rattle.same_text.proofs.Unlined.{AreUnlined, all_unlined, bare_unlined, one}

-- ---- declarations of functions

closing_same : (is : Items) (d n : ℕ) → closing d n (all_unlined is) ≡ closing d n is
closing_same [] d n = refl
closing_same (i ∷ []) d n = refl
closing_same (i ∷ j ∷ is) d n = λ k.
    cond (is_boundary i.terminal) None
    (cond (is_mark sign.OpenParen i) (closing_same (j ∷ is) (d + 1) (n + 1) k)
    (cond (is_mark sign.CloseParen i)
    (cond (d == 0) (cond (is_mark sign.Semicolon j) (Some (n + 2)) None) (closing_same (j ∷ is) (d - 1) (n + 1) k))
    (closing_same (j ∷ is) d (n + 1) k)))

named_same : (n : ℕ) (i : Item Terminal) (is : Items) → named n (unlined i) (all_unlined is) ≡ named n i is
named_same n i [] = refl
named_same n i (x ∷ []) = refl
named_same n i (x ∷ o ∷ is) =
    ap (λ (r : Option ℕ). cond (is_type i.terminal && (is_name x.terminal && is_mark sign.OpenParen o)) r None)
    (closing_same is 0 (n + 2))

declared_same : (is : Items) (n : ℕ) → declared n (all_unlined is) ≡ declared n is
declared_same [] n = refl
declared_same (i ∷ is) n = λ k. cond (is_specified i.terminal) (declared_same is (n + 1) k) (named_same n i is k)

left_same : (s : State) (i : Item Terminal) (is : Items) → left_out s (unlined i) (all_unlined is) ≡ left_out s i is
left_same s i is = λ k.
    cond (not (is_begin s.before)) None
    (cond (is_mark sign.Semicolon i) (Some 0) (cond (is_outside s.braces) (declared_same (i ∷ is) 0 k) None))

-- ---- the tokens

abbrev GoesSame : Onward → Onward → Type 0
GoesSame go' go = (s : State) (k : ℕ) → AreUnlined (go' s k) (go s k)

emptied_same : (b : Bool) (i : Item Terminal) (js' js : Items) → AreUnlined js' js → AreUnlined (emptied b (unlined i) js') (emptied b i js)
emptied_same true i js' js h = h
emptied_same false i js' js h =
    one (at i (Mark sign.OpenBrace)) (at i (Mark sign.CloseBrace) ∷ js) (unlined (at i (Mark sign.CloseBrace)) ∷ js')
    (one (at i (Mark sign.CloseBrace)) js js' h)

by_same : (s : State) (i : Item Terminal) (o : Option ℕ) (go go' : Onward) → GoesSame go' go →
    AreUnlined (needed_by s (unlined i) o go') (needed_by s i o go)
by_same s i None go go' r = one i (go (behind s i) 0) (go' (behind s i) 0) (r (behind s i) 0)
by_same s i (Some n) go go' r = emptied_same (is_outside s.braces) i (go' s n) (go s n) (r s n)

on_same : (s : State) (k : ℕ) (i : Item Terminal) (is : Items) (go go' : Onward) → GoesSame go' go →
    AreUnlined (needed_on s k (unlined i) (all_unlined is) go') (needed_on s k i is go)
on_same s zero i is go go' r =
    ap (λ (o : Option ℕ). needed_by s (unlined i) o go') (left_same s i is) ∙ by_same s i (left_out s i is) go go' r
on_same s (suc k) i is go go' r = r s k

in_unlined : (is : Items) (s : State) (k : ℕ) → AreUnlined (needed_in s k (all_unlined is)) (needed_in s k is)
in_unlined [] s k = refl
in_unlined (i ∷ is) s k = step (is_directive i.terminal) (in_unlined is)
  where
    go : Onward
    go = λ s k. needed_in s k is

    go' : Onward
    go' = λ s k. needed_in s k (all_unlined is)

    step : (b : Bool) → GoesSame go' go →
        AreUnlined (cond b (unlined i ∷ go' s k) (needed_on s k (unlined i) (bare (all_unlined is)) go'))
        (cond b (i ∷ go s k) (needed_on s k i (bare is) go))
    step true ih = one i (go s k) (go' s k) (ih s k)
    step false ih =
        ap (λ (js : Items). needed_on s k (unlined i) js go') (bare_unlined is) ∙ on_same s k i (bare is) go go' ih

pub needed_unlined : (is : Items) → AreUnlined (needed (all_unlined is)) (needed is)
needed_unlined is = in_unlined is begin 0
