-- Scalars are declared where they are first assigned without a look at the lines of the tokens.
use Rattle.std.proofs.Common.{◌≡◌, ◌∙◌, ℕ, Bool, true, false, cond, List, [], ◌∷◌, ◌++◌, Option, Some, None, refl, ap}
use Rattle.std.specs.Prelude.{◌&&◌, ◌||◌, ◌==◌, not}
use Rattle.c_tokens.specs.declared.kind.Sign.TheVariants as sign
use Rattle.c_grammar.specs.Lexeme.{Uint64}
use Rattle.c_grammar.specs.Terminal.{Terminal, Fixed, Name, same}
use Rattle.c_grammar.specs.Texts.{Item}
use Rattle.c_grammar.specs.Blocks.{Items, at, bare, is_directive}
use Rattle.c_grammar.specs.Changes.{is_ended}
use Rattle.c_grammar.specs.Constants.{Names, is_mark}
use Rattle.c_grammar.specs.Presence.{is_declared}
use Rattle.c_grammar.specs.Moves.{Barred, Before, Ending, Onward, Other, Stand, Starts, Typed, all_moved, begin, behind, behind_put, declares, is_ending, is_fresh, is_moved, mentioned, moved, moved_names, moved_on, name_put, other_put, owns, passed, stands, unless, unset, unspoiled, with_name, with_unset}
use Rattle.same_text.specs.Laws.{unlined}
use Rattle.same_text.proofs.Unlined.{AreUnlined, all_unlined, bare_unlined, either, one, some}
use Rattle.same_text.proofs.UnlinedPresence.{declared_unlined, same_if}

ended_unlined : (is : Items) → is_ended (all_unlined is) ≡ is_ended is
ended_unlined [] = refl
ended_unlined (i ∷ is) = refl

-- ---- which names these are

stands_unlined : (x : List ℕ) (is : Items) → stands x (all_unlined is) ≡ stands x is
stands_unlined x [] = refl
stands_unlined x (i ∷ is) =
    ap (λ (b : Bool). cond (is_mark sign.Semicolon i) false (same (Name x) i.terminal || b)) (stands_unlined x is)

pub fresh_unlined : (x : List ℕ) (is : Items) → is_fresh x (all_unlined is) ≡ is_fresh x is
fresh_unlined x [] = refl
fresh_unlined x (e ∷ is) = ap (λ (b : Bool). is_mark sign.Equal e && not b) (stands_unlined x is)

mentioned_unlined : (x : List ℕ) (b : Before) (s : Stand) (is : Items) → mentioned x b s (all_unlined is) ≡ mentioned x b s is
mentioned_unlined x Typed s is =
    ap (λ (e : Bool). cond (e && (s.declared == 0) && not (s.depth == 0)) (Some (declares s)) None) (ended_unlined is)
mentioned_unlined x Barred s is = refl
mentioned_unlined x Starts s is =
    ap (λ (f : Bool). cond (not (s.owned == 0)) (Some s)
    (cond (not (s.declared == 0) && not (s.declared == s.depth) && f) (Some (owns s)) None)) (fresh_unlined x is)
mentioned_unlined x Other s is = refl
mentioned_unlined x Ending s is = refl

unless_same : (o : Option Stand) (go go' : Stand → Bool) → ((s : Stand) → go' s ≡ go s) → unless o go' ≡ unless o go
unless_same None go go' r = refl
unless_same (Some s) go go' r = r s

is_unlined : (x : List ℕ) (is : Items) (b : Before) (s : Stand) → is_moved x b s (all_unlined is) ≡ is_moved x b s is
is_unlined x [] b s = refl
is_unlined x (i ∷ is) b s =
    same_if (same (Name x) i.terminal) _ _ _ _
    (ap (λ (o : Option Stand). unless o (λ s. is_moved x (behind x b i) s (all_unlined is))) (mentioned_unlined x b s is)
    ∙ unless_same (mentioned x b s is) (λ s. is_moved x (behind x b i) s is) (λ s. is_moved x (behind x b i) s (all_unlined is))
    (is_unlined x is (behind x b i)))
    (is_unlined x is (behind x b i) (passed i s))

unset_unlined : (is : Items) (xs : Names) → unset xs (all_unlined is) ≡ unset xs is
unset_unlined [] xs = refl
unset_unlined (i ∷ is) xs =
    ap (λ (ys : Names). unset ys (all_unlined is)) (with_unlined is) ∙ unset_unlined is (with_unset i is xs)
  where
    with_unlined : (is : Items) → with_unset (unlined i) (all_unlined is) xs ≡ with_unset i is xs
    with_unlined [] = refl
    with_unlined (x ∷ is) =
        ap (λ (b : Bool). cond (same (Fixed Uint64) i.terminal && b) (with_name x.terminal xs) xs) (ended_unlined is)

unspoiled_unlined : (xs : Names) (is : Items) → unspoiled xs (all_unlined is) ≡ unspoiled xs is
unspoiled_unlined [] is = refl
unspoiled_unlined (x ∷ xs) is =
    ap (λ (b : Bool). cond b (x ∷ unspoiled xs (all_unlined is)) (unspoiled xs (all_unlined is))) (is_unlined x is Starts begin)
    ∙ ap (λ (ys : Names). cond (is_moved x Starts begin is) (x ∷ ys) ys) (unspoiled_unlined xs is)

pub names_unlined : (is : Items) → moved_names (all_unlined is) ≡ moved_names is
names_unlined is =
    ap (λ (xs : Names). unspoiled xs (all_unlined is)) (unset_unlined is []) ∙ unspoiled_unlined (unset [] is) is

-- ---- the tokens

name_unlined : (b : Before) (s : Stand) (i : Item Terminal) → AreUnlined (name_put b s (unlined i)) (name_put b s i)
name_unlined Typed s i = refl
name_unlined Starts s i = either (s.owned == 0) (s.owned == 0) (at i (Fixed Uint64) ∷ i ∷ []) (i ∷ []) _ _ refl refl refl
name_unlined Other s i = refl
name_unlined Barred s i = refl
name_unlined Ending s i = refl

other_unlined : (x : List ℕ) (b : Before) (i : Item Terminal) (is : Items) →
    AreUnlined (other_put x b (unlined i) (all_unlined is)) (other_put x b i is)
other_unlined x b i is =
    either (is_declared x i is || (is_ending b && is_mark sign.Semicolon i))
    (is_declared x (unlined i) (all_unlined is) || (is_ending b && is_mark sign.Semicolon i)) [] (i ∷ []) _ _
    (ap (λ (d : Bool). d || (is_ending b && is_mark sign.Semicolon i)) (declared_unlined x i is)) refl refl

abbrev GoesSame : Onward → Onward → Type 0
GoesSame go' go = (b : Before) (s : Stand) → AreUnlined (go' b s) (go b s)

on_unlined : (x : List ℕ) (b : Before) (s : Stand) (i : Item Terminal) (is : Items) (go go' : Onward) → GoesSame go' go →
    AreUnlined (moved_on x b s (unlined i) (all_unlined is) go') (moved_on x b s i is go)
on_unlined x b s i is go go' r =
    either (same (Name x) i.terminal) (same (Name x) i.terminal) _ _ _ _ refl
    (some (name_put b s i) (name_put b s (unlined i)) _ _ (name_unlined b s i) (r (behind x b i) (behind_put b s)))
    (some (other_put x b i is) (other_put x b (unlined i) (all_unlined is)) _ _ (other_unlined x b i is)
    (r (behind x b i) (passed i s)))

moved_unlined : (x : List ℕ) (is : Items) (b : Before) (s : Stand) → AreUnlined (moved x b s (all_unlined is)) (moved x b s is)
moved_unlined x [] b s = refl
moved_unlined x (i ∷ is) b s = step (is_directive i.terminal) (moved_unlined x is)
  where
    step : (t : Bool) → GoesSame (λ b s. moved x b s (all_unlined is)) (λ b s. moved x b s is) →
        AreUnlined
        (cond t (unlined i ∷ moved x b s (all_unlined is))
        (moved_on x b s (unlined i) (bare (all_unlined is)) (λ b s. moved x b s (all_unlined is))))
        (cond t (i ∷ moved x b s is) (moved_on x b s i (bare is) (λ b s. moved x b s is)))
    step true ih = one i (moved x b s is) (moved x b s (all_unlined is)) (ih b s)
    step false ih =
        ap (λ (js : Items). moved_on x b s (unlined i) js (λ b s. moved x b s (all_unlined is))) (bare_unlined is)
        ∙ on_unlined x b s i (bare is) (λ b s. moved x b s is) (λ b s. moved x b s (all_unlined is)) ih

pub all_moved_unlined : (xs : Names) (is : Items) → AreUnlined (all_moved xs (all_unlined is)) (all_moved xs is)
all_moved_unlined [] is = refl
all_moved_unlined (x ∷ xs) is =
    ap (all_moved xs) (moved_unlined x is Starts begin) ∙ all_moved_unlined xs (moved x Starts begin is)
