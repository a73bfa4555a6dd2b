-- Scalars are declared where they are first assigned without a look at directive lines.
use Rattle.std.proofs.Common.{◌≡◌, ◌∙◌, Bool, true, false, cond, List, [], ◌∷◌, ◌++◌, ℕ, refl, ap}
use Rattle.std.specs.Prelude.{◌==◌, ◌&&◌, ◌||◌}
use Rattle.c_tokens.specs.declared.kind.Sign.TheVariants as sign
use Rattle.c_grammar.specs.Lexeme.{Uint64}
use Rattle.c_grammar.specs.Terminal.{Terminal, Fixed, Name, same}
use Rattle.c_grammar.specs.Texts.{Item}
use Rattle.c_grammar.specs.Blocks.{Items, at, bare, is_directive}
use Rattle.c_grammar.specs.Constants.{Names, is_mark}
use Rattle.c_grammar.specs.Presence.{is_declared}
use Rattle.c_grammar.specs.Moves.{Barred, Before, Ending, Onward, Other, Stand, Starts, Typed, all_moved, begin, behind, behind_put, is_ending, moved, moved_on, name_put, other_put, passed}
use Rattle.c_grammar.proofs.BareTokens.{ArePlain, IsBare, IsPlain, either, either_plain, same_bare, some}

name_plain : (b : Before) (s : Stand) (i : Item Terminal) → IsPlain i → ArePlain (name_put b s i)
name_plain Typed s i h = tt
name_plain Starts s i h = either_plain (s.owned == 0) (at i (Fixed Uint64) ∷ i ∷ []) (i ∷ []) (refl, (h, tt)) (h, tt)
name_plain Other s i h = (h, tt)
name_plain Barred s i h = (h, tt)
name_plain Ending s i h = (h, tt)

other_plain : (x : List ℕ) (b : Before) (i : Item Terminal) (is : Items) → IsPlain i → ArePlain (other_put x b i is)
other_plain x b i is h = either_plain (is_declared x i is || (is_ending b && is_mark sign.Semicolon i)) [] (i ∷ []) tt (h, tt)

abbrev GoBare : Onward → Onward → Type 0
GoBare go' go = (b : Before) (s : Stand) → IsBare (go' b s) (go b s)

on_bare : (x : List ℕ) (b : Before) (s : Stand) (i : Item Terminal) (is : Items) (go go' : Onward) → IsPlain i → GoBare go' go →
    IsBare (moved_on x b s i is go') (moved_on x b s i is go)
on_bare x b s i is go go' h r =
    either (same (Name x) i.terminal) _ _ _ _
    (some (name_put b s i) _ _ (name_plain b s i h) (r (behind x b i) (behind_put b s)))
    (some (other_put x b i is) _ _ (other_plain x b i is h) (r (behind x b i) (passed i s)))

moved_bare : (x : List ℕ) (is : Items) (b : Before) (s : Stand) → IsBare (moved x b s (bare is)) (moved x b s is)
moved_bare x [] b s = refl
moved_bare x (i ∷ is) b s = step (moved_bare x is) (is_directive i.terminal) refl
  where
    step : ((b : Before) (s : Stand) → IsBare (moved x b s (bare is)) (moved x b s is)) → (t : Bool) →
        is_directive i.terminal ≡ t → IsBare (moved x b s (bare (i ∷ is))) (moved x b s (i ∷ is))
    step ih true e = rw e (rw e (ih b s))
    step ih false e =
        rw e (rw e (ap (λ (js : Items). moved_on x b s i js (λ b s. moved x b s (bare is))) (same_bare is)
        ∙ on_bare x b s i (bare is) (λ b s. moved x b s is) (λ b s. moved x b s (bare is)) e ih))

pub all_moved_bare : (xs : Names) (is : Items) → IsBare (all_moved xs (bare is)) (all_moved xs is)
all_moved_bare [] is = refl
all_moved_bare (x ∷ xs) is =
    ap (all_moved xs) (moved_bare x is Starts begin) ∙ all_moved_bare xs (moved x Starts begin is)
