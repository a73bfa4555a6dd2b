-- Loops that end by a condition are written out without a look at directive lines.
use Rattle.std.proofs.Common.{◌≡◌, ◌∙◌, ℕ, zero, suc, ◌+◌, Bool, true, false, cond, List, [], ◌∷◌, ◌++◌, Option, Some, None, refl, ap}
use Rattle.c_tokens.specs.declared.kind.Sign.TheVariants as sign
use Rattle.c_grammar.specs.Terminal.{Terminal, Mark}
use Rattle.c_grammar.specs.Texts.{Item}
use Rattle.c_grammar.specs.Blocks.{Items, at, bare, braces_at, is_directive}
use Rattle.c_grammar.specs.Constants.{is_mark}
use Rattle.c_grammar.specs.Loops.{Branch, Left, Limit, Onward, Open, Plain, State, Turn, begin, behind, closing, head_at, leaves, left, loop_at, looped, looped_in, looped_on, put_on, turn_name, turned_on}
use Rattle.c_grammar.proofs.BareTokens.{ArePlain, IsBare, IsPlain, both_plain, one, plain_bare, same_bare, some}

braces_plain : (n : ℕ) (i : Item Terminal) → ArePlain (braces_at n i)
braces_plain zero i = tt
braces_plain (suc n) i = (refl, braces_plain n i)

closing_plain : (os : List Open) (i : Item Terminal) → IsPlain i → ArePlain (closing os i)
closing_plain [] i h = (h, tt)
closing_plain (Plain n ∷ os) i h = both_plain (braces_at n i) (i ∷ []) (braces_plain n i) (h, tt)
closing_plain (Turn n ∷ os) i h = both_plain (braces_at n i) (i ∷ []) (braces_plain n i) (h, tt)
closing_plain (Branch ∷ os) i h = (h, tt)
closing_plain (Left ∷ os) i h = (h, (refl, (refl, tt)))

head_plain : (i : Item Terminal) (x : List ℕ) (n : ℕ) → ArePlain (head_at i x n)
head_plain i x n = (refl, (refl, (refl, (refl, (refl, (refl, (refl, (refl, (refl, (refl, (refl, (refl, (refl, (refl, (refl, (refl, (refl, tt)))))))))))))))))

abbrev GoBare : Onward → Onward → Type 0
GoBare go' go = (s : State) (k : ℕ) → IsBare (go' s k) (go s k)

put_bare : (s : State) (i : Item Terminal) (is : Items) (go go' : Onward) → IsPlain i → GoBare go' go →
    IsBare (put_on s i is go') (put_on s i is go)
put_bare s i is go go' h r = step (leaves s i is) (is_mark sign.CloseBrace i)
  where
    next : State
    next = record { blocks = left s.blocks; next = Plain 0; starts = true }

    step : (t c : Bool) →
        IsBare (cond t (go' next 1) (cond c (closing s.blocks i ++ go' (behind s i) 0) (i ∷ go' (behind s i) 0)))
        (cond t (go next 1) (cond c (closing s.blocks i ++ go (behind s i) 0) (i ∷ go (behind s i) 0)))
    step true c = r _ _
    step false true = some (closing s.blocks i) _ _ (closing_plain s.blocks i h) (r _ _)
    step false false = one i _ _ h (r _ _)

turned_bare : (s : State) (i : Item Terminal) (is : Items) (o : Option Limit) (go go' : Onward) → IsPlain i → GoBare go' go →
    IsBare (turned_on s i is o go') (turned_on s i is o go)
turned_bare s i is None go go' h r = put_bare s i is go go' h r
turned_bare s i is (Some l) go go' h r =
    some (head_at i (turn_name s.blocks) l.most) _ _ (head_plain i (turn_name s.blocks) l.most) (r _ _)

looped_on_bare : (k : ℕ) (s : State) (i : Item Terminal) (is : Items) (go go' : Onward) → IsPlain i → GoBare go' go →
    IsBare (looped_on s k i is go') (looped_on s k i is go)
looped_on_bare zero s i is go go' h r = turned_bare s i is (loop_at s i is) go go' h r
looped_on_bare (suc k) s i is go go' h r = r _ _

looped_in_bare : (is : Items) (s : State) (k : ℕ) → IsBare (looped_in s k (bare is)) (looped_in s k is)
looped_in_bare [] s k = refl
looped_in_bare (i ∷ is) s k = step (looped_in_bare is) (is_directive i.terminal) refl
  where
    step : GoBare (λ s k. looped_in s k (bare is)) (λ s k. looped_in s k is) → (t : Bool) →
        is_directive i.terminal ≡ t → IsBare (looped_in s k (bare (i ∷ is))) (looped_in s k (i ∷ is))
    step ih true e = rw e (rw e (ih s k))
    step ih false e =
        rw e (rw e (ap (λ (js : Items). looped_on s k i js (λ s k. looped_in s k (bare is))) (same_bare is)
        ∙ looped_on_bare k s i (bare is) (λ s k. looped_in s k is) (λ s k. looped_in s k (bare is)) e ih))

pub looped_bare : (is : Items) → IsBare (looped (bare is)) (looped is)
looped_bare is = looped_in_bare is begin 0
