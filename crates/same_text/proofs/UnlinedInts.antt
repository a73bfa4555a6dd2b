-- Scalars are widened without a look at the lines of the tokens.
use Rattle.std.proofs.Common.{◌≡◌, ◌∙◌, ℕ, ◌++◌, Bool, true, false, cond, [], ◌∷◌, Option, Some, None, refl, ap}
use Rattle.std.specs.Prelude.{◌&&◌, not, codes}
use Rattle.c_tokens.specs.declared.kind.Sign.TheVariants as sign
use Rattle.c_grammar.specs.Terminal.{Terminal, Mark, Num}
use Rattle.c_grammar.specs.Texts.{Item}
use Rattle.c_grammar.specs.Blocks.{Items, at, bare, is_directive}
use Rattle.c_grammar.specs.Constants.{is_mark}
use Rattle.c_grammar.specs.Counters.{is_set}
use Rattle.c_ints.specs.Ints.{Begins, Count, Flag, Further, Gone, Inside, Kind, Mode, Named, State, Valued, begin, behind, declared_at, declares_truth, is_declared, is_word, kept_type, mode_behind, next_depth, number_at, numbered, other_mode, put_by, returns_at, type_at, widened, widened_from, with_value}
use Rattle.same_text.specs.Laws.{unlined}
use Rattle.same_text.proofs.Unlined.{AreUnlined, all_unlined, bare_unlined, either, one, some}
use Rattle.same_text.proofs.UnlinedSmall.{declared_unlined, declares_unlined, returns_unlined, set_unlined}

-- ---- true and false

truth_unlined : (i : Item Terminal) (is : Items) → declares_truth (unlined i) (all_unlined is) ≡ declares_truth i is
truth_unlined i [] = refl
truth_unlined i (x ∷ is) = refl

number_unlined : (i : Item Terminal) → number_at (unlined i) ≡ unlined (number_at i)
number_unlined i = go (is_word (codes "true") i.terminal) (is_word (codes "false") i.terminal)
  where
    go : (b c : Bool) →
        cond b (at (unlined i) (Num (Some 1))) (cond c (at (unlined i) (Num (Some 0))) (unlined i))
        ≡ unlined (cond b (at i (Num (Some 1))) (cond c (at i (Num (Some 0))) i))
    go true c = refl
    go false true = refl
    go false false = refl

if_free : (b : Bool) (i : Item Terminal) → cond b (number_at (unlined i)) (unlined i) ≡ unlined (cond b (number_at i) i)
if_free true i = number_unlined i
if_free false i = refl

numbered_unlined : (is : Items) (b : Bool) → AreUnlined (numbered b (all_unlined is)) (numbered b is)
numbered_unlined [] b = refl
numbered_unlined (i ∷ is) b =
    let free : Bool = b && not (declares_truth i (bare is)) in
    ap (λ (c : Bool). cond b (number_at (unlined i)) (unlined i) ∷ numbered (b && not c) (all_unlined is))
    (ap (declares_truth (unlined i)) (bare_unlined is) ∙ truth_unlined i (bare is))
    ∙ ap (λ (j : Item Terminal). j ∷ numbered free (all_unlined is)) (if_free b i)
    ∙ ap (λ (js : Items). unlined (cond b (number_at i) i) ∷ js) (numbered_unlined is free)

-- ---- what is written

abbrev first_put : Item Terminal → Option Kind → Items
first_put i o = elim o as (λ o. Items) [ None ↦ i ∷ [] | Some k ↦ type_at i ∷ [] ]

first_unlined : (i : Item Terminal) (o : Option Kind) → AreUnlined (first_put (unlined i) o) (first_put i o)
first_unlined i None = refl
first_unlined i (Some k) = refl

value_unlined : (i : Item Terminal) (is : Items) →
    AreUnlined (with_value (unlined i) (all_unlined is)) (with_value i is)
value_unlined i is =
    let valued : Items = i ∷ at i (Mark sign.Equal) ∷ at i (Num (Some 0)) ∷ [] in
    either (is_set is) (is_set (all_unlined is)) (i ∷ []) valued (unlined i ∷ []) (all_unlined valued)
    (set_unlined is) refl refl

kept_unlined : (k : Kind) (i : Item Terminal) → kept_type k (unlined i) ≡ unlined (kept_type k i)
kept_unlined Count i = refl
kept_unlined Flag i = refl

both_kept : (k : Kind) (i : Item Terminal) →
    AreUnlined (kept_type k (unlined i) ∷ unlined i ∷ []) (kept_type k i ∷ i ∷ [])
both_kept k i = ap (λ (j : Item Terminal). j ∷ unlined i ∷ []) (kept_unlined k i)

put_unlined : (m : Mode) (s : State) (i : Item Terminal) (is : Items) →
    AreUnlined (put_by m s (unlined i) (all_unlined is)) (put_by m s i is)
put_unlined Begins s i is =
    either (returns_at s i is) (returns_at s (unlined i) (all_unlined is)) [] (first_put i (declared_at s i is)) []
    (first_put (unlined i) (declared_at s (unlined i) (all_unlined is))) (returns_unlined s i is) refl
    (ap (first_put (unlined i)) (declares_unlined s i is) ∙ first_unlined i (declared_at s i is))
put_unlined Inside s i is = refl
put_unlined Gone s i is =
    either (is_mark sign.CloseBrace i) (is_mark sign.CloseBrace i) (i ∷ []) [] (unlined i ∷ []) [] refl refl refl
put_unlined (Named k) s i is = value_unlined i is
put_unlined (Valued k) s i is =
    let parted : Items = at i (Mark sign.Semicolon) ∷ [] in
    either (is_mark sign.Comma i) (is_mark sign.Comma i) parted (i ∷ []) (all_unlined parted) (unlined i ∷ [])
    refl refl refl
put_unlined (Further k) s i is =
    either (is_declared k i.terminal is) (is_declared k i.terminal (all_unlined is)) (type_at i ∷ with_value i is)
    (kept_type k i ∷ i ∷ []) (unlined (type_at i) ∷ with_value (unlined i) (all_unlined is))
    (kept_type k (unlined i) ∷ unlined i ∷ []) (declared_unlined k i.terminal is)
    (one (type_at i) (with_value i is) (with_value (unlined i) (all_unlined is)) (value_unlined i is)) (both_kept k i)

-- ---- behind a token

abbrev first_mode : Item Terminal → Option Kind → Mode
first_mode i o = elim o as (λ o. Mode) [ None ↦ other_mode i | Some k ↦ Named k ]

mode_unlined : (m : Mode) (s : State) (i : Item Terminal) (is : Items) →
    mode_behind m s (unlined i) (all_unlined is) ≡ mode_behind m s i is
mode_unlined Begins s i is =
    ap (λ (b : Bool). cond b Gone (first_mode i (declared_at s (unlined i) (all_unlined is)))) (returns_unlined s i is)
    ∙ ap (λ (o : Option Kind). cond (returns_at s i is) Gone (first_mode i o)) (declares_unlined s i is)
mode_unlined Inside s i is = refl
mode_unlined Gone s i is = refl
mode_unlined (Named k) s i is = refl
mode_unlined (Valued k) s i is = refl
mode_unlined (Further k) s i is = ap (λ (b : Bool). cond b (Valued k) (other_mode i)) (declared_unlined k i.terminal is)

abbrev state_of : ℕ → Mode → State
state_of d m = record { depth = d; mode = m }

behind_unlined : (s : State) (i : Item Terminal) (is : Items) → behind s (unlined i) (all_unlined is) ≡ behind s i is
behind_unlined s i is = ap (state_of (next_depth i s.depth)) (mode_unlined s.mode s i is)

-- ---- all tokens

from_unlined : (is : Items) (s : State) → AreUnlined (widened_from s (all_unlined is)) (widened_from s is)
from_unlined [] s = refl
from_unlined (i ∷ is) s = step (is_directive i.terminal) (from_unlined is)
  where
    step : (t : Bool) → ((s : State) → AreUnlined (widened_from s (all_unlined is)) (widened_from s is)) →
        AreUnlined
        (cond t (unlined i ∷ widened_from s (all_unlined is))
        (put_by s.mode s (unlined i) (bare (all_unlined is))
        ++ widened_from (behind s (unlined i) (bare (all_unlined is))) (all_unlined is)))
        (cond t (i ∷ widened_from s is) (put_by s.mode s i (bare is) ++ widened_from (behind s i (bare is)) is))
    step true ih = one i (widened_from s is) (widened_from s (all_unlined is)) (ih s)
    step false ih =
        ap (λ (js : Items). put_by s.mode s (unlined i) js ++ widened_from (behind s (unlined i) js) (all_unlined is))
        (bare_unlined is)
        ∙ some (put_by s.mode s i (bare is)) (put_by s.mode s (unlined i) (all_unlined (bare is))) _ _
        (put_unlined s.mode s i (bare is))
        (ap (λ (r : State). widened_from r (all_unlined is)) (behind_unlined s i (bare is)) ∙ ih (behind s i (bare is)))

pub widened_unlined : (is : Items) → AreUnlined (widened (all_unlined is)) (widened is)
widened_unlined is = ap (widened_from begin) (numbered_unlined is true) ∙ from_unlined (numbered true is) begin
