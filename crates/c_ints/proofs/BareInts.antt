-- Scalars are widened without a look at directive lines.
use Rattle.std.proofs.Common.{◌≡◌, ◌∙◌, ◌++◌, ℕ, Bool, true, false, cond, List, [], ◌∷◌, Option, Some, None, refl, ap}
use Rattle.std.proofs.lemmas.Bool.{false≢true}
use Rattle.std.specs.Prelude.{◌&&◌, not, codes}
use Rattle.c_tokens.specs.declared.kind.Sign.TheVariants as sign
use Rattle.c_grammar.specs.Terminal.{Terminal, Fixed, Mark, Name, Num, Line, Unknown, Unworked, End}
use Rattle.c_grammar.specs.Texts.{Item}
use Rattle.c_grammar.specs.Blocks.{Items, bare, is_directive}
use Rattle.c_grammar.specs.Constants.{is_mark}
use Rattle.c_grammar.specs.Counters.{is_set}
use Rattle.c_grammar.proofs.BareTokens.{ArePlain, IsBare, IsPlain, either_plain, one, same_bare, some}
use Rattle.c_ints.specs.Ints.{Begins, Count, Flag, Further, Gone, Inside, Kind, Mode, Named, State, Valued, begin, behind, declared_at, declares_truth, is_any_type, is_declared, is_word, kept_type, number_at, numbered, put_by, returns_at, type_at, widened, widened_from, with_value}

-- ---- true and false

-- a directive line is no type, and neither true nor false
no_word : (x : List ℕ) (t : Terminal) → is_directive t ≡ true → is_word x t ≡ false
no_word x (Line ts) e = refl
no_word x (Name y) e = absurd (false≢true e)
no_word x (Fixed w) e = refl
no_word x (Mark m) e = refl
no_word x (Num n) e = refl
no_word x Unknown e = refl
no_word x Unworked e = refl
no_word x End e = refl

no_type : (t : Terminal) → is_directive t ≡ true → is_any_type t ≡ false
no_type (Line ts) e = refl
no_type (Name y) e = absurd (false≢true e)
no_type (Fixed w) e = absurd (false≢true e)
no_type (Mark m) e = refl
no_type (Num n) e = refl
no_type Unknown e = refl
no_type Unworked e = refl
no_type End e = refl

line_kept : (i : Item Terminal) → is_directive i.terminal ≡ true → number_at i ≡ i
line_kept i e = rw (no_word (codes "true") i.terminal e, no_word (codes "false") i.terminal e) refl

none_declared : (i : Item Terminal) (is : Items) → is_directive i.terminal ≡ true → declares_truth i is ≡ false
none_declared i [] e = refl
none_declared i (x ∷ is) e = rw (no_type i.terminal e) refl

kept_if : (b : Bool) (i : Item Terminal) → is_directive i.terminal ≡ true → cond b (number_at i) i ≡ i
kept_if true i e = line_kept i e
kept_if false i e = refl

still_free : (b : Bool) → b && true ≡ b
still_free true = refl
still_free false = refl

either_item : (b : Bool) (i j : Item Terminal) → IsPlain i → IsPlain j → IsPlain (cond b i j)
either_item true i j h k = h
either_item false i j h k = k

number_plain : (i : Item Terminal) → IsPlain i → IsPlain (number_at i)
number_plain i h =
    either_item (is_word (codes "true") i.terminal) _ _ refl
    (either_item (is_word (codes "false") i.terminal) _ _ refl h)

pub numbered_bare : (is : Items) (b : Bool) → IsBare (numbered b (bare is)) (numbered b is)
numbered_bare [] b = refl
numbered_bare (i ∷ is) b = step (numbered_bare is) (is_directive i.terminal) refl
  where
    step : ((b : Bool) → IsBare (numbered b (bare is)) (numbered b is)) → (t : Bool) → is_directive i.terminal ≡ t →
        IsBare (numbered b (bare (i ∷ is))) (numbered b (i ∷ is))
    step ih true e =
        rw (kept_if b i e, none_declared i (bare is) e, still_free b, e) (ih b)
    step ih false e =
        rw e (ap (λ (js : Items). cond b (number_at i) i ∷ numbered (b && not (declares_truth i js)) (bare is))
        (same_bare is) ∙ one (cond b (number_at i) i) _ _ (either_item b (number_at i) i (number_plain i e) e)
        (ih (b && not (declares_truth i (bare is)))))

-- ---- what is written

first_plain : (i : Item Terminal) (o : Option Kind) → IsPlain i →
    ArePlain (elim o as (λ o. Items) [ None ↦ i ∷ [] | Some k ↦ type_at i ∷ [] ])
first_plain i None h = (h, tt)
first_plain i (Some k) h = (refl, tt)

value_plain : (i : Item Terminal) (is : Items) → IsPlain i → ArePlain (with_value i is)
value_plain i is h = either_plain (is_set is) _ _ (h, tt) (h, (refl, (refl, tt)))

kept_plain : (k : Kind) (i : Item Terminal) → IsPlain (kept_type k i)
kept_plain Count i = refl
kept_plain Flag i = refl

put_plain : (m : Mode) (s : State) (i : Item Terminal) (is : Items) → IsPlain i → ArePlain (put_by m s i is)
put_plain Begins s i is h = either_plain (returns_at s i is) _ _ tt (first_plain i (declared_at s i is) h)
put_plain Inside s i is h = (h, tt)
put_plain Gone s i is h = either_plain (is_mark sign.CloseBrace i) _ _ (h, tt) tt
put_plain (Named k) s i is h = value_plain i is h
put_plain (Valued k) s i is h = either_plain (is_mark sign.Comma i) _ _ (refl, tt) (h, tt)
put_plain (Further k) s i is h =
    either_plain (is_declared k i.terminal is) _ _ (refl, value_plain i is h) (kept_plain k i, (h, tt))

-- ---- all tokens

from_bare : (is : Items) (s : State) → IsBare (widened_from s (bare is)) (widened_from s is)
from_bare [] s = refl
from_bare (i ∷ is) s = step (from_bare is) (is_directive i.terminal) refl
  where
    step : ((s : State) → IsBare (widened_from s (bare is)) (widened_from s is)) → (t : Bool) →
        is_directive i.terminal ≡ t → IsBare (widened_from s (bare (i ∷ is))) (widened_from s (i ∷ is))
    step ih true e = rw e (rw e (ih s))
    step ih false e =
        rw e (rw e (ap (λ (js : Items). put_by s.mode s i js ++ widened_from (behind s i js) (bare is)) (same_bare is)
        ∙ some (put_by s.mode s i (bare is)) _ _ (put_plain s.mode s i (bare is) e) (ih (behind s i (bare is)))))

pub widened_bare : (is : Items) → IsBare (widened (bare is)) (widened is)
widened_bare is = ap (widened_from begin) (numbered_bare is true) ∙ from_bare (numbered true is) begin
