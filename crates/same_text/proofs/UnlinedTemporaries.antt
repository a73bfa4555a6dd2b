-- Temporaries are put in place without a look at the lines of the tokens.
use Rattle.std.proofs.Common.{◌≡◌, ◌∙◌, ℕ, zero, suc, ◌+◌, ◌-◌, Bool, true, false, cond, List, [], ◌∷◌, map, length, Option, Some, None, refl, ap}
use Rattle.std.specs.Prelude.{◌&&◌, nat_le, nat_lt, option_and_then}
use Rattle.c_tokens.specs.declared.kind.Sign.TheVariants as sign
use Rattle.c_grammar.specs.Lexeme.{Int}
use Rattle.c_grammar.specs.Terminal.{Terminal, Fixed, Mark, Name, Num, Line, Unknown, Unworked, End}
use Rattle.c_grammar.specs.Texts.{Item}
use Rattle.c_grammar.specs.Blocks.{Items, at, bare, is_directive}
use Rattle.c_grammar.specs.Constants.{is_mark}
use Rattle.c_grammar.specs.Counters.{is_set, is_type}
use Rattle.c_grammar.specs.Triangles.{name_in}
use Rattle.c_temporaries.specs.Temporaries.{ADivisor, AShift, AnOperand, AnOperator, Known, Onward, State, Temporary, Terminals, Value, Wanted, Whole, begin, behind, declared_at, declared_in, further_on, in_brackets, in_place, inner_depth, is_whole, max_known, max_scope, max_value, may_begin, named_by, nothing_read, placed, placed_by, placed_on, put, put_on, spent, stays, temporary_of, typed, typed_in, value_at, value_by, value_from, written_at}
use Rattle.same_text.specs.Laws.{unlined}
use Rattle.same_text.proofs.Unlined.{AreUnlined, all_unlined, bare_unlined, one, some}

-- ---- values

abbrev unlined_whole : Option Whole → Option Whole
unlined_whole None = None
unlined_whole (Some w) = Some (record { tokens = w.tokens; len = w.len; more = w.more; rest = all_unlined w.rest })

by_unlined : (w : Wanted) (ks : List Known) (v : Value) (i : Item Terminal) →
    value_by w ks v (unlined i) ≡ value_by w ks v i
by_unlined AnOperand ks v i = refl
by_unlined ADivisor ks v i = refl
by_unlined AShift ks v i = refl
by_unlined AnOperator ks v i = refl

-- the same value, and the tokens behind it without their lines
value_unlined : (is : Items) (ks : List Known) (n : ℕ) (v : Value) →
    value_from ks n v (all_unlined is) ≡ unlined_whole (value_from ks n v is)
value_unlined [] ks n v = refl
value_unlined (i ∷ is) ks n v =
    rw (by_unlined v.wanted ks v i)
    (go (is_whole v i) (value_by v.wanted ks v i) (λ w. value_unlined is ks (n + 1) w))
  where
    go : (b : Bool) (o : Option Value) →
        ((w : Value) → value_from ks (n + 1) w (all_unlined is) ≡ unlined_whole (value_from ks (n + 1) w is)) →
        cond b (Some (record { tokens = v.tokens; len = n + 1; more = is_mark sign.Comma i; rest = all_unlined is }))
        (option_and_then (λ w. value_from ks (n + 1) w (all_unlined is)) o)
        ≡ unlined_whole (cond b (Some (record { tokens = v.tokens; len = n + 1; more = is_mark sign.Comma i; rest = is }))
        (option_and_then (λ w. value_from ks (n + 1) w is) o))
    go true o r = refl
    go false None r = refl
    go false (Some w) r = r w

-- ---- what follows

assigned_unlined : (is : Items) → is_set (all_unlined is) ≡ is_set is
assigned_unlined [] = refl
assigned_unlined (i ∷ is) = refl

stays_unlined : (k : ℕ) (x : List ℕ) (typed : Bool) (d : ℕ) (is : Items) →
    stays k x typed d (all_unlined is) ≡ stays k x typed d is
stays_unlined zero x typed d is = refl
stays_unlined (suc k) x typed d [] = refl
stays_unlined (suc k) x typed d (i ∷ is) =
    rw (stays_unlined k x false (d - 1) is)
    (rw (stays_unlined k x false d is)
    (rw (stays_unlined k x (is_type i.terminal) (inner_depth i d) is) (rw (assigned_unlined is) refl)))

name_unlined : (is : Items) → name_in (all_unlined is) ≡ name_in is
name_unlined [] = refl
name_unlined (o ∷ []) = refl
name_unlined (o ∷ t ∷ []) = refl
name_unlined (o ∷ t ∷ x ∷ []) = refl
name_unlined (o ∷ t ∷ x ∷ e ∷ is) = refl

-- ---- temporaries

temporary_unlined : (d : ℕ) (x : List ℕ) (o : Option Whole) → temporary_of d x (unlined_whole o) ≡ temporary_of d x o
temporary_unlined d x None = refl
temporary_unlined d x (Some w) =
    ap (λ (t : Bool). cond (nat_le (length w.tokens) max_value && t)
    (Some (record { known = record { name = x; value = in_brackets w.tokens; depth = d }; len = w.len + 1; more = w.more })) None)
    (stays_unlined max_scope x false 0 w.rest)

named_unlined : (s : State) (t : Terminal) (is : Items) → named_by s t (all_unlined is) ≡ named_by s t is
named_unlined s (Name x) is =
    ap (temporary_of s.depth x) (value_unlined is s.knowns 0 nothing_read)
    ∙ temporary_unlined s.depth x (value_from s.knowns 0 nothing_read is)
named_unlined s (Fixed w) is = refl
named_unlined s (Mark m) is = refl
named_unlined s (Num n) is = refl
named_unlined s (Line ts) is = refl
named_unlined s Unknown is = refl
named_unlined s Unworked is = refl
named_unlined s End is = refl

declared_in_unlined : (s : State) (x : Item Terminal) (is : Items) →
    declared_in s (unlined x) (all_unlined is) ≡ declared_in s x is
declared_in_unlined s x [] = refl
declared_in_unlined s x (e ∷ is) =
    ap (λ (o : Option Temporary). cond (is_mark sign.Equal e && nat_lt (length s.knowns) max_known) o None)
    (named_unlined s x.terminal is)

typed_unlined : (s : State) (is : Items) → typed_in s (all_unlined is) ≡ typed_in s is
typed_unlined s [] = refl
typed_unlined s (x ∷ is) = declared_in_unlined s x is

declared_unlined : (s : State) (i : Item Terminal) (is : Items) →
    declared_at s (unlined i) (all_unlined is) ≡ declared_at s i is
declared_unlined s i is = ap (λ (o : Option Temporary). cond (may_begin s i) o None) (typed_unlined s is)

-- ---- the tokens

written_unlined : (i : Item Terminal) (o : Option Terminals) → AreUnlined (written_at (unlined i) o) (written_at i o)
written_unlined i None = refl
written_unlined i (Some ts) = go ts
  where
    go : (ts : Terminals) → AreUnlined (map (at (unlined i)) ts) (map (at i) ts)
    go [] = refl
    go (t ∷ ts) = one (at i t) (map (at i) ts) (map (at (unlined i)) ts) (go ts)

behind_unlined : (i : Item Terminal) (is : Items) (s : State) → behind (unlined i) (all_unlined is) s ≡ behind i is s
behind_unlined i is s = rw (name_unlined is) refl

abbrev GoesSame : Onward → Onward → Type 0
GoesSame go' go = (s : State) (k : ℕ) → AreUnlined (go' s k) (go s k)

module _ (i : Item Terminal) (is : Items) (go go' : Onward) (r : GoesSame go' go) where
  put_unlined : (s : State) (o : Option Terminals) →
      AreUnlined (put s (unlined i) (all_unlined is) o go') (put s i is o go)
  put_unlined s o =
      some (written_at i o) (written_at (unlined i) o) _ _ (written_unlined i o)
      (ap (λ (q : State). go' q 0) (behind_unlined i is (spent o s)) ∙ r (behind i is (spent o s)) 0)

  put_on_unlined : (s : State) (o : Option Temporary) →
      AreUnlined (put_on s (unlined i) (all_unlined is) o go') (put_on s i is o go)
  put_on_unlined s None = put_unlined s (value_at s i.terminal)
  put_on_unlined s (Some t) = r _ _

  further_unlined : (s : State) (o : Option Temporary) →
      AreUnlined (further_on s (unlined i) (all_unlined is) o go') (further_on s i is o go)
  further_unlined s None =
      one (at i (Fixed Int)) _ _ (put_unlined (typed s) (value_at s i.terminal))
  further_unlined s (Some t) = r _ _

  by_unlined_on : (b : Bool) (s : State) →
      AreUnlined (placed_by b s (unlined i) (all_unlined is) go') (placed_by b s i is go)
  by_unlined_on true s =
      ap (λ (o : Option Temporary). further_on s (unlined i) (all_unlined is) o go') (declared_in_unlined s i is)
      ∙ further_unlined s (declared_in s i is)
  by_unlined_on false s =
      ap (λ (o : Option Temporary). put_on s (unlined i) (all_unlined is) o go') (declared_unlined s i is)
      ∙ put_on_unlined s (declared_at s i is)

  on_unlined : (s : State) (k : ℕ) →
      AreUnlined (placed_on s k (unlined i) (all_unlined is) go') (placed_on s k i is go)
  on_unlined s zero = by_unlined_on s.declares s
  on_unlined s (suc k) = r s k

placed_unlined : (is : Items) (s : State) (k : ℕ) → AreUnlined (placed s k (all_unlined is)) (placed s k is)
placed_unlined [] s k = refl
placed_unlined (i ∷ is) s k = step (is_directive i.terminal) (λ s k. placed_unlined is s k)
  where
    step : (t : Bool) → GoesSame (λ s k. placed s k (all_unlined is)) (λ s k. placed s k is) →
        AreUnlined
        (cond t (unlined i ∷ placed s k (all_unlined is))
        (placed_on s k (unlined i) (bare (all_unlined is)) (λ s k. placed s k (all_unlined is))))
        (cond t (i ∷ placed s k is) (placed_on s k i (bare is) (λ s k. placed s k is)))
    step true ih = one i (placed s k is) (placed s k (all_unlined is)) (ih s k)
    step false ih =
        ap (λ (js : Items). placed_on s k (unlined i) js (λ s k. placed s k (all_unlined is))) (bare_unlined is)
        ∙ on_unlined i (bare is) (λ s k. placed s k is) (λ s k. placed s k (all_unlined is)) ih s k

pub place_unlined : (is : Items) → AreUnlined (in_place (all_unlined is)) (in_place is)
place_unlined is = placed_unlined is begin 0
