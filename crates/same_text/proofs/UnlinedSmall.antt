-- Whether a scalar is small is said without a look at the lines of the tokens.
use Rattle.std.proofs.Common.{◌≡◌, ◌∙◌, ℕ, zero, suc, ◌-◌, Bool, true, false, cond, List, [], ◌∷◌, Option, Some, None, refl, ap}
use Rattle.std.specs.Prelude.{not, ◌&&◌, codes, ◌==◌}
use Rattle.c_tokens.specs.declared.kind.Sign.TheVariants as sign
use Rattle.c_grammar.specs.Terminal.{Terminal, Fixed, Mark, Name, Num, Line, Unknown, Unworked, End}
use Rattle.c_grammar.specs.Texts.{Item}
use Rattle.c_grammar.specs.Blocks.{Items}
use Rattle.c_grammar.specs.Constants.{is_mark, is_name}
use Rattle.c_grammar.specs.Counters.{is_set}
use Rattle.c_ints.specs.Ints.{Count, Flag, Kind, State, Value, adds_to, begins_number, behind_one, declared_at, ends, first_declared, inner_depth, is_any_type, is_declared, is_last_brace, is_last_return, is_small, is_word, keeps, kind_of, max_scope, max_value, nothing_read, returns_at, small_behind, small_from, stays_small, value_by}
use Rattle.same_text.specs.Laws.{unlined}
use Rattle.same_text.proofs.Unlined.{all_unlined}

-- of two truths the same one
choice : (b b' x x' y y' : Bool) → b' ≡ b → x' ≡ x → y' ≡ y → cond b' x' y' ≡ cond b x y
choice b b' x x' y y' e f g = rw (e, f, g) refl

-- ---- values

small_unlined : (n : ℕ) (k : Kind) (v : Value) (is : Items) → small_from n k v (all_unlined is) ≡ small_from n k v is
small_unlined zero k v is = refl
small_unlined (suc n) k v [] = refl
small_unlined (suc n) k v (i ∷ is) = go (ends i) (value_by k v i) (λ w. small_unlined n k w is)
  where
    go : (b : Bool) (o : Option Value) → ((w : Value) → small_from n k w (all_unlined is) ≡ small_from n k w is) →
        cond b (is_small v) (elim o as (λ o. Bool) [ None ↦ false | Some w ↦ small_from n k w (all_unlined is) ])
        ≡ cond b (is_small v) (elim o as (λ o. Bool) [ None ↦ false | Some w ↦ small_from n k w is ])
    go true o r = refl
    go false None r = refl
    go false (Some w) r = r w

-- the value from its beginning on
begun_unlined : (k : Kind) (is : Items) →
    small_from max_value k nothing_read (all_unlined is) ≡ small_from max_value k nothing_read is
begun_unlined k is = small_unlined max_value k nothing_read is

adds_unlined : (k : Kind) (x : List ℕ) (i : Item Terminal) (is : Items) →
    adds_to k x (unlined i) (all_unlined is) ≡ adds_to k x i is
adds_unlined Count x i [] = refl
adds_unlined Count x i (j ∷ is) = refl
adds_unlined Flag x i is = refl

one_unlined : (is : Items) → behind_one (all_unlined is) ≡ all_unlined (behind_one is)
one_unlined [] = refl
one_unlined (i ∷ is) = refl

small_behind_unlined : (k : Kind) (x : List ℕ) (is : Items) → small_behind k x (all_unlined is) ≡ small_behind k x is
small_behind_unlined k x [] = refl
small_behind_unlined k x (i ∷ is) =
    choice _ _ _ _ _ _ (adds_unlined k x i is)
    (ap (λ (js : Items). small_from max_value k nothing_read js) (one_unlined is) ∙ begun_unlined k (behind_one is))
    (begun_unlined k (i ∷ is))

-- ---- the rest of a block

pub set_unlined : (is : Items) → is_set (all_unlined is) ≡ is_set is
set_unlined [] = refl
set_unlined (i ∷ is) = refl

stays_unlined : (k : Kind) (x : List ℕ) (is : Items) → stays_small k x (all_unlined is) ≡ stays_small k x is
stays_unlined k x is =
    choice _ _ _ _ _ _ (set_unlined is)
    (ap (small_behind k x) (one_unlined is) ∙ small_behind_unlined k x (behind_one is)) refl

keeps_unlined : (n : ℕ) (k : Kind) (x : List ℕ) (typed : Bool) (d : ℕ) (is : Items) →
    keeps n k x typed d (all_unlined is) ≡ keeps n k x typed d is
keeps_unlined zero k x typed d is = refl
keeps_unlined (suc n) k x typed d [] = refl
keeps_unlined (suc n) k x typed d (i ∷ is) =
    rw (keeps_unlined n k x false (d - 1) is)
    (rw (keeps_unlined n k x false d is)
    (rw (keeps_unlined n k x (is_any_type i.terminal) (inner_depth i d) is) (rw (stays_unlined k x is) refl)))

named_unlined : (k : Kind) (x : List ℕ) (is : Items) →
    is_declared k (Name x) (all_unlined is) ≡ is_declared k (Name x) is
named_unlined k x [] = refl
named_unlined k x (e ∷ is) =
    let kept : keeps max_scope k x false 0 (all_unlined is) ≡ keeps max_scope k x false 0 is =
    keeps_unlined max_scope k x false 0 is in
    choice (is_mark sign.Equal e) _ _ _ _ _ refl
    (ap (λ (b : Bool). b && keeps max_scope k x false 0 (all_unlined is)) (begun_unlined k is)
    ∙ ap (λ (b : Bool). small_from max_value k nothing_read is && b) kept)
    (ap (λ (b : Bool). ends e && b) kept)

pub declared_unlined : (k : Kind) (t : Terminal) (is : Items) → is_declared k t (all_unlined is) ≡ is_declared k t is
declared_unlined k (Name x) is = named_unlined k x is
declared_unlined k (Fixed w) is = refl
declared_unlined k (Mark m) is = refl
declared_unlined k (Num n) is = refl
declared_unlined k (Line ts) is = refl
declared_unlined k Unknown is = refl
declared_unlined k Unworked is = refl
declared_unlined k End is = refl

first_unlined : (k : Kind) (is : Items) → first_declared k (all_unlined is) ≡ first_declared k is
first_unlined k [] = refl
first_unlined k (x ∷ is) = declared_unlined k x.terminal is

pub declares_unlined : (s : State) (i : Item Terminal) (is : Items) →
    declared_at s (unlined i) (all_unlined is) ≡ declared_at s i is
declares_unlined s i is = ap (λ (o : Option Kind). cond (s.depth == 0) None o) (go (kind_of i.terminal))
  where
    go : (o : Option Kind) →
        elim o as (λ o. Option Kind) [ None ↦ None | Some k ↦ cond (first_declared k (all_unlined is)) (Some k) None ]
        ≡ elim o as (λ o. Option Kind) [ None ↦ None | Some k ↦ cond (first_declared k is) (Some k) None ]
    go None = refl
    go (Some k) = ap (λ (b : Bool). cond b (Some k) None) (first_unlined k is)

-- ---- the end of main

brace_unlined : (is : Items) → is_last_brace (all_unlined is) ≡ is_last_brace is
brace_unlined [] = refl
brace_unlined (b ∷ []) = refl
brace_unlined (b ∷ c ∷ is) = refl

number_unlined : (is : Items) → begins_number (all_unlined is) ≡ begins_number is
number_unlined [] = refl
number_unlined (i ∷ is) = refl

last_unlined : (n : ℕ) (named : Bool) (is : Items) → is_last_return n named (all_unlined is) ≡ is_last_return n named is
last_unlined zero named is = refl
last_unlined (suc n) named [] = refl
last_unlined (suc n) named (i ∷ is) = rw (brace_unlined is, last_unlined n (is_name i.terminal) is) refl

pub returns_unlined : (s : State) (i : Item Terminal) (is : Items) →
    returns_at s (unlined i) (all_unlined is) ≡ returns_at s i is
returns_unlined s i is =
    rw (number_unlined is)
    (ap (λ (b : Bool). s.depth == 1 && (is_word (codes "return") i.terminal && (not (begins_number is) && b)))
    (last_unlined max_value false is))
