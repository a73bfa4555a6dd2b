-- Initializers of globals are left out, and set in main, without a look at the lines of the tokens.
use Rattle.std.proofs.Common.{◌≡◌, ℕ, zero, suc, ◌+◌, Bool, true, false, cond, List, [], ◌∷◌, ◌++◌, Option, Some, None, refl, ap, ◌∙◌}
use Rattle.std.specs.Prelude.{nat_lt}
use Rattle.c_tokens.specs.declared.kind.Sign.TheVariants as sign
use Rattle.c_grammar.specs.Terminal.{Terminal, Fixed, Mark, Name, Num, Line, Unknown, Unworked, End}
use Rattle.c_grammar.specs.Texts.{Item}
use Rattle.c_grammar.specs.Blocks.{Items, is_directive, bare}
use Rattle.c_grammar.specs.Constants.{is_mark}
use Rattle.c_grammar.specs.Initial.{value_of, cell_set, Initial, scalar_valued, ends_list, cell_valued, list_initial, named_scalar, named_array, is_type, length_in, initial, Globals, in_main, Onward, outside_of, declared, set_late, outside, global_on, initialized}
use Rattle.same_text.specs.Laws.{unlined}
use Rattle.same_text.proofs.Unlined.{all_unlined, AreUnlined, either, one, some, bare_unlined}

both_unlined : (is js : Items) → all_unlined is ++ all_unlined js ≡ all_unlined (is ++ js)
both_unlined [] js = refl
both_unlined (i ∷ is) js = ap (λ (v : Items). unlined i ∷ v) (both_unlined is js)

abbrev initial_unlined : Option Initial → Option Initial
initial_unlined None = None
initial_unlined (Some f) = Some (record { len = f.len; sets = all_unlined f.sets })

picked_same : (b : Bool) (f g f' g' : Option Initial) → f' ≡ initial_unlined f → g' ≡ initial_unlined g →
    cond b f' g' ≡ initial_unlined (cond b f g)
picked_same true f g f' g' h k = h
picked_same false f g f' g' h k = k

value_same : (x : List ℕ) (i : Item Terminal) (o : Option ℕ) → scalar_valued x (unlined i) o ≡ initial_unlined (scalar_valued x i o)
value_same x i None = refl
value_same x i (Some n) = refl

scalar_same : (t : Terminal) (is : Items) → named_scalar t (all_unlined is) ≡ initial_unlined (named_scalar t is)
scalar_same (Name x) [] = refl
scalar_same (Name x) (n ∷ []) = refl
scalar_same (Name x) (n ∷ s ∷ is) =
    picked_same (is_mark sign.Semicolon s) _ None _ None (value_same x n (value_of n.terminal)) refl
scalar_same (Fixed w) is = refl
scalar_same (Mark m) is = refl
scalar_same (Num n) is = refl
scalar_same (Line ts) is = refl
scalar_same Unknown is = refl
scalar_same Unworked is = refl
scalar_same End is = refl

abbrev Goes : Type 0
Goes = Items → Option Initial

cell_same : (x : List ℕ) (length k : ℕ) (sets : Items) (i s e : Item Terminal) (o : Option ℕ) (go go' : Goes) →
    ((js : Items) → go' (all_unlined js) ≡ initial_unlined (go js)) →
    cell_valued x length k (all_unlined sets) (unlined i) (unlined s) (unlined e) o go'
    ≡ initial_unlined (cell_valued x length k sets i s e o go)
cell_same x length k sets i s e None go go' r = refl
cell_same x length k sets i s e (Some n) go go' r =
    ap
    (λ (js : Items). cond (nat_lt k length)
    (cond (ends_list s e) (Some (record { len = k + k + 3; sets = js })) (cond (is_mark sign.Comma s) (go' js) None)) None)
    (both_unlined sets (cell_set x k i n))
    ∙ picked_same (nat_lt k length) _ None _ None
    (picked_same (ends_list s e) _ _ _ _ refl
    (picked_same (is_mark sign.Comma s) _ None _ None (r (sets ++ cell_set x k i n)) refl)) refl

list_same : (x : List ℕ) (length k : ℕ) (sets is : Items) →
    list_initial x length k (all_unlined sets) (all_unlined is) ≡ initial_unlined (list_initial x length k sets is)
list_same x length k sets [] = refl
list_same x length k sets (n ∷ []) = refl
list_same x length k sets (n ∷ s ∷ []) = refl
list_same x length k sets (n ∷ s ∷ e ∷ is) =
    cell_same x length k sets n s e (value_of n.terminal) (λ js. list_initial x length (k + 1) js (e ∷ is))
    (λ js. list_initial x length (k + 1) js (all_unlined (e ∷ is))) (λ js. list_same x length (k + 1) js (e ∷ is))

array_same : (t : Terminal) (o : Option ℕ) (is : Items) → named_array t o (all_unlined is) ≡ initial_unlined (named_array t o is)
array_same (Name x) (Some length) [] = refl
array_same (Name x) (Some length) (o ∷ is) =
    picked_same (is_mark sign.OpenBrace o) _ None _ None (list_same x length 0 [] is) refl
array_same (Name x) None is = refl
array_same (Fixed w) o is = refl
array_same (Mark m) o is = refl
array_same (Num n) o is = refl
array_same (Line ts) o is = refl
array_same Unknown o is = refl
array_same Unworked o is = refl
array_same End o is = refl

initial_same : (since is : Items) → initial (all_unlined since) (all_unlined is) ≡ initial_unlined (initial since is)
initial_same [] is = refl
initial_same (t ∷ []) is = refl
initial_same (t ∷ x ∷ []) is = picked_same (is_type t) _ None _ None (scalar_same x.terminal is) refl
initial_same (t ∷ x ∷ o ∷ []) is = refl
initial_same (t ∷ x ∷ o ∷ n ∷ []) is = refl
initial_same (t ∷ x ∷ o ∷ n ∷ c ∷ []) is =
    picked_same (is_type t) _ None _ None (array_same x.terminal (length_in o n c) is) refl
initial_same (t ∷ x ∷ o ∷ n ∷ c ∷ d ∷ since) is = refl

-- ---- all tokens

abbrev globals_unlined : Globals → Globals
globals_unlined g = record { since = all_unlined g.since; late = all_unlined g.late; inside = g.inside }

abbrev GoesSame : Onward → Onward → Type 0
GoesSame go' go = (g : Globals) (k : ℕ) → AreUnlined (go' (globals_unlined g) k) (go g k)

since_same : (b : Bool) (i : Item Terminal) (since : Items) →
    cond b [] (all_unlined since ++ unlined i ∷ []) ≡ all_unlined (cond b [] (since ++ i ∷ []))
since_same true i since = refl
since_same false i since = both_unlined since (i ∷ [])

module _ (go go' : Onward) (r : GoesSame go' go) where
  declared_same : (i : Item Terminal) (g : Globals) →
      AreUnlined (declared (unlined i) (globals_unlined g) go') (declared i g go)
  declared_same i g =
      let b : Bool = is_mark sign.Semicolon i in
      ap (λ (js : Items). unlined i ∷ go' (outside_of js (all_unlined g.late)) 0) (since_same b i g.since)
      ∙ one i _ _ (r (outside_of (cond b [] (g.since ++ i ∷ [])) g.late) 0)

  late_same : (i : Item Terminal) (g : Globals) (o : Option Initial) →
      AreUnlined (set_late (unlined i) (globals_unlined g) (initial_unlined o) go') (set_late i g o go)
  late_same i g None = declared_same i g
  late_same i g (Some f) =
      ap (λ (js : Items). go' (outside_of [] js) f.len) (both_unlined g.late f.sets) ∙ r (outside_of [] (g.late ++ f.sets)) f.len

  outside_same : (i : Item Terminal) (is : Items) (g : Globals) →
      AreUnlined (outside (unlined i) (all_unlined is) (globals_unlined g) go') (outside i is g go)
  outside_same i is g =
      either (is_mark sign.OpenBrace i) _ _ _ _ _ refl (one i _ _ (some g.late (all_unlined g.late) _ _ refl (r in_main 0)))
      (either (is_mark sign.Equal i) _ _ _ _ _ refl
      (ap (λ (o : Option Initial). set_late (unlined i) (globals_unlined g) o go') (initial_same g.since is)
      ∙ late_same i g (initial g.since is)) (declared_same i g))

  global_same : (k : ℕ) (g : Globals) (i : Item Terminal) (is : Items) →
      AreUnlined (global_on k (globals_unlined g) (unlined i) (all_unlined is) go') (global_on k g i is go)
  global_same zero g i is = either g.inside _ _ _ _ _ refl (one i _ _ (r g 0)) (outside_same i is g)
  global_same (suc k) g i is = r g k

pub initialized_unlined : (is : Items) (g : Globals) (k : ℕ) →
    AreUnlined (initialized (globals_unlined g) k (all_unlined is)) (initialized g k is)
unfolding initialized
initialized_unlined [] g k = refl
initialized_unlined (i ∷ is) g k = step (is_directive i.terminal) (λ g k. initialized_unlined is g k)
  where
    step : (b : Bool) → GoesSame (λ g k. initialized g k (all_unlined is)) (λ g k. initialized g k is) →
        AreUnlined
        (cond b (unlined i ∷ initialized (globals_unlined g) k (all_unlined is))
        (global_on k (globals_unlined g) (unlined i) (bare (all_unlined is)) (λ g k. initialized g k (all_unlined is))))
        (cond b (i ∷ initialized g k is) (global_on k g i (bare is) (λ g k. initialized g k is)))
    step true ih = one i (initialized g k is) (initialized (globals_unlined g) k (all_unlined is)) (ih g k)
    step false ih =
        ap (λ (js : Items). global_on k (globals_unlined g) (unlined i) js (λ g k. initialized g k (all_unlined is)))
        (bare_unlined is)
        ∙ global_same (λ g k. initialized g k is) (λ g k. initialized g k (all_unlined is)) ih k g i (bare is)
