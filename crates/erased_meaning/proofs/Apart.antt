-- Names that can be used are apart: a boxed scalar has a number and an array of its own.
use Rattle.std.proofs.Common.{◌≡◌, ℕ, ◌+◌, ◌<◌, ◌≤◌, Bool, true, false, cond, eqb, List, [], ◌∷◌, Option, Some, None, is_some, refl, sym, ap, subst, ◌∙◌, arith}
use Rattle.std.specs.Prelude.{◌||◌}
use Rattle.std.specs.Str.{bytes_eq}
use Rattle.std.proofs.lemmas.Bool.Decides.{nat_tests}
use Rattle.std.proofs.lemmas.Slice.Eq.{bytes_eq-Decides}
use Rattle.base.specs.declared.tree.ArrayId.{ArrayId}
use Rattle.base.specs.declared.tree.ScalarId.{ScalarId}
use Rattle.c_grammar.specs.Grammar.{Stmt, Declare, Assign, Store, Repeat, Choose, ChooseElse, Show, Block, Directive, Atomic, AtomicAssign, AtomicIf, OverBlock, OverLoop}
use Rattle.c_expressions.specs.declared.scope.Meaning.{Meaning}
use Rattle.c_expressions.specs.declared.scope.Meaning.TheVariants as meaning
use Rattle.c_expressions.specs.Means.{Names, meaning_of}
use Rattle.c_expressions.specs.Scopes.{box_of}
use Rattle.c_statements.specs.Statements.{Env, box_for, scalar_or_box, with_scalar, declared_by, more, behind, in_loop}
use Rattle.erased_meaning.proofs.Entries.{Entry, Each, each_more, each_both, each_at, each_other}
use Rattle.erased_meaning.proofs.Boxes.{Layout, IsHeld}

-- a scalar and a boxed one have different numbers, and two boxed ones the same array where they have the same number
abbrev pub Fits : Meaning → Entry → Type 0
Fits (meaning.Scalar n i) (y, meaning.Boxed b k) = eqb n.0 k.0 ≡ false
Fits (meaning.Boxed a n) (y, meaning.Scalar k i) = eqb n.0 k.0 ≡ false
Fits (meaning.Boxed a n) (y, meaning.Boxed b k) = eqb a.0 b.0 ≡ eqb n.0 k.0
Fits m n = Unit {0}

abbrev pub AllFit : Names → Type 0
AllFit [] = Unit {0}
AllFit (n ∷ ns) = Each (Fits n.1) ns × AllFit ns

same_test : (n k : ℕ) → eqb n k ≡ eqb k n
same_test n k = grind (arith, nat_tests)

fits_itself : (m : Meaning) (x : List ℕ) → Fits m (x, m)
fits_itself (meaning.Array a) x = tt
fits_itself (meaning.Scalar n i) x = tt
fits_itself (meaning.Boxed a n) x =
    let first : eqb a.0 a.0 ≡ true = grind (arith, nat_tests) in
    let second : eqb n.0 n.0 ≡ true = grind (arith, nat_tests) in first ∙ sym second
fits_itself (meaning.Loop n) x = tt

fits_back : (m k : Meaning) (x y : List ℕ) → Fits m (x, k) → Fits k (y, m)
fits_back (meaning.Scalar n i) (meaning.Boxed b k) x y f = same_test k.0 n.0 ∙ f
fits_back (meaning.Scalar n i) (meaning.Scalar k j) x y f = tt
fits_back (meaning.Scalar n i) (meaning.Array b) x y f = tt
fits_back (meaning.Scalar n i) (meaning.Loop k) x y f = tt
fits_back (meaning.Boxed a n) (meaning.Scalar k i) x y f = same_test k.0 n.0 ∙ f
fits_back (meaning.Boxed a n) (meaning.Boxed b k) x y f = same_test b.0 a.0 ∙ f ∙ same_test n.0 k.0
fits_back (meaning.Boxed a n) (meaning.Array b) x y f = tt
fits_back (meaning.Boxed a n) (meaning.Loop k) x y f = tt
fits_back (meaning.Array a) k x y f = none k
  where
    none : (k : Meaning) → Fits k (y, meaning.Array a)
    none (meaning.Scalar k j) = tt
    none (meaning.Boxed b k) = tt
    none (meaning.Array b) = tt
    none (meaning.Loop k) = tt
fits_back (meaning.Loop n) k x y f = none k
  where
    none : (k : Meaning) → Fits k (y, meaning.Loop n)
    none (meaning.Scalar k j) = tt
    none (meaning.Boxed b k) = tt
    none (meaning.Array b) = tt
    none (meaning.Loop k) = tt

-- what a name means fits all
pub fits_at : (ns : Names) (x : List ℕ) (m : Meaning) → AllFit ns → meaning_of ns x ≡ Some m → Each (Fits m) ns
fits_at [] x m h e = tt
fits_at (n ∷ ns) x m h e =
    step (bytes_eq n.0 x) e (λ f. (fits_back n.1 m x n.0 (each_at (Fits n.1) ns x m h.0 f), fits_at ns x m h.1 f))
  where
    here : n.1 ≡ m → Each (Fits m) (n ∷ ns)
    here s = subst (λ (k : Meaning). Each (Fits k) (n ∷ ns)) s (fits_itself n.1 n.0, h.0)

    step : (t : Bool) → cond t (Some n.1) (meaning_of ns x) ≡ Some m →
        (meaning_of ns x ≡ Some m → Each (Fits m) (n ∷ ns)) →
        Each (Fits m) (n ∷ ns)
    step true e rest = let same : n.1 ≡ m = cc in here same
    step false e rest = rest e

-- what each means fits all
pub all_fit : (ns : Names) → AllFit ns → Each (λ n. Each (Fits n.1) ns) ns
all_fit [] h = tt
all_fit (n ∷ ns) h = (
  (fits_itself n.1 n.0, h.0),
  each_both (Fits n.1) (λ k. Each (Fits k.1) ns) (λ k. Each (Fits k.1) (n ∷ ns)) ns
      (λ k f g. (fits_back n.1 k.1 k.0 n.0 f, g)) h.0 (all_fit ns h.1),
)

-- ---- what stands before a statement

pub record IsSound (d : Layout) (env : Env) : Type 0 where
  pub boxes : env.boxes ≡ d.boxes
  pub held : Each (IsHeld d env.scalars) env.names
  pub fit : AllFit env.names

held_more : (d : Layout) (n m : ℕ) (ns : Names) → n ≤ m → Each (IsHeld d n) ns → Each (IsHeld d m) ns
held_more d n m ns h a = each_more (IsHeld d n) (IsHeld d m) ns one a
  where
    one : (e : Entry) → IsHeld d n e → IsHeld d m e
    one (x, meaning.Array b) k = k
    one (x, meaning.Scalar k i) l = omega (arith, h, l)
    one (x, meaning.Boxed b k) l = (omega (arith, h, l.0), l.1)
    one (x, meaning.Loop k) l = l

pub sound_more : (d : Layout) (n : ℕ) (env : Env) → IsSound d env → IsSound d (more n env)
sound_more d n env s =
    record {
      boxes = s.boxes;
      held = held_more d env.scalars (env.scalars + n) env.names
          (omega arith) s.held;
      fit = s.fit;
    }

pub sound_loop : (d : Layout) (x : List ℕ) (env : Env) → IsSound d env → IsSound d (in_loop x env)
sound_loop d x env s = record { boxes = s.boxes; held = (tt, s.held); fit = (none env.names, s.fit) }
  where
    none : (ns : Names) → Each (Fits (meaning.Loop env.loops)) ns
    none [] = tt
    none (n ∷ ns) = (tt, none ns)

-- where a scalar is boxed that is declared, its name means nothing yet
pub box_is : (x : List ℕ) (env : Env) (a : ArrayId) → box_for x env ≡ Some a →
    (meaning_of env.names x ≡ None) × (box_of env.boxes x ≡ Some a)
box_is x env a e = step env.inside (meaning_of env.names x) refl e
  where
    step : (i : Bool) (o : Option Meaning) → meaning_of env.names x ≡ o →
        cond (i || is_some o) None (box_of env.boxes x) ≡ Some a →
        (meaning_of env.names x ≡ None) × (box_of env.boxes x ≡ Some a)
    step true o s e = absurd cc
    step false (Some m) s e = absurd cc
    step false None s e = (s, e)

module _ (d : Layout) (env : Env) (x : List ℕ) (s : IsSound d env) where
  abbrev next : ScalarId
  next = record { 0 = env.scalars }

  other_number : (k : ℕ) → k < env.scalars → eqb env.scalars k ≡ false
  other_number k h = grind (arith, nat_tests, h)

  plain_fits : (n : Entry) → IsHeld d env.scalars n → Fits (meaning.Scalar next env.inside) n
  plain_fits (y, meaning.Array b) h = tt
  plain_fits (y, meaning.Scalar k i) h = tt
  plain_fits (y, meaning.Boxed b k) h = other_number k.0 h.0
  plain_fits (y, meaning.Loop k) h = tt

  true_false : {A : Type 0} (b : Bool) → b ≡ true → b ≡ false → A
  true_false true e f = absurd cc
  true_false false e f = absurd cc

  boxed_fits : (a : ArrayId) → box_of d.boxes x ≡ Some a → (n : Entry) → IsHeld d env.scalars n →
      bytes_eq n.0 x ≡ false →
      Fits (meaning.Boxed a next) n
  boxed_fits a e (y, meaning.Array b) h o = tt
  boxed_fits a e (y, meaning.Scalar k i) h o = other_number k.0 h
  boxed_fits a e (y, meaning.Boxed b k) h o =
      other_array (eqb a.0 b.0) refl ∙ sym (other_number k.0 h.0)
    where
      same_array : a.0 ≡ b.0 → y ≡ x
      same_array f =
          let whole : a ≡ b = ap (λ (n : ℕ). (let i : ArrayId = record { 0 = n } in i)) f in
          d.apart y x b h.1 (e ∙ ap (λ (c : ArrayId). Some c) whole)

      other_array : (t : Bool) → eqb a.0 b.0 ≡ t → t ≡ false
      other_array true f =
          let number : a.0 ≡ b.0 = grind (arith, nat_tests, f) in
          true_false (bytes_eq y x) ((bytes_eq-Decides y x).1 (same_array number)) o
      other_array false f = refl
  boxed_fits a e (y, meaning.Loop k) h o = tt

  new_fits : (o : Option ArrayId) → box_for x env ≡ o → Each (Fits (scalar_or_box next env.inside o)) env.names
  new_fits None e = each_more (IsHeld d env.scalars) (Fits (meaning.Scalar next env.inside)) env.names plain_fits s.held
  new_fits (Some a) e =
      let box = box_is x env a e in
      let here : box_of d.boxes x ≡ Some a = ap (λ bs. box_of bs x) (sym s.boxes) ∙ box.1 in
      each_both (IsHeld d env.scalars) (λ n. bytes_eq n.0 x ≡ false) (Fits (meaning.Boxed a next)) env.names
      (boxed_fits a here) s.held
      (each_other env.names x box.0)

  new_held : (o : Option ArrayId) → box_for x env ≡ o → IsHeld d (env.scalars + 1) (x, scalar_or_box next env.inside o)
  new_held None e = omega arith
  new_held (Some a) e =
      let box = box_is x env a e in (omega arith, ap (λ bs. box_of bs x) (sym s.boxes) ∙ box.1)

  pub sound_scalar : IsSound d (with_scalar x env)
  sound_scalar = record {
    boxes = s.boxes;
    held = (new_held (box_for x env) refl, held_more d env.scalars (env.scalars + 1) env.names (omega arith) s.held);
    fit = (new_fits (box_for x env) refl, s.fit);
  }

pub sound_behind : (d : Layout) (s : Stmt) (env : Env) → IsSound d env → IsSound d (behind s env)
sound_behind d (Declare x v) env h = sound_scalar d env x h
sound_behind d (Assign x v) env h = sound_more d 0 env h
sound_behind d (Store x i v) env h = sound_more d 0 env h
sound_behind d (Repeat g b) env h = sound_more d (declared_by (Repeat g b)) env h
sound_behind d (Choose e b) env h = sound_more d (declared_by (Choose e b)) env h
sound_behind d (ChooseElse e b c) env h = sound_more d (declared_by (ChooseElse e b c)) env h
sound_behind d (Show e) env h = sound_more d 0 env h
sound_behind d (Block b) env h = sound_more d (declared_by (Block b)) env h
sound_behind d (Directive l) env h = sound_more d 0 env h
sound_behind d (Atomic l x i v) env h = sound_more d 0 env h
sound_behind d (AtomicAssign l x v) env h = sound_more d 0 env h
sound_behind d (AtomicIf l s) env h = sound_behind d s env h
sound_behind d (OverBlock l b) env h = sound_more d (declared_by (OverBlock l b)) env h
sound_behind d (OverLoop l g b) env h = sound_more d (declared_by (OverLoop l g b)) env h
