-- The names that the rules know at a statement are those that its meaning knows.
use Rattle.std.proofs.Common.{◌≡◌, ℕ, Bool, true, false, cond, List, [], ◌∷◌, ◌++◌, Option, Some, None, is_some, refl, sym, ap, ◌∙◌}
use Rattle.std.specs.Prelude.{◌||◌, ◌&&◌, not}
use Rattle.std.specs.Str.{bytes_eq}
use Rattle.base.specs.declared.tree.ArrayId.{ArrayId}
use Rattle.base.specs.declared.tree.ScalarId.{ScalarId}
use Rattle.c_grammar.specs.Terminal.{Terminal}
use Rattle.c_grammar.specs.Grammar.{Act, DeclaresGlobal, DeclaresLocal, DeclaresLoop, MakesArray, MakesScalar, StartsBlock, Opens, Closes, Over, Boxes, Slots, Term, Literal, Named, Element, Group, Prefixed, Both, By, Fraction, ShiftLeft, ShiftRight, Divide, Remainder, inner, fraction_sign, value_of, term, Source, Input, Value, source}
use Rattle.c_grammar.specs.Rules.{Context, Frame, Sort, AScalar, ABoxed, ALoop, top, inside, with_name, opened, act, enter, found, is_boxes_name, is_boxed, is_visible, scalar_sort, sort_in, sort_of}
use Rattle.c_expressions.specs.declared.scope.Meaning.{Meaning}
use Rattle.c_expressions.specs.Means.{Names, meaning_of}
use Rattle.c_expressions.specs.Scopes.{Boxes as AllBoxes, as_boxes, box_of, sort_of_meaning}
use Rattle.c_statements.specs.Statements.{Env, box_for, scalar_or_box, in_loop}
use Rattle.erasure.proofs.Follows.{entered}

abbrev pub flat : List Frame → List (List ℕ × Sort)
flat [] = []
flat (f ∷ fs) = f.names ++ flat fs

abbrev pub sorted : Names → List (List ℕ × Sort)
sorted [] = []
sorted (n ∷ ns) = (n.0, sort_of_meaning n.1) ∷ sorted ns

-- the context at a statement, and what stands before it
pub record Stands (c : Context) (env : Env) : Type 0 where
  pub names : flat c.frames ≡ sorted env.names
  pub boxes : as_boxes c.boxes ≡ env.boxes
  pub inside_is : inside c ≡ env.inside
  pub target : c.target ≡ false
  pub turn : c.turn ≡ None

-- ---- what a name is

found_append : (x : List ℕ) (ns ms : List (List ℕ × Sort)) (o : Option Sort) →
    found x (ns ++ ms) o ≡ found x ns (found x ms o)
found_append x [] ms o = refl
found_append x (n ∷ ns) ms o = ap (λ (u : Option Sort). cond (bytes_eq n.0 x) (Some n.1) u) (found_append x ns ms o)

found_flat : (fs : List Frame) (x : List ℕ) → sort_in fs x ≡ found x (flat fs) None
found_flat [] x = refl
found_flat (f ∷ fs) x =
    ap (λ (o : Option Sort). found x f.names o) (found_flat fs x) ∙ sym (found_append x f.names (flat fs) None)

abbrev pub sort_known : Option Meaning → Option Sort
sort_known None = None
sort_known (Some m) = Some (sort_of_meaning m)

found_sorted : (ns : Names) (x : List ℕ) → found x (sorted ns) None ≡ sort_known (meaning_of ns x)
found_sorted [] x = refl
found_sorted (n ∷ ns) x = step (bytes_eq n.0 x) (found_sorted ns x)
  where
    step : (t : Bool) → found x (sorted ns) None ≡ sort_known (meaning_of ns x) →
        cond t (Some (sort_of_meaning n.1)) (found x (sorted ns) None)
        ≡ sort_known (cond t (Some n.1) (meaning_of ns x))
    step true e = refl
    step false e = e

pub sort_is : (c : Context) (env : Env) (x : List ℕ) → Stands c env → sort_of c x ≡ sort_known (meaning_of env.names x)
unfolding sort_of
sort_is c env x s =
    found_flat c.frames x ∙ ap (λ (ns : List (List ℕ × Sort)). found x ns None) s.names ∙ found_sorted env.names x

-- ---- what a scalar is that is declared

one_box : (bs : List (List ℕ × ℕ)) (x : List ℕ) → is_boxes_name bs x ≡ is_some (box_of (as_boxes bs) x)
one_box [] x = refl
one_box (b ∷ bs) x = step (bytes_eq b.0 x) (one_box bs x)
  where
    here : ArrayId
    here = record { 0 = b.1 }

    step : (t : Bool) → is_boxes_name bs x ≡ is_some (box_of (as_boxes bs) x) →
        (t || is_boxes_name bs x) ≡ is_some (cond t (Some here) (box_of (as_boxes bs) x))
    step true e = refl
    step false e = e

pub visible_is : (o : Option Meaning) → is_visible (sort_known o) ≡ is_some o
visible_is None = refl
visible_is (Some m) = refl

-- the rules box it where its meaning does
pub new_sort : (c : Context) (env : Env) (x : List ℕ) (n : ScalarId) → Stands c env → c.fresh ≡ Some x →
    scalar_sort c ≡ sort_of_meaning (scalar_or_box n env.inside (box_for x env))
new_sort c env x n s f =
    ap (λ (o : Option (List ℕ)). cond (is_boxed c o) ABoxed (AScalar (inside c))) f
    ∙ ap (λ (i : Bool). cond (not i && is_boxes_name c.boxes x && not (is_visible (sort_of c x))) ABoxed
    (AScalar i)) s.inside_is
    ∙ ap (λ (o : Bool). cond (not env.inside && o && not (is_visible (sort_of c x))) ABoxed (AScalar env.inside))
    (one_box c.boxes x ∙ ap (λ bs. is_some (box_of bs x)) s.boxes)
    ∙ ap (λ (v : Bool). cond (not env.inside && is_some (box_of env.boxes x) && not v) ABoxed (AScalar env.inside))
    (ap is_visible (sort_is c env x s) ∙ visible_is (meaning_of env.names x))
    ∙ step env.inside (is_some (meaning_of env.names x)) (box_of env.boxes x)
  where
    step : (i v : Bool) (o : Option ArrayId) → cond (not i && is_some o && not v) ABoxed (AScalar i)
        ≡ sort_of_meaning (scalar_or_box n i (cond (i || v) None o))
    step true v o = refl
    step false true None = refl
    step false true (Some a) = refl
    step false false None = refl
    step false false (Some a) = refl

-- ---- tokens that change nothing of this

abbrev pub is_still : Act → Bool
is_still DeclaresGlobal = false
is_still DeclaresLocal = false
is_still DeclaresLoop = false
is_still MakesArray = false
is_still MakesScalar = false
is_still StartsBlock = false
is_still Opens = false
is_still Closes = false
is_still Over = false
is_still Boxes = false
is_still _ = true

abbrev pub are_still : Slots → Bool
are_still [] = true
are_still (x ∷ xs) = cond (is_still x.1.1) (are_still xs) false

pub record Kept (c d : Context) : Type 0 where
  pub frames : d.frames ≡ c.frames
  pub boxes : d.boxes ≡ c.boxes
  pub target : d.target ≡ c.target
  pub turn : d.turn ≡ c.turn
  pub fresh : d.fresh ≡ c.fresh

kept_act : (c : Context) (t : Terminal) (a : Act) → is_still a ≡ true → Kept c (act c t a)
kept_act c t DeclaresGlobal e = absurd cc
kept_act c t DeclaresLocal e = absurd cc
kept_act c t DeclaresLoop e = absurd cc
kept_act c t MakesArray e = absurd cc
kept_act c t MakesScalar e = absurd cc
kept_act c t StartsBlock e = absurd cc
kept_act c t Opens e = absurd cc
kept_act c t Closes e = absurd cc
kept_act c t Over e = absurd cc
kept_act c t Boxes e = absurd cc
kept_act c t _ e = record { frames = refl; boxes = refl; target = refl; turn = refl; fresh = refl }

still_first : (a b : Bool) → cond a b false ≡ true → (a ≡ true) × (b ≡ true)
still_first true b e = (refl, e)
still_first false b e = absurd cc

pub kept_all : (xs : Slots) (c : Context) → are_still xs ≡ true → Kept c (entered c xs)
unfolding enter
kept_all [] c e = record { frames = refl; boxes = refl; target = refl; turn = refl; fresh = refl }
kept_all (x ∷ xs) c e =
    let both = still_first (is_still x.1.1) (are_still xs) e in
    let one = kept_act c x.0 x.1.1 both.0 in
    let rest = kept_all xs (act c x.0 x.1.1) both.1 in
    record {
      frames = rest.frames ∙ one.frames;
      boxes = rest.boxes ∙ one.boxes;
      target = rest.target
          ∙ one.target;
      turn = rest.turn ∙ one.turn;
      fresh = rest.fresh ∙ one.fresh;
    }

pub still_append : (xs ys : Slots) → are_still xs ≡ true → are_still ys ≡ true → are_still (xs ++ ys) ≡ true
still_append [] ys e f = f
still_append (x ∷ xs) ys e f =
    let both = still_first (is_still x.1.1) (are_still xs) e in
    ap (λ (b : Bool). cond b (are_still (xs ++ ys)) false) both.0 ∙ still_append xs ys both.1 f

pub term_still : (e : Term) → are_still (term e) ≡ true
term_still (Literal n) = refl
term_still (Named x) = refl
term_still (Element x i) = still_append (term i) _ (term_still i) refl
term_still (Group e) = still_append (term e) _ (term_still e) refl
term_still (Prefixed op e) = term_still e
term_still (Both op a b) = still_append (term a) _ (term_still a) (term_still b)
term_still (By op a n) = still_append (term a) _ (term_still a) (by op)
  where
    by : (op : Fraction) → are_still (inner (fraction_sign op) ∷ value_of op n ∷ []) ≡ true
    by ShiftLeft = refl
    by ShiftRight = refl
    by Divide = refl
    by Remainder = refl

pub source_still : (v : Source) → are_still (source v) ≡ true
source_still Input = refl
source_still (Value e) = term_still e

pub stands_kept : (c d : Context) (env : Env) → Kept c d → Stands c env → Stands d env
stands_kept c d env k s =
    record {
      names = ap flat k.frames ∙ s.names;
      boxes = ap as_boxes k.boxes ∙ s.boxes;
      inside_is = ap (λ (fs : List Frame). (top fs).inside) k.frames ∙ s.inside_is;
      target = k.target ∙ s.target;
      turn = k.turn ∙ s.turn;
    }

-- ---- blocks

pub record IsBefore (c : Context) (env : Env) (o : Option (List ℕ)) (i : Bool) : Type 0 where
  pub names : flat c.frames ≡ sorted env.names
  pub boxes : as_boxes c.boxes ≡ env.boxes
  pub inside_is : inside c ≡ env.inside
  pub target : c.target ≡ i
  pub turn : c.turn ≡ o

abbrev pub within : Env → Bool → Env
within env i = record env { inside = env.inside || i }

pub opens_block : (c : Context) (env : Env) (i : Bool) → IsBefore c env None i → Stands (opened c) (within env i)
opens_block c env i b =
    record {
      names = ap (λ (o : Option (List ℕ)). with_name o ALoop [] ++ flat c.frames) b.turn ∙ b.names;
      boxes = b.boxes;
      inside_is = ap (λ (u : Bool). u || c.target) b.inside_is ∙ ap (λ (u : Bool). env.inside || u) b.target;
      target = refl;
      turn = refl;
    }

pub opens_loop : (c : Context) (env : Env) (x : List ℕ) (i : Bool) → IsBefore c env (Some x) i →
    Stands (opened c) (within (in_loop x env) i)
opens_loop c env x i b =
    record {
      names = ap (λ (o : Option (List ℕ)). with_name o ALoop [] ++ flat c.frames) b.turn
          ∙ ap (λ (ns : List (List ℕ × Sort)). (x, ALoop) ∷ ns) b.names;
      boxes = b.boxes;
      inside_is = ap (λ (u : Bool). u || c.target) b.inside_is ∙ ap (λ (u : Bool). env.inside || u) b.target;
      target = refl;
      turn = refl;
    }

-- behind a block
pub record Closed (d : Context) (fs : List Frame) (bs : AllBoxes) : Type 0 where
  pub frames : d.frames ≡ fs
  pub boxes : as_boxes d.boxes ≡ bs
  pub target : d.target ≡ false
  pub turn : d.turn ≡ None

pub stands_closed : (c d : Context) (env : Env) → Closed d c.frames (as_boxes c.boxes) → Stands c env → Stands d env
stands_closed c d env k s =
    record {
      names = ap flat k.frames ∙ s.names;
      boxes = k.boxes ∙ s.boxes;
      inside_is = ap (λ (fs : List Frame). (top fs).inside) k.frames ∙ s.inside_is;
      target = k.target;
      turn = k.turn;
    }
