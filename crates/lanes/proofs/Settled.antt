-- A turn that assigns each of its scalars leaves them as it makes them, whatever they were.
use Rattle.std.proofs.Common.{◌≡◌, ℕ, ◌==◌, Bool, true, false, List, [], ◌∷◌, Option, Some, None, refl, sym, ◌∙◌, subst, if◌then◌else◌}
use Rattle.std.specs.Prelude.{zero, suc, not, ◌&&◌, option_and_then, option_map}
use Rattle.std.proofs.lemmas.Bool.{and_parts, false≢true}
use mathlib.Core.Former.{Count}
use Rattle.base.specs.declared.tree.ArrayId.{ArrayId}
use Rattle.base.specs.declared.tree.Stmt.{Stmt, Row_of-Stmt}
use Rattle.base.specs.declared.tree.Stmt.TheVariants.{Declare, Assign, Store, Combine, Print, Block', Loop', If'}
use Rattle.base.specs.Memory.{View, Scalars}
use Rattle.base.specs.Value.{value}
use Rattle.base.specs.Meaning.{Run, names_in}
use Rattle.lanes.specs.Apart.{Set, loose_after, loose_body, Delta, apply, join, own_value, setting, storing, store_delta, chosen_delta, stmt_delta, row_delta, join_all, body_delta}
use Rattle.lanes.proofs.Branches.{items, AllOf, OfBranches, of_stmt, of_body, delta_items}

-- scalars that agree but for the loose ones agree afterwards but for those that are still loose
abbrev pub Settles : Set → Set → Delta → Type 0
Settles loose still d =
    (f g : Scalars) → ((x : ℕ) → loose x ≡ false → f x ≡ g x) → (x : ℕ) → still x ≡ false → d.set f x ≡ d.set g x

abbrev pub AllSettle : Set → Set → Option Delta → Type 0
AllSettle loose still None = Unit {0}
AllSettle loose still (Some d) = Settles loose still d

set_settles : (loose : Set) (x : ℕ) (o : Option ℕ) → AllSettle loose (λ y. not (x == y) && loose y) (option_map (setting x) o)
set_settles loose x None = tt
set_settles loose x (Some n) = λ f g h y k. go f g h y (x == y) k
  where
    go : (f g : Scalars) → ((x : ℕ) → loose x ≡ false → f x ≡ g x) → (y : ℕ) (b : Bool) → (not b && loose y) ≡ false →
        (if b then n else f y) ≡ (if b then n else g y)
    go f g h y true k = refl
    go f g h y false k = h y k

store_settles : (view : View) (loose : Set) (a : ArrayId) (oi ov : Option ℕ) →
    AllSettle loose loose (option_and_then (λ i. store_delta view (record { array = a; index = i }) ov) oi)
store_settles view loose a None ov = tt
store_settles view loose a (Some i) None = tt
store_settles view loose a (Some i) (Some n) = go (view (record { array = a; index = i }))
  where
    go : (there : Option ℕ) → AllSettle loose loose (option_map (λ old. storing (record { array = a; index = i }) n) there)
    go None = tt
    go (Some old) = λ f g h x k. h x k

-- what is loose after statements was loose before
pub was_loose : (loose : Set) (s : Stmt) (x : ℕ) → loose_after loose s x ≡ true → loose x ≡ true
was_loose loose (Declare y v) x h = (and_parts (not (y.0 == x)) (loose x) h).1
was_loose loose (Assign y v) x h = (and_parts (not (y.0 == x)) (loose x) h).1
was_loose loose (Store a place e v) x h = h
was_loose loose (Combine op c place e v) x h = h
was_loose loose (Print e) x h = h
was_loose loose (Block' shape all) x h = h
was_loose loose (Loop' b shape all) x h = h
was_loose loose (If' c shape all shape' all') x h = h

pub still_loose : (loose : Set) (body : List Stmt) (x : ℕ) → loose_body loose body x ≡ true → loose x ≡ true
still_loose loose [] x h = h
still_loose loose (s ∷ rest) x h = was_loose loose s x (still_loose (loose_after loose s) rest x h)

not_loose : (loose : Set) (body : List Stmt) (x : ℕ) → loose x ≡ false → loose_body loose body x ≡ false
not_loose loose body x h = go (loose_body loose body x) refl
  where
    go : (q : Bool) → loose_body loose body x ≡ q → q ≡ false
    go true e = absurd (false≢true (sym h ∙ still_loose loose body x e))
    go false e = refl

-- a choice assigns none of the loose scalars for certain
branch_settles : (loose : Set) (body : List Stmt) (o : Option Delta) → AllSettle loose (loose_body loose body) o →
    AllSettle loose loose o
branch_settles loose body None h = tt
branch_settles loose body (Some d) h = λ f g same x k. h f g same x (not_loose loose body x k)

choice_settles : (loose still : Set) (o : Option ℕ) (d e : Option Delta) → AllSettle loose still d →
    AllSettle loose still e →
    AllSettle loose still (chosen_delta o d e)
choice_settles loose still None d e h k = tt
choice_settles loose still (Some zero) d e h k = k
choice_settles loose still (Some (suc n)) d e h k = h

then_settles : (loose mid still : Set) (o : Option Delta) (f : Delta → Option Delta) → AllSettle loose mid o →
    ((d : Delta) → AllSettle mid still (f d)) → AllSettle loose still (join_all o f)
then_settles loose mid still None f h k = tt
then_settles loose mid still (Some d) f h k = go (f d) (k d)
  where
    go : (p : Option Delta) → AllSettle mid still p → AllSettle loose still (option_map (join d) p)
    go None l = tt
    go (Some e) l = λ a b same x o. l (d.set a) (d.set b) (h a b same) x o

module _ (view : View) (loops : List ℕ) where
  abbrev IsSettled : Stmt → Type 0
  IsSettled first =
      (loose : Set) (s : Run) → AllSettle loose (loose_after loose first) (stmt_delta first view loops s)

  all_settle : (body : List Stmt) → AllOf IsSettled body → (loose : Set) (s : Run) →
      AllSettle loose (loose_body loose body) (body_delta body view loops s)
  all_settle [] each loose s = λ f g h x k. h x k
  all_settle (first ∷ rest) each loose s =
      then_settles loose (loose_after loose first) (loose_body (loose_after loose first) rest)
      (stmt_delta first view loops s)
      (λ d. body_delta rest view loops (apply s d)) (each.0 loose s)
      (λ d. all_settle rest each.1 (loose_after loose first) (apply s d))

  row_settles : (n : Count) (row : Row_of-Stmt n) → AllOf IsSettled (items row) → (loose : Set) (s : Run) →
      AllSettle loose loose (row_delta row view loops s)
  row_settles n row each loose s =
      subst (λ o. AllSettle loose loose o) (sym (delta_items n row view loops s))
      (branch_settles loose (items row) (body_delta (items row) view loops s) (all_settle (items row) each loose s))

  one_settles : (first : Stmt) → OfBranches IsSettled first → IsSettled first
  one_settles (Declare x w) each loose s = set_settles loose x.0 (own_value w view loops s)
  one_settles (Assign x w) each loose s = set_settles loose x.0 (own_value w view loops s)
  one_settles (Store a place e w) each loose s =
      store_settles view loose a (value e (names_in view loops s)) (own_value w view loops s)
  one_settles (Combine op c place e v) each loose s = tt
  one_settles (Print e) each loose s = tt
  one_settles (Block' shape all) each loose s = tt
  one_settles (Loop' b shape all) each loose s = tt
  one_settles (If' c shape all shape' all') each loose s =
      choice_settles loose loose (value c (names_in view loops s)) (row_delta all view loops s)
      (row_delta all' view loops s)
      (row_settles _ all each.0 loose s) (row_settles _ all' each.1 loose s)

  pub stmt_settles : (loose : Set) (s : Run) (first : Stmt) →
      AllSettle loose (loose_after loose first) (stmt_delta first view loops s)
  stmt_settles loose s first = of_stmt IsSettled one_settles first loose s

  pub body_settles : (loose : Set) (s : Run) (body : List Stmt) →
      AllSettle loose (loose_body loose body) (body_delta body view loops s)
  body_settles loose s body = all_settle body (of_body IsSettled one_settles body) loose s
