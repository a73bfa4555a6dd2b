-- Conflicts of two items whose accesses are known.
use Rattle.std.proofs.Common.{◌≡◌, ℕ, zero, suc, ◌<◌, Bool, true, false, List, [], ◌∷◌, length, arith, get_or, refl, sym, ◌∙◌, Option, Some, None}
use Rattle.std.specs.Prelude.{slice_get}
use Rattle.std.proofs.lemmas.Option.{slice_get_read, slice_get_within}
use Rattle.base.specs.declared.item.Cell.{Cell}
use Rattle.base.specs.Items.{Work, Plan}
use Rattle.base.specs.Map.{Block}
use Rattle.base.specs.Memory.{changed}
use Rattle.base.specs.Order.{Before}
use Rattle.base.specs.Actions.{Stage, acts_of, conflict, stages, stages_from}
use Rattle.base.specs.Least.{IsLeast}
use Rattle.mapcheck.specs.declared.accesses.Accesses.{Accesses}
use Rattle.mapcheck.specs.Collisions.{IsLeastConflict}
use Rattle.mapcheck.specs.Unordered.{AreAccessesOf, AreOfItems, IsLeastUnordered}

-- whether two items conflict on a cell
abbrev pub asked : Option Stage → Option Stage → Cell → Bool
asked o p c = elim o [ None ↦ false | Some s ↦ elim p [ None ↦ false | Some t ↦ conflict s t c ] ]

least_asked : (x y : Option Stage) (a b : Accesses) (o : Option Cell) → AreAccessesOf x a → AreAccessesOf y b →
    IsLeastConflict a b o → IsLeast (asked x y) o
least_asked None y a b o p q h = absurd p
least_asked (Some s) None a b o p q h = absurd q
least_asked (Some s) (Some t) a b o p q h = h s t p q

unordered : (plan : Plan) (i j : ℕ) (o : Option Cell) → i < j → (Before plan i j → ⊥) →
    IsLeast (asked (slice_get (stages plan) i) (slice_get (stages plan) j)) o → IsLeastUnordered plan i j o
unordered plan i j None lt after h = λ c u. let bad : true ≡ false = sym u.1 ∙ h c in absurd cc
unordered plan i j (Some c) lt after h = ((lt, h.0, after), λ d u. h.1 d u.1)

-- of two items whose accesses are read
pub least_unordered : (plan : Plan) (list : List Accesses) (i j : ℕ) (a b : Accesses) (o : Option Cell) →
    AreOfItems plan list → i < j → i < length list → j < length list → a ≡ get_or list i a → b ≡ get_or list j b →
    (Before plan i j → ⊥) → IsLeastConflict a b o → IsLeastUnordered plan i j o
least_unordered plan list i j a b o h lt p q a_is b_is after least =
    unordered plan i j o lt after
    (least_asked (slice_get (stages plan) i) (slice_get (stages plan) j) a b o
    (h i a (slice_get_read list (length list) i a refl p a_is)) (h j b (slice_get_read list (length list) j b refl q b_is))
    least)

-- ---- the items that have accesses

pub stages_long : (works : List Work) (blocks : ℕ → List Block) → length (stages_from works blocks) ≡ length works
stages_long [] blocks = refl
stages_long (w ∷ works) blocks =
    let next : ℕ → List Block = changed w.device (acts_of w (blocks w.device)).blocks blocks in
    let rest : length (stages_from works next) ≡ length works = stages_long works next in
    omega arith

pub not_missing : {A : Type 0} (xs : List A) (k : ℕ) → k < length xs → slice_get xs k ≡ None → ⊥
not_missing [] k lt e = absurd (omega arith)
not_missing (x ∷ xs) zero lt e = cc
not_missing (x ∷ xs) (suc k) lt e = not_missing xs k (omega arith) e

pub item_there : (plan : Plan) (list : List Accesses) (k : ℕ) → AreOfItems plan list → k < length list → k < length plan.items
item_there plan list k h lt = read (slice_get list k) refl
  where
    at_stage : (o : Option Stage) (a : Accesses) → slice_get (stages plan) k ≡ o → AreAccessesOf o a → k < length plan.items
    at_stage None a e are = absurd are
    at_stage (Some s) a e are =
        let inside : k < length (stages plan) = slice_get_within (stages plan) k s e in
        let long : length (stages plan) ≡ length plan.items = stages_long plan.items (λ d. []) in
        omega arith

    read : (o : Option Accesses) → slice_get list k ≡ o → k < length plan.items
    read None e = absurd (not_missing list k lt e)
    read (Some a) e = at_stage (slice_get (stages plan) k) a refl (h k a e)
