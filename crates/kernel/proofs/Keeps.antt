-- The turns of a form leave the scalars that its statements do not assign.
use Rattle.std.proofs.Common.{◌≡◌, ℕ, Bool, true, false, List, [], ◌∷◌, ◌++◌, Option, Some, None, refl, sym, ap, ap₂, ◌∙◌}
use Rattle.std.specs.Prelude.{◌&&◌}
use Rattle.std.proofs.lemmas.Bool.{and_parts, false≢true}
use mathlib.Core.Former.{Count}
use Rattle.base.specs.declared.tree.ScalarId.{ScalarId}
use Rattle.base.specs.declared.tree.Expr.{Expr}
use Rattle.base.specs.declared.tree.Source.TheVariants.{Value, Read}
use Rattle.base.specs.declared.tree.Stmt.{Stmt, Row_of-Stmt, end_of-Stmt, more_of-Stmt}
use Rattle.base.specs.declared.tree.Stmt.TheVariants.{Declare, Assign, Store, Combine, Print, Block', Loop', If'}
use Rattle.base.specs.Memory.{View, Scalars}
use Rattle.base.specs.Meaning.{Run, turn}
use Rattle.lanes.specs.Apart.{Set, Kept, Places, NamesPlaces, assigned_in, body_apart, is_apart, loose_after, row_apart, stmt_apart}
use Rattle.lanes.specs.Sums.{ended}
use Rattle.lanes.proofs.Keeping.{assigns_only, row_assigns, all_assign, body_keeps, turns_keep}
use Rattle.kernel.specs.Forms.{IsFormOf}
use Rattle.kernel.specs.Loops.{does}
use Rattle.kernel.specs.declared.turns.Sum.{Sum}
use Rattle.kernel.proofs.Sums.{assigned_same}

never : (b : Bool) → (b && false) ≡ false
never true = refl
never false = refl

mutual
  stmt_assigns : (s : Stmt) (taken own loose : Set) (here : Expr → Bool) → stmt_apart taken own loose here s ≡ true →
      assigns_only own s ≡ true
  stmt_assigns (Declare x (Value e)) taken own loose here h = (and_parts (own x.0) _ h).0
  stmt_assigns (Declare x Read) taken own loose here h = absurd (false≢true (sym (never (own x.0)) ∙ h))
  stmt_assigns (Assign x (Value e)) taken own loose here h = (and_parts (own x.0) _ h).0
  stmt_assigns (Assign x Read) taken own loose here h = absurd (false≢true (sym (never (own x.0)) ∙ h))
  stmt_assigns (Store a place e (Value f)) taken own loose here h = refl
  stmt_assigns (Store a place e Read) taken own loose here h =
      let p = and_parts (taken a.0) (here e && false) h in absurd (false≢true (sym (never (here e)) ∙ p.1))
  stmt_assigns (Combine op a place e v) taken own loose here h = absurd (false≢true h)
  stmt_assigns (Print e) taken own loose here h = absurd (false≢true h)
  stmt_assigns (Block' shape all) taken own loose here h = absurd (false≢true h)
  stmt_assigns (Loop' b shape all) taken own loose here h = absurd (false≢true h)
  stmt_assigns (If' c shape all shape' all') taken own loose here h =
      let p = and_parts (is_apart taken loose here c) (row_apart taken own loose here all && row_apart taken own loose here all') h in
      let q = and_parts (row_apart taken own loose here all) (row_apart taken own loose here all') p.1 in
      ap₂ (λ a b. a && b) (branch_assigns _ all taken own loose here q.0) (branch_assigns _ all' taken own loose here q.1)

  branch_assigns : (n : Count) (row : Row_of-Stmt n) (taken own loose : Set) (here : Expr → Bool) →
      row_apart taken own loose here row ≡ true → row_assigns own row ≡ true
  branch_assigns n end_of-Stmt taken own loose here h = refl
  branch_assigns n (more_of-Stmt s rest) taken own loose here h =
      let p = and_parts (stmt_apart taken own loose here s) (row_apart taken own (loose_after loose s) here rest) h in
      ap₂ (λ a b. a && b) (stmt_assigns s taken own loose here p.0) (branch_assigns _ rest taken own (loose_after loose s) here p.1)

-- turns that are apart assign their own scalars
apart_assigns : (taken own loose : Set) (here : Expr → Bool) (body : List Stmt) → body_apart taken own loose here body ≡ true →
    all_assign own body ≡ true
apart_assigns taken own loose here [] h = refl
apart_assigns taken own loose here (s ∷ rest) h =
    let p = and_parts (stmt_apart taken own loose here s) (body_apart taken own (loose_after loose s) here rest) h in
    ap₂ (λ a b. a && b) (stmt_assigns s taken own loose here p.0) (apart_assigns taken own (loose_after loose s) here rest p.1)

-- whatever is assigned last
ended_assigns : (own : Set) (front : List Stmt) (x : ScalarId) (e c : Expr) → all_assign own (ended front x e) ≡ true →
    all_assign own (ended front x c) ≡ true
ended_assigns own [] x e c h = h
ended_assigns own (s ∷ rest) x e c h =
    let p = and_parts (assigns_only own s) (all_assign own (ended rest x e)) h in
    ap₂ (λ a b. a && b) p.0 (ended_assigns own rest x e c p.1)

-- the scalars of a sum are those of its statements with what is added
pub sum_own : (body front : List Stmt) (q : Sum) (last : Expr) → body ≡ ended front q.scalar last →
    assigned_in body ≡ assigned_in (ended front q.scalar q.added.now)
sum_own body front q last whole = ap assigned_in whole ∙ assigned_same front q.scalar q.added.now last

form_assigns : (here : Expr → Bool) (body front : List Stmt) (sum : Option Sum) → IsFormOf here body front sum →
    all_assign (assigned_in body) body ≡ true
form_assigns here body front None h = apart_assigns _ (assigned_in body) (assigned_in body) here body h.1.apart
form_assigns here body front (Some q) h =
    let all = ended front q.scalar q.added.now in
    let own = assigned_in all in
    ap₂ all_assign (sum_own body front q h.has.last h.has.whole) h.has.whole
    ∙ ended_assigns own front q.scalar q.added.now h.has.last (apart_assigns _ own own here all h.apart.apart)

pub form_keeps : (here : Expr → Bool) (body front : List Stmt) (sum : Option Sum) (outer : List ℕ) (view : View) →
    IsFormOf here body front sum → (n v : ℕ) (s t : Run) → turn n v 1 (does view outer body) s ≡ Some t →
    Kept (assigned_in body) s.scalars t.scalars
form_keeps here body front sum outer view h n v s t e =
    turns_keep (assigned_in body) 1 (does view outer body)
    (λ w. body_keeps (assigned_in body) view (outer ++ w ∷ []) body (form_assigns here body front sum h)) n v s t e

-- the same places are named from scalars that are kept
pub names_kept : (here : Expr → Bool) (pl : Places) (own : Set) (before after : Scalars) (outer : List ℕ) →
    NamesPlaces here pl own before outer → Kept own before after → NamesPlaces here pl own after outer
names_kept here pl own before after outer named kept =
    λ v e names loops k h. named v e names loops (λ x o. k x o ∙ kept x o) h
