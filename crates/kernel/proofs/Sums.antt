-- A body whose last statement carries a scalar on.
use Rattle.std.proofs.Common.{◌≡◌, ℕ, Bool, true, false, List, [], ◌∷◌, ◌++◌, refl, sym, ap, ap₂, ◌∙◌}
use Rattle.std.specs.Prelude.{not, ◌&&◌, ◌||◌}
use Rattle.std.proofs.lemmas.Bool.{and_parts, false≢true}
use mathlib.Core.Path.{fun_ext}
use Rattle.base.specs.declared.tree.ScalarId.{ScalarId}
use Rattle.base.specs.declared.tree.Expr.{Expr}
use Rattle.base.specs.declared.tree.Source.TheVariants.{Value}
use Rattle.base.specs.declared.tree.Stmt.{Stmt}
use Rattle.base.specs.declared.tree.Stmt.TheVariants.{Declare, Assign, Store, Combine, Print, Block', Loop', If'}
use Rattle.lanes.specs.Apart.{Set, assigned_by, assigned_in, is_apart, loose_after, loose_body, body_apart, stmt_apart}
use Rattle.lanes.specs.Sums.{ended}
use Rattle.kernel.specs.Forms.{HasSum, IsCarriedBy, IsSum}
use Rattle.kernel.specs.Loops.{AreApartFor, AreSettled, certain_by, certain_in, loose_in, stored_by, stored_in}
use Rattle.kernel.specs.declared.turns.Sum.{Sum}
use Rattle.lanes.proofs.Carried.{same_is}
use Rattle.kernel.proofs.Looseness.{in_more, certain_more, loose_is, all_loose}

stored_more : (before : List Stmt) (s : Stmt) (a : ℕ) → stored_in (before ++ s ∷ []) a ≡ (stored_in before a || stored_by s a)
stored_more [] s a = go (stored_by s a)
  where
    go : (b : Bool) → (b || false) ≡ b
    go true = refl
    go false = refl
stored_more (first ∷ rest) s a = ap (λ b. stored_by first a || b) (stored_more rest s a) ∙ go (stored_by first a)
  where
    go : (p : Bool) → (p || (stored_in rest a || stored_by s a)) ≡ ((p || stored_in rest a) || stored_by s a)
    go true = refl
    go false = refl

-- the same arrays are stored and the same scalars assigned, whatever is assigned last
stored_same : (front : List Stmt) (x : ScalarId) (e c : Expr) → stored_in (ended front x c) ≡ stored_in (ended front x e)
stored_same front x e c =
    fun_ext (λ (a : ℕ). stored_more front (Assign x (Value c)) a ∙ sym (stored_more front (Assign x (Value e)) a))

pub assigned_same : (front : List Stmt) (x : ScalarId) (e c : Expr) → assigned_in (ended front x c) ≡ assigned_in (ended front x e)
assigned_same front x e c =
    fun_ext (λ (y : ℕ). in_more front (Assign x (Value c)) y ∙ sym (in_more front (Assign x (Value e)) y))

pub more_apart : (taken own loose : Set) (here : Expr → Bool) (front : List Stmt) (last : Stmt) →
    body_apart taken own loose here front ≡ true → stmt_apart taken own (loose_body loose front) here last ≡ true →
    body_apart taken own loose here (front ++ last ∷ []) ≡ true
more_apart taken own loose here [] last h k = ap (λ b. b && true) k
more_apart taken own loose here (first ∷ rest) last h k =
    let p = and_parts (stmt_apart taken own loose here first) (body_apart taken own (loose_after loose first) here rest) h in
    ap₂ (λ a b. a && b) p.0 (more_apart taken own (loose_after loose first) here rest last p.1 k)

-- so it is with those that are assigned for certain
certain_same : (front : List Stmt) (x : ScalarId) (e c : Expr) → certain_in (ended front x c) ≡ certain_in (ended front x e)
certain_same front x e c =
    fun_ext (λ (y : ℕ). certain_more front (Assign x (Value c)) y ∙ sym (certain_more front (Assign x (Value e)) y))

-- what is loose at the end of the statements before the last one
front_loose : (body front : List Stmt) → loose_in body front ≡ loose_body (assigned_in body) front
front_loose body front =
    fun_ext (λ (x : ℕ). go (assigned_in body x) (certain_in front x) ∙ sym (loose_is front (assigned_in body) x))
  where
    go : (p q : Bool) → (p && not q) ≡ (not q && p)
    go true true = refl
    go true false = refl
    go false true = refl
    go false false = refl

last_assigned : (front : List Stmt) (x : ScalarId) (e : Expr) → assigned_in (ended front x e) x.0 ≡ true
last_assigned front x e =
    in_more front (Assign x (Value e)) x.0 ∙ ap (λ b. assigned_in front x.0 || b) (same_is x.0) ∙ go (assigned_in front x.0)
  where
    go : (p : Bool) → (p || true) ≡ true
    go true = refl
    go false = refl

-- what is not assigned is not assigned for certain
not_certain : (body : List Stmt) (x : ℕ) → assigned_in body x ≡ false → certain_in body x ≡ false
not_certain [] x h = refl
not_certain (s ∷ rest) x h =
    let l = neither (assigned_by s x) (assigned_in rest x) h in
    ap₂ (λ p q. p || q) (one s l.0) (not_certain rest x l.1)
  where
    neither : (p q : Bool) → (p || q) ≡ false → (p ≡ false) × (q ≡ false)
    neither true q h = absurd (false≢true (sym h))
    neither false q h = (refl, h)

    one : (s : Stmt) → assigned_by s x ≡ false → certain_by s x ≡ false
    one (Declare y v) h = h
    one (Assign y v) h = h
    one (Store a place e v) h = refl
    one (Combine op a place e v) h = refl
    one (Print e) h = refl
    one (Block' shape all) h = refl
    one (Loop' b shape all) h = refl
    one (If' c shape all shape' all') h = refl

-- the scalar is loose until it is carried on
pub once_loose : (front : List Stmt) (x : ScalarId) (e : Expr) → assigned_in front x.0 ≡ false →
    loose_body (assigned_in (ended front x e)) front x.0 ≡ true
once_loose front x e once =
    loose_is front (assigned_in (ended front x e)) x.0
    ∙ ap₂ (λ p q. not p && q) (not_certain front x.0 once) (last_assigned front x e)

-- what is looked at of a body
pub is_sum : (here : Expr → Bool) (body front : List Stmt) (s : Sum) → HasSum body front s → assigned_in front s.scalar.0 ≡ false →
    AreSettled body body → AreApartFor here body (loose_in body []) front →
    is_apart (stored_in body) (loose_in body front) here s.added.now ≡ true → IsSum here body front s
is_sum here body front s has once settled first last =
    record { has = has; apart = record { apart = apart; settled = left }; once = once }
  where
    taken : stored_in body ≡ stored_in (ended front s.scalar s.added.now)
    taken = ap stored_in has.whole ∙ stored_same front s.scalar s.added.now has.last

    own : assigned_in body ≡ assigned_in (ended front s.scalar s.added.now)
    own = ap assigned_in has.whole ∙ assigned_same front s.scalar s.added.now has.last

    certain : certain_in body ≡ certain_in (ended front s.scalar s.added.now)
    certain = ap certain_in has.whole ∙ certain_same front s.scalar s.added.now has.last

    left : AreSettled (ended front s.scalar s.added.now) (ended front s.scalar s.added.now)
    left x h = ap (λ (q : Set). q x) (sym certain) ∙ settled x (ap (λ (q : Set). q x) own ∙ h)

    front_apart : body_apart (stored_in body) (assigned_in body) (assigned_in body) here front ≡ true
    front_apart = ap (λ loose. body_apart (stored_in body) (assigned_in body) loose here front) (sym (all_loose body)) ∙ first

    last_apart : stmt_apart (stored_in body) (assigned_in body) (loose_body (assigned_in body) front) here (Assign s.scalar (Value s.added.now)) ≡ true
    last_apart =
        ap₂ (λ p q. p && q) (ap (λ (o : Set). o s.scalar.0) own ∙ last_assigned front s.scalar s.added.now)
        (ap (λ loose. is_apart (stored_in body) loose here s.added.now) (sym (front_loose body front)) ∙ last)

    apart : body_apart (stored_in (ended front s.scalar s.added.now)) (assigned_in (ended front s.scalar s.added.now))
        (assigned_in (ended front s.scalar s.added.now)) here (ended front s.scalar s.added.now) ≡ true
    apart =
        ap₂ (λ t o. body_apart t o o here (ended front s.scalar s.added.now)) (sym taken) (sym own)
        ∙ more_apart (stored_in body) (assigned_in body) (assigned_in body) here front (Assign s.scalar (Value s.added.now)) front_apart last_apart

-- a body that ends with a statement that carries a scalar on
pub has_sum : (body front : List Stmt) (last : Stmt) (s : Sum) → body ≡ front ++ last ∷ [] → IsCarriedBy last s → HasSum body front s
has_sum body front last s whole h =
    record { last = h.last; whole = whole ∙ ap (λ (l : Stmt). front ++ l ∷ []) h.is; carries = h.carries }
