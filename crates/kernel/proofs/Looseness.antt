-- The scalars of a body that are not assigned yet.
use Rattle.std.proofs.Common.{◌≡◌, ℕ, Bool, true, false, List, [], ◌∷◌, ◌++◌, take, drop, length, get_or, ◌+◌, ◌<◌, ◌≤◌, refl, sym, ap, ap₂, ◌∙◌}
use Rattle.std.specs.Prelude.{not, ◌&&◌, ◌||◌}
use Rattle.std.proofs.lemmas.Bool.{false≢true}
use Rattle.std.proofs.lemmas.List.{take_more, drop_more, drop_all}
use mathlib.Core.Path.{fun_ext}
use Rattle.base.specs.declared.tree.Expr.{Expr}
use Rattle.base.specs.declared.tree.Stmt.{Stmt}
use Rattle.base.specs.declared.tree.Stmt.TheVariants.{Declare, Assign, Store, Combine, Print, Block', Loop', If'}
use Rattle.lanes.specs.Apart.{Set, assigned_by, assigned_in, loose_after, loose_body, body_apart, stmt_apart}
use Rattle.kernel.specs.Loops.{AreApart, AreApartFor, AreSettled, IsApartFor, certain_by, certain_in, stored_in, loose_in}

-- what is loose after a statement was loose before, and is not assigned by it for certain
after_is : (loose : Set) (s : Stmt) (x : ℕ) → loose_after loose s x ≡ (not (certain_by s x) && loose x)
after_is loose (Declare y v) x = refl
after_is loose (Assign y v) x = refl
after_is loose (Store a place e v) x = refl
after_is loose (Combine op a place e v) x = refl
after_is loose (Print e) x = refl
after_is loose (Block' shape all) x = refl
after_is loose (Loop' b shape all) x = refl
after_is loose (If' c shape all shape' all') x = refl

-- so it is for a body
pub loose_is : (body : List Stmt) (loose : Set) (x : ℕ) → loose_body loose body x ≡ (not (certain_in body x) && loose x)
loose_is [] loose x = refl
loose_is (s ∷ rest) loose x =
    loose_is rest (loose_after loose s) x
    ∙ ap (λ b. not (certain_in rest x) && b) (after_is loose s x)
    ∙ both (certain_by s x) (certain_in rest x) (loose x)
  where
    both : (p q r : Bool) → (not q && (not p && r)) ≡ (not (p || q) && r)
    both true true r = refl
    both true false r = refl
    both false true r = refl
    both false false r = refl

-- at the end of a body no scalar is loose that it assigns, where each of these is assigned for certain
pub none_loose : (body : List Stmt) → AreSettled body body → (x : ℕ) → loose_body (assigned_in body) body x ≡ false
none_loose body settled x =
    loose_is body (assigned_in body) x ∙ never (certain_in body x) (assigned_in body x) (settled x)
  where
    never : (p q : Bool) → (q ≡ true → p ≡ true) → (not p && q) ≡ false
    never true q h = refl
    never false true h = absurd (false≢true (h refl))
    never false false h = refl

one_of : (b : Bool) → (b || false) ≡ b
one_of true = refl
one_of false = refl

pub in_more : (before : List Stmt) (s : Stmt) (x : ℕ) → assigned_in (before ++ s ∷ []) x ≡ (assigned_in before x || assigned_by s x)
in_more [] s x = one_of (assigned_by s x)
in_more (first ∷ rest) s x =
    ap (λ b. assigned_by first x || b) (in_more rest s x) ∙ go (assigned_by first x)
  where
    go : (p : Bool) → (p || (assigned_in rest x || assigned_by s x)) ≡ ((p || assigned_in rest x) || assigned_by s x)
    go true = refl
    go false = refl

pub certain_more : (before : List Stmt) (s : Stmt) (x : ℕ) → certain_in (before ++ s ∷ []) x ≡ (certain_in before x || certain_by s x)
certain_more [] s x = one_of (certain_by s x)
certain_more (first ∷ rest) s x =
    ap (λ b. certain_by first x || b) (certain_more rest s x) ∙ go (certain_by first x)
  where
    go : (p : Bool) → (p || (certain_in rest x || certain_by s x)) ≡ ((p || certain_in rest x) || certain_by s x)
    go true = refl
    go false = refl

-- what is loose after one more statement
loose_more : (body before : List Stmt) (s : Stmt) → loose_after (loose_in body before) s ≡ loose_in body (before ++ s ∷ [])
loose_more body before s =
    fun_ext (λ (x : ℕ). after_is (loose_in body before) s x ∙ go (assigned_in body x) (certain_in before x) (certain_by s x)
    ∙ ap (λ b. assigned_in body x && not b) (sym (certain_more before s x)))
  where
    go : (p q r : Bool) → (not r && (p && not q)) ≡ (p && not (q || r))
    go true true true = refl
    go true true false = refl
    go true false true = refl
    go true false false = refl
    go false q true = refl
    go false q false = refl

-- nothing is assigned before the first statement
pub all_loose : (body : List Stmt) → loose_in body [] ≡ assigned_in body
all_loose body = fun_ext (λ (x : ℕ). go (assigned_in body x))
  where
    go : (p : Bool) → (p && true) ≡ p
    go true = refl
    go false = refl

-- the statements from a place on, and the one there with those behind it
one_apart : (body some : List Stmt) (here : Expr → Bool) (k : ℕ) (d : Stmt) → k < length some →
    (stmt_apart (stored_in body) (assigned_in body) (loose_in body (take k some)) here (get_or some k d)
    && body_apart (stored_in body) (assigned_in body) (loose_in body (take (k + 1) some)) here (drop (k + 1) some))
    ≡ body_apart (stored_in body) (assigned_in body) (loose_in body (take k some)) here (drop k some)
one_apart body some here k d h =
    ap (λ loose. stmt_apart (stored_in body) (assigned_in body) (loose_in body (take k some)) here (get_or some k d)
    && body_apart (stored_in body) (assigned_in body) loose here (drop (k + 1) some))
    (ap (loose_in body) (take_more some k d h) ∙ sym (loose_more body (take k some) (get_or some k d)))
    ∙ sym (ap (body_apart (stored_in body) (assigned_in body) (loose_in body (take k some)) here) (drop_more some k d h))

pub none_apart : (body some : List Stmt) (here : Expr → Bool) (k : ℕ) (loose : Set) → length some ≤ k →
    AreApartFor here body loose (drop k some)
none_apart body some here k loose h =
    ap (body_apart (stored_in body) (assigned_in body) loose here) (drop_all k some h)

pub both_apart : (body some : List Stmt) (here : Expr → Bool) (k : ℕ) (d : Stmt) → k < length some →
    IsApartFor here body (loose_in body (take k some)) (get_or some k d) →
    AreApartFor here body (loose_in body (take (k + 1) some)) (drop (k + 1) some) →
    AreApartFor here body (loose_in body (take k some)) (drop k some)
both_apart body some here k d h one rest = sym (one_apart body some here k d h) ∙ ap₂ (λ p q. p && q) one rest

-- what is looked at of a body
pub is_apart : (here : Expr → Bool) (body : List Stmt) → AreSettled body body → AreApartFor here body (loose_in body []) body →
    AreApart here body
is_apart here body settled h =
    record {
      apart = ap (λ loose. body_apart (stored_in body) (assigned_in body) loose here body) (sym (all_loose body)) ∙ h;
      settled = settled;
    }
