-- Loops over statements that test each of them.
use Rattle.std.proofs.Common.{◌≡◌, ℕ, ◌+◌, ◌<◌, ◌≤◌, Bool, true, false, List, [], ◌∷◌, length, drop, get_or, refl, sym, ap, ◌∙◌, subst}
use Rattle.std.specs.Prelude.{◌||◌}
use Rattle.std.proofs.lemmas.List.{drop_more, drop_all}
use Rattle.base.specs.declared.tree.Expr.{Expr}
use Rattle.base.specs.declared.tree.Stmt.{Stmt}
use Rattle.lanes.specs.Apart.{Set, assigned_by, assigned_in}
use Rattle.kernel.specs.Loops.{AreApartFor, AreSettled, IsApartFor, IsSettled, certain_in, stored_by, stored_in}
use Rattle.kernel.proofs.Narrower.{one_more_apart}

first_is : (all : List Stmt) (k : ℕ) (s : Stmt) → k < length all → s ≡ get_or all k s → drop k all ≡ s ∷ drop (k + 1) all
first_is all k s lt is = drop_more all k s lt ∙ ap (λ (x : Stmt). x ∷ drop (k + 1) all) (sym is)

-- what holds of one of some statements holds of one of those from a place on
module _ (p : Stmt → Bool) (f : List Stmt → Bool) (more : (s : Stmt) (rest : List Stmt) → f (s ∷ rest) ≡ (p s || f rest)) where
  any_next : (all : List Stmt) (k : ℕ) (s : Stmt) (q : Bool) → k < length all → s ≡ get_or all k s → q ≡ p s → q ≡ false →
      f (drop k all) ≡ f all → f (drop (k + 1) all) ≡ f all
  any_next all k s q lt is same out h =
      sym (ap f (first_is all k s lt is) ∙ more s (drop (k + 1) all) ∙ ap (λ b. b || f (drop (k + 1) all)) (sym same ∙ out)) ∙ h

  any_found : (all : List Stmt) (k : ℕ) (s : Stmt) (q : Bool) → k < length all → s ≡ get_or all k s → q ≡ p s → q ≡ true →
      f (drop k all) ≡ f all → true ≡ f all
  any_found all k s q lt is same found h =
      sym (ap f (first_is all k s lt is) ∙ more s (drop (k + 1) all) ∙ ap (λ b. b || f (drop (k + 1) all)) (sym same ∙ found)) ∙ h

  any_none : f [] ≡ false → (all : List Stmt) (k : ℕ) → length all ≤ k → f (drop k all) ≡ f all → false ≡ f all
  any_none none all k le h = sym none ∙ sym (ap f (drop_all k all le)) ∙ h

pub assigned_next : (x : ℕ) (all : List Stmt) (k : ℕ) (s : Stmt) (q : Bool) → k < length all → s ≡ get_or all k s → q ≡ assigned_by s x →
    q ≡ false → assigned_in (drop k all) x ≡ assigned_in all x → assigned_in (drop (k + 1) all) x ≡ assigned_in all x
assigned_next x = any_next (λ s. assigned_by s x) (λ all. assigned_in all x) (λ s rest. refl)

pub assigned_found : (x : ℕ) (all : List Stmt) (k : ℕ) (s : Stmt) (q : Bool) → k < length all → s ≡ get_or all k s → q ≡ assigned_by s x →
    q ≡ true → assigned_in (drop k all) x ≡ assigned_in all x → true ≡ assigned_in all x
assigned_found x = any_found (λ s. assigned_by s x) (λ all. assigned_in all x) (λ s rest. refl)

pub assigned_none : (x : ℕ) (all : List Stmt) (k : ℕ) → length all ≤ k → assigned_in (drop k all) x ≡ assigned_in all x →
    false ≡ assigned_in all x
assigned_none x = any_none (λ s. assigned_by s x) (λ all. assigned_in all x) (λ s rest. refl) refl

pub stored_next : (a : ℕ) (all : List Stmt) (k : ℕ) (s : Stmt) (q : Bool) → k < length all → s ≡ get_or all k s → q ≡ stored_by s a →
    q ≡ false → stored_in (drop k all) a ≡ stored_in all a → stored_in (drop (k + 1) all) a ≡ stored_in all a
stored_next a = any_next (λ s. stored_by s a) (λ all. stored_in all a) (λ s rest. refl)

pub stored_found : (a : ℕ) (all : List Stmt) (k : ℕ) (s : Stmt) (q : Bool) → k < length all → s ≡ get_or all k s → q ≡ stored_by s a →
    q ≡ true → stored_in (drop k all) a ≡ stored_in all a → true ≡ stored_in all a
stored_found a = any_found (λ s. stored_by s a) (λ all. stored_in all a) (λ s rest. refl)

pub stored_none : (a : ℕ) (all : List Stmt) (k : ℕ) → length all ≤ k → stored_in (drop k all) a ≡ stored_in all a →
    false ≡ stored_in all a
stored_none a = any_none (λ s. stored_by s a) (λ all. stored_in all a) (λ s rest. refl) refl

-- where it holds of those from a place on, it holds of all
pub record Enough (P : List Stmt → Type 0) (all : List Stmt) (k : ℕ) : Type 0 where
  pub from : P (drop k all) → P all

pub enough_begun : (P : List Stmt → Type 0) (all : List Stmt) → Enough P all 0
enough_begun P all = record { from = λ h. h }

enough_next : (P : List Stmt → Type 0) (Q : Stmt → Type 0) → ((s : Stmt) (rest : List Stmt) → Q s → P rest → P (s ∷ rest)) →
    (all : List Stmt) (k : ℕ) (s : Stmt) → k < length all → s ≡ get_or all k s → Q s → Enough P all k → Enough P all (k + 1)
enough_next P Q more all k s lt is q h =
    record { from = λ rest. h.from (subst P (sym (first_is all k s lt is)) (more s (drop (k + 1) all) q rest)) }

pub enough_all : (P : List Stmt → Type 0) (all : List Stmt) (k : ℕ) → length all ≤ k → P [] → Enough P all k → P all
enough_all P all k le none h = h.from (subst P (sym (drop_all k all le)) none)

settled_more : (body : List Stmt) (s : Stmt) (rest : List Stmt) → IsSettled body s → AreSettled body rest → AreSettled body (s ∷ rest)
settled_more body s rest h k x e = go (assigned_by s x) refl e
  where
    go : (p : Bool) → assigned_by s x ≡ p → (p || assigned_in rest x) ≡ true → certain_in body x ≡ true
    go true is e = h x is
    go false is e = k x e

pub settled_next : (body all : List Stmt) (k : ℕ) (s : Stmt) → k < length all → s ≡ get_or all k s → IsSettled body s →
    Enough (AreSettled body) all k → Enough (AreSettled body) all (k + 1)
settled_next body = enough_next (AreSettled body) (IsSettled body) (settled_more body)

pub settled_none : (body : List Stmt) → AreSettled body []
settled_none body x e = absurd cc

pub apart_next : (here : Expr → Bool) (body : List Stmt) (loose : Set) (all : List Stmt) (k : ℕ) (s : Stmt) → k < length all →
    s ≡ get_or all k s → IsApartFor here body loose s → Enough (AreApartFor here body loose) all k →
    Enough (AreApartFor here body loose) all (k + 1)
apart_next here body loose =
    enough_next (AreApartFor here body loose) (IsApartFor here body loose)
    (λ s rest h k. one_more_apart (stored_in body) (assigned_in body) here loose s rest h k)
