-- A turn is done again from the state from which the turn before it was done.
use Rattle.std.proofs.Common.{◌≡◌, ℕ, zero, suc, ◌+◌, ◌<◌, ◌≤◌, List, [], ◌∷◌, ◌++◌, length, take, drop, Some, refl, sym, ap, ◌∙◌, subst, arith, append_assoc, append-nil, add-one}
use Rattle.std.specs.Prelude.{slice_get}
use Rattle.base.specs.Items.{Plan, Work}
use Rattle.base.specs.Current.{AllCurrent, at_start}
use Rattle.base.proofs.Places.{get_drop}
use Rattle.mapwalk.specs.declared.rows.Acts.{Acts}
use Rattle.mapwalk.specs.Acts.{acts_row}
use Rattle.mapwalk.specs.Walk.{HasNoRangeFault}
use Rattle.mapwalk.proofs.Agreeing.{AgreeAll}
use Rattle.mapwalk.proofs.LikeItems.{WorkAlike, after_same, after_work}
use Rattle.mapwalk.proofs.Turns.{IsAt, before_item, done_again, first_more, row_before, start}
use Rattle.mapwalk.proofs.Walking.{next}

take_suc : {X : Type 0} (xs : List X) (i : ℕ) (x : X) → slice_get xs i ≡ Some x → take (suc i) xs ≡ take i xs ++ x ∷ []
take_suc [] i x e = absurd cc
take_suc (y ∷ xs) zero x e = let same : y ≡ x = cc in ap (λ z. z ∷ []) same
take_suc (y ∷ xs) (suc i) x e = ap (λ zs. y ∷ zs) (take_suc xs i x e)

pub take_more : {X : Type 0} (xs : List X) (i : ℕ) (x : X) → slice_get xs i ≡ Some x → take (i + 1) xs ≡ take i xs ++ x ∷ []
take_more xs i x e = ap (λ n. take n xs) (add-one i) ∙ take_suc xs i x e

pub get_front : {X : Type 0} (xs ys : List X) (i : ℕ) → i < length xs → slice_get (xs ++ ys) i ≡ slice_get xs i
get_front [] ys i h = absurd (omega arith)
get_front (x ∷ xs) ys zero h = refl
get_front (x ∷ xs) ys (suc i) h = get_front xs ys i (omega arith)

pub record HasItem {X : Type 0} (xs : List X) (i : ℕ) : Type 0 where
  pub item : X
  pub there : slice_get xs i ≡ Some item

pub item_at : {X : Type 0} (xs : List X) (i : ℕ) → i < length xs → HasItem xs i
item_at [] i h = absurd (omega arith)
item_at (x ∷ xs) zero h = record { item = x; there = refl }
item_at (x ∷ xs) (suc i) h = let r = item_at xs i (omega arith) in record { item = r.item; there = r.there }

-- the walk after j items of a turn from item n on, each of which repeats the one m items before
pub record Turned (plan : Plan) (k : AllCurrent) (h n j : ℕ) (rows : List (List Acts)) : Type 0 where
  pub at : IsAt plan k (n + j) (rows ++ take j (drop h rows))
  pub same : before_item plan k (h + j) ≡ before_item plan k (n + j)

module _ (plan : Plan) (k : AllCurrent) (h m n : ℕ) (rows : List (List Acts)) (none : HasNoRangeFault plan)
    (agree : AgreeAll plan.lengths k at_start) (at : IsAt plan k n rows) (turn : n ≡ h + m)
    (same : before_item plan k h ≡ before_item plan k n) (inside : n + m ≤ length plan.items)
    (alike : (j : ℕ) (v w : Work) → j < m → slice_get plan.items (h + j) ≡ Some v → slice_get plan.items (n + j) ≡ Some w →
    WorkAlike v w) where
  one_more : (j : ℕ) → j < m → Turned plan k h n j rows → Turned plan k h n (j + 1) rows
  one_more j lt t =
      let v = item_at plan.items (h + j) (omega (arith, lt, inside, turn)) in
      let w = item_at plan.items (n + j) (omega (arith, lt, inside, turn)) in
      let before : h + j < n = omega (arith, lt, turn) in
      let like = alike j v.item w.item lt v.there w.there in
      let row = acts_row v.item ((before_item plan k (h + j)).tables v.item.device) in
      let now = before_item plan k (n + j) in
      let then = before_item plan k (n + j + 1) in
      let done = done_again plan k n (h + j) (n + j) rows v.item w.item none agree at before v.there w.there like t.same in
      let here : slice_get (drop h rows) j ≡ Some row = get_drop h rows j ∙ row_before plan k n (h + j) rows v.item at before v.there in
      let all : (rows ++ take j (drop h rows)) ++ row ∷ [] ≡ rows ++ take (j + 1) (drop h rows) =
      append_assoc rows (take j (drop h rows)) (row ∷ []) ∙ ap (λ ys. rows ++ ys) (sym (take_more (drop h rows) j row here)) in
      let reached = next plan (n + j) now.tables then.tables now.current then.current (rows ++ take j (drop h rows)) row w.item
      none w.there t.at done in
      record {
        at = subst (λ i. IsAt plan k i (rows ++ take (j + 1) (drop h rows))) (plus n j)
            (subst (IsAt plan k (n + j + 1)) all reached);
        same =
            ap (before_item plan k) (sym (plus h j))
            ∙ first_more plan.items (h + j) v.item (start k) v.there
            ∙ sym (after_same v.item w.item like (before_item plan k (h + j)))
            ∙ ap (after_work w.item) t.same
            ∙ sym (first_more plan.items (n + j) w.item (start k) w.there)
            ∙ ap (before_item plan k) (plus n j);
      }
    where
      plus : (a b : ℕ) → a + b + 1 ≡ a + (b + 1)
      plus a b = omega arith

  turned_suc : (j : ℕ) → j ≤ m → Turned plan k h n j rows
  turned_suc zero le =
      record {
        at = subst (λ i. IsAt plan k i (rows ++ [])) (nothing n) (subst (IsAt plan k n) (sym (append-nil rows)) at);
        same = ap (before_item plan k) (sym (nothing h)) ∙ same ∙ ap (before_item plan k) (nothing n);
      }
    where
      nothing : (a : ℕ) → a ≡ a + 0
      nothing a = omega arith
  turned_suc (suc j) le =
      subst (λ i. Turned plan k h n i rows) (add-one j) (one_more j (omega arith) (turned_suc j (omega arith)))

  -- the whole turn
  pub turned : Turned plan k h n m rows
  turned = turned_suc m (omega arith)
