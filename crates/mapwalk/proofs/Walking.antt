-- The walk, item by item.
use Rattle.std.proofs.Common.{◌≡◌, ◌≢◌, ℕ, zero, suc, ◌+◌, ◌<◌, ◌==◌, Bool, true, false, List, [], ◌∷◌, ◌++◌, length, take, drop, get_or, Option, Some, None, refl, sym, ap, ◌∙◌, subst, arith, append_assoc, add-one, eqb-true}
use Rattle.std.specs.Prelude.{slice_get}
use Rattle.std.proofs.Math.Seq.{take-append_seam}
use Rattle.base.specs.declared.item.Cell.{Cell}
use Rattle.base.specs.declared.item.Item.{Item}
use Rattle.base.specs.declared.fault.RangeFault.{RangeFault}
use Rattle.base.specs.declared.fault.RefusalCode.{RefusalCode}
use Rattle.base.specs.Items.{Plan, Work}
use Rattle.base.specs.Memory.{changed}
use Rattle.base.specs.Map.{Block}
use Rattle.base.specs.Actions.{Stage, acts_of, stages, stages_from}
use Rattle.base.specs.Current.{AllCurrent, after_stage, after_stages, at_start}
use Rattle.base.specs.Accepted.{cause, current_before, on_stage, range_faults}
use Rattle.outline.specs.Regions.{Entry}
use Rattle.outline.specs.Shown.{all_shown, as_shown, shown}
use Rattle.mapwalk.specs.declared.rows.Acts.{Acts}
use Rattle.mapwalk.specs.Acts.{acts_rows}
use Rattle.mapwalk.specs.Steps.{HasDone, stage_of}
use Rattle.mapwalk.specs.Walk.{HasNoRangeFault}
use Rattle.mapwalk.proofs.Agreeing.{AgreeAll, all_cause_agree, stage_agree}
use Rattle.mapwalk.proofs.SideRows.{other_number}

-- the item with its region in full
pub record WorkAt (entries : List Entry) (works : List Work) (i : ℕ) (x : Item) : Type 0 where
  pub work : Work
  pub there : slice_get works i ≡ Some work
  pub is : shown entries x ≡ Some work

pub work_at : (entries : List Entry) (items : List Item) (works : List Work) (i : ℕ) (x : Item) →
    all_shown entries items ≡ as_shown works → i < length items → x ≡ get_or items i x → WorkAt entries works i x
work_at entries [] works i x e h g = absurd (omega arith)
work_at entries (y ∷ items) [] i x e h g = absurd cc
work_at entries (y ∷ items) (w ∷ works) zero x e h g =
    let first : shown entries y ≡ Some w = cc in
    record { work = w; there = refl; is = ap (shown entries) g ∙ first }
work_at entries (y ∷ items) (w ∷ works) (suc i) x e h g =
    let rest : all_shown entries items ≡ as_shown works = cc in
    let at = work_at entries items works i x rest (omega arith) g in
    record { work = at.work; there = at.there; is = at.is }

pub no_fault_at : (plan : Plan) (i : ℕ) (w : Work) → HasNoRangeFault plan → slice_get plan.items i ≡ Some w →
    range_faults plan.lengths w ≡ []
no_fault_at plan i w h e =
    subst (λ (o : Option Work). (elim o as (λ z. List RangeFault) [ None ↦ [] | Some v ↦ range_faults plan.lengths v ]) ≡ []) e
    (h i)

drop_at_suc : {X : Type 0} (xs : List X) (i : ℕ) (x : X) → slice_get xs i ≡ Some x → drop i xs ≡ x ∷ drop (suc i) xs
drop_at_suc [] i x e = absurd cc
drop_at_suc (y ∷ xs) zero x e = let same : y ≡ x = cc in ap (λ z. z ∷ xs) same
drop_at_suc (y ∷ xs) (suc i) x e = drop_at_suc xs i x e

pub drop_at : {X : Type 0} (xs : List X) (i : ℕ) (x : X) → slice_get xs i ≡ Some x → drop i xs ≡ x ∷ drop (i + 1) xs
drop_at xs i x e = drop_at_suc xs i x e ∙ ap (λ k. x ∷ drop k xs) (sym (add-one i))

head_of : {X : Type 0} (xs : List X) (i : ℕ) (x : X) (rest : List X) → drop i xs ≡ x ∷ rest → slice_get xs i ≡ Some x
head_of [] zero x rest e = absurd cc
head_of [] (suc i) x rest e = absurd cc
head_of (y ∷ xs) zero x rest e = let same : y ≡ x = cc in ap (λ z. Some z) same
head_of (y ∷ xs) (suc i) x rest e = head_of xs i x rest e

tail_of_suc : {X : Type 0} (xs : List X) (i : ℕ) (x : X) (rest : List X) → drop i xs ≡ x ∷ rest → drop (suc i) xs ≡ rest
tail_of_suc [] zero x rest e = absurd cc
tail_of_suc [] (suc i) x rest e = absurd cc
tail_of_suc (y ∷ xs) zero x rest e = cc
tail_of_suc (y ∷ xs) (suc i) x rest e = tail_of_suc xs i x rest e

tail_of : {X : Type 0} (xs : List X) (i : ℕ) (x : X) (rest : List X) → drop i xs ≡ x ∷ rest → drop (i + 1) xs ≡ rest
tail_of xs i x rest e = ap (λ k. drop k xs) (add-one i) ∙ tail_of_suc xs i x rest e

after_more_suc : (ss : List Stage) (i : ℕ) (s : Stage) (k : AllCurrent) → slice_get ss i ≡ Some s →
    after_stages (take (suc i) ss) k ≡ after_stage s (after_stages (take i ss) k)
after_more_suc [] i s k e = absurd cc
after_more_suc (t ∷ ss) zero s k e = let same : t ≡ s = cc in ap (λ (x : Stage). after_stage x k) same
after_more_suc (t ∷ ss) (suc i) s k e = after_more_suc ss i s (after_stage t k) e

after_more : (ss : List Stage) (i : ℕ) (s : Stage) (k : AllCurrent) → slice_get ss i ≡ Some s →
    after_stages (take (i + 1) ss) k ≡ after_stage s (after_stages (take i ss) k)
after_more ss i s k e = ap (λ n. after_stages (take n ss) k) (add-one i) ∙ after_more_suc ss i s k e

-- an item has no cause
abbrev pub IsClean : Plan → ℕ → Type 0
IsClean plan j = (code : RefusalCode) (c : Cell) → on_stage plan j false (λ s. cause code s (current_before plan j) c) ≡ false

-- where the walk is before an item
pub record Reached (plan : Plan) (i : ℕ) (tables : ℕ → List Block) (k : AllCurrent) (rows : List (List Acts)) : Type 0 where
  pub stages_left : drop i (stages plan) ≡ stages_from (drop i plan.items) tables
  pub rows_left : rows ++ acts_rows (drop i plan.items) tables ≡ acts_rows plan.items (λ d. [])
  pub count : length rows ≡ i
  pub agree : AgreeAll plan.lengths k (current_before plan i)
  pub clean : (j : ℕ) → j < i → IsClean plan j

-- the rows so far are those of the items so far
pub rows_before : (plan : Plan) (i : ℕ) (tables : ℕ → List Block) (k : AllCurrent) (rows : List (List Acts)) →
    Reached plan i tables k rows → rows ≡ take i (acts_rows plan.items (λ d. []))
rows_before plan i tables k rows r =
    let rest = acts_rows (drop i plan.items) tables in
    sym (ap (λ (xs : List (List Acts)). take i xs) (sym r.rows_left) ∙ ap (λ n. take n (rows ++ rest)) (sym r.count)
    ∙ take-append_seam rows rest)

pub stage_at : (plan : Plan) (i : ℕ) (tables : ℕ → List Block) (k : AllCurrent) (rows : List (List Acts)) (w : Work) →
    Reached plan i tables k rows → slice_get plan.items i ≡ Some w → slice_get (stages plan) i ≡ Some (stage_of w (tables w.device))
stage_at plan i tables k rows w r e =
    head_of (stages plan) i (stage_of w (tables w.device)) _
    (r.stages_left ∙ ap (λ ws. stages_from ws tables) (drop_at plan.items i w e))

pub on_stage_is : (plan : Plan) (i : ℕ) (s : Stage) (f : Stage → Bool) → slice_get (stages plan) i ≡ Some s →
    on_stage plan i false f ≡ f s
on_stage_is plan i s f e = ap (λ (o : Option Stage). elim o as (λ z. Bool) [ None ↦ false | Some t ↦ f t ]) e

pub next : (plan : Plan) (i : ℕ) (tables now : ℕ → List Block) (k j : AllCurrent) (rows : List (List Acts)) (row : List Acts)
    (w : Work) → HasNoRangeFault plan → slice_get plan.items i ≡ Some w → Reached plan i tables k rows →
    HasDone w tables now k j row → Reached plan (i + 1) now j (rows ++ row ∷ [])
next plan i tables now k j rows row w none e r d =
    record {
      stages_left =
          tail_of (stages plan) i (stage_of w (tables w.device)) (stages_from (drop (i + 1) plan.items) after) begins
          ∙ ap (stages_from (drop (i + 1) plan.items)) (sym d.tables_after);
      rows_left =
          append_assoc rows (row ∷ []) (acts_rows (drop (i + 1) plan.items) now)
          ∙ (λ t. rows ++ d.acts t ∷ acts_rows (drop (i + 1) plan.items) (d.tables_after t))
          ∙ ap (λ ws. rows ++ acts_rows ws tables) (sym (drop_at plan.items i w e))
          ∙ r.rows_left;
      count = let c : length rows ≡ i = r.count in counted rows row c;
      agree =
          subst (λ x. AgreeAll plan.lengths x (current_before plan (i + 1))) (sym d.current)
          (subst (AgreeAll plan.lengths (after_stage (stage_of w (tables w.device)) k))
          (sym (after_more (stages plan) i (stage_of w (tables w.device)) at_start here))
          (stage_agree plan.lengths (stage_of w (tables w.device)) k (current_before plan i) r.agree));
      clean = all_clean;
    }
  where
    after : ℕ → List Block
    after = changed w.device (acts_of w (tables w.device)).blocks tables

    begins : drop i (stages plan) ≡ stage_of w (tables w.device) ∷ stages_from (drop (i + 1) plan.items)
        (changed w.device (acts_of w (tables w.device)).blocks tables)
    begins = r.stages_left ∙ ap (λ ws. stages_from ws tables) (drop_at plan.items i w e)

    here : slice_get (stages plan) i ≡ Some (stage_of w (tables w.device))
    here = head_of (stages plan) i (stage_of w (tables w.device)) _ begins

    counted : (xs : List (List Acts)) (x : List Acts) → length xs ≡ i → length (xs ++ x ∷ []) ≡ i + 1
    counted xs x c = length_more xs x ∙ ap (λ n. n + 1) c
      where
        length_more : (xs : List (List Acts)) (x : List Acts) → length (xs ++ x ∷ []) ≡ length xs + 1
        length_more [] x = omega arith
        length_more (y ∷ ys) x = let m : length (ys ++ x ∷ []) ≡ length ys + 1 = length_more ys x in omega arith

    this_clean : IsClean plan i
    this_clean code c =
        on_stage_is plan i (stage_of w (tables w.device)) (λ s. cause code s (current_before plan i) c) here
        ∙ sym (all_cause_agree plan.lengths w (tables w.device) k (current_before plan i) (no_fault_at plan i w none e) r.agree code c)
        ∙ d.clean code c

    all_clean : (n : ℕ) → n < i + 1 → IsClean plan n
    all_clean n h = go (n == i) refl
      where
        go : (t : Bool) → (n == i) ≡ t → IsClean plan n
        go true same = subst (IsClean plan) (sym (eqb-true n i same)) this_clean
        go false other = r.clean n (let ne : i ≢ n = other_number n i other in omega arith)
