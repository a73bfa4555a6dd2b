-- A turn of a loop that repeats the turn before it.
use Rattle.std.proofs.Common.{◌≡◌, ℕ, zero, suc, ◌+◌, ◌<◌, false, List, [], ◌∷◌, take, Some, sym, ap, ◌∙◌, add-one}
use Rattle.std.specs.Prelude.{slice_get}
use Rattle.base.specs.declared.item.Cell.{Cell}
use Rattle.base.specs.declared.fault.RefusalCode.{RefusalCode}
use Rattle.base.specs.Items.{Plan, Work}
use Rattle.base.specs.Actions.{stages_from}
use Rattle.base.specs.Current.{AllCurrent, after_stage, after_stages, at_start}
use Rattle.base.specs.Accepted.{cause, current_before}
use Rattle.base.proofs.Places.{get_take}
use Rattle.mapwalk.specs.declared.rows.Acts.{Acts}
use Rattle.mapwalk.specs.Acts.{acts_row, acts_rows}
use Rattle.mapwalk.specs.Heads.{AbstractState}
use Rattle.mapwalk.specs.Steps.{HasDone, stage_of}
use Rattle.mapwalk.specs.Walk.{HasNoRangeFault}
use Rattle.mapwalk.proofs.Agreeing.{AgreeAll, all_cause_agree, stage_agree}
use Rattle.mapwalk.proofs.LikeItems.{WorkAlike, after_work, no_cause, row_same}
use Rattle.mapwalk.proofs.Walking.{Reached, no_fault_at, on_stage_is, rows_before}

-- the walk after the first items
abbrev pub after_first : List Work → ℕ → AbstractState → AbstractState
after_first ws zero s = s
after_first [] (suc i) s = s
after_first (w ∷ ws) (suc i) s = after_first ws i (after_work w s)

first_suc : (ws : List Work) (i : ℕ) (w : Work) (s : AbstractState) → slice_get ws i ≡ Some w →
    after_first ws (suc i) s ≡ after_work w (after_first ws i s)
first_suc [] i w s e = absurd cc
first_suc (v ∷ ws) zero w s e = let same : v ≡ w = cc in ap (λ (x : Work). after_work x s) same
first_suc (v ∷ ws) (suc i) w s e = first_suc ws i w (after_work v s) e

pub first_more : (ws : List Work) (i : ℕ) (w : Work) (s : AbstractState) → slice_get ws i ≡ Some w →
    after_first ws (i + 1) s ≡ after_work w (after_first ws i s)
first_more ws i w s e = ap (λ n. after_first ws n s) (add-one i) ∙ first_suc ws i w s e

stage_first : (ws : List Work) (i : ℕ) (w : Work) (s : AbstractState) → slice_get ws i ≡ Some w →
    slice_get (stages_from ws s.tables) i ≡ Some (stage_of w ((after_first ws i s).tables w.device))
stage_first [] i w s e = absurd cc
stage_first (v ∷ ws) zero w s e =
    let same : v ≡ w = cc in ap (λ (x : Work). Some (stage_of x (s.tables x.device))) same
stage_first (v ∷ ws) (suc i) w s e = stage_first ws i w (after_work v s) e

row_first : (ws : List Work) (i : ℕ) (w : Work) (s : AbstractState) → slice_get ws i ≡ Some w →
    slice_get (acts_rows ws s.tables) i ≡ Some (acts_row w ((after_first ws i s).tables w.device))
row_first [] i w s e = absurd cc
row_first (v ∷ ws) zero w s e =
    let same : v ≡ w = cc in ap (λ (x : Work). Some (acts_row x (s.tables x.device))) same
row_first (v ∷ ws) (suc i) w s e = row_first ws i w (after_work v s) e

agree_first : (lengths : List ℕ) (ws : List Work) (i : ℕ) (s : AbstractState) (k : AllCurrent) → AgreeAll lengths s.current k →
    AgreeAll lengths (after_first ws i s).current (after_stages (take i (stages_from ws s.tables)) k)
agree_first lengths ws zero s k h = h
agree_first lengths [] (suc i) s k h = h
agree_first lengths (w ∷ ws) (suc i) s k h =
    agree_first lengths ws i (after_work w s) (after_stage (stage_of w (s.tables w.device)) k)
    (stage_agree lengths (stage_of w (s.tables w.device)) s.current k h)

-- the walk before the first item, where these cells are current
abbrev pub start : AllCurrent → AbstractState
start k = record { tables = λ d. []; current = k }

-- the walk before each item of a plan
abbrev pub before_item : Plan → AllCurrent → ℕ → AbstractState
before_item plan k i = after_first plan.items i (start k)

-- the walk is where its definition is
abbrev pub IsAt : Plan → AllCurrent → ℕ → List (List Acts) → Type 0
IsAt plan k i rows = Reached plan i (before_item plan k i).tables (before_item plan k i).current rows

-- an item that was done had no cause
clean_before : (plan : Plan) (k : AllCurrent) (i j : ℕ) (rows : List (List Acts)) (w : Work) → HasNoRangeFault plan →
    AgreeAll plan.lengths k at_start → IsAt plan k i rows → j < i → slice_get plan.items j ≡ Some w →
    (code : RefusalCode) (c : Cell) →
    cause code (stage_of w ((before_item plan k j).tables w.device)) (before_item plan k j).current c ≡ false
clean_before plan k i j rows w none agree r lt e code c =
    let s = before_item plan k j in
    all_cause_agree plan.lengths w (s.tables w.device) s.current (current_before plan j) (no_fault_at plan j w none e)
    (agree_first plan.lengths plan.items j (start k) at_start agree) code c
    ∙ sym (on_stage_is plan j (stage_of w (s.tables w.device)) (λ x. cause code x (current_before plan j) c)
    (stage_first plan.items j w (start k) e))
    ∙ r.clean j lt code c

-- and this row
pub row_before : (plan : Plan) (k : AllCurrent) (i j : ℕ) (rows : List (List Acts)) (w : Work) →
    IsAt plan k i rows → j < i → slice_get plan.items j ≡ Some w →
    slice_get rows j ≡ Some (acts_row w ((before_item plan k j).tables w.device))
row_before plan k i j rows w r lt e =
    let s = before_item plan k i in
    ap (λ (xs : List (List Acts)). slice_get xs j) (rows_before plan i s.tables s.current rows r)
    ∙ get_take i (acts_rows plan.items (λ d. [])) j lt
    ∙ row_first plan.items j w (start k) e

-- an item does what an earlier one did that is alike, from the same state
pub done_again : (plan : Plan) (k : AllCurrent) (i j n : ℕ) (rows : List (List Acts)) (v w : Work) → HasNoRangeFault plan →
    AgreeAll plan.lengths k at_start → IsAt plan k i rows → j < i → slice_get plan.items j ≡ Some v →
    slice_get plan.items n ≡ Some w → WorkAlike v w → before_item plan k j ≡ before_item plan k n →
    HasDone w (before_item plan k n).tables (before_item plan k (n + 1)).tables (before_item plan k n).current
    (before_item plan k (n + 1)).current (acts_row v ((before_item plan k j).tables v.device))
done_again plan k i j n rows v w none agree r lt there here h same =
    let s = before_item plan k n in
    let after = first_more plan.items n w (start k) here in
    record {
      clean = no_cause v w h (s.tables w.device) s.current (λ code c.
          (λ t. cause code (stage_of v ((sym same t).tables (h.device t))) (sym same t).current c)
          ∙ clean_before plan k i j rows v none agree r lt there code c);
      acts =
          (λ t. acts_row v ((same t).tables (sym h.device t)))
          ∙ sym (row_same v w h (s.tables w.device));
      tables_after = ap (λ (x : AbstractState). x.tables) after;
      current = ap (λ (x : AbstractState). x.current) after;
    }
