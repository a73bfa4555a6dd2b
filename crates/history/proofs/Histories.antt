-- The history of a cell, item by item.
use Rattle.std.proofs.Common.{◌≡◌, ℕ, suc, zero, ◌+◌, ◌≤◌, Bool, false, List, [], ◌∷◌, length, take, Option, Some, refl, sym, ap, ◌∙◌, subst, arith, add-one, ⊎_elim}
use Rattle.std.specs.Prelude.{Vec, slice_get}
use Rattle.std.specs.declared.alloc.Global.{Global}
use Rattle.std.proofs.lemmas.Bool.{cases_eq}
use Rattle.base.specs.declared.item.Cell.{Cell}
use Rattle.base.specs.declared.item.Item.{Item}
use Rattle.base.specs.Items.{Plan, Work}
use Rattle.base.specs.Map.{Block}
use Rattle.base.specs.Memory.{changed}
use Rattle.base.specs.Actions.{Stage, acts_of, stages, stages_from}
use Rattle.base.specs.Current.{AllCurrent, after_stage, after_stages, at_start}
use Rattle.outline.specs.Regions.{Entry}
use Rattle.outline.specs.Shown.{shown as shown_item}
use Rattle.ranges.specs.declared.cells.Footprint.{Footprint}
use Rattle.mapwalk.specs.declared.rows.Acts.{Acts}
use Rattle.mapwalk.specs.Laws.{actions_of}
use Rattle.mapwalk.specs.Regions.{IsFootprintOf}
use Rattle.mapwalk.proofs.ShownItems.{shown_of}
use Rattle.history.specs.declared.History.{History}
use Rattle.history.specs.declared.Event.{Event}
use Rattle.history.specs.declared.State.{State}
use Rattle.history.specs.declared.State.TheVariants.{Current, Stale}
use Rattle.history.specs.Items.{AreSpelled}
use Rattle.history.specs.Moves.{stepped}
use Rattle.history.specs.Places.{Places, at_cell, before, is_current, is_current_in, shown}
use Rattle.history.specs.Since.{AreSince, IsSince}
use Rattle.history.proofs.Stages.{IsNowhereElse, step_is_stage}

-- the stage of an item
pub record StageAt (plan : Plan) (i : ℕ) (w : Work) : Type 0 where
  pub stage : Stage
  pub is : slice_get (stages plan) i ≡ Some stage
  pub work : stage.work ≡ w

pub record StageFrom (works : List Work) (tables : ℕ → List Block) (i : ℕ) (w : Work) : Type 0 where
  pub stage : Stage
  pub is : slice_get (stages_from works tables) i ≡ Some stage
  pub work : stage.work ≡ w

stage_from : (works : List Work) (tables : ℕ → List Block) (i : ℕ) (w : Work) → slice_get works i ≡ Some w → StageFrom works tables i w
stage_from [] tables i w e = absurd cc
stage_from (v ∷ works) tables zero w e =
    let same : v ≡ w = cc in
    let a = acts_of v (tables v.device) in
    record { stage = record { work = v; actions = a.actions; met = a.met }; is = refl; work = same }
stage_from (v ∷ works) tables (suc i) w e =
    let rest = stage_from works (changed v.device (acts_of v (tables v.device)).blocks tables) i w e in
    record { stage = rest.stage; is = rest.is; work = rest.work }

stage_at : (plan : Plan) (i : ℕ) (w : Work) → slice_get plan.items i ≡ Some w → StageAt plan i w
stage_at plan i w e =
    let h = stage_from plan.items (λ d. []) i w e in record { stage = h.stage; is = h.is; work = h.work }

after_more_suc : (ss : List Stage) (i : ℕ) (s : Stage) (k : AllCurrent) → slice_get ss i ≡ Some s →
    after_stages (take (suc i) ss) k ≡ after_stage s (after_stages (take i ss) k)
after_more_suc [] i s k e = absurd cc
after_more_suc (t ∷ ss) zero s k e = let same : t ≡ s = cc in ap (λ (x : Stage). after_stage x k) same
after_more_suc (t ∷ ss) (suc i) s k e = after_more_suc ss i s (after_stage t k) e

after_more : (ss : List Stage) (i : ℕ) (s : Stage) (k : AllCurrent) → slice_get ss i ≡ Some s →
    after_stages (take (i + 1) ss) k ≡ after_stage s (after_stages (take i ss) k)
after_more ss i s k e = ap (λ n. after_stages (take n ss) k) (add-one i) ∙ after_more_suc ss i s k e

-- beyond the four devices nothing is shown
beyond : (xs : List State) (e : ℕ) → length xs ≤ e → is_current_in (slice_get xs e) ≡ false
beyond [] e h = refl
beyond (x ∷ xs) zero h = absurd (omega (arith, h))
beyond (x ∷ xs) (suc e) h = beyond xs e (omega (arith, h))

nowhere_else : (c : Cell) (k : AllCurrent) (h : History) → shown h ≡ at_cell c k → IsNowhereElse c k
nowhere_else c k h is e far =
    sym (ap (λ p. p.devices e) is) ∙ beyond h.devices.items e (subst (λ n. n ≤ e) (sym h.count) far)

-- where it is current before the next item
pub next_shown : (plan : Plan) (c : Cell) (i : ℕ) (entries : List Entry) (item : Item) (w : Work) (rows : List (Vec Acts Global)) (row : Vec Acts Global)
    (found : Option Footprint) (h new : History) → AreSpelled plan rows → slice_get rows i ≡ Some row → slice_get plan.items i ≡ Some w →
    shown_item entries item ≡ Some w → IsFootprintOf w found → shown h ≡ before plan c i →
    shown new ≡ stepped item.kind item.device.number c item.maps.items row.items found (shown h) → shown new ≡ before plan c (i + 1)
next_shown plan c i entries item w rows row found h new spell at there is are now step =
    let of = shown_of entries item w is in
    let k = after_stages (take i (stages plan)) at_start in
    let s = stage_at plan i w there in
    let acts : s.stage.actions ≡ actions_of w row.items =
    spell i s.stage row s.is at ∙ ap (λ v. actions_of v row.items) s.work in
    step
    ∙ ap (stepped item.kind item.device.number c item.maps.items row.items found) now
    ∙ (λ j. stepped (sym of.kind j) (sym of.device j) c (sym of.maps j) row.items found (at_cell c k))
    ∙ step_is_stage w row.items found c k are (nowhere_else c k h now)
    ∙ (λ j. at_cell c (after_stage (record { work = sym s.work j; actions = sym acts j; met = [] }) k))
    ∙ ap (at_cell c) (sym (after_more (stages plan) i s.stage at_start s.is))

-- nothing made the cell current since, up to the next item
since_next : (past : ℕ → Bool) (i : ℕ) (events : List Event) (s : State) → IsSince past i events s → is_current s ≡ past (i + 1) →
    IsSince past (i + 1) events s
since_next past i events Current h now = tt
since_next past i events (Stale number) h now =
    let by = h.by in
    record {
      event = h.event;
      is = h.is;
      by = omega (arith, by);
      since = λ k low high. ⊎_elim (λ (same : k ≡ i + 1). ap past same ∙ sym now)
          (λ (other : k ≡ i + 1 → ⊥). h.since k low (omega (arith, high, other))) (cases_eq k (i + 1));
    }

pub all_since_next : (past : ℕ → Places) (i : ℕ) (h : History) → AreSince past i h → shown h ≡ past (i + 1) → AreSince past (i + 1) h
all_since_next past i h all now = record {
  host = since_next (λ k. (past k).host) i h.events.items h.host all.host (ap (λ p. p.host) now);
  devices = λ d s is. since_next (λ k. (past k).devices d) i h.events.items s (all.devices d s is)
      (ap is_current_in (sym is) ∙ ap (λ p. p.devices d) now);
}
