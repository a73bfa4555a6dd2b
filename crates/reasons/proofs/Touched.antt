-- What an item does to a cell, by its accesses.
use Rattle.std.proofs.Common.{◌≡◌, ℕ, ◌∙◌, List, [], ◌∷◌, Some, refl, sym, subst, ap, suc, zero}
use Rattle.std.specs.Prelude.{Vec, slice_get}
use Rattle.std.specs.declared.alloc.Global.{Global}
use Rattle.base.specs.Actions.{Stage, acts_of, stages, stages_from}
use Rattle.base.specs.Items.{Plan, Work}
use Rattle.base.specs.Map.{Block}
use Rattle.base.specs.Memory.{changed}
use Rattle.mapwalk.specs.declared.rows.Acts.{Acts}
use Rattle.mapwalk.specs.Laws.{actions_of}
use Rattle.mapcheck.specs.Accesses.{AreAccesses}
use Rattle.mapcheck.specs.Unordered.{AreAccessesOf}
use Rattle.mapcheck.specs.declared.accesses.Accesses.{Accesses}
use Rattle.history.specs.Items.{AreSpelled}
use Rattle.std.proofs.lemmas.Option.{same_Some}

record StageAt (works : List Work) (blocks : ℕ → List Block) (i : ℕ) (w : Work) : Type 0 where
  stage : Stage
  there : slice_get (stages_from works blocks) i ≡ Some stage
  work : stage.work ≡ w

stage_at : (works : List Work) (blocks : ℕ → List Block) (i : ℕ) (w : Work) → slice_get works i ≡ Some w → StageAt works blocks i w
stage_at [] blocks i w e = absurd cc
stage_at (x ∷ works) blocks zero w e =
    let a = acts_of x (blocks x.device) in
    record { stage = record { work = x; actions = a.actions; met = a.met }; there = refl; work = same_Some x w e }
stage_at (x ∷ works) blocks (suc i) w e =
    let rest = stage_at works (changed x.device (acts_of x (blocks x.device)).blocks blocks) i w e in
    record { stage = rest.stage; there = rest.there; work = rest.work }

-- the accesses that a row spells out are those of the item
pub spelled_accesses : (plan : Plan) (rows : List (Vec Acts Global)) (n : ℕ) (w : Work) (row : Vec Acts Global) (a : Accesses) →
    AreSpelled plan rows → slice_get plan.items n ≡ Some w → slice_get rows n ≡ Some row →
    AreAccesses a w.device (actions_of w row.items) → AreAccessesOf (slice_get (stages plan) n) a
spelled_accesses plan rows n w row a spelled there here are =
    let at = stage_at plan.items (λ d. []) n w there in
    subst (λ o. AreAccessesOf o a) (sym at.there)
    (subst (λ (v : Work). AreAccesses a v.device at.stage.actions) (sym at.work) (subst (AreAccesses a w.device)
    (sym (spelled n at.stage row at.there here ∙ ap (λ v. actions_of v row.items) at.work)) are))
