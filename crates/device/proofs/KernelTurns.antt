-- The turns of a kernel that may run in any order.
use Rattle.std.proofs.Common.{◌≡◌, ℕ, ◌∙◌, true, false, List, Option, Some, None, refl, sym, subst}
use Rattle.std.specs.Prelude.{IsSome, slice_get}
use Rattle.std.proofs.lemmas.Bool.{and_from, false≢true, false_from_ne_true}
use Rattle.base.specs.declared.fault.RefusalCode.TheVariants.{TurnsMeet}
use Rattle.base.specs.declared.tree.Region.{Region}
use Rattle.base.specs.Accepted.{IsAccepted, Refused, cause, current_before, is_target}
use Rattle.base.specs.Items.{Plan, Work}
use Rattle.base.specs.Turns.{Independent, turns_at, turns_in_work, turns_meet}
use Rattle.lower.specs.Image.{IsRegionOf}
use Rattle.two_memories.proofs.AdjustedCounts.{on_stage_at, stage_at, the_stage}

module _ (plan : Plan) (accepted : IsAccepted plan) (i : ℕ) (w : Work) (at : slice_get plan.items i ≡ Some w)
    (target : is_target w.kind ≡ true) where
  -- those of a target of an accepted program are independent
  work_turns : Independent (turns_in_work w)
  work_turns c =
      false_from_ne_true (turns_meet (turns_in_work w) c)
      (λ h. accepted.sound (Refused (record { code = TurnsMeet; item = i; cell = c; other = None }))
      (on_stage_at plan i (the_stage plan i w) (stage_at plan i w at) false
      (λ s. cause TurnsMeet s (current_before plan i) c)
      ∙ and_from (is_target w.kind) (turns_meet (turns_in_work w) c) target h))

  -- so are those of its code, by the values of its loops
  pub code_turns : (code : Region) (loops : List ℕ) → IsSome w.region → IsRegionOf w.region code → loops ≡ w.loops →
      Independent (turns_at code.depth code.body.items loops)
  code_turns code loops some of same = go w.region refl
    where
      go : (o : Option Region) → w.region ≡ o → Independent (turns_at code.depth code.body.items loops)
      go None e = absurd (false≢true (subst IsSome e some))
      go (Some r) e =
          let is : code ≡ r = subst (λ o. IsRegionOf o code) e of in
          let turns : turns_in_work w ≡ turns_at r.depth r.body.items w.loops = rw (e, turns_in_work) refl in
          subst (λ (x : Region). Independent (turns_at x.depth x.body.items loops)) (sym is)
          (subst (λ ls. Independent (turns_at r.depth r.body.items ls)) (sym same) (subst Independent turns work_turns))
