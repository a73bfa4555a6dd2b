-- The first item that is refused by itself.
use Rattle.std.proofs.Common.{◌≡◌, ◌≢◌, ℕ, zero, suc, ◌<◌, ◌≤◌, ◌==◌, Bool, true, false, List, [], ◌∷◌, length, drop, Option, Some, None, refl, sym, ap, ◌∙◌, subst, arith, eqb-true}
use Rattle.std.specs.Prelude.{slice_get, nat_lt, unwrap_or, ◌&&◌, ◌||◌}
use Rattle.std.proofs.lemmas.Bool.{and_left, and_right, eqb-false, le-ltb, ltb-false, ltb-true, ne_eqb, or_from, both_ways}
use Rattle.std.proofs.lemmas.List.{drop_all}
use Rattle.base.specs.declared.item.Cell.{Cell}
use Rattle.base.specs.declared.fault.Refusal.{Refusal}
use Rattle.base.specs.declared.fault.RefusalCode.{RefusalCode}
use Rattle.base.specs.declared.fault.RefusalCode.TheVariants.{OverlapsInPart, ExitOfAbsent, UpdateOfAbsent, NotPresent, Unmapped, HostNotCurrent, DeviceNotCurrent, TurnsMeet, Conflict}
use Rattle.base.specs.Items.{Plan, Work}
use Rattle.base.specs.Map.{Block}
use Rattle.base.specs.Actions.{Stage, stages, stages_from}
use Rattle.base.specs.Current.{AllCurrent}
use Rattle.base.specs.Accepted.{IsFault, IsRefusal, Refused, cause, current_before, fault_key, key_less, on_stage, refusal_rank}
use Rattle.mapwalk.specs.declared.rows.Acts.{Acts}
use Rattle.mapwalk.specs.declared.causes.Cause.{Cause}
use Rattle.mapwalk.specs.Causes.{IsFirstOf, refusal_of}
use Rattle.mapwalk.specs.Steps.{stage_of}
use Rattle.mapwalk.specs.Walk.{HasNoRangeFault, IsFirstAlone}
use Rattle.mapwalk.proofs.Agreeing.{all_cause_agree}
use Rattle.mapwalk.proofs.Walking.{Reached, no_fault_at, on_stage_is, stage_at}

nowhere_true : (o : Option Stage) → (elim o as (λ z. Bool) [ None ↦ false | Some s ↦ false ]) ≡ true → ⊥
nowhere_true None e = cc
nowhere_true (Some s) e = cc

refusal_from : (plan : Plan) (code : RefusalCode) (j : ℕ) (c : Cell) →
    on_stage plan j false (λ s. cause code s (current_before plan j) c) ≡ true → IsRefusal plan code j c None
refusal_from plan OverlapsInPart j c h = h
refusal_from plan ExitOfAbsent j c h = h
refusal_from plan UpdateOfAbsent j c h = h
refusal_from plan NotPresent j c h = h
refusal_from plan Unmapped j c h = h
refusal_from plan HostNotCurrent j c h = h
refusal_from plan DeviceNotCurrent j c h = h
refusal_from plan TurnsMeet j c h = h
refusal_from plan Conflict j c h = nowhere_true (slice_get (stages plan) j) h

refusal_to : (plan : Plan) (code : RefusalCode) (j : ℕ) (c : Cell) → IsRefusal plan code j c None →
    on_stage plan j false (λ s. cause code s (current_before plan j) c) ≡ true
refusal_to plan OverlapsInPart j c h = h
refusal_to plan ExitOfAbsent j c h = h
refusal_to plan UpdateOfAbsent j c h = h
refusal_to plan NotPresent j c h = h
refusal_to plan Unmapped j c h = h
refusal_to plan HostNotCurrent j c h = h
refusal_to plan DeviceNotCurrent j c h = h
refusal_to plan TurnsMeet j c h = h
refusal_to plan Conflict j c h = absurd h

-- a refusal of an item by itself is a cause of its stage
caused : (plan : Plan) (g : Refusal) → g.other ≡ None → IsFault plan (Refused g) →
    on_stage plan g.item false (λ s. cause g.code s (current_before plan g.item) g.cell) ≡ true
caused plan g e h = refusal_to plan g.code g.item g.cell (subst (IsRefusal plan g.code g.item g.cell) e h)

no_conflict : (code : RefusalCode) (s : Stage) (k : AllCurrent) (c : Cell) → cause code s k c ≡ true → code ≢ Conflict
no_conflict OverlapsInPart s k c h e = cc
no_conflict ExitOfAbsent s k c h e = cc
no_conflict UpdateOfAbsent s k c h e = cc
no_conflict NotPresent s k c h e = cc
no_conflict Unmapped s k c h e = cc
no_conflict HostNotCurrent s k c h e = cc
no_conflict DeviceNotCurrent s k c h e = cc
no_conflict TurnsMeet s k c h e = cc
no_conflict Conflict s k c h e = cc

-- keys of the third pass
abbrev key : ℕ → ℕ → ℕ → ℕ → ℕ → List ℕ
key i r a n o = 3 ∷ i ∷ r ∷ a ∷ n ∷ o ∷ []

later_head : (a b : ℕ) (t : Bool) → b < a → (nat_lt a b || ((a == b) && t)) ≡ false
later_head a b t h = or_from _ _ (le-ltb a b (omega arith)) (and_left _ t (ne_eqb a b (λ e. omega arith)))

same_head : (a b : ℕ) (t : Bool) → a ≡ b → t ≡ false → (nat_lt a b || ((a == b) && t)) ≡ false
same_head a b t e f = or_from _ _ (le-ltb a b (omega arith)) (and_right _ t f)

nothing_last : (b c t : Bool) → t ≡ false → (b || (c && t)) ≡ b
nothing_last true c t e = refl
nothing_last false true t e = e
nothing_last false false t e = refl

none_lower : (a : ℕ) → (nat_lt a 0 || ((a == 0) && false)) ≡ false
none_lower a = or_from _ _ (le-ltb a 0 (omega arith)) (and_right (a == 0) false refl)

later_item : (gi gr ga gn go i r a n : ℕ) → i < gi → key_less (key gi gr ga gn go) (key i r a n 0) ≡ false
later_item gi gr ga gn go i r a n h = later_head gi i _ h

same_item : (gi gr ga gn go i r a n : ℕ) → gi ≡ i →
    (nat_lt gr r || ((gr == r) && (nat_lt ga a || ((ga == a) && nat_lt gn n)))) ≡ false →
    key_less (key gi gr ga gn go) (key i r a n 0) ≡ false
same_item gi gr ga gn go i r a n e h =
    same_head gi i _ e
    (ap (λ t. nat_lt gr r || ((gr == r) && (nat_lt ga a || ((ga == a) && t))))
    (nothing_last (nat_lt gn n) (gn == n) _ (none_lower go)) ∙ h)

above : (a b : ℕ) → nat_lt a b ≡ false → (a == b) ≡ false → b < a
above a b e f =
    let le : b ≤ a = ltb-false a b e in
    let ne : a ≢ b = eqb-false a b f in
    omega arith

pub first_alone : (plan : Plan) (i : ℕ) (tables : ℕ → List Block) (k : AllCurrent) (rows : List (List Acts)) (w : Work) (x : Cause) →
    HasNoRangeFault plan → slice_get plan.items i ≡ Some w → Reached plan i tables k rows →
    IsFirstOf (λ code. cause code (stage_of w (tables w.device)) k) (Some x) → IsFirstAlone plan (refusal_of x i)
first_alone plan i tables k rows w x none e r h =
    record {
      holds = refusal_from plan x.code i x.cell (here x.code x.cell ∙ h.0);
      alone = refl;
      no_conflict = no_conflict x.code (stage_of w (tables w.device)) k x.cell h.0;
      first = λ g o f. go g (caused plan g o f) (nat_lt g.item i) refl (g.item == i) refl;
    }
  where
    here : (code : RefusalCode) (c : Cell) → on_stage plan i false (λ s. cause code s (current_before plan i) c)
        ≡ cause code (stage_of w (tables w.device)) k c
    here code c =
        on_stage_is plan i (stage_of w (tables w.device)) (λ s. cause code s (current_before plan i) c)
        (stage_at plan i tables k rows w r e)
        ∙ sym (all_cause_agree plan.lengths w (tables w.device) k (current_before plan i) (no_fault_at plan i w none e) r.agree code c)

    go : (g : Refusal) → on_stage plan g.item false (λ s. cause g.code s (current_before plan g.item) g.cell) ≡ true →
        (a : Bool) → nat_lt g.item i ≡ a → (b : Bool) → (g.item == i) ≡ b →
        key_less (fault_key (Refused g)) (fault_key (Refused (refusal_of x i))) ≡ false
    go g t true p b q = absurd (both_ways _ (r.clean g.item (ltb-true g.item i p) g.code g.cell) t)
    go g t false p true q =
        let same : g.item ≡ i = eqb-true g.item i q in
        same_item g.item (refusal_rank g.code) g.cell.array.0 g.cell.index (unwrap_or g.other 0) i (refusal_rank x.code)
        x.cell.array.0 x.cell.index same
        (h.1 g.code g.cell
        (sym (here g.code g.cell)
        ∙ ap (λ j. on_stage plan j false (λ s. cause g.code s (current_before plan j) g.cell)) (sym same) ∙ t))
    go g t false p false q =
        later_item g.item (refusal_rank g.code) g.cell.array.0 g.cell.index (unwrap_or g.other 0) i (refusal_rank x.code)
        x.cell.array.0 x.cell.index (above g.item i p q)

past : {X : Type 0} (xs : List X) (i j : ℕ) → drop i xs ≡ [] → i ≤ j → slice_get xs j ≡ None
past [] i j e h = refl
past (x ∷ xs) zero j e h = absurd cc
past (x ∷ xs) (suc i) zero e h = absurd (omega arith)
past (x ∷ xs) (suc i) (suc j) e h = past xs i j e (omega arith)

-- after the last item nothing is left
pub stages_end : (plan : Plan) (i : ℕ) (tables : ℕ → List Block) (k : AllCurrent) (rows : List (List Acts)) → length plan.items ≤ i →
    Reached plan i tables k rows → drop i (stages plan) ≡ []
stages_end plan i tables k rows h r = r.stages_left ∙ ap (λ ws. stages_from ws tables) (drop_all i plan.items h)

pub none_refused : (plan : Plan) (i : ℕ) (tables : ℕ → List Block) (k : AllCurrent) (rows : List (List Acts)) → length plan.items ≤ i →
    Reached plan i tables k rows → (g : Refusal) → g.other ≡ None → IsFault plan (Refused g) → ⊥
none_refused plan i tables k rows h r g o f = go (nat_lt g.item i) refl
  where
    t : on_stage plan g.item false (λ s. cause g.code s (current_before plan g.item) g.cell) ≡ true
    t = caused plan g o f

    go : (a : Bool) → nat_lt g.item i ≡ a → ⊥
    go true p = absurd (both_ways _ (r.clean g.item (ltb-true g.item i p) g.code g.cell) t)
    go false p =
        absurd (both_ways _
        (ap (λ (s : Option Stage). elim s as (λ z. Bool) [ None ↦ false | Some v ↦ cause g.code v (current_before plan g.item) g.cell ])
        (past (stages plan) i g.item (stages_end plan i tables k rows h r) (ltb-false g.item i p))) t)
