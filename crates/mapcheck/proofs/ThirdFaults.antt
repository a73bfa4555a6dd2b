-- The first fault of the third pass.
use Rattle.std.proofs.Common.{◌≡◌, ◌≢◌, ℕ, ◌<◌, ◌≤◌, Bool, true, false, List, [], ◌⊎◌, inl, inr, length, take, map, Option, Some, None, refl, sym, ap, ◌∙◌, arith, ⊎_elim, true≢false, length-take-le}
use Rattle.std.specs.Prelude.{slice_get, Vec}
use Rattle.std.specs.declared.alloc.Global.{Global}
use Rattle.std.proofs.lemmas.Bool.{cases_eq, cases_lt}
use Rattle.std.proofs.lemmas.Bool.Decides.{nat_tests}
use Rattle.std.proofs.lemmas.List.{length-map}
use Rattle.std.proofs.lemmas.Option.{slice_get_within}
use Rattle.base.specs.declared.item.Cell.{Cell}
use Rattle.base.specs.declared.tree.ArrayId.{ArrayId}
use Rattle.base.specs.declared.fault.Refusal.{Refusal}
use Rattle.base.specs.declared.fault.RefusalCode.{RefusalCode}
use Rattle.base.specs.declared.fault.RefusalCode.TheVariants.{OverlapsInPart, ExitOfAbsent, UpdateOfAbsent, NotPresent, Unmapped, HostNotCurrent, DeviceNotCurrent, TurnsMeet, Conflict}
use Rattle.base.specs.Items.{Plan}
use Rattle.base.specs.Actions.{Stage, stages}
use Rattle.base.specs.Accepted.{Conflicts, Fault, IsFault, IsFirstFault, IsRefusal, Order, Range, Refused, fault_key, key_less, refusal_rank}
use Rattle.order.specs.Built.{HasNoClash}
use Rattle.mapwalk.specs.declared.rows.Acts.{Acts}
use Rattle.mapwalk.specs.Acts.{acts_rows}
use Rattle.mapwalk.specs.Walk.{HasNoRangeFault, IsFirstAlone, IsFirstRefusal, IsSound, items_before, row_items}
use Rattle.mapwalk.specs.Walk.{AreMarked as AreMarkedOf}
use Rattle.mapcheck.proofs.Pairs.{asked, stages_long}
use Rattle.mapcheck.specs.Third.{AreMarked, IsJudged, IsPassed, NoneAlone}
use Rattle.mapcheck.specs.Unordered.{IsConflictIn, IsFirstIn, NoConflictBelow}
use Rattle.mapcheck.proofs.Accepting.{faultless}
use Rattle.mapcheck.proofs.FirstFaults.{nothing_in}
use Rattle.mapcheck.proofs.Stages.{rows_long}

earlier_key : (g r : Refusal) → g.item < r.item → key_less (fault_key (Refused g)) (fault_key (Refused r)) ≡ true
earlier_key g r lt = grind (arith, nat_tests)

later_key : (g r : Refusal) → r.item < g.item → key_less (fault_key (Refused g)) (fault_key (Refused r)) ≡ false
later_key g r lt = grind (arith, nat_tests)

higher_key : (g r : Refusal) → g.item ≡ r.item → refusal_rank r.code < refusal_rank g.code →
    key_less (fault_key (Refused g)) (fault_key (Refused r)) ≡ false
higher_key g r same lt = grind (arith, nat_tests)

low_rank : (code : RefusalCode) → code ≢ Conflict → refusal_rank code < 9
low_rank OverlapsInPart h = omega arith
low_rank ExitOfAbsent h = omega arith
low_rank UpdateOfAbsent h = omega arith
low_rank NotPresent h = omega arith
low_rank Unmapped h = omega arith
low_rank HostNotCurrent h = omega arith
low_rank DeviceNotCurrent h = omega arith
low_rank TurnsMeet h = omega arith
low_rank Conflict h = absurd (h refl)

-- a refusal is of an item by itself, or for a conflict
split : (plan : Plan) (g : Refusal) → IsFault plan (Refused g) → (g.other ≡ None) ⊎ (g.code ≡ Conflict)
split plan g h = go g.code g.other h
  where
    go : (code : RefusalCode) (other : Option ℕ) → IsRefusal plan code g.item g.cell other →
        (other ≡ None) ⊎ (code ≡ Conflict)
    go OverlapsInPart None h = inl refl
    go ExitOfAbsent None h = inl refl
    go UpdateOfAbsent None h = inl refl
    go NotPresent None h = inl refl
    go Unmapped None h = inl refl
    go HostNotCurrent None h = inl refl
    go DeviceNotCurrent None h = inl refl
    go TurnsMeet None h = inl refl
    go Conflict None h = inl refl
    go OverlapsInPart (Some i) h = absurd h
    go ExitOfAbsent (Some i) h = absurd h
    go UpdateOfAbsent (Some i) h = absurd h
    go NotPresent (Some i) h = absurd h
    go Unmapped (Some i) h = absurd h
    go HostNotCurrent (Some i) h = absurd h
    go DeviceNotCurrent (Some i) h = absurd h
    go TurnsMeet (Some i) h = absurd h
    go Conflict (Some i) h = inr refl

no_false : {P : Type 0} → false ≡ true → P
no_false e = absurd cc

-- an item that conflicts is there
conflict_inside : (plan : Plan) (i j : ℕ) (c : Cell) → Conflicts plan i j c → j < length plan.items
conflict_inside plan i j c h =
    go (slice_get (stages plan) i) (slice_get (stages plan) j) refl h
  where
    go : (o p : Option Stage) → slice_get (stages plan) j ≡ p → asked o p c ≡ true → j < length plan.items
    go None p e k = no_false k
    go (Some s) None e k = no_false k
    go (Some s) (Some t) e k =
        let lt : j < length (stages plan) = slice_get_within (stages plan) j t e in
        let long : length (stages plan) ≡ length plan.items = stages_long plan.items (λ d. []) in omega arith

refused_inside : (plan : Plan) (g : Refusal) → g.code ≡ Conflict → IsFault plan (Refused g) → g.item < length plan.items
refused_inside plan g e h = go g.code g.other e h
  where
    go : (code : RefusalCode) (other : Option ℕ) → code ≡ Conflict → IsRefusal plan code g.item g.cell other →
        g.item < length plan.items
    go Conflict (Some i) e h = conflict_inside plan i g.item g.cell h.1
    go Conflict None e h = absurd h
    go OverlapsInPart o e h = absurd cc
    go ExitOfAbsent o e h = absurd cc
    go UpdateOfAbsent o e h = absurd cc
    go NotPresent o e h = absurd cc
    go Unmapped o e h = absurd cc
    go HostNotCurrent o e h = absurd cc
    go DeviceNotCurrent o e h = absurd cc
    go TurnsMeet o e h = absurd cc

-- the items before the walk's refusal are not refused by themselves
pub none_alone : (plan : Plan) (o : Option Refusal) → IsFirstRefusal plan o → IsSound plan o → NoneAlone plan (items_before plan o)
none_alone plan None first sound g lt alone fault = sound g alone fault
none_alone plan (Some r) first sound g lt alone fault =
    true≢false (sym (earlier_key g r lt) ∙ first.first g alone fault)

-- how many rows there are
pub rows_count : (plan : Plan) (n : ℕ) (rows : List (Vec Acts Global)) → map row_items rows ≡ take n (acts_rows plan.items (λ d. [])) →
    n ≤ length plan.items → length rows ≡ n
rows_count plan n rows e h =
    sym (length-map rows row_items) ∙ ap (λ xs. length xs) e
    ∙ length-take-le n (acts_rows plan.items (λ d. [])) (let long = rows_long plan.items (λ d. []) in omega (arith, long, h))

stage_inside : (plan : Plan) (j : ℕ) (f : Stage → Bool) →
    elim (slice_get (stages plan) j) as (λ z. Bool) [ None ↦ false | Some s ↦ f s ] ≡ true → j < length plan.items
stage_inside plan j f h = go (slice_get (stages plan) j) refl h
  where
    go : (o : Option Stage) → slice_get (stages plan) j ≡ o → elim o as (λ z. Bool) [ None ↦ false | Some s ↦ f s ] ≡ true →
        j < length plan.items
    go None e k = no_false k
    go (Some s) e k =
        let lt : j < length (stages plan) = slice_get_within (stages plan) j s e in
        let long : length (stages plan) ≡ length plan.items = stages_long plan.items (λ d. []) in omega arith

alone_inside : (plan : Plan) (r : Refusal) → r.other ≡ None → IsFault plan (Refused r) → r.item < length plan.items
alone_inside plan r e h = go r.code r.other e h
  where
    go : (code : RefusalCode) (other : Option ℕ) → other ≡ None → IsRefusal plan code r.item r.cell other →
        r.item < length plan.items
    go code (Some i) e h = absurd cc
    go OverlapsInPart None e h = stage_inside plan r.item _ h
    go ExitOfAbsent None e h = stage_inside plan r.item _ h
    go UpdateOfAbsent None e h = stage_inside plan r.item _ h
    go NotPresent None e h = stage_inside plan r.item _ h
    go Unmapped None e h = stage_inside plan r.item _ h
    go HostNotCurrent None e h = stage_inside plan r.item _ h
    go DeviceNotCurrent None e h = stage_inside plan r.item _ h
    go TurnsMeet None e h = stage_inside plan r.item _ h
    go Conflict None e h = absurd h

pub before_inside : (plan : Plan) (o : Option Refusal) → IsFirstRefusal plan o → items_before plan o ≤ length plan.items
before_inside plan None h = omega arith
before_inside plan (Some r) h = let lt : r.item < length plan.items = alone_inside plan r h.alone h.holds in omega arith

-- the first of all faults, where the first two passes find none
module _ (plan : Plan) (fine : HasNoRangeFault plan) (clashes : HasNoClash plan) where
  first_of : (r : Refusal) → IsFault plan (Refused r) →
      ((g : Refusal) → IsFault plan (Refused g) → key_less (fault_key (Refused g)) (fault_key (Refused r)) ≡ false) →
      IsFirstFault plan (Refused r)
  first_of r holds least = record { holds = holds; first = λ g fault. against g fault }
    where
      against : (g : Fault) → IsFault plan g → key_less (fault_key g) (fault_key (Refused r)) ≡ false
      against (Range i f) fault = absurd (nothing_in _ f (fine i) fault)
      against (Order f) fault = absurd (clashes f fault)
      against (Refused g) fault = least g fault

  pub conflict_first : (n : ℕ) (r : Refusal) → NoneAlone plan n → IsFirstIn plan n r → IsFirstFault plan (Refused r)
  conflict_first n r alone h = first_of r h.first.holds (λ g fault. ⊎_elim
      (λ (by_itself : g.other ≡ None). ⊎_elim
      (λ (lt : g.item < n). absurd (alone g lt by_itself fault))
      (λ (le : n ≤ g.item). later_key g r (let inside = h.inside in omega (arith, inside, le))) (cases_lt g.item n))
      (λ (code : g.code ≡ Conflict). ⊎_elim
      (λ (lt : g.item < r.item). absurd (h.below g.item lt g code refl fault))
      (λ (le : r.item ≤ g.item). ⊎_elim
      (λ (same : g.item ≡ r.item). h.first.first g code same fault)
      (λ (other : g.item ≡ r.item → ⊥). later_key g r (omega (arith, le, other))) (cases_eq g.item r.item))
      (cases_lt g.item r.item))
      (split plan g fault))

  pub alone_first : (n : ℕ) (r : Refusal) → n ≡ r.item → IsFirstAlone plan r → NoConflictBelow plan n → IsFirstFault plan (Refused r)
  alone_first n r e h below = first_of r h.holds (λ g fault. ⊎_elim
      (λ (by_itself : g.other ≡ None). h.first g by_itself fault)
      (λ (code : g.code ≡ Conflict). ⊎_elim
      (λ (lt : g.item < n). absurd (below g.item lt g code refl fault))
      (λ (le : n ≤ g.item). ⊎_elim
      (λ (same : g.item ≡ r.item).
      let high : refusal_rank g.code ≡ 9 = ap refusal_rank code in
      let low : refusal_rank r.code < 9 = low_rank r.code h.no_conflict in
      higher_key g r same (omega (arith, high, low)))
      (λ (other : g.item ≡ r.item → ⊥). later_key g r (omega (arith, le, other, e))) (cases_eq g.item r.item))
      (cases_lt g.item n))
      (split plan g fault))

  pub passed : (n : ℕ) (arrays : List ArrayId) → n ≡ length plan.items → IsSound plan None → NoConflictBelow plan n →
      AreMarked plan arrays → IsPassed plan arrays
  passed n arrays e sound below marked = record { accepted = faultless plan none; marked = marked }
    where
      none : (f : Fault) → IsFault plan f → ⊥
      none (Range i f) fault = nothing_in _ f (fine i) fault
      none (Order f) fault = clashes f fault
      none (Refused g) fault = ⊎_elim
          (λ (by_itself : g.other ≡ None). sound g by_itself fault)
          (λ (code : g.code ≡ Conflict).
          below g.item (let lt = refused_inside plan g code fault in omega (arith, lt, e)) g code refl fault)
          (split plan g fault)

  -- where the first items have no conflict, the walk's refusal is the first fault
  pub judged : (n : ℕ) (o : Option Refusal) (arrays : List ArrayId) → n ≡ items_before plan o → IsFirstRefusal plan o →
      IsSound plan o → IsConflictIn plan n None → AreMarkedOf plan o arrays → IsJudged plan arrays o
  judged n None arrays count first sound below marked = passed n arrays count sound below marked
  judged n (Some r) arrays count first sound below marked = alone_first n r count first below
