-- The refusal that passes the test is the first fault.
use Rattle.std.proofs.Common.{◌≡◌, ℕ, zero, suc, ◌<◌, Bool, true, false, List, [], ◌∷◌, length, Option, Some, None, refl, sym, ap, ap₂, ◌∙◌, arith, ⊎_elim, IsTrue, ltb-true, lt-ltb}
use Rattle.std.specs.Prelude.{not, ◌&&◌, ◌||◌, nat_lt, slice_get}
use Rattle.std.specs.List.{list_any, list_all, range_with_len}
use Rattle.std.proofs.lemmas.Bool.{false≢true, and_parts, and_from, or_cases, or_left, or_right}
use Rattle.std.proofs.lemmas.Option.{slice_get_within}
use Rattle.base.specs.declared.item.Cell.{Cell}
use Rattle.base.specs.declared.fault.Refusal.{Refusal}
use Rattle.base.specs.declared.fault.RefusalCode.{RefusalCode}
use Rattle.base.specs.declared.fault.RefusalCode.TheVariants.{OverlapsInPart, ExitOfAbsent, UpdateOfAbsent, NotPresent, Unmapped, HostNotCurrent, DeviceNotCurrent, TurnsMeet, Conflict}
use Rattle.base.specs.Items.{Work, Plan}
use Rattle.base.specs.Machine.{on_item, precedes, is_predecessor, is_empty}
use Rattle.base.specs.Actions.{Stage, stages, conflict, touches_in}
use Rattle.base.specs.Order.{Before, in_line, after_predecessor, through}
use Rattle.base.specs.Accepted.{cause, current_before, on_stage, Conflicts, Fault, Range, Order, Refused, IsFault, IsRefusal, fault_key, key_less, range_faults}
use Rattle.examples_tests.specs.Decide.{every_cell, every_pair, action_stays, section_stays, touches_stay, stage_stays, linked, chained, pair_clear}
use Rattle.examples_tests.specs.FirstFault.{every_code, refusal, not_sooner, stage_later, alone_later, stages_later, pair_later, is_closed_under, refusal_holds, is_conflict, names_other, same_test, FirstFaultByTest}
use Rattle.examples_tests.proofs.Cells.{not_true, at_pair, at_cell}
use Rattle.examples_tests.proofs.Named.{any_gives, conflict_cell, cause_cell}
use Rattle.examples_tests.proofs.Accepts.{range_off, depends_off, chained_before}
use Rattle.two_memories.proofs.RangeTests.{range_at}

all_at : {X : Type 0} (p : X → Bool) (xs : List X) → list_all p xs ≡ true → (j : ℕ) (x : X) → slice_get xs j ≡ Some x →
    p x ≡ true
all_at p [] h j x e = absurd (cc e)
all_at p (y ∷ xs) h zero x e = let same : y ≡ x = cc in sym (ap p same) ∙ (and_parts (p y) (list_all p xs) h).0
all_at p (y ∷ xs) h (suc j) x e = all_at p xs (and_parts (p y) (list_all p xs) h).1 j x e

-- what holds of every code
codes : (p : RefusalCode → Bool) → every_code p ≡ true →
    (p OverlapsInPart ≡ true) × (p ExitOfAbsent ≡ true) × (p UpdateOfAbsent ≡ true) × (p NotPresent ≡ true) ×
    (p Unmapped ≡ true) × (p HostNotCurrent ≡ true) × (p DeviceNotCurrent ≡ true) × (p TurnsMeet ≡ true)
codes p h =
    let a = and_parts (p OverlapsInPart)
    (p ExitOfAbsent &&
    (p UpdateOfAbsent && (p NotPresent && (p Unmapped && (p HostNotCurrent && (p DeviceNotCurrent && p TurnsMeet)))))) h
    in
    let b = and_parts (p ExitOfAbsent)
    (p UpdateOfAbsent && (p NotPresent && (p Unmapped && (p HostNotCurrent && (p DeviceNotCurrent && p TurnsMeet))))) a.1
    in
    let d = and_parts (p UpdateOfAbsent)
    (p NotPresent && (p Unmapped && (p HostNotCurrent && (p DeviceNotCurrent && p TurnsMeet)))) b.1 in
    let g = and_parts (p NotPresent) (p Unmapped && (p HostNotCurrent && (p DeviceNotCurrent && p TurnsMeet))) d.1 in
    let e = and_parts (p Unmapped) (p HostNotCurrent && (p DeviceNotCurrent && p TurnsMeet)) g.1 in
    let f = and_parts (p HostNotCurrent) (p DeviceNotCurrent && p TurnsMeet) e.1 in
    let t = and_parts (p DeviceNotCurrent) (p TurnsMeet) f.1 in
    (a.0, b.0, d.0, g.0, e.0, f.0, t.0, t.1)

-- where one holds, the other does not
then_later : (a b : Bool) → (not a || not b) ≡ true → a ≡ true → b ≡ false
then_later a true h e = absurd (⊎_elim (λ k. not_true a k e) (λ k. false≢true k) (or_cases (not a) false h))
then_later a false h e = refl

module _ (n : ℕ) (plan : Plan) (key : List ℕ) (stay : list_all (stage_stays plan.lengths) (stages plan) ≡ true) where
  sooner : Refusal → Bool
  sooner r = key_less (fault_key (Refused r)) key

  module _ (alone : alone_later plan key ≡ true) where
    alone_off : (code : RefusalCode) → ((p : RefusalCode → Bool) → every_code p ≡ true → p code ≡ true) →
        (j : ℕ) (c : Cell) →
        IsTrue (on_stage plan j false (λ s. cause code s (current_before plan j) c)) →
        key_less (fault_key (Refused (refusal code j c None))) key ≡ false
    alone_off code pick j c e = go (slice_get (stages plan) j) refl e
      where
        test : Option Stage → Bool
        test o = elim o [ None ↦ true | Some s ↦ stage_later plan key j s ]

        go : (o : Option Stage) → slice_get (stages plan) j ≡ o →
            elim o [ None ↦ false | Some s ↦ cause code s (current_before plan j) c ] ≡ true →
            key_less (fault_key (Refused (refusal code j c None))) key ≡ false
        go None f e = absurd (false≢true e)
        go (Some s) f e =
            let within : j < length (stages plan) = slice_get_within (stages plan) j s f in
            let at_j : on_stage plan j true (stage_later plan key j) ≡ true = range_at
            (λ j. on_stage plan j true (stage_later plan key j)) 0 (length (stages plan)) j alone (omega arith)
            (omega arith) in
            let here : stage_later plan key j s ≡ true = sym (ap test f) ∙ at_j in
            let at_code = pick (λ code. every_cell plan.lengths
            (λ c. not (cause code s (current_before plan j) c) || not_sooner key (refusal code j c None))) here in
            let is_cell = cause_cell plan.lengths c code s (current_before plan j) e
            (all_at (stage_stays plan.lengths) (stages plan) stay j s f) in
            then_later (cause code s (current_before plan j) c)
            (key_less (fault_key (Refused (refusal code j c None))) key)
            (at_cell plan.lengths (λ c. not (cause code s (current_before plan j) c) || not_sooner key
            (refusal code j c None)) at_code c is_cell) e

  module _ (pairs : every_pair (length (stages plan)) (pair_later n plan key) ≡ true) where
    conflict_off : (i j : ℕ) (c : Cell) → i < j → Conflicts plan i j c → (Before plan i j → ⊥) →
        key_less (fault_key (Refused (refusal Conflict j c (Some i)))) key ≡ false
    conflict_off i j c lt e none = go (slice_get (stages plan) i) (slice_get (stages plan) j) refl refl e
      where
        test : Option Stage → Option Stage → Bool
        test o p = elim o [ None ↦ true | Some s ↦ elim p [ None ↦ true | Some t ↦ stages_later plan key i j s t ] ]

        actions : (s : Stage) → slice_get (stages plan) i ≡ Some s →
            list_all (action_stays plan.lengths) s.actions ≡ true
        actions s f =
            (and_parts (list_all (action_stays plan.lengths) s.actions)
            (list_all (λ m. section_stays plan.lengths m.item.section) s.met && touches_stay plan.lengths
            (touches_in s.work))
            (all_at (stage_stays plan.lengths) (stages plan) stay i s f)).0

        go : (o p : Option Stage) → slice_get (stages plan) i ≡ o → slice_get (stages plan) j ≡ p →
            elim o [ None ↦ false | Some s ↦ elim p [ None ↦ false | Some t ↦ conflict s t c ] ] ≡ true →
            key_less (fault_key (Refused (refusal Conflict j c (Some i)))) key ≡ false
        go None p f g k = absurd (false≢true k)
        go (Some s) None f g k = absurd (false≢true k)
        go (Some s) (Some t) f g k =
            let at_pair_ij = at_pair (length (stages plan)) (pair_later n plan key) pairs i j lt
            (slice_get_within (stages plan) j t g) in
            ⊎_elim (λ h. absurd (none (chained_before plan n i j h)))
            (λ h.
            let here : stages_later plan key i j s t ≡ true = sym (ap₂ test f g) ∙ h in
            then_later (conflict s t c) (key_less (fault_key (Refused (refusal Conflict j c (Some i)))) key)
            (at_cell plan.lengths (λ c. not (conflict s t c) || not_sooner key (refusal Conflict j c (Some i))) here c
            (conflict_cell plan.lengths c s t k (actions s f))) k)
            (or_cases (chained plan n i j) (on_stage plan i true
            (λ s. on_stage plan j true (stages_later plan key i j s))) at_pair_ij)

-- Before is what chains tell, where two in a row give one

linked_within : (plan : Plan) (i j : ℕ) → linked plan i j ≡ true → (i < j) × (j < length plan.items)
linked_within plan i j h =
    ⊎_elim
    (λ e.
    let p = and_parts (nat_lt i j) (nat_lt j (length plan.items) && on_item plan i false (λ w. not w.deferred)) e in
    let q = and_parts (nat_lt j (length plan.items)) (on_item plan i false (λ w. not w.deferred)) p.1 in
    (ltb-true i j p.0, ltb-true j (length plan.items) q.0))
    (λ e. let p = and_parts (nat_lt i j)
    (on_item plan i false (λ earlier. on_item plan j false (λ later. is_pred earlier later))) e in
    (ltb-true i j p.0, within p.1))
    (or_cases (nat_lt i j && (nat_lt j (length plan.items) && on_item plan i false (λ w. not w.deferred)))
    (precedes plan i j) h)
  where
    is_pred : Work → Work → Bool
    is_pred earlier later = is_predecessor earlier later

    within : on_item plan i false (λ earlier. on_item plan j false (λ later. is_pred earlier later)) ≡ true →
        j < length plan.items
    within e = go (slice_get plan.items i) (slice_get plan.items j) refl e
      where
        go : (o p : Option Work) → slice_get plan.items j ≡ p →
            elim o [ None ↦ false | Some earlier ↦ elim p [ None ↦ false | Some later ↦ is_pred earlier later ] ] ≡ true
            → j < length plan.items
        go None p g k = absurd (false≢true k)
        go (Some earlier) None g k = absurd (false≢true k)
        go (Some earlier) (Some later) g k = slice_get_within plan.items j later g

chained_within : (plan : Plan) (n i j : ℕ) → chained plan n i j ≡ true → (i < j) × (j < length plan.items)
chained_within plan zero i j h = linked_within plan i j h
chained_within plan (suc n) i j h =
    ⊎_elim (λ e. linked_within plan i j e)
    (λ e.
    any_gives (λ k. linked plan i k && chained plan n k j) ((i < j) × (j < length plan.items))
    (λ k f.
    let p = and_parts (linked plan i k) (chained plan n k j) f in
    let first = linked_within plan i k p.0 in
    let second = chained_within plan n k j p.1 in
    (omega (arith, first.0, second.0), second.1))
    (range_with_len 0 (length plan.items)) e)
    (or_cases (linked plan i j) (list_any (λ k. linked plan i k && chained plan n k j)
    (range_with_len 0 (length plan.items))) h)

linked_chained : (plan : Plan) (n i j : ℕ) → linked plan i j ≡ true → chained plan n i j ≡ true
linked_chained plan zero i j h = h
linked_chained plan (suc n) i j h = or_left (linked plan i j)
    (list_any (λ k. linked plan i k && chained plan n k j) (range_with_len 0 (length plan.items))) h

before_chained : (n : ℕ) (plan : Plan) → is_closed_under n plan ≡ true → (i j : ℕ) → Before plan i j →
    chained plan n i j ≡ true
before_chained n plan h _ _ (in_line i j lt within e) =
    linked_chained plan n i j (or_left
    (nat_lt i j && (nat_lt j (length plan.items) && on_item plan i false (λ w. not w.deferred))) (precedes plan i j)
    (and_from (nat_lt i j) (nat_lt j (length plan.items) && on_item plan i false (λ w. not w.deferred))
    (lt-ltb i j lt)
    (and_from (nat_lt j (length plan.items)) (on_item plan i false (λ w. not w.deferred))
    (lt-ltb j (length plan.items) within) e)))
before_chained n plan h _ _ (after_predecessor i j e) =
    linked_chained plan n i j (or_right
    (nat_lt i j && (nat_lt j (length plan.items) && on_item plan i false (λ w. not w.deferred)))
    (precedes plan i j) e)
before_chained n plan h _ _ (through i k j first second) =
    let a = before_chained n plan h i k first in
    let b = before_chained n plan h k j second in
    let p = chained_within plan n i k a in
    let q = chained_within plan n k j b in
    let lt : i < j = omega (arith, p.0, q.0) in
    let at_ij = at_pair (length plan.items)
    (λ i j. list_all (λ k. not (chained plan n i k && chained plan n k j) || chained plan n i j)
    (range_with_len 0 (length plan.items))) h i j lt q.1 in
    let at_k = range_at (λ k. not (chained plan n i k && chained plan n k j) || chained plan n i j) 0
    (length plan.items) k at_ij (omega arith) (omega arith) in
    ⊎_elim (λ e. absurd (not_true (chained plan n i k && chained plan n k j) e
    (and_from (chained plan n i k) (chained plan n k j) a b))) (λ e. e)
    (or_cases (not (chained plan n i k && chained plan n k j)) (chained plan n i j) at_k)

-- the refusal is one

holds_alone : (n : ℕ) (plan : Plan) (code : RefusalCode) (j : ℕ) (c : Cell) → is_conflict code ≡ false →
    IsTrue (on_stage plan j false (λ s. cause code s (current_before plan j) c)) → IsRefusal plan code j c None
holds_alone n plan OverlapsInPart j c f e = e
holds_alone n plan ExitOfAbsent j c f e = e
holds_alone n plan UpdateOfAbsent j c f e = e
holds_alone n plan NotPresent j c f e = e
holds_alone n plan Unmapped j c f e = e
holds_alone n plan HostNotCurrent j c f e = e
holds_alone n plan DeviceNotCurrent j c f e = e
holds_alone n plan TurnsMeet j c f e = e
holds_alone n plan Conflict j c f e = absurd (cc f)

holds_pair : (n : ℕ) (plan : Plan) (r : Refusal) (i : ℕ) → refusal_holds n plan r (Some i) ≡ true →
    (i < r.item) × Conflicts plan i r.item r.cell × (Before plan i r.item → ⊥)
holds_pair n plan r i h =
    let p = and_parts (nat_lt i r.item) (both && (not (chained plan n i r.item) && is_closed_under n plan)) h in
    let q = and_parts both (not (chained plan n i r.item) && is_closed_under n plan) p.1 in
    let t = and_parts (not (chained plan n i r.item)) (is_closed_under n plan) q.1 in
    (ltb-true i r.item p.0, q.0, λ b. not_true (chained plan n i r.item) t.0 (before_chained n plan t.1 i r.item b))
  where
    both : Bool
    both = on_stage plan i false (λ s. on_stage plan r.item false (λ t. conflict s t r.cell))

holds_either : (n : ℕ) (plan : Plan) (code : RefusalCode) (j : ℕ) (c : Cell) (other : Option ℕ) →
    same_test (is_conflict code) (names_other other) ≡ true →
    refusal_holds n plan (refusal code j c other) other ≡ true → IsRefusal plan code j c other
holds_either n plan code j c None f e = holds_alone n plan code j c (no_other (is_conflict code) f) e
  where
    no_other : (b : Bool) → same_test b false ≡ true → b ≡ false
    no_other true h = absurd (false≢true h)
    no_other false h = refl
holds_either n plan Conflict j c (Some i) f e = holds_pair n plan (refusal Conflict j c (Some i)) i e
holds_either n plan TurnsMeet j c (Some i) f e = absurd (false≢true f)
holds_either n plan OverlapsInPart j c (Some i) f e = absurd (false≢true f)
holds_either n plan ExitOfAbsent j c (Some i) f e = absurd (false≢true f)
holds_either n plan UpdateOfAbsent j c (Some i) f e = absurd (false≢true f)
holds_either n plan NotPresent j c (Some i) f e = absurd (false≢true f)
holds_either n plan Unmapped j c (Some i) f e = absurd (false≢true f)
holds_either n plan HostNotCurrent j c (Some i) f e = absurd (false≢true f)
holds_either n plan DeviceNotCurrent j c (Some i) f e = absurd (false≢true f)

-- no refusal comes before it
module _ (n : ℕ) (plan : Plan) (key : List ℕ) (stay : list_all (stage_stays plan.lengths) (stages plan) ≡ true)
    (alone : alone_later plan key ≡ true)
    (pairs : every_pair (length (stages plan)) (pair_later n plan key) ≡ true) where
  refused_later : (code : RefusalCode) (j : ℕ) (c : Cell) (other : Option ℕ) → IsRefusal plan code j c other →
      key_less (fault_key (Refused (refusal code j c other))) key ≡ false
  refused_later Conflict j c (Some i) e = conflict_off n plan key stay pairs i j c e.0 e.1 e.2
  refused_later Conflict j c None e = absurd e
  refused_later TurnsMeet j c (Some i) e = absurd e
  refused_later TurnsMeet j c None e = alone_off n plan key stay alone TurnsMeet (λ p h. (codes p h).7) j c e
  refused_later OverlapsInPart j c (Some i) e = absurd e
  refused_later ExitOfAbsent j c (Some i) e = absurd e
  refused_later UpdateOfAbsent j c (Some i) e = absurd e
  refused_later NotPresent j c (Some i) e = absurd e
  refused_later Unmapped j c (Some i) e = absurd e
  refused_later HostNotCurrent j c (Some i) e = absurd e
  refused_later DeviceNotCurrent j c (Some i) e = absurd e
  refused_later OverlapsInPart j c None e = alone_off n plan key stay alone OverlapsInPart (λ p h. (codes p h).0) j c e
  refused_later ExitOfAbsent j c None e = alone_off n plan key stay alone ExitOfAbsent (λ p h. (codes p h).1) j c e
  refused_later UpdateOfAbsent j c None e = alone_off n plan key stay alone UpdateOfAbsent (λ p h. (codes p h).2) j c e
  refused_later NotPresent j c None e = alone_off n plan key stay alone NotPresent (λ p h. (codes p h).3) j c e
  refused_later Unmapped j c None e = alone_off n plan key stay alone Unmapped (λ p h. (codes p h).4) j c e
  refused_later HostNotCurrent j c None e = alone_off n plan key stay alone HostNotCurrent (λ p h. (codes p h).5) j c e
  refused_later DeviceNotCurrent j c None e = alone_off n plan key stay alone DeviceNotCurrent
      (λ p h. (codes p h).6) j c e

-- the refusal that passes the test is the first fault
pub first_fault_by : FirstFaultByTest
first_fault_by n plan r h =
    let t = and_parts ranges (clear && (stay && (alone && (pairs && (kind && holds))))) h in
    let u = and_parts clear (stay && (alone && (pairs && (kind && holds)))) t.1 in
    let v = and_parts stay (alone && (pairs && (kind && holds))) u.1 in
    let w = and_parts alone (pairs && (kind && holds)) v.1 in
    let x = and_parts pairs (kind && holds) w.1 in
    let y = and_parts kind holds x.1 in
    record { holds = holds_either n plan r.code r.item r.cell r.other y.0 y.1; first = first t.0 u.0 v.0 w.0 x.0 }
  where
    ranges : Bool
    ranges = list_all (λ w. is_empty (range_faults plan.lengths w)) plan.items

    clear : Bool
    clear = every_pair (length plan.items) (pair_clear plan)

    stay : Bool
    stay = list_all (stage_stays plan.lengths) (stages plan)

    alone : Bool
    alone = alone_later plan (fault_key (Refused r))

    pairs : Bool
    pairs = every_pair (length (stages plan)) (pair_later n plan (fault_key (Refused r)))

    kind : Bool
    kind = same_test (is_conflict r.code) (names_other r.other)

    holds : Bool
    holds = refusal_holds n plan r r.other

    first : ranges ≡ true → clear ≡ true → stay ≡ true → alone ≡ true → pairs ≡ true → (g : Fault) → IsFault plan g →
        key_less (fault_key g) (fault_key (Refused r)) ≡ false
    first a b d e f (Range i g) h = absurd (range_off plan.lengths plan.items i g a h)
    first a b d e f (Order g) h = absurd (depends_off plan g.other g.item g.cell b h.0 h.1)
    first a b d e f (Refused g) h = refused_later n plan (fault_key (Refused r)) d e f g.code g.item g.cell g.other h
