-- The sets of a plain loop have few runs.
use Rattle.std.proofs.Common.{◌≡◌, ℕ, zero, suc, ◌+◌, ◌-◌, ◌^◌, ◌<◌, ◌≤◌, Bool, true, false, List, [], ◌∷◌, ◌++◌, length, map, sym, ◌∙◌, ap, ap₂, refl, subst, ⊎_elim, arith, eqb-true}
use Rattle.std.specs.Prelude.{not, ◌&&◌, ◌||◌, ◌==◌, nat_le, nat_lt}
use Rattle.std.specs.List.{list_any}
use Rattle.std.proofs.lemmas.Bool.{false≢true, cases_lt, or_cases, or_parts, ltb-true}
use Rattle.std.proofs.lemmas.Bool.Decides.{nat_tests}
use Rattle.std.proofs.lemmas.List.{append-nil}
use Rattle.std.proofs.lemmas.List.Folds.{list_any-append}
use Rattle.base.specs.declared.tree.Bounds.{Bounds}
use Rattle.base.specs.declared.tree.Region.{Region}
use Rattle.base.specs.declared.tree.Stmt.{Stmt}
use Rattle.base.specs.declared.tree.Stmt.TheVariants.{Declare, Assign, Store, Combine, Print, Block', Loop', If'}
use Rattle.base.specs.Footprint.{Touch, exposes, has_cell, reads, surely_writes, row_touches, stmt_touches, touches_of, turns_touch, writes}
use Rattle.base.specs.Meaning.{turns_left}
use Rattle.base.proofs.LoopTurns.{one_turn_less, no_turn_left}
use Rattle.bits.specs.declared.set.BitSet.{BitSet}
use Rattle.bits.specs.Sets.{all_words, has as has_number}
use Rattle.bits.proofs.Words.{within_room}
use Rattle.bits.proofs.Zeros.{length_all}
use Rattle.base.specs.declared.item.Cell.{Cell}
use Rattle.ranges.specs.declared.cells.Footprint.{Footprint}
use Rattle.ranges.specs.declared.run_list.Part.{Part}
use Rattle.ranges.specs.declared.run_list.Part.TheVariants.{Exposed, Read, Write, Sure}
use Rattle.ranges.specs.Cells.{has, row_of}
use Rattle.ranges.specs.declared.run_list.Run.{Run}
use Rattle.ranges.specs.declared.slide.Slide.{Slide}
use Rattle.ranges.specs.FewRuns.{HasFewRuns, cells_in_list, cells_in_row, is_in_part, is_plain_loop, is_plain_row}
use Rattle.ranges.specs.RunLists.{AreRuns, set_of}
use Rattle.ranges.proofs.NearTurns.{near_touch, near_turns}
use Rattle.ranges.proofs.MovingParts.{reached}
use Rattle.ranges.proofs.PlainLoops.{is_far, and_left, and_right, row_moves}
use Rattle.ranges.proofs.RunStarts.{few_runs}

-- the cells that are read or written are not far
no_touch_far : (ts : List Touch) → ((c : Cell) → (reads ts c || writes ts c) ≡ true → c.index < 2 ^ 38) →
    list_any is_far ts ≡ false
no_touch_far [] f = refl
no_touch_far (t ∷ ts) f =
    ap₂ (λ x y. x || y) (one (is_far t) refl)
    (no_touch_far ts (λ c h. f c (more (not t.is_write && has_cell c t) (reads ts c) (t.is_write && has_cell c t) (writes ts c) h)))
  where
    more : (x r y w : Bool) → (r || w) ≡ true → ((x || r) || (y || w)) ≡ true
    more true r y w h = refl
    more false true y w h = refl
    more false false true w h = refl
    more false false false w h = h

    hit : (write : Bool) (h r w : Bool) → h ≡ true → (((not write && h) || r) || ((write && h) || w)) ≡ true
    hit true h true w e = refl
    hit true h false w e = ap (λ x. x || w) e
    hit false h r w e = ap (λ x. (x || r) || w) e

    one : (b : Bool) → is_far t ≡ b → b ≡ false
    one false e = refl
    one true e =
        let c : Cell = record { array = t.array; index = t.cells.hi } in
        let has : has_cell c t ≡ true = grind (arith, nat_tests, e) in
        let below : t.cells.hi < 2 ^ 38 = f c (hit t.is_write (has_cell c t) (reads ts c) (writes ts c) has) in
        let above : 2 ^ 38 ≤ t.cells.hi = grind (arith, nat_tests, e) in
        absurd (omega (arith, below, above))

-- the turns of a loop whose accesses move on by one
these_turns : (b : Bounds) (f : ℕ → List Touch) (slides : List Slide) (n v : ℕ) →
    ((u : ℕ) → b.first ≤ u → u < b.end → f u ≡ map (near_touch (u - b.first)) slides) → b.step ≡ 1 → b.first ≤ v →
    v + n ≡ b.end → turns_touch (turns_left v b) v b.step f ≡ near_turns n (v - b.first) slides
these_turns b f slides zero v each step le end = ap (λ m. turns_touch m v b.step f) (no_turn_left v b (omega (arith, end)))
these_turns b f slides (suc n) v each step le end =
    let lt : v < b.end = omega (arith, end) in
    ap (λ m. turns_touch m v b.step f) (one_turn_less v b lt)
    ∙ ap₂ (λ (ts us : List Touch). ts ++ us) (each v le lt)
    (ap (λ m. turns_touch (turns_left m b) m b.step f) (ap (λ m. v + m) step)
    ∙ these_turns b f slides n (v + 1) each step (omega (arith, le)) (omega (arith, end))
    ∙ ap (λ k. near_turns n k slides) (omega (arith, le)))

few_in_loop : (loops : List ℕ) (b : Bounds) (f : ℕ → List Touch) (count : ℕ) (part : Part) (runs : List Run) →
    b.step ≡ 1 → (list_any is_far (turns_touch (turns_left b.first b) b.first b.step f) ≡ false) →
    (b.first < b.end → list_any is_far (f b.first) ≡ false → (slides : List Slide) × (length slides ≡ count)
    × ((v : ℕ) → b.first ≤ v → v < b.end → f v ≡ map (near_touch (v - b.first)) slides)) →
    AreRuns (is_in_part part (turns_touch (turns_left b.first b) b.first b.step f)) runs → length runs ≤ count
few_in_loop loops b f count part runs step inside moves h = ⊎_elim
    (λ (lt : b.first < b.end).
    let touches = turns_touch (turns_left b.first b) b.first b.step f in
    let begun : touches ≡ f b.first ++ turns_touch (turns_left (b.first + b.step) b) (b.first + b.step) b.step f =
    ap (λ m. turns_touch m b.first b.step f) (one_turn_less b.first b lt) in
    let stays : list_any is_far (f b.first) ≡ false =
    (or_parts (list_any is_far (f b.first)) _
    (sym (list_any-append is_far (f b.first) _) ∙ sym (ap (list_any is_far) begun) ∙ inside)).0 in
    let m = moves lt stays in
    let all : touches ≡ near_turns (b.end - b.first) 0 m.0 =
    these_turns b f m.0 (b.end - b.first) b.first m.2 step (omega arith) (omega (arith, lt))
    ∙ ap (λ k. near_turns (b.end - b.first) k m.0) (omega arith) in
    let few = few_runs (is_in_part part (near_turns (b.end - b.first) 0 m.0)) m.0 runs
    (reached part (b.end - b.first) m.0) (subst (λ ts. AreRuns (is_in_part part ts) runs) all h) in
    let many = m.1 in
    omega (arith, few, many))
    (λ (le : b.end ≤ b.first).
    let none : turns_touch (turns_left b.first b) b.first b.step f ≡ [] =
    ap (λ m. turns_touch m b.first b.step f) (no_turn_left b.first b le) in
    let few = few_runs (is_in_part part []) [] runs (reached part 0 []) (subst (λ ts. AreRuns (is_in_part part ts) runs) none h) in
    omega (arith, few))
    (cases_lt b.first b.end)

few_in_list : (loops : List ℕ) (all : List Stmt) (touches : List Touch) (part : Part) (runs : List Run) →
    touches ≡ Rattle.std.specs.List.flat_map (λ s. stmt_touches s loops true) all →
    list_any is_far touches ≡ false → is_plain_loop (length loops) all ≡ true →
    AreRuns (is_in_part part touches) runs → length runs ≤ cells_in_list all
few_in_list loops [] touches part runs is inside plain h = absurd (false≢true plain)
few_in_list loops (Declare x v ∷ []) touches part runs is inside plain h = absurd (false≢true plain)
few_in_list loops (Assign x v ∷ []) touches part runs is inside plain h = absurd (false≢true plain)
few_in_list loops (Store a place e v ∷ []) touches part runs is inside plain h = absurd (false≢true plain)
few_in_list loops (Combine op a place e v ∷ []) touches part runs is inside plain h = absurd (false≢true plain)
few_in_list loops (Print e ∷ []) touches part runs is inside plain h = absurd (false≢true plain)
few_in_list loops (Block' shape all ∷ []) touches part runs is inside plain h = absurd (false≢true plain)
few_in_list loops (If' c shape all shape' all' ∷ []) touches part runs is inside plain h = absurd (false≢true plain)
few_in_list loops ((Declare x v) ∷ t ∷ more) touches part runs is inside plain h = absurd (false≢true plain)
few_in_list loops ((Assign x v) ∷ t ∷ more) touches part runs is inside plain h = absurd (false≢true plain)
few_in_list loops ((Store a place e v) ∷ t ∷ more) touches part runs is inside plain h = absurd (false≢true plain)
few_in_list loops ((Combine op a place e v) ∷ t ∷ more) touches part runs is inside plain h = absurd (false≢true plain)
few_in_list loops ((Print e) ∷ t ∷ more) touches part runs is inside plain h = absurd (false≢true plain)
few_in_list loops ((Block' shape all) ∷ t ∷ more) touches part runs is inside plain h = absurd (false≢true plain)
few_in_list loops ((Loop' b shape all) ∷ t ∷ more) touches part runs is inside plain h = absurd (false≢true plain)
few_in_list loops ((If' c shape all shape' all') ∷ t ∷ more) touches part runs is inside plain h = absurd (false≢true plain)
few_in_list loops (Loop' b shape all ∷ []) touches part runs is inside plain h =
    let f : ℕ → List Touch = λ v. row_touches all (loops ++ v ∷ []) true in
    let same : touches ≡ turns_touch (turns_left b.first b) b.first b.step f = is ∙ append-nil _ in
    let step = eqb-true b.step 1 (and_left (b.step == 1) (nat_le b.end 65536 && is_plain_row (length loops) all) plain) in
    let rest = and_right (b.step == 1) (nat_le b.end 65536 && is_plain_row (length loops) all) plain in
    let end_is = and_left (nat_le b.end 65536) (is_plain_row (length loops) all) rest in
    let row = and_right (nat_le b.end 65536) (is_plain_row (length loops) all) rest in
    let few : length runs ≤ cells_in_row all = few_in_loop loops b f (cells_in_row all) part runs step
    (ap (list_any is_far) (sym same) ∙ inside)
    (λ lt stays.
    let m = row_moves loops b.first b.end lt (grind (arith, nat_tests, end_is)) all row stays in
    (m.slides, m.many, m.turns))
    (subst (λ ts. AreRuns (is_in_part part ts) runs) same h) in
    omega (arith, few)

-- a set has bits for so many cells alone
held_below : (s : BitSet) (i : ℕ) → has_number s i ≡ true → i < 2 ^ 38
held_below s i h =
    let few = s.few in
    let long = length_all s in
    let test : nat_lt i (2 ^ 38) ≡ true =
    and_left (nat_lt i (2 ^ 38)) (has_number s i) (within_room (all_words s) (2 ^ 38) i (omega (arith, few, long)) ∙ h) in
    ltb-true i (2 ^ 38) test

-- what is known of each set
pub each_part : (f : Footprint) (ts : List Touch) → ((c : Cell) → has f.exposed c ≡ exposes ts c) →
    ((c : Cell) → has f.read c ≡ reads ts c) → ((c : Cell) → has f.write c ≡ writes ts c) →
    ((c : Cell) → has f.sure c ≡ surely_writes ts c) → (part : Part) (c : Cell) → has (set_of part f) c ≡ is_in_part part ts c
each_part f ts e r w s Exposed c = e c
each_part f ts e r w s Read c = r c
each_part f ts e r w s Write c = w c
each_part f ts e r w s Sure c = s c

pub few_in_footprint : (r : Region) (loops : List ℕ) (f : Footprint) →
    ((part : Part) (c : Cell) → has (set_of part f) c ≡ is_in_part part (touches_of r loops) c) → HasFewRuns r loops f
few_in_footprint r loops f is plain part runs h =
    few_in_list loops r.body.items (touches_of r loops) part runs refl
    (no_touch_far (touches_of r loops) (λ c touched. ⊎_elim
    (λ (e : reads (touches_of r loops) c ≡ true). held_below (row_of f.read c.array.0) c.index (is Read c ∙ e))
    (λ (e : writes (touches_of r loops) c ≡ true). held_below (row_of f.write c.array.0) c.index (is Write c ∙ e))
    (or_cases (reads (touches_of r loops) c) (writes (touches_of r loops) c) touched)))
    plain (record { some = h.some; apart = h.apart; cells = λ c. h.cells c ∙ is part c })
