-- What rests in a section: what the item itself has there, and what the other items have.
-- In program order the others have nothing there; in any order they have nothing where the item writes the table.
use Rattle.std.proofs.Common.{◌≡◌, ◌⊎◌, ℕ, ◌+◌, ◌<◌, true, false, ◌==◌, List, [], ◌∷◌, ◌++◌, length, refl, sym, ◌∙◌, ap, inl, inr, arith, subst}
use Rattle.std.specs.Prelude.{if◌then◌else◌}
use Rattle.std.proofs.lemmas.Bool.{cases_Bool, cases_eq, cond-true, cond-false, eq-eqb, eqb-true, ne_eqb, or_left, or_right}
use Rattle.base.specs.declared.item.Cell.{Cell}
use Rattle.base.specs.declared.item.Section.{Section}
use Rattle.base.specs.declared.item.MapItem.{MapItem}
use Rattle.base.specs.Actions.{Tab}
use Rattle.base.specs.Items.{Plan}
use Rattle.fine_machine.specs.Machine.{State, Condition, Untouched, Generated, Opened, Closed, Passed, as_whole, whole_condition}
use Rattle.machine.specs.Board.{touches, Condition as Phase}
use Rattle.machine.specs.Board.Condition.{Opened as opened, Untouched as untouched, Generated as generated, Closed as closed}
use Rattle.two_memories.specs.Two.{Spot, device_of, items_of, own_part, number_inside, one_inside, sum_below}
use Rattle.two_memories.proofs.PlanItems.{Which, which, own_at}
use Rattle.two_memories.proofs.PlanItems.Which.{item, past}
use Rattle.two_memories.proofs.LikeMemories.{Quiet}
use Rattle.two_memories.proofs.AdjustedCounts.{but, sum_same, sum_split, sum_zero, access_of}
use Rattle.two_memories.proofs.RestingAlone.{InsideOne, inside_one, RestingLooks}
use Rattle.two_memories.proofs.RestingAlone.InsideOne.{zero_inside, one}
use Rattle.two_memories.proofs.OwnDevice.{loc_of}
use Rattle.two_memories.proofs.Spots.{spot_on, writes_at}
use Rattle.base.proofs.Sections.{first_in, inside_in}
use Rattle.fine_headline.specs.FineState.{board_of, entered_on, resting_in, IsSettled, AreSettled}

-- what the other items have entered on the item's device and rest in
abbrev pub others : Plan → (ℕ → List MapItem) → ℕ → Section → ℕ
others plan m i section = sum_below (length plan.items) (but i (entered_on plan m (device_of plan i) section))

pub resting_split : (plan : Plan) (m : ℕ → List MapItem) (i : ℕ) (section : Section) → i < length plan.items →
    resting_in plan m (device_of plan i) section ≡ others plan m i section + number_inside (m i) section
resting_split plan m i section lt =
    let d = device_of plan i in
    sum_split (length plan.items) i (entered_on plan m d section) lt
    ∙ ap (λ k. others plan m i section + k) (cond-true (d == d) (number_inside (m i) section) 0 (eq-eqb d d refl))

-- as one item's entries change
pub others_stepped : (plan : Plan) (m : ℕ → List MapItem) (i : ℕ) (ms : List MapItem) (section : Section) →
    others plan (λ j. if j == i then ms else m j) i section ≡ others plan m i section
others_stepped plan m i ms section =
    sum_same (length plan.items) (but i (entered_on plan (λ j. if j == i then ms else m j) d section))
    (but i (entered_on plan m d section)) (λ k lt. go k (cases_eq k i))
  where
    d : ℕ
    d = device_of plan i

    go : (k : ℕ) → (k ≡ i) ⊎ (k ≡ i → ⊥) →
        but i (entered_on plan (λ j. if j == i then ms else m j) d section) k ≡ but i (entered_on plan m d section) k
    go k (inl e) =
        cond-true (k == i) 0 (entered_on plan (λ j. if j == i then ms else m j) d section k) (eq-eqb k i e) ∙ sym
        (cond-true (k == i) 0 (entered_on plan m d section k) (eq-eqb k i e))
    go k (inr n) =
        cond-false (k == i) 0 (entered_on plan (λ j. if j == i then ms else m j) d section k) (ne_eqb k i n)
        ∙ (ap (λ xs. if device_of plan k == d then number_inside xs section else 0)
        (cond-false (k == i) ms (m k) (ne_eqb k i n)) ∙ sym
        (cond-false (k == i) 0 (entered_on plan m d section k) (ne_eqb k i n)))

pub stepped_split : (plan : Plan) (m : ℕ → List MapItem) (i : ℕ) (ms : List MapItem) (section : Section) →
    i < length plan.items →
    resting_in plan (λ j. if j == i then ms else m j) (device_of plan i) section
    ≡ others plan m i section + number_inside ms section
stepped_split plan m i ms section lt =
    resting_split plan (λ j. if j == i then ms else m j) i section lt
    ∙ (ap (λ k. k + number_inside (if i == i then ms else m i) section) (others_stepped plan m i ms section)
    ∙ ap (λ xs. others plan m i section + number_inside xs section) (cond-true (i == i) ms (m i) (eq-eqb i i refl)))

-- what has entered nothing has entered nothing on any device
none_on : (plan : Plan) (m : ℕ → List MapItem) (d : ℕ) (section : Section) (k : ℕ) →
    number_inside (m k) section ≡ 0 → entered_on plan m d section k ≡ 0
none_on plan m d section k e = go (cases_Bool (device_of plan k == d))
  where
    go : ((device_of plan k == d) ≡ true) ⊎ ((device_of plan k == d) ≡ false) → entered_on plan m d section k ≡ 0
    go (inl t) = cond-true (device_of plan k == d) (number_inside (m k) section) 0 t ∙ e
    go (inr f) = cond-false (device_of plan k == d) (number_inside (m k) section) 0 f

-- an item that is not open has entered nothing
pub shut_empty : (plan : Plan) (s : State) (m : ℕ → List MapItem) (j : ℕ) → AreSettled plan m s.condition →
    j < length plan.items → ((board_of plan s).condition j ≡ opened → ⊥) → m j ≡ []
shut_empty plan s m j h lt shut = by (which plan j)
  where
    by : Which plan j → m j ≡ []
    by (past _ le) = absurd (omega arith)
    by (item w at _) = go (s.condition j) refl (h.settled j)
      where
        go : (c : Condition) → s.condition j ≡ c → IsSettled plan j (m j) c → m j ≡ []
        go (Opened left) e k =
            absurd (shut (ap (λ o. o.phase) (own_at plan (as_whole s) j w at ∙ ap
            (λ c. own_part w (whole_condition c)) e)))
        go Untouched e k = k
        go (Generated captured) e k = k
        go Closed e k = k
        go Passed e k = k

-- in a state in which no other item is open, the others have nothing anywhere
pub none_open : (plan : Plan) (s : State) (m : ℕ → List MapItem) (i : ℕ) → AreSettled plan m s.condition →
    ((j : ℕ) → (j ≡ i → ⊥) → (board_of plan s).condition j ≡ opened → ⊥) → (section : Section) →
    others plan m i section ≡ 0
none_open plan s m i h shut section =
    sum_zero (length plan.items) (but i (entered_on plan m d section)) (λ k lt. go k lt (cases_eq k i))
  where
    d : ℕ
    d = device_of plan i

    go : (k : ℕ) → k < length plan.items → (k ≡ i) ⊎ (k ≡ i → ⊥) → but i (entered_on plan m d section) k ≡ 0
    go k lt (inl e) = cond-true (k == i) 0 (entered_on plan m d section k) (eq-eqb k i e)
    go k lt (inr n) =
        cond-false (k == i) 0 (entered_on plan m d section k) (ne_eqb k i n)
        ∙ none_on plan m d section k
        (ap (λ xs. number_inside xs section) (shut_empty plan s m k h lt (shut k n)))

-- where the item writes the table, no other item rests
pub quiet_from : (plan : Plan) (s : State) (m : ℕ → List MapItem) (i : ℕ) → RestingLooks plan →
    AreSettled plan m s.condition →
    ((j : ℕ) (l : Spot) → j < (items_of plan).count → (j ≡ i → ⊥) → (board_of plan s).condition j ≡ opened → touches
    (items_of plan) i l ≡ true → ((items_of plan).writes i l ≡ true) × (touches (items_of plan) j l ≡ true) → ⊥) →
    Quiet (others plan m i) (access_of plan i)
quiet_from plan s m i looks h alone section written =
    sum_zero (length plan.items) (but i (entered_on plan m d section)) (λ k lt. go k lt (cases_eq k i))
  where
    d : ℕ
    d = device_of plan i

    conflict : (j : ℕ) → (j ≡ i → ⊥) → j < length plan.items → device_of plan j ≡ d →
        (board_of plan s).condition j ≡ opened → InsideOne (m j) section → number_inside (m j) section ≡ 0
    conflict j ne lt same up (zero_inside z) = z
    conflict j ne lt same up (one k x at inside) =
        let q = h.resting j k x at in
        let look = looks j q.0 x q.1 in
        let cell : Cell = record { array = x.section.array; index = x.section.first } in
        let here = first_in x.section look.0 in
        let spot : Spot = spot_on plan i Tab cell in
        let w = writes_at plan i Tab cell ∙ written cell (inside_in cell x.section section inside here) in
        let r : (items_of plan).reads j spot ≡ true =
        subst (λ e. (items_of plan).reads j (record { loc = loc_of e Tab; cell = cell }) ≡ true) same (look.1 cell here) in
        absurd (alone j spot (omega arith) ne up (or_right _ _ w) (w, or_left _ _ r))

    by : (j : ℕ) → (j ≡ i → ⊥) → j < length plan.items → device_of plan j ≡ d → number_inside (m j) section ≡ 0
    by j ne lt same = at (cases_open ((board_of plan s).condition j))
      where
        cases_open : (p : Phase) → (p ≡ opened) ⊎ (p ≡ opened → ⊥)
        cases_open opened = inl refl
        cases_open untouched = inr (λ e. absurd (cc e))
        cases_open generated = inr (λ e. absurd (cc e))
        cases_open closed = inr (λ e. absurd (cc e))

        at : ((board_of plan s).condition j ≡ opened) ⊎ ((board_of plan s).condition j ≡ opened → ⊥) →
            number_inside (m j) section ≡ 0
        at (inl up) = conflict j ne lt same up (inside_one (m j) section)
        at (inr shut) = ap (λ xs. number_inside xs section) (shut_empty plan s m j h lt shut)

    here : (j : ℕ) → (j ≡ i → ⊥) → j < length plan.items →
        (device_of plan j == d ≡ true) ⊎ (device_of plan j == d ≡ false) → entered_on plan m d section j ≡ 0
    here j ne lt (inl t) =
        cond-true (device_of plan j == d) (number_inside (m j) section) 0 t ∙ by j ne lt (eqb-true (device_of plan j) d t)
    here j ne lt (inr f) = cond-false (device_of plan j == d) (number_inside (m j) section) 0 f

    go : (k : ℕ) → k < length plan.items → (k ≡ i) ⊎ (k ≡ i → ⊥) → but i (entered_on plan m d section) k ≡ 0
    go k lt (inl e) = cond-true (k == i) 0 (entered_on plan m d section k) (eq-eqb k i e)
    go k lt (inr n) =
        cond-false (k == i) 0 (entered_on plan m d section k) (ne_eqb k i n)
        ∙ here k n lt (cases_Bool (device_of plan k == d))

-- Numbers of map items inside a section.

pub number_appended : (ms : List MapItem) (x : MapItem) (s : Section) →
    number_inside (ms ++ x ∷ []) s ≡ number_inside ms s + one_inside s x
number_appended [] x s = omega arith
number_appended (m ∷ ms) x s = let e = number_appended ms x s in omega arith
