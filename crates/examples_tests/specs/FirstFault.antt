-- A test by computation of the first fault of a plan, where that is found by the third pass.
use Rattle.std.specs.Prelude.{ℕ, ◌≡◌, true, false, Bool, not, ◌&&◌, ◌||◌, nat_lt, List, length, Option, Some, None}
use Rattle.std.specs.List.{list_all, range_with_len}
use Rattle.base.specs.declared.item.Cell.{Cell}
use Rattle.base.specs.declared.fault.Refusal.{Refusal}
use Rattle.base.specs.declared.fault.RefusalCode.{RefusalCode}
use Rattle.base.specs.declared.fault.RefusalCode.TheVariants.{OverlapsInPart, ExitOfAbsent, UpdateOfAbsent, NotPresent, Unmapped, HostNotCurrent, DeviceNotCurrent, TurnsMeet, Conflict}
use Rattle.base.specs.Items.{Plan}
use Rattle.base.specs.Machine.{is_empty}
use Rattle.base.specs.Actions.{Stage, stages, conflict}
use Rattle.base.specs.Accepted.{IsFirstFault, Refused, range_faults, cause, current_before, on_stage, fault_key, key_less}
use Rattle.examples_tests.specs.Decide.{every_cell, every_pair, stage_stays, chained, pair_clear}

-- the codes of the third pass that are of one item by itself
abbrev pub every_code : (RefusalCode → Bool) → Bool
every_code p =
    p OverlapsInPart && (p ExitOfAbsent &&
    (p UpdateOfAbsent && (p NotPresent && (p Unmapped && (p HostNotCurrent && (p DeviceNotCurrent && p TurnsMeet))))))

abbrev pub refusal : RefusalCode → ℕ → Cell → Option ℕ → Refusal
refusal code j c other = record { code = code; item = j; cell = c; other = other }

-- a refusal does not come before the key
abbrev pub not_sooner : List ℕ → Refusal → Bool
not_sooner key r = not (key_less (fault_key (Refused r)) key)

-- no cause of refusal of one item by itself comes before the key
abbrev pub stage_later : Plan → List ℕ → ℕ → Stage → Bool
stage_later plan key j s =
    every_code (λ code. every_cell plan.lengths
    (λ c. not (cause code s (current_before plan j) c) || not_sooner key (refusal code j c None)))

abbrev pub alone_later : Plan → List ℕ → Bool
alone_later plan key = list_all (λ j. on_stage plan j true (stage_later plan key j))
    (range_with_len 0 (length (stages plan)))

-- no unordered conflict of two items comes before the key
abbrev pub stages_later : Plan → List ℕ → ℕ → ℕ → Stage → Stage → Bool
stages_later plan key i j s t = every_cell plan.lengths
    (λ c. not (conflict s t c) || not_sooner key (refusal Conflict j c (Some i)))

abbrev pub pair_later : ℕ → Plan → List ℕ → ℕ → ℕ → Bool
pair_later n plan key i j = chained plan n i j || on_stage plan i true
    (λ s. on_stage plan j true (stages_later plan key i j s))

-- chains of at most n + 1 links are all that there are: two in a row give one
abbrev pub is_closed_under : ℕ → Plan → Bool
is_closed_under n plan =
    every_pair (length plan.items) (λ i j. list_all
    (λ k. not (chained plan n i k && chained plan n k j) || chained plan n i j)
    (range_with_len 0 (length plan.items)))

-- the refusal is one: of an item by itself, or for a conflict with another item and no order between the two
abbrev pub refusal_holds : ℕ → Plan → Refusal → Option ℕ → Bool
refusal_holds n plan r None = on_stage plan r.item false (λ s. cause r.code s (current_before plan r.item) r.cell)
refusal_holds n plan r (Some i) =
    nat_lt i r.item
    && (on_stage plan i false (λ s. on_stage plan r.item false (λ t. conflict s t r.cell)) &&
    (not (chained plan n i r.item) && is_closed_under n plan))

abbrev pub is_conflict : RefusalCode → Bool
is_conflict Conflict = true
is_conflict OverlapsInPart = false
is_conflict ExitOfAbsent = false
is_conflict UpdateOfAbsent = false
is_conflict NotPresent = false
is_conflict Unmapped = false
is_conflict HostNotCurrent = false
is_conflict DeviceNotCurrent = false
is_conflict TurnsMeet = false

abbrev pub names_other : Option ℕ → Bool
names_other None = false
names_other (Some i) = true

abbrev pub same_test : Bool → Bool → Bool
same_test true b = b
same_test false b = not b

-- the first two passes find nothing, nothing comes before the refusal, and it is one
abbrev pub refused_first : ℕ → Plan → Refusal → Bool
refused_first n plan r =
    list_all (λ w. is_empty (range_faults plan.lengths w)) plan.items
    && (every_pair (length plan.items) (pair_clear plan)
    && (list_all (stage_stays plan.lengths) (stages plan)
    && (alone_later plan (fault_key (Refused r))
    && (every_pair (length (stages plan)) (pair_later n plan (fault_key (Refused r)))
    && (same_test (is_conflict r.code) (names_other r.other) && refusal_holds n plan r r.other)))))

-- the test is right: the refusal that passes it is the first fault
abbrev pub FirstFaultByTest : Type 0
FirstFaultByTest = (n : ℕ) (plan : Plan) (r : Refusal) → refused_first n plan r ≡ true → IsFirstFault plan (Refused r)
