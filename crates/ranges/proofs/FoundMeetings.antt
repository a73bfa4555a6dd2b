-- The least cell on which turns of a region meet is the one that was found.
use Rattle.std.proofs.Common.{◌≡◌, ℕ, ◌<◌, ◌≤◌, min, Bool, true, false, List, [], ◌∷◌, ◌++◌, map, length, Option, Some, None, refl, sym, ap, subst, ◌∙◌, arith}
use Rattle.std.specs.Prelude.{filter, flat_map, nat_lt, if◌then◌else◌}
use Rattle.std.specs.List.{list_any}
use Rattle.base.specs.declared.item.Cell.{Cell}
use Rattle.base.specs.declared.tree.Region.{Region}
use Rattle.base.specs.declared.tree.Stmt.{Stmt}
use Rattle.base.specs.Accepted.{most_turns, region_faults, subscript_fault, turns_fault}
use Rattle.base.specs.Footprint.{Touch, leaves_array, touches_of, turns_in, writes}
use Rattle.base.specs.Least.{IsLeast}
use Rattle.base.specs.ScalarUse.{list_assigned, list_needs}
use Rattle.base.specs.Turns.{Turn, turn_touches, turns_at, turns_meet}
use Rattle.base.proofs.Leasts.{least_same}
use Rattle.base.proofs.TurnTouches.{turns_touch_all}
use Rattle.ranges.specs.declared.cells.CellSet.{CellSet}
use Rattle.ranges.specs.Cells.{has}
use Rattle.ranges.specs.Meetings.{meets_from, turn_body}
use Rattle.ranges.specs.Ways.{after_turns, nothing_noted}
use Rattle.ranges.proofs.Meetings.{met_before, met_where_written}
use Rattle.ranges.proofs.TurnsNoted.{AllFit, noted_least}

none_behind : {A : Type 0} (xs ys : List A) → xs ++ ys ≡ [] → ys ≡ []
none_behind [] ys e = e
none_behind (x ∷ xs) ys e = absurd cc

none_mapped : (ts : List Touch) → map subscript_fault ts ≡ [] → ts ≡ []
none_mapped [] e = refl
none_mapped (t ∷ ts) e = absurd cc

all_fit : (lengths : List ℕ) (ts : List Touch) → filter (leaves_array lengths) ts ≡ [] → AllFit lengths ts
all_fit lengths [] e = tt
all_fit lengths (t ∷ ts) e = go (leaves_array lengths t) refl e (all_fit lengths ts)
  where
    go : (b : Bool) → leaves_array lengths t ≡ b →
        (if b then t ∷ filter (leaves_array lengths) ts else filter (leaves_array lengths) ts) ≡ [] →
        (filter (leaves_array lengths) ts ≡ [] → AllFit lengths ts) → AllFit lengths (t ∷ ts)
    go true h f rest = absurd cc
    go false h f rest = (h, rest f)

abbrev turns_of_region : Region → List ℕ → List Turn
turns_of_region r loops = turns_at r.depth r.body.items loops

-- no touch of a turn leaves its array where the region has no fault of range
turns_fit : (lengths loops : List ℕ) (r : Region) → region_faults lengths loops (Some r) ≡ [] →
    AllFit lengths (flat_map turn_touches (turns_of_region r loops))
turns_fit lengths loops r e =
    all_fit lengths (flat_map turn_touches (turns_of_region r loops))
    (ap (filter (leaves_array lengths)) (turns_touch_all r.depth r.body.items loops)
    ∙ none_mapped (filter (leaves_array lengths) (touches_of r loops))
    (none_behind (if nat_lt most_turns (turns_in r) then turns_fault r ∷ [] else [])
    (map subscript_fault (filter (leaves_array lengths) (touches_of r loops))) e))

-- turns one after the other were noted
pub noted_meeting : (lengths loops : List ℕ) (r : Region) (body : List Stmt) (found : Option Cell) →
    region_faults lengths loops (Some r) ≡ [] → body ≡ turn_body r.depth r.body.items →
    list_any (λ x. list_needs x body) (list_assigned body) ≡ false →
    found ≡ (after_turns lengths (turns_of_region r loops) nothing_noted).least →
    IsLeast (turns_meet (turns_of_region r loops)) found
noted_meeting lengths loops r body found fine is gives e =
    let turns = turns_of_region r loops in
    let none = ap (λ (b : List Stmt). list_any (λ x. list_needs x b) (list_assigned b)) (sym is) ∙ gives in
    least_same (meets_from [] turns) (turns_meet turns) found (λ c. sym (met_before r.depth r.body.items loops c none))
    (least_at found (sym e) (noted_least lengths turns (turns_fit lengths loops r fine)))
  where
    least_at : (o : Option Cell) → (after_turns lengths (turns_of_region r loops) nothing_noted).least ≡ o →
        IsLeast (meets_from [] (turns_of_region r loops)) (after_turns lengths (turns_of_region r loops) nothing_noted).least →
        IsLeast (meets_from [] (turns_of_region r loops)) o
    least_at o e h = subst (IsLeast (meets_from [] (turns_of_region r loops))) e h

-- fewer than two turns meet nowhere
pub few_meet : (loops : List ℕ) (r : Region) (n : ℕ) → n ≡ min 2 (length (turns_of_region r loops)) → n < 2 →
    IsLeast (turns_meet (turns_of_region r loops)) None
few_meet loops r n e h c = go (turns_of_region r loops) (omega (arith, e, h))
  where
    go : (turns : List Turn) → min 2 (length turns) < 2 → turns_meet turns c ≡ false
    go [] l = refl
    go (t ∷ []) l = refl
    go (s ∷ t ∷ rest) l = absurd (omega (arith, l))

-- turns that give each other scalars meet where one of them writes
pub given_meeting : (loops : List ℕ) (r : Region) (body : List Stmt) (write : CellSet) (found : Option Cell) (n : ℕ) →
    ((c : Cell) → has write c ≡ writes (touches_of r loops) c) → body ≡ turn_body r.depth r.body.items →
    list_any (λ x. list_needs x body) (list_assigned body) ≡ true →
    n ≡ min 2 (length (turns_of_region r loops)) → 2 ≤ n → IsLeast (has write) found →
    IsLeast (turns_meet (turns_of_region r loops)) found
given_meeting loops r body write found n written is gives e h least =
    least_same (has write) (turns_meet (turns_of_region r loops)) found
    (λ c. written c
    ∙ ap (λ ts. writes ts c) (sym (turns_touch_all r.depth r.body.items loops))
    ∙ sym (meet c (turns_of_region r loops) refl (omega (arith, e, h))))
    least
  where
    some : list_any (λ x. list_needs x (turn_body r.depth r.body.items)) (list_assigned (turn_body r.depth r.body.items)) ≡ true
    some = ap (λ (b : List Stmt). list_any (λ x. list_needs x b) (list_assigned b)) (sym is) ∙ gives

    meet : (c : Cell) (turns : List Turn) → turns_of_region r loops ≡ turns → 2 ≤ min 2 (length turns) →
        turns_meet (turns_of_region r loops) c ≡ writes (flat_map turn_touches (turns_of_region r loops)) c
    meet c [] t l = absurd (omega (arith, l))
    meet c (s ∷ []) t l = absurd (omega (arith, l))
    meet c (s ∷ u ∷ rest) t l = met_where_written r.depth r.body.items loops c s u rest some t
