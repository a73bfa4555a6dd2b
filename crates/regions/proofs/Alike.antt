-- What a region touches, its faults of range, and where its turns meet depend on the loops alone that decide.
use Rattle.std.proofs.Common.{◌≡◌, Bool, true, false, [], ◌∷◌, ◌++◌, sym, ap, ◌∙◌, Some}
use Rattle.std.specs.Prelude.{nat_lt, map, filter, if◌then◌else◌}
use Rattle.base.specs.Footprint.{turns_in, leaves_array}
use Rattle.base.specs.Accepted.{most_turns, turns_fault, subscript_fault}
use Rattle.regions.specs.Deciding.{UndecidingLoopsDecideNothing, MarkedValuesDecide, AgreeingItemsTouchAlike}
use Rattle.regions.proofs.Undeciding.{list_alike}
use Rattle.regions.proofs.TurnsAlike.{turns_meet_alike}

-- a region under loops of which those have the same values that it names in a subscript or a condition
pub undeciding_loops_decide_nothing : UndecidingLoopsDecideNothing
undeciding_loops_decide_nothing r loops other s =
    let same = list_alike loops other true r.body.items s in
    record {
      touches = same;
      faults =
          λ lengths. ap
          (λ ts. (if nat_lt most_turns (turns_in r) then turns_fault r ∷ [] else [])
          ++ map subscript_fault (filter (leaves_array lengths) ts))
          same;
      turns = turns_meet_alike r loops other s;
    }

-- the marked values of two lists are the same
pub marked_values_decide : MarkedValuesDecide
marked_values_decide r marks loops other values mark count these those =
    undeciding_loops_decide_nothing r loops other (record {
      count = sym count;
      values = λ level inside h.
          let marked = mark.each level inside ∙ ap (λ (b : Bool). Some b) h in
          sym (these.each level true marked) ∙ those.each level true marked;
    })

-- two items of one region
pub agreeing_items_touch_alike : AgreeingItemsTouchAlike
agreeing_items_touch_alike r v w first second agree =
    let alike = undeciding_loops_decide_nothing r v.loops w.loops agree in
    record {
      touches = rw (first, second) alike.touches;
      faults = λ lengths. rw (first, second) (alike.faults lengths);
      turns = λ c. rw (first, second) (alike.turns c);
    }
