-- What the marks of the host and of a device stand for, and what map items do to it.
use Rattle.std.specs.Prelude.{Bool, true, false, List, [], ◌∷◌}
use Rattle.base.specs.declared.item.Section.{Section}
use Rattle.base.specs.declared.item.MapItem.{MapItem}
use Rattle.base.specs.Actions.{Action, Creates, CopiesIn, CopiesOut, Removes}
use Rattle.base.specs.Current.{Current, after_action}
use Rattle.mapwalk.specs.declared.marks.Marks.{Marks}
use Rattle.mapwalk.specs.declared.rows.Acts.{Acts}
use Rattle.mapwalk.specs.Current.{marks_in}

abbrev pub shown_by : List Marks → List Marks → Current
shown_by host device = record { host = marks_in host; device = marks_in device }

abbrev pub act_if : Bool → Action → Current → Current
act_if true a k = after_action a k
act_if false a k = k

-- what one map item does
abbrev pub after_act : Section → Acts → Current → Current
after_act s a k =
    act_if a.removes (Removes a.block)
    (act_if a.copies_out (CopiesOut s) (act_if a.copies_in (CopiesIn s) (act_if a.creates (Creates a.block) k)))

abbrev pub after_acts : List MapItem → List Acts → Current → Current
after_acts [] row k = k
after_acts (m ∷ maps) [] k = k
after_acts (m ∷ maps) (a ∷ row) k = after_acts maps row (after_act m.section a k)
