use Rattle.std.proofs.Common.{◌≡◌, ◌-◌, ◌^◌, min, None, Some, sym, ap, ◌∙◌, subst}
use Rattle.base.specs.declared.fault.RangeFault.{RangeFault}
use Rattle.base.specs.Meaning.{lengths_of}
use Rattle.base.specs.Footprint.{touches_of, turns_in}
use Rattle.base.specs.Accepted.{region_faults}
use Rattle.ranges.specs.declared.cells.Footprint.{Footprint}
use Rattle.ranges.specs.Faults.{IsFirst}
use Rattle.ranges.specs.Seen.{list_turns, seen_in, Seen}
use Rattle.ranges.specs.Found.{nothing_seen}
use Rattle.ranges.proofs.AllSeen.{all_seen, least_seen}
use Rattle.ranges.proofs.RegionFaults.{above_most, up_to_most, no_fault, subscript_first, turns_first}
use Rattle.ranges.proofs.PlainRegions.{each_part, few_in_footprint}
use Rattle.ranges.proofs.footprint.Goals as goal

pub returns-then-turns_in_all-gt-MOST_TURNS-clause-fault : goal.returns-then-turns_in_all-gt-MOST_TURNS-clause-fault
returns-then-turns_in_all-gt-MOST_TURNS-clause-fault c =
    let r = c.args.region.now in
    let loops = c.args.loops.now.values.items in
    let lengths = lengths_of c.args.program.now in
    subst (λ (f : RangeFault). IsFirst (region_faults lengths loops (Some r)) f) (sym c.fault_at.ensures)
    (turns_first lengths loops r
    (above_most c.turns_in_all.result (turns_in r)
    (c.turns_in_all.ensures ∙ ap (λ xs. min (list_turns xs) (2 ^ 64 - 1)) c.deref.ensures.value)
    c.if-turns_in_all-gt-MOST_TURNS.true))

pub returns-in-Some-clause-fault : goal.returns-in-Some-clause-fault
returns-in-Some-clause-fault c =
    let r = c.args.region.now in
    let loops = c.args.loops.now.values.items in
    let lengths = lengths_of c.args.program.now in
    subst (λ (f : RangeFault). IsFirst (region_faults lengths loops (Some r)) f) (sym c.fault_at-in-Some.ensures)
    (subscript_first lengths loops r c.in-Some.place
    (up_to_most c.turns_in_all.result (turns_in r)
    (c.turns_in_all.ensures ∙ ap (λ xs. min (list_turns xs) (2 ^ 64 - 1)) c.deref.ensures.value)
    c.if-turns_in_all-gt-MOST_TURNS.false)
    (sym (ap (λ (s : Seen). s.least) c.in-Ok.ensures ∙ least_seen lengths (touches_of r loops) nothing_seen)
    ∙ c.in-Some.is))

pub meeting-requires-clause-fine : goal.meeting-requires-clause-fine
meeting-requires-clause-fine c =
    let r = c.args.region.now in
    let loops = c.args.loops.now.values.items in
    let lengths = lengths_of c.args.program.now in
    no_fault lengths loops r
    (up_to_most c.turns_in_all.result (turns_in r)
    (c.turns_in_all.ensures ∙ ap (λ xs. min (list_turns xs) (2 ^ 64 - 1)) c.deref.ensures.value)
    c.if-turns_in_all-gt-MOST_TURNS.false)
    (sym (ap (λ (s : Seen). s.least) c.in-Ok.ensures ∙ least_seen lengths (touches_of r loops) nothing_seen)
    ∙ c.in_default-least.is)

pub meeting-requires-clause-write : goal.meeting-requires-clause-write
meeting-requires-clause-write c d =
    let e : (seen_in c.in-Ok.walk).least ≡ None = c.in_default-least.is in
    ap (λ (s : Seen). s.write d) c.in-Ok.ensures
    ∙ (all_seen (lengths_of c.args.program.now) (touches_of c.args.region.now c.args.loops.now.values.items) d
    (sym (ap (λ (s : Seen). s.least) c.in-Ok.ensures) ∙ e)).write

pub returns-clause-fine : goal.returns-clause-fine
returns-clause-fine c =
    let r = c.args.region.now in
    let loops = c.args.loops.now.values.items in
    let lengths = lengths_of c.args.program.now in
    no_fault lengths loops r
    (up_to_most c.turns_in_all.result (turns_in r)
    (c.turns_in_all.ensures ∙ ap (λ xs. min (list_turns xs) (2 ^ 64 - 1)) c.deref.ensures.value)
    c.if-turns_in_all-gt-MOST_TURNS.false)
    (sym (ap (λ (s : Seen). s.least) c.in-Ok.ensures ∙ least_seen lengths (touches_of r loops) nothing_seen)
    ∙ c.in_default-least.is)

pub returns-clause-exposed : goal.returns-clause-exposed
returns-clause-exposed c d =
    let e : (seen_in c.in-Ok.walk).least ≡ None = c.in_default-least.is in
    ap (λ (s : Seen). s.exposed d) c.in-Ok.ensures
    ∙ (all_seen (lengths_of c.args.program.now) (touches_of c.args.region.now c.args.loops.now.values.items) d
    (sym (ap (λ (s : Seen). s.least) c.in-Ok.ensures) ∙ e)).exposed

pub returns-clause-read : goal.returns-clause-read
returns-clause-read c d =
    let e : (seen_in c.in-Ok.walk).least ≡ None = c.in_default-least.is in
    ap (λ (s : Seen). s.read d) c.in-Ok.ensures
    ∙ (all_seen (lengths_of c.args.program.now) (touches_of c.args.region.now c.args.loops.now.values.items) d
    (sym (ap (λ (s : Seen). s.least) c.in-Ok.ensures) ∙ e)).read

pub returns-clause-write : goal.returns-clause-write
returns-clause-write c d =
    let e : (seen_in c.in-Ok.walk).least ≡ None = c.in_default-least.is in
    ap (λ (s : Seen). s.write d) c.in-Ok.ensures
    ∙ (all_seen (lengths_of c.args.program.now) (touches_of c.args.region.now c.args.loops.now.values.items) d
    (sym (ap (λ (s : Seen). s.least) c.in-Ok.ensures) ∙ e)).write

pub returns-clause-sure : goal.returns-clause-sure
returns-clause-sure c d =
    let e : (seen_in c.in-Ok.walk).least ≡ None = c.in_default-least.is in
    ap (λ (s : Seen). s.sure d) c.in-Ok.ensures
    ∙ (all_seen (lengths_of c.args.program.now) (touches_of c.args.region.now c.args.loops.now.values.items) d
    (sym (ap (λ (s : Seen). s.least) c.in-Ok.ensures) ∙ e)).sure

pub returns-clause-few : goal.returns-clause-few
returns-clause-few c =
    let r = c.args.region.now in
    let loops = c.args.loops.now.values.items in
    let found : Footprint = record c.in-Ok.walk.found { meeting = c.in-Ok-meeting.first } in
    few_in_footprint r loops found
    (each_part found (touches_of r loops) (returns-clause-exposed c) (returns-clause-read c) (returns-clause-write c)
    (returns-clause-sure c))

pub returns-clause-meeting : goal.returns-clause-meeting
returns-clause-meeting c = c.in-Ok-meeting.ensures
