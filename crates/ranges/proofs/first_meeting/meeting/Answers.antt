use Rattle.std.proofs.Common.{ap, ◌∙◌, sym, List, length, min}
use Rattle.base.specs.Meaning.{lengths_of}
use Rattle.base.specs.declared.tree.Stmt.{Stmt}
use Rattle.std.specs.Prelude.{flat_map}
use Rattle.base.specs.Footprint.{Touch, writes}
use Rattle.base.specs.Turns.{turn_touches, turns_at}
use Rattle.base.proofs.TurnTouches.{turns_touch_all}
use Rattle.ranges.specs.Meetings.{turn_body}
use Rattle.ranges.specs.Ways.{Noted, after_turns}
use Rattle.ranges.proofs.FoundMeetings.{few_meet, given_meeting, noted_meeting}
use Rattle.ranges.proofs.first_meeting.meeting.Goals as goal

pub returns-then-turns_up_to_two-lt2 : goal.returns-then-turns_up_to_two-lt2
returns-then-turns_up_to_two-lt2 c =
    let r = c.args.region.now in
    let loops = c.args.loops.now.values.items in
    few_meet loops r c.turns_up_to_two.result
    (c.turns_up_to_two.ensures loops
    ∙ ap (λ (xs : List Stmt). min 2 (length (turns_at r.depth xs loops))) c.deref.ensures.value)
    c.if-turns_up_to_two-lt2.true

pub returns-then-all_give : goal.returns-then-all_give
returns-then-all_give c =
    let r = c.args.region.now in
    let loops = c.args.loops.now.values.items in
    given_meeting loops r c.turn_body-body.result.now c.args.write.now c.first.result c.turns_up_to_two.result c.requires.write
    (c.turn_body-body.ensures ∙ ap (turn_body r.depth) c.deref-2.ensures.value)
    (sym c.all_give.ensures ∙ c.if-all_give.true)
    (c.turns_up_to_two.ensures loops
    ∙ ap (λ (xs : List Stmt). min 2 (length (turns_at r.depth xs loops))) c.deref.ensures.value)
    c.if-turns_up_to_two-lt2.false c.first.ensures

pub returns : goal.returns
returns c =
    let r = c.args.region.now in
    let loops = c.args.loops.now.values.items in
    let lengths = lengths_of c.args.program.now in
    noted_meeting lengths loops r c.turn_body-body.result.now c.note_turns.new.meetings.least c.requires.fine
    (c.turn_body-body.ensures ∙ ap (turn_body r.depth) c.deref-2.ensures.value)
    (sym c.all_give.ensures ∙ c.if-all_give.false)
    (ap (λ (s : Noted). s.least) c.in_ok-note_turns.ensures.noted
    ∙ (λ i. (after_turns ((c.deref-7.ensures.value ∙ c.in_ok-lengths.ensures) i)
    (turns_at r.depth (c.deref-6.ensures.value i)
    ((c.in_ok-values.ensures.items ∙ c.deref-5.ensures) i)) (c.in_ok-meetings.ensures i)).least))

pub are_independent-requires-clause-write : goal.are_independent-requires-clause-write
are_independent-requires-clause-write c x =
    let r = c.args.region.now in
    c.requires.write x
    ∙ ap (λ (ts : List Touch). writes ts x) (sym (turns_touch_all r.depth r.body.items c.args.loops.now.values.items))
    ∙ (λ i. writes (flat_map turn_touches (turns_at r.depth (sym c.deref-3.ensures.value i) (sym c.deref-4.ensures i))) x)
