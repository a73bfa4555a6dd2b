use Rattle.std.proofs.Common.{◌≡◌, ℕ, List, Vec, Global, sym, subst, ap, ◌∙◌, arith}
use Rattle.std.specs.Prelude.{cond}
use Rattle.ranges.specs.declared.access.Access.{Access}
use Rattle.ranges.specs.Seen.{after, seen_in}
use Rattle.ranges.specs.Straight.{turns_at}
use Rattle.ranges.proofs.SplitTurns.{split_noted}
use Rattle.ranges.proofs.StraightTouches.{no_turn_noted}
use Rattle.ranges.proofs.state.Walk.note_loop.Goals as goal
use Rattle.ranges.proofs.state.Walk.note_loop.Goals.{then-rest+in_ok-leave_settled, else-rest}

pub returns-then-branch-clause-seen : goal.returns-then-branch-clause-seen
returns-then-branch-clause-seen c =
    let lengths = c.args.lengths.now in
    let b = c.loop-rest.rest in
    let seen = seen_in c.loop-rest.self in
    c.in_ok-note_at_once.ensures
    ∙ ap (λ d. cond d (after lengths (turns_at b.first b c.deref.result.now c.deref-in-loop-rest.result.now c.args.certain) seen) seen)
    c.if-branch.true
    ∙ ap (λ (xs : List Access). after lengths (turns_at b.first b xs c.deref-in-loop-rest.result.now c.args.certain) seen)
    c.deref.ensures.value
    ∙ ap (λ (ls : List ℕ). after lengths (turns_at b.first b c.loop-rest.accesses.items ls c.args.certain) seen)
    (c.deref-in-loop-rest.ensures.value ∙ c.loop-rest.invariant.loops)
    ∙ c.loop-rest.invariant.rest

pub loop-rest-preserved : goal.loop-rest-preserved
loop-rest-preserved c =
    let lengths = c.args.lengths.now in
    let loops = c.args.loops.now.items in
    let b = c.loop-rest.rest in
    let later = c.split.result.1 in
    let before = seen_in c.loop-rest.self in
    let tried = seen_in c.note_at_once.new.self in
    let seen = seen_in c.note_turns.new.self in
    let same = c.in_ok-note_turns.ensures.loops ∙ c.loop-rest.invariant.loops in
    let still : tried ≡ before =
    c.in_ok-note_at_once.ensures
    ∙ ap (λ d. cond d (after lengths (turns_at b.first b c.deref.result.now c.deref-in-loop-rest.result.now c.args.certain) before) before)
    c.if-branch.false in
    let noted =
    split_noted lengths b c.split.result.0 later c.loop-rest.turns c.loop-rest.accesses.items loops
    c.loop-rest.loops.items c.args.certain tried seen c.split.ensures c.loop-rest.invariant.loops
    (c.in_ok-note_turns.ensures.seen
    ∙ ap (λ (xs : List Access). after lengths (turns_at c.split.result.0.first c.split.result.0 xs c.loop-rest.loops.items c.args.certain) tried)
    c.deref-in-loop-rest-2.ensures.value)
    ∙ ap (after lengths (turns_at b.first b c.loop-rest.accesses.items loops c.args.certain)) still in
    record {
      loops = same;
      turns = omega (arith, c.saturating_mul-turns.ensures, c.loop-rest.invariant.turns);
      rest =
          elim c.if-rest.branch [
            | then-rest+in_ok-leave_settled w ↦
                ap (λ (xs : Vec Access Global). after lengths (turns_at later.first later xs.items loops c.args.certain) seen) w.accesses-is
                ∙ subst (λ (ls : List ℕ). after lengths (turns_at later.first later w.leave_settled.new.accesses.items ls c.args.certain) seen
                ≡ after lengths (turns_at later.first later c.loop-rest.accesses.items ls c.args.certain) seen)
                (w.deref-then-rest.ensures.value ∙ same) w.in_ok-leave_settled.ensures
                ∙ noted
            | else-rest w ↦
                ap (λ (xs : Vec Access Global). after lengths (turns_at later.first later xs.items loops c.args.certain) seen) w.accesses-is
                ∙ noted
          ]
          ∙ c.loop-rest.invariant.rest;
    }

pub returns-clause-seen : goal.returns-clause-seen
returns-clause-seen c =
    sym (ap (λ ts. after c.args.lengths.now ts (seen_in c.loop-rest.self))
    (no_turn_noted c.loop-rest.rest.first c.loop-rest.rest c.loop-rest.accesses.items c.args.loops.now.items c.args.certain
    c.loop-rest-test.false))
    ∙ c.loop-rest.invariant.rest
