use Rattle.std.proofs.Common.{List, suc, ◌-◌, ◌∷◌, ◌++◌, [], sym, ap, ◌∙◌, take, drop, arith}
use Rattle.ranges.specs.declared.access.Access.{Access}
use Rattle.ranges.specs.Seen.{after, seen_in}
use Rattle.ranges.specs.Straight.{turns_at}
use Rattle.ranges.proofs.LeftOut.{access_left_out, settled_in_turns}
use Rattle.ranges.proofs.SlideOrder.{split_at}
use Rattle.ranges.proofs.state.Walk.leave_settled.Goals as goal

pub loop-i-preserved-then-settles_access : goal.loop-i-preserved-then-settles_access
loop-i-preserved-then-settles_access c =
    let lengths = c.args.lengths.now in
    let seen = seen_in c.args.self.now in
    let b = c.args.bounds in
    let loops = c.args.loops.now in
    let old = c.loop-i.accesses.items in
    let i = c.loop-i.i in
    let a = c.index.result.now in
    record {
      rest =
          ap (λ (xs : List Access). after lengths (turns_at b.first b xs loops c.args.certain) seen) c.remove.ensures.items
          ∙ access_left_out lengths b loops c.args.certain (take i old) (drop (suc i) old) a seen
          c.args.self.now.known
          (settled_in_turns lengths b loops c.push.new.self.lows.items c.push.new.self.highs.items c.args.certain a seen
          (c.in_ok-push.ensures.lows ∙ ap (λ xs. xs ++ b.first ∷ []) c.in_ok-span.ensures.lows)
          (c.in_ok-push.ensures.highs ∙ ap (λ xs. xs ++ (b.end - 1) ∷ []) c.in_ok-span.ensures.highs)
          (c.settles_access.ensures c.if-settles_access.true))
          ∙ ap (λ (xs : List Access). after lengths (turns_at b.first b xs loops c.args.certain) seen)
          (sym (split_at old i a (omega (arith, c.loop-i-test.true, c.len.ensures)) c.index.ensures))
          ∙ c.loop-i.invariant.rest;
    }
