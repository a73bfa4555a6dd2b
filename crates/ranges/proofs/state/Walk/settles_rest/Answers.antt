use Rattle.std.proofs.Common.{List, sym, subst}
use Rattle.base.specs.Footprint.{Touch}
use Rattle.ranges.specs.Seen.{seen_in}
use Rattle.ranges.specs.Settled.{AllSettled}
use Rattle.ranges.proofs.Walked.{no_turn_touches}
use Rattle.ranges.proofs.state.Walk.settles_rest.Goals as goal

pub returns-then-v-bounds : goal.returns-then-v-bounds
returns-then-v-bounds c holds =
    subst (λ (ts : List Touch). AllSettled c.args.lengths.now (seen_in c.args.self.now) ts)
    (sym (no_turn_touches c.args.v c.args.bounds c.args.body.now c.args.loops.now c.args.certain c.if-v-bounds.true)) tt
