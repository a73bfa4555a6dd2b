use Rattle.std.proofs.Common.{◌≡◌}
use Rattle.std.specs.Prelude.{◌||◌}
use Rattle.bits.specs.Sets.{has}
use Rattle.ranges.specs.Slides.{is_turn}
use Rattle.ranges.proofs.Outcomes.{either}
use Rattle.ranges.proofs.Runs.{run_kept, run_same}
use Rattle.ranges.proofs.row.Row.add_turns.Goals as goal

pub invariant_of-self : goal.invariant_of-self
invariant_of-self c =
    let row = c.args.self.now in
    let old = row.cells in
    let new = c.mark_turns.new.row in
    record {
      covered = either c.mark_turns.result c.mark_turns.ensures.ok c.mark_turns.ensures.err
          (λ (e : has new ≡ (λ i. has old i || is_turn c.args.cells i)).
          run_kept old new row.first row.end (is_turn c.args.cells) row.covered e)
          (λ (e : has new ≡ has old). run_same old new row.first row.end row.covered e);
    }
