use Rattle.std.proofs.Common.{◌≡◌, ℕ}
use Rattle.std.specs.Prelude.{not, ◌&&◌, ◌||◌}
use Rattle.bits.specs.Sets.{has}
use Rattle.ranges.specs.Slides.{is_turn}
use Rattle.ranges.proofs.Outcomes.{either}
use Rattle.ranges.proofs.Runs.{run_kept, run_same}
use Rattle.ranges.proofs.row.Row.add_turns_unless.Goals as goal

pub invariant_of-self : goal.invariant_of-self
invariant_of-self c =
    let row = c.args.self.now in
    let old = row.cells in
    let new = c.mark_turns_unless.new.row in
    let more = λ (i : ℕ). is_turn c.args.cells i && not (has c.args.excluded.now i) in
    record {
      covered = either c.mark_turns_unless.result c.mark_turns_unless.ensures.ok c.mark_turns_unless.ensures.err
          (λ (e : has new ≡ (λ i. has old i || (is_turn c.args.cells i && not (has
          c.args.excluded.now i)))). run_kept old new row.first row.end more row.covered e)
          (λ (e : has new ≡ has old). run_same old new row.first row.end row.covered e);
    }
