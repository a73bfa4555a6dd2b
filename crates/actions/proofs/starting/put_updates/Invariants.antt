use Rattle.std.proofs.Common.{◌≤◌, length}
use Rattle.actions.specs.Rest.{frames_of}
use Rattle.actions.proofs.Puts.{From}
use Rattle.actions.proofs.starting.put_updates.Given as goal

abbrev pub invariant-sections : goal.invariant-sections
invariant-sections l = record {
  bound : l.first ≤ length l.maps;
  done : From l.table l.maps l.first (frames_of l.initial.frames) (frames_of l.frames);
}

abbrev pub decreases-sections : goal.decreases-sections
decreases-sections l = l.first
