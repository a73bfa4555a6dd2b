-- Jobs that are sent one after another.
use Rattle.std.proofs.Common.{ℕ, ◌-◌, ◌≤◌, List, Option}
use Rattle.device.specs.declared.jobs.Job.{Job}
use Rattle.host.specs.Looks.{HaveSent}

-- since as many items were open as n and these jobs were sent, one job was sent for each that is open more
pub record IsSending (n : ℕ) (first : Option (List Job)) (now : ℕ) (jobs : Option (List Job)) : Type 0 where
  pub least : n ≤ now
  pub sent : HaveSent first (now - n) jobs
