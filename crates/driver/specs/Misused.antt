-- Why a command has the status of one that cannot be done as it was given.
use Rattle.std.specs.Prelude.{⊤, ℕ, ◌≡◌, ◌≢◌, ◌⊎◌, List, [], Option, None}
use Rattle.clap.specs.Faults.{fault_of}
use Rattle.command.specs.CommandLine.{AskedBy, ompc}
use Rattle.command.specs.declared.request.Request.{Request}
use Rattle.command.specs.declared.request.Request.TheVariants.{Run, Step, Check, Explain, Fix, Witness, View, List as Items}
use Rattle.driver.specs.Printed.{KnownSources, file_of}

-- the bytes of the source are not known, so it may be unreadable; or an input is read, which may be malformed; or a report is asked for in a
-- form that there is not
abbrev pub IsMisusedRequest : Request → Option (List ℕ) → Type 0
IsMisusedRequest (Run run) source = ⊤
IsMisusedRequest (Step step) source = ⊤
IsMisusedRequest (Check name) source = source ≡ None
IsMisusedRequest (Items name) source = source ≡ None
IsMisusedRequest (Explain explain) source = (source ≡ None) ⊎ ((explain.format ≡ None) ⊎ (explain.color ≡ None))
IsMisusedRequest (Fix name) source = source ≡ None
IsMisusedRequest (Witness name) source = ⊤
IsMisusedRequest (View name) source = source ≡ None

-- that is so of the request that the words ask for
pub record IsMisusedSource (words : List (List ℕ)) (sources : KnownSources) : Type 0 where
  pub request : Request
  pub asked : AskedBy words request
  pub misused : IsMisusedRequest request (sources (file_of request))

-- the words are no command, or one that cannot be done
abbrev pub IsMisused : List (List ℕ) → KnownSources → Type 0
IsMisused words sources = (fault_of ompc words ≢ []) ⊎ IsMisusedSource words sources
