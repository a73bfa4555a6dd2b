-- How an ending with the status of a refusal is one.
use Rattle.std.proofs.Common.{◌≡◌}
use Rattle.base.specs.declared.fault.SourceFault.{SourceFault}
use Rattle.driver.specs.declared.ending.Ending.{Ending}
use Rattle.driver.specs.declared.ending.Ending.TheVariants as ending
use Rattle.driver.specs.Refused.{IsRefusal, IsRefusalBy}
use Rattle.driver.specs.Statuses.{status_of}

pub refused_by : (P : SourceFault → Type 0) (e : Ending) → IsRefusalBy P e → status_of e ≡ 1 → IsRefusal P
refused_by P (ending.Source f) h s = record { fault = f; refuses = s; is = h s }
refused_by P ending.Refused h s = h
refused_by P ending.BadChoices h s = absurd cc
refused_by P ending.BadTurns h s = absurd cc
refused_by P ending.BadFormat h s = absurd cc
refused_by P ending.BadColor h s = absurd cc
refused_by P ending.BadMaps h s = absurd cc
refused_by P (ending.Unreadable name) h s = absurd cc
refused_by P ending.BadInput h s = absurd cc
refused_by P ending.OutOfMemory h s = absurd cc
