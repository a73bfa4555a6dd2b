-- The first section of a clause: what it names.
use Rattle.std.proofs.Common.{◌≡◌, ◌++◌, ◌∙◌}
use Rattle.c_expressions.specs.declared.scope.Scope.{Scope}
use Rattle.directives.specs.declared.fault.DirectiveFault.{DirectiveFault}
use Rattle.directives.specs.declared.tree.Sections.{Sections}
use Rattle.directives.specs.Names.{Uses, each_names, section_names, sections_names}
use Rattle.directives.specs.Reading.{Failed}
use Rattle.c_constructs.specs.Uses.{fault_in}
use Rattle.c_constructs.proofs.NameSteps.{rest, two_names}
use Rattle.directives.proofs.Outcomes.{failed_from}

first_then : (s : Scope) (ss : Sections) (us : Uses) → fault_in s (sections_names ss ++ us) ≡ fault_in s
    (section_names ss.first ++ rest section_names ss.more.items 0 us)
first_then s ss us = two_names s (section_names ss.first) (each_names section_names ss.more.items) us

-- a fault of the first section's names is that of all
pub first_failed : (s : Scope) (ss : Sections) (us : Uses) (e : DirectiveFault) →
    Failed e (fault_in s (section_names ss.first ++ rest section_names ss.more.items 0 us)) →
    Failed e (fault_in s (sections_names ss ++ us))
first_failed s ss us e h = failed_from e _ _ (first_then s ss us) h

-- where the first section's names have no fault, that of all is behind them
pub first_read : (s : Scope) (ss : Sections) (us : Uses) →
    fault_in s (section_names ss.first ++ rest section_names ss.more.items 0 us) ≡ fault_in s
    (rest section_names ss.more.items 0 us) →
    fault_in s (sections_names ss ++ us) ≡ fault_in s (rest section_names ss.more.items 0 us)
first_read s ss us h = first_then s ss us ∙ h
