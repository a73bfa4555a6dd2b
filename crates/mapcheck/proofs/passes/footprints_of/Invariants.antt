use Rattle.base.specs.Items.{plan}
use Rattle.mapwalk.specs.Footprints.{AreFirstFootprints}
use Rattle.mapwalk.specs.Found.{all_found}
use Rattle.mapcheck.proofs.FirstFaults.{NoneBelow}
use Rattle.mapcheck.proofs.passes.footprints_of.Given as goal

abbrev pub invariant-items : goal.invariant-items
invariant-items l = record {
  none : NoneBelow (plan l.outlined) l.number;
  found : AreFirstFootprints (plan l.outlined) l.number (all_found l.found);
}
