use Rattle.std.proofs.Common.{refl, subst, arith}
use Rattle.actions.specs.Opening.{IsRegion}
use Rattle.actions.proofs.starting.kernel_of.Goals as goal

pub returns : goal.returns
returns c r is = record {
  kind = c.in-Target.is;
  region = c.in-Some.region.now;
  is = subst (λ o. IsRegion o r) c.in-Some.is is;
  deep = omega (arith, c.if-region-eq0.false);
  depth = refl;
  body = c.deref.ensures.value;
  loops = c.deref-2.ensures;
  next = refl;
  exits = c.deref-3.ensures;
}
