use Rattle.std.proofs.Common.{◌≡◌, ◌+◌, refl, rules}
use Rattle.c_written.proofs.Reducing.{taken}
use Rattle.c_written.proofs.expressions.Reader.take.Goals as goal

pub returns : goal.returns
returns c =
    let count : c.in_ok-self.field-0 ≡ c.step.new.self.count + 1 = search rules in
    λ is. taken c.args.self.now c.step.new.self _ _ is c.in_ok-going.going c.in_ok-going.ensures.goes c.in_ok-going.ensures.kept
    refl refl refl refl count
