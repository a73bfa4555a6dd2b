use Rattle.std.proofs.Common.{refl}
use Rattle.kernel.proofs.Spreads.{part_can, part_done}
use Rattle.kernel.proofs.part.run_part.Goals as goal

pub some_turns-requires : goal.some_turns-requires
some_turns-requires c =
    let o = c.args.of.now in
    part_can o.region.now o.frame.now o.bounds o.body.now o.is_spread c.args.bounds c.in_ok-m.m c.in_ok-m.ensures
    c.requires.runs

pub returns : goal.returns
returns c =
    let o = c.args.of.now in
    part_done o.region.now o.frame.now o.bounds o.body.now o.is_spread c.args.bounds c.in_ok-m.m c.in_ok-m.ensures
    c.some_turns.new.m _ c.requires.runs c.in_ok-some_turns.ensures refl refl refl
