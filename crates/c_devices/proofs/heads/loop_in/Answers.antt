use Rattle.std.proofs.Common.{◌∙◌}
use Rattle.c_devices.proofs.Heading.{head_of}
use Rattle.c_devices.proofs.heads.loop_in.Goals as goal

pub returns : goal.returns
returns c =
    c.loop_of.ensures
    ∙ head_of c.args.rest.now c.name-item.result c.first-item.result c.end-item.result c.step-item.result _ _ _ _
    c.in-len13-up.len_at_least c.name-item.is c.first-item.is c.end-item.is c.step-item.is c.name_of-name.ensures
    c.value_of-first.ensures c.value_of-end.ensures c.value_of.ensures
