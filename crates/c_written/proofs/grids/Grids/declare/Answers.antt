use Rattle.std.proofs.Common.{◌∙◌, ap, sym}
use Rattle.std.specs.Option.{is_some, option_map}
use Rattle.c_terminals.specs.Ahead.{ahead}
use Rattle.c_written.specs.Grids.{seen_array}
use Rattle.c_written.proofs.Flattening.{declared_anyway}
use Rattle.c_written.proofs.grids.Grids.declare.Goals as goal

pub put_declaration-requires : goal.put_declaration-requires
put_declaration-requires c =
    declared_anyway c.args.deep (ahead c.args.start)
    (sym (ap is_some (ap (λ o. option_map seen_array o) (sym c.in-Some.is) ∙ c.declared.ensures.value)))
