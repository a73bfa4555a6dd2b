use Rattle.std.proofs.Common.{◌≡◌, Some, rules}
use Rattle.c_written.specs.declared.blocks.Open.TheVariants as opens
use Rattle.c_written.specs.Stack.{held, item_at}
use Rattle.c_written.proofs.Blocking.{on_ok, read_head}
use Rattle.c_written.proofs.blocks.Blocks.read.Goals as goal

pub returns-in-Some-clause-reading : goal.returns-in-Some-clause-reading
returns-in-Some-clause-reading c =
    let first : item_at 0 (held c.args.self.now.levels) ≡ Some (opens.Head c.in-Some.choice c.in-Some.brackets) = search rules in
    on_ok c.in_head.result _ _ (λ h. read_head _ _ _ _ _ _ first h) c.in_head.ensures.reading
