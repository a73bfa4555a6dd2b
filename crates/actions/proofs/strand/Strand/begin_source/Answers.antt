use Rattle.std.proofs.Common.{arith, refl}
use Rattle.std.proofs.lemmas.Grind.{common_steps}
use Rattle.actions.proofs.Sources.{begins_at, begins_read, begins_value, read_none, read_some}
use Rattle.actions.specs.Strand.{run_of}
use Rattle.actions.proofs.strand.Strand.begin_source.Goals as goal

pub returns-in_ok-self-in-Value : goal.returns-in_ok-self-in-Value
returns-in_ok-self-in-Value c =
    begins_value c.args.v.now c.in-Value.e c.args.frame c.args.self.now _ c.in-Value.is
    (begins_at c.in-Value.e c.args.frame c.args.self.now c.begin_expr.new.frames c.in_ok-self-in-Value.field-0 _ _ _ c.deref.ensures.value
    refl c.in_ok-push.ensures.pushed c.in_ok-self-in-Value.ensures)

pub returns-in-empty : goal.returns-in-empty
returns-in-empty c = begins_read c.args.v.now c.args.frame c.args.self.now c.push.new.self 0 _ c.in-Read.is c.in_ok-push.ensures.pushed
    (read_none (run_of c.args.self.now) c.in-empty.len_below)

pub returns-in-len1-up : goal.returns-in-len1-up
returns-in-len1-up c = begins_read c.args.v.now c.args.frame c.args.self.now c.push.new.self _ _ c.in-Read.is c.in_ok-push.ensures.pushed
    (read_some (run_of c.args.self.now) _ c.in-len1-up.len_at_least (grind (arith, common_steps)))
