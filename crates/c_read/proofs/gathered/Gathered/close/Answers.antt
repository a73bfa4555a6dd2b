use Rattle.std.proofs.Common.{arith, refl, ap, ◌∙◌}
use Rattle.c_read.proofs.Emptiness.{not_empty}
use Rattle.c_read.proofs.Gathering.{closes_run}
use Rattle.c_read.proofs.gathered.Gathered.close.Goals as goal

pub returns : goal.returns
returns c =
    let run = c.args.self.now.run in
    closes_run c.args.self.now _ (record { place = c.args.self.now.place; body = c.replace-body.result; depth = 0 }) refl
    (ap (λ v. v.items) c.replace-body.ensures.value) refl
    (not_empty run.items run.len c.is_empty.result c.is_empty.ensures (omega (arith, run.ok.0)) c.if-is_empty.false)
    c.in_ok-push.ensures.items (ap (λ v. v.items) c.replace-body.ensures.after ∙ c.new.ensures.items)
