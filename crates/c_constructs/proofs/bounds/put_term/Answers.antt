use Rattle.std.proofs.Common.{refl}
use Rattle.c_constructs.proofs.Terms.{added_read, taken_read}
use Rattle.c_constructs.proofs.bounds.put_term.Goals as goal

pub returns-in_ok-push-in-Added : goal.returns-in_ok-push-in-Added
returns-in_ok-push-in-Added c = λ names b t h i.
    rw c.in-Added.is (added_read names c.args.read.now _ c.args.term b t c.in_ok-push-in-Added.ensures.ok refl h i)

pub returns-in_ok-push-in-Taken : goal.returns-in_ok-push-in-Taken
returns-in_ok-push-in-Taken c = λ names b t h i.
    rw c.in-Taken.is (taken_read names c.args.read.now _ c.args.term b t refl c.in_ok-push-in-Taken.ensures.ok h i)
