use Rattle.std.proofs.Common.{ℕ, List, subst}
use Rattle.std.specs.Prelude.{slice_index}
use Rattle.kernel.specs.Forms.{IsForm}
use Rattle.kernel.proofs.walk.some_turns.Goals as goal

pub in_blocks-requires-clause-form : goal.in_blocks-requires-clause-form
in_blocks-requires-clause-form c =
    let form = c.in-Some.form in
    let body = c.args.body.now in
    let numbers = c.deref-then-is_long.result.now in
    subst (λ (xs : List ℕ). IsForm (slice_index xs) c.args.m.now.loops.items body form) c.deref-then-is_long.ensures
    (subst (λ (ls : List ℕ). IsForm (slice_index numbers) ls body form) c.deref.ensures.value c.in-Some.ensures.form)
