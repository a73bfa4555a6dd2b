use Rattle.std.proofs.Common.{ℕ, List, ap, arith, refl, sym, subst}
use Rattle.std.specs.Prelude.{length, slice_index}
use Rattle.std.proofs.lemmas.List.{with_items_is}
use Rattle.kernel.specs.Forms.{IsForm}
use Rattle.kernel.proofs.WalkedLoops.{blocks_can, blocks_done}
use Rattle.kernel.proofs.walk.in_blocks.Goals as goal

pub blocks-requires-clause-form : goal.blocks-requires-clause-form
blocks-requires-clause-form c =
    subst (λ (xs : List ℕ). IsForm (slice_index xs) c.deref.result.now c.args.body.now c.args.form) (sym c.deref_mut.ensures.value)
    (subst (λ (ls : List ℕ). IsForm (slice_index c.args.m.now.scalars.value) ls c.args.body.now c.args.form) (sym c.deref.ensures.value)
    c.requires.form)

pub blocks-requires-clause-turns : goal.blocks-requires-clause-turns
blocks-requires-clause-turns c =
    blocks_can c.args.bounds c.args.body.now c.args.m.now _ _ _ c.deref.ensures.value c.deref_mut.ensures.value
    c.deref_mut-2.ensures.value c.requires.step c.requires.can

pub returns : goal.returns
returns c =
    blocks_done c.args.bounds c.args.body.now c.args.m.now _ _ _ c.deref.ensures.value c.deref_mut.ensures.value
    c.deref_mut-2.ensures.value c.requires.step _ c.blocks-2.new.rows c.in_ok-blocks.ensures
    (with_items_is c.args.m.now.rows c.blocks-2.new.rows
    (omega (arith, c.blocks-2.auto.rows, c.args.m.now.rows.ok.0, ap length c.deref_mut-2.ensures.value)))
    refl refl refl
