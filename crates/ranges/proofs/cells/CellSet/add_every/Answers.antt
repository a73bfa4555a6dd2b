use Rattle.std.proofs.Common.{◌≡◌, refl, ap, ◌∙◌}
use Rattle.std.specs.Prelude.{◌&&◌, ◌||◌}
use mathlib.Core.Path.{fun_ext}
use Rattle.base.specs.declared.item.Cell.{Cell}
use Rattle.bits.specs.Sets.{has as has_number}
use Rattle.ranges.specs.Slides.{is_in_turn, is_turn}
use Rattle.std.proofs.Math.Bool.{or-false}
use Rattle.ranges.proofs.Sets.{row_changed}
use Rattle.ranges.proofs.Outcomes.{mapped_ok, mapped_err, always_err}
use Rattle.ranges.proofs.cells.CellSet.add_every.Goals as goal

pub returns-in_err-reach-clause-err : goal.returns-in_err-reach-clause-err
returns-in_err-reach-clause-err c = always_err c.from_residual.result
    c.reach.ensures.same

pub returns-clause-err : goal.returns-clause-err
returns-clause-err c =
    let old = c.index_mut.result.now in
    let new = c.add_turns.new.self in
    mapped_err c.add_turns.result c.add_turns.ensures.err
    (λ (e : has_number new.cells ≡ has_number old.cells).
    fun_ext (λ (d : Cell).
    row_changed c.reach.new.self.none c.reach.new.self.rows.items c.args.array old new (λ b k i m. m) c.in_ok-reach.ensures.long
    c.index_mut.ensures.value (λ k i m. refl) (λ i. ap (λ f. f i) e) d)
    ∙ c.in_ok-reach.ensures.same)

pub returns-clause-ok : goal.returns-clause-ok
returns-clause-ok c =
    let old = c.index_mut.result.now in
    let new = c.add_turns.new.self in
    let cells = c.args.cells in
    mapped_ok c.add_turns.result c.add_turns.ensures.ok
    (λ (e : has_number new.cells ≡ (λ i. has_number old.cells i || is_turn cells i)).
    fun_ext (λ (d : Cell).
    row_changed c.reach.new.self.none c.reach.new.self.rows.items c.args.array old new (λ b k i m. m || (b && is_turn cells i))
    c.in_ok-reach.ensures.long c.index_mut.ensures.value (λ k i m. or-false m) (λ i. ap (λ f. f i) e) d)
    ∙ ap (λ f (d : Cell). f d || is_in_turn c.args.array cells d) c.in_ok-reach.ensures.same)
