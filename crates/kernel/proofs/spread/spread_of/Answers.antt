use Rattle.std.proofs.Common.{◌≡◌, ◌-◌, suc, List, [], rules, sym, ap, subst, ◌∙◌, arith}
use Rattle.std.specs.Prelude.{IsSome, slice_index}
use Rattle.base.specs.declared.tree.Region.{Region}
use Rattle.base.specs.declared.tree.Stmt.{Stmt}
use Rattle.base.specs.Meaning.{run_region}
use Rattle.base.specs.Turns.{Independent, only_loop, turns_at}
use Rattle.kernel.specs.Rows.{cells_of}
use Rattle.kernel.proofs.Spreads.{may_whole}
use Rattle.kernel.proofs.spread.spread_of.Goals as goal

pub returns-clause-may : goal.returns-clause-may
returns-clause-may c =
    let r = c.region-region.result.now in
    let f = c.args.frame.now in
    let depth : r.depth ≡ suc (r.depth - 1) = omega (arith, c.if-region-eq0.false) in
    let empty : f.input.now ≡ [] = search (rules) in
    may_whole r f c.in_ok-bounds.bounds c.in_ok-bounds.body.now
    (ap (λ (all : List Stmt). only_loop all) (sym c.deref.ensures.value) ∙ c.in_ok-bounds.ensures) empty (r.depth - 1) depth
    (subst (λ (x : Region). IsSome (run_region x f.loops.now.values.items (cells_of f.rows.items) (slice_index f.scalars) f.input.now))
    (sym c.region-region.ensures) c.requires.runs)
    (subst (λ (x : Region). Independent (turns_at x.depth x.body.items f.loops.now.values.items))
    (sym c.region-region.ensures) c.requires.apart)
