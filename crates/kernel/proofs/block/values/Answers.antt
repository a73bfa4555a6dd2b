use Rattle.std.proofs.Common.{◌≡◌, ℕ, List, length, sym, ap, subst, arith}
use Rattle.std.proofs.lemmas.List.{with_items_is}
use Rattle.kernel.specs.Lanes.{AreNumbersOf, block_of}
use Rattle.kernel.specs.declared.turns.Reads.{Reads}
use Rattle.kernel.proofs.BlockLanes.{numbers_of}
use Rattle.kernel.proofs.block.values.Goals as goal

pub returns-clause-values : goal.returns-clause-values
returns-clause-values c =
    let b : Reads = record { at = c.args.at; lanes = c.args.lanes; rows = c.args.rows } in
    let l = c.in_ok-out.out.ok.0 in
    let n = c.in_ok-out.ensures.len in
    let e = c.eval.ensures.size in
    let v = ap length c.deref_mut.ensures.value in
    let same = with_items_is c.in_ok-out.out c.eval.new.out (omega arith) in
    let size : length c.eval.new.out ≡ c.args.at.now.count = omega arith in
    subst (λ (ys : List ℕ). AreNumbersOf c.args.at.now c.args.e.now (block_of c.args.at.now c.args.lanes.now c.args.rows.now) ys) (sym same)
    (numbers_of b c.args.e.now c.eval.new.out c.requires.there size c.in_ok-eval.ensures.values)
