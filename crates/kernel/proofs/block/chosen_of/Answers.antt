use Rattle.std.proofs.Common.{ℕ, Bool, List, length, sym, ap, subst, arith}
use Rattle.std.specs.Prelude.{◌&&◌, not, slice_index}
use Rattle.std.proofs.lemmas.List.{with_items_is}
use Rattle.base.specs.Value.{is_zero}
use Rattle.kernel.specs.Lanes.{takes_part}
use Rattle.kernel.specs.Masks.{IsMask, Narrowed}
use Rattle.kernel.proofs.MaskRows.{narrowed_mask}
use Rattle.kernel.proofs.block.chosen_of.Goals as goal

pub returns : goal.returns
returns c =
    let holds : ℕ → Bool = λ k. not (is_zero (slice_index c.args.numbers.now k)) in
    let l = c.in_ok-mask.mask.ok.0 in
    let e = c.keep_true.ensures.size in
    let v = ap length c.deref_mut.ensures.value in
    let same = with_items_is c.in_ok-mask.mask c.keep_true.new.mask (omega arith) in
    subst (λ (ys : List Bool). IsMask c.args.at.now.count (λ k. takes_part c.args.at.now k && holds k) ys) (sym same)
    (narrowed_mask c.args.at.now.count (takes_part c.args.at.now) holds c.in_ok-mask.mask.items c.keep_true.new.mask c.in_ok-mask.ensures
    (subst (λ (xs : List Bool). Narrowed holds xs c.keep_true.new.mask) c.deref_mut.ensures.value c.keep_true.ensures))
