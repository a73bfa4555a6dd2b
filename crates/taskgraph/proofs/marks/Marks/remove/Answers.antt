use Rattle.std.proofs.Common.{◌≡◌, ◌-◌, ◌*◌, ◌/◌, List, Bool, false, true, length, ap, subst, sym, ◌∙◌, arith}
use Rattle.std.proofs.lemmas.Grind.{get_or_default_zero}
use Rattle.taskgraph.specs.Marks.{is_marked}
use Rattle.taskgraph.specs.Waiting.{one_if}
use Rattle.taskgraph.proofs.Rows.{counted_here, counted_set, marked_inside, row_inside}
use Rattle.taskgraph.proofs.marks.Marks.remove.Goals as goal

pub overflow_sub-index_mut : goal.overflow_sub-index_mut
overflow_sub-index_mut c =
    let m = c.self.inside in
    let i = c.args.item in
    let here : is_marked m.marks.items i ≡ true = subst (λ (l : List Bool). is_marked l i ≡ true) (sym c.self.view_is) c.requires in
    let row = row_inside m.marks.items m.counts.items m.len i c.self.invariant (marked_inside m.marks.items i here) in
    let is = c.index_mut-2.ensures.value ∙ get_or_default_zero m.counts.items (i / 256) c.index_mut-2.result.now row in
    let some = counted_here (is_marked m.marks.items) (256 * (i / 256)) 256 i (omega arith) (omega arith) here in
    omega (arith, is, c.self.invariant.each (i / 256) row, some)

pub overflow_sub-self : goal.overflow_sub-self
overflow_sub-self c =
    let m = c.self.inside in
    let i = c.args.item in
    let here : is_marked m.marks.items i ≡ true = subst (λ (l : List Bool). is_marked l i ≡ true) (sym c.self.view_is) c.requires in
    let inside = marked_inside m.marks.items i here in
    let some = counted_here (is_marked m.marks.items) 0 (length m.marks.items) i (omega arith) (omega (arith, inside)) here in
    omega (arith, c.self.invariant.all, some)

pub invariant_of-self : goal.invariant_of-self
invariant_of-self c =
    let m = c.self.inside in
    let i = c.args.item in
    let here : is_marked m.marks.items i ≡ true = subst (λ (l : List Bool). is_marked l i ≡ true) (sym c.self.view_is) c.requires in
    let inside = marked_inside m.marks.items i here in
    let row = row_inside m.marks.items m.counts.items m.len i c.self.invariant inside in
    let is = c.index_mut-2.ensures.value ∙ get_or_default_zero m.counts.items (i / 256) c.index_mut-2.result.now row in
    let one : one_if (is_marked m.marks.items i) ≡ 1 = ap one_if here in
    let some = counted_here (is_marked m.marks.items) (256 * (i / 256)) 256 i (omega arith) (omega arith) here in
    let any = counted_here (is_marked m.marks.items) 0 (length m.marks.items) i (omega arith) (omega (arith, inside)) here in
    counted_set m.marks.items m.counts.items m.len i (c.index_mut-2.result.now - 1) (m.len - 1) false c.self.invariant inside
    (omega (arith, is, one, c.self.invariant.each (i / 256) row, some)) (omega (arith, one, c.self.invariant.all, any))
