use Rattle.std.proofs.Common.{◌≡◌, ◌+◌, ◌<◌, ℕ, Option, length, sym, ap, subst, ◌∙◌, arith}
use Rattle.bits.specs.Sets.{has as has_number}
use Rattle.ranges.specs.Ways.{cell_in, touched_in}
use Rattle.ranges.proofs.FirstOpposed.{found_first}
use Rattle.ranges.proofs.OpposedSets.{IsFirstOpposed, none_opposed, opposed_more, opposed_same, touched_at}
use Rattle.ranges.proofs.met.Meetings.first_opposed.Goals as goal
use Rattle.ranges.proofs.met.Meetings.first_opposed.Goals.{then-opposes, else-opposes}

pub loop-earlier-init : goal.loop-earlier-init
loop-earlier-init c = none_opposed c.args.way c.args.array c.args.cells (touched_in c.args.self.now.touched.items)

pub loop-earlier-preserved : goal.loop-earlier-preserved
loop-earlier-preserved c =
    let m = c.args.self.now in
    let k = c.loop-earlier.earlier in
    let touched = touched_in m.touched.items in
    elim c.if-opposes.branch [
      | then-opposes w ↦
          let each = m.each in
          let inside : k < length m.touched.items = let test = c.loop-earlier-test.true in omega (arith, each, test) in
          subst (λ (o : Option ℕ). IsFirstOpposed c.args.way c.args.array c.args.cells touched (k + 1) o)
          (sym (w.first-is ∙ w.lesser_number-first.ensures))
          (opposed_more c.args.way c.args.array c.args.cells touched k (has_number w.row.result.now) c.loop-earlier.first
          w.first_within.result
          (λ i. ap (λ s. has_number s i) w.row.ensures
          ∙ sym (touched_at m.touched.items k w.index.result.now inside w.index.ensures (cell_in c.args.array i)))
          (sym c.opposes.ensures ∙ w.if-opposes.true) c.loop-earlier.invariant w.first_within.ensures)
      | else-opposes w ↦
          subst (λ (o : Option ℕ). IsFirstOpposed c.args.way c.args.array c.args.cells touched (k + 1) o) (sym w.first-is)
          (opposed_same c.args.way c.args.array c.args.cells touched k c.loop-earlier.first
          (sym c.opposes.ensures ∙ w.if-opposes.false) c.loop-earlier.invariant)
    ]

pub returns : goal.returns
returns c =
    let touched = touched_in c.args.self.now.touched.items in
    let low = c.loop-earlier-test.false in
    let high = c.loop-earlier.auto.earlier-end in
    let end : c.loop-earlier.earlier ≡ 9 = omega (arith, low, high) in
    found_first c.args.way c.args.array c.args.cells touched c.loop-earlier.first
    (subst (λ (n : ℕ). IsFirstOpposed c.args.way c.args.array c.args.cells touched n c.loop-earlier.first) end
    c.loop-earlier.invariant)
