use Rattle.std.proofs.Common.{List, Bool, ◌-◌, ◌*◌, ◌<◌, ◌≤◌, length, ap, subst, sym, ◌∙◌, arith}
use Rattle.std.specs.Prelude.{slice_get}
use Rattle.std.proofs.lemmas.Grind.{get_or_default_zero}
use Rattle.taskgraph.specs.Marks.{AreCounted, is_marked, those_from}
use Rattle.taskgraph.proofs.NthMarks.{at_row, past_all, past_row}
use Rattle.taskgraph.proofs.Rows.{to_end}
use Rattle.taskgraph.proofs.marks.Marks.nth.Goals as goal

pub returns-then-left-count : goal.returns-then-left-count
returns-then-left-count c =
    let m = c.self.inside in
    let marks = c.args.self.now in
    let r = c.loop-row.row in
    let row : r < length m.counts.items = omega (arith, c.loop-row-test.true, c.len-row-end.ensures, m.counts.ok.0) in
    let inside : 256 * r ≤ length m.marks.items = omega (arith, row, c.self.invariant.few) in
    let fits : 256 * r ≤ length marks = subst (λ (l : List Bool). 256 * r ≤ length l) c.self.view_is inside in
    let h = subst (λ (l : List Bool). AreCounted l m.counts.items m.len) c.self.view_is c.self.invariant in
    let count = c.index-count.ensures ∙ get_or_default_zero m.counts.items r c.index-count.result.now row in
    c.marked_at.ensures
    ∙ ap (λ l. slice_get (those_from (is_marked l) (256 * r) (c.end_of.result - 256 * r)) c.loop-row.left)
    (c.deref.ensures.value ∙ c.self.view_is)
    ∙ ap (λ l. slice_get l c.loop-row.left) (to_end marks (256 * r) 256 c.end_of.result (omega (arith, c.end_of.ensures, fits)) c.end_of.ensures)
    ∙ at_row marks m.counts.items m.len r c.loop-row.left c.args.place h c.loop-row.invariant row
    (omega (arith, c.if-left-count.true, count))

pub loop-row-preserved : goal.loop-row-preserved
loop-row-preserved c =
    let m = c.self.inside in
    let r = c.loop-row.row in
    let row : r < length m.counts.items = omega (arith, c.loop-row-test.true, c.len-row-end.ensures, m.counts.ok.0) in
    let h = subst (λ (l : List Bool). AreCounted l m.counts.items m.len) c.self.view_is c.self.invariant in
    let count = c.index-count.ensures ∙ get_or_default_zero m.counts.items r c.index-count.result.now row in
    let next = past_row c.args.self.now m.counts.items m.len r c.loop-row.left c.args.place h c.loop-row.invariant row
    (omega (arith, c.if-left-count.false, count)) in
    omega (arith, next, count)

pub returns : goal.returns
returns c =
    let m = c.self.inside in
    let h = subst (λ (l : List Bool). AreCounted l m.counts.items m.len) c.self.view_is c.self.invariant in
    sym (past_all c.args.self.now m.counts.items m.len c.loop-row.row c.loop-row.left c.args.place h c.loop-row.invariant
    (omega (arith, c.loop-row-test.false, c.len-row-end.ensures, m.counts.ok.0)))
