use Rattle.std.proofs.Common.{List, Bool, ◌+◌, ◌-◌, ◌*◌, ◌/◌, ◌<◌, ◌≤◌, length, ap, subst, sym, ◌∙◌, arith}
use Rattle.std.specs.Prelude.{slice_get}
use Rattle.std.proofs.lemmas.Grind.{get_or_default_zero}
use Rattle.taskgraph.specs.Marks.{AreCounted, is_marked, those_from}
use Rattle.taskgraph.proofs.NextMarks.{next_in, next_in_row, none_counted, none_in_row, none_to_end}
use Rattle.taskgraph.proofs.Rows.{to_end}
use Rattle.taskgraph.proofs.marks.Marks.next.Goals as goal

pub returns-then-self-eq0 : goal.returns-then-self-eq0
returns-then-self-eq0 c j le =
    let m = c.self.inside in
    let h = subst (λ (l : List Bool). AreCounted l m.counts.items m.len) c.self.view_is c.self.invariant in
    none_counted c.args.self.now m.counts.items m.len h (omega (arith, c.if-self-eq0.true)) j

pub returns-then-is_some : goal.returns-then-is_some
returns-then-is_some c =
    let from = c.args.from in
    let here = c.marked_at-here.ensures
    ∙ ap (λ l. slice_get (those_from (is_marked l) from (c.end_of.result - from)) 0) (c.deref.ensures.value ∙ c.self.view_is) in
    next_in c.args.self.now from from (c.end_of.result - from) c.marked_at-here.result (omega arith)
    (λ j le lt. absurd (omega (arith, le, lt))) here (sym c.is_some.ensures ∙ c.if-is_some.true)

pub loop-later-init : goal.loop-later-init
loop-later-init c j le lt =
    let from = c.args.from in
    let here = c.marked_at-here.ensures
    ∙ ap (λ l. slice_get (those_from (is_marked l) from (c.end_of.result - from)) 0) (c.deref.ensures.value ∙ c.self.view_is) in
    none_to_end c.args.self.now from (256 * (from / 256) + 256) c.end_of.result c.marked_at-here.result c.end_of.ensures here
    (sym c.is_some.ensures ∙ c.if-is_some.false) j le (omega (arith, lt))

pub returns-then-index-gt0 : goal.returns-then-index-gt0
returns-then-index-gt0 c =
    let m = c.self.inside in
    let marks = c.args.self.now in
    let from = c.args.from in
    let r = c.loop-later.later in
    let row : r < length m.counts.items = omega (arith, c.loop-later-test.true, c.len-later-end.ensures, m.counts.ok.0) in
    let inside : 256 * r ≤ length m.marks.items = omega (arith, row, c.self.invariant.few) in
    let fits : 256 * r ≤ length marks = subst (λ (l : List Bool). 256 * r ≤ length l) c.self.view_is inside in
    let h = subst (λ (l : List Bool). AreCounted l m.counts.items m.len) c.self.view_is c.self.invariant in
    let count = c.index.ensures ∙ get_or_default_zero m.counts.items r c.index.result.now row in
    let end = c.end_of-then-index-gt0.result in
    let here = c.marked_at.ensures
    ∙ ap (λ l. slice_get (those_from (is_marked l) (256 * r) (end - 256 * r)) 0)
    (c.deref-then-index-gt0.ensures.value ∙ c.self.view_is)
    ∙ ap (λ l. slice_get l 0)
    (to_end marks (256 * r) 256 end (omega (arith, c.end_of-then-index-gt0.ensures, fits)) c.end_of-then-index-gt0.ensures) in
    next_in_row marks m.counts.items m.len from r c.marked_at.result h (omega (arith, c.loop-later.auto.later))
    c.loop-later.invariant row (omega (arith, c.if-index-gt0.true, count)) here

pub loop-later-preserved : goal.loop-later-preserved
loop-later-preserved c =
    let m = c.self.inside in
    let r = c.loop-later.later in
    let row : r < length m.counts.items = omega (arith, c.loop-later-test.true, c.len-later-end.ensures, m.counts.ok.0) in
    let h = subst (λ (l : List Bool). AreCounted l m.counts.items m.len) c.self.view_is c.self.invariant in
    let count = c.index.ensures ∙ get_or_default_zero m.counts.items r c.index.result.now row in
    none_in_row c.args.self.now m.counts.items m.len c.args.from r h c.loop-later.invariant row
    (omega (arith, c.if-index-gt0.false, count))
