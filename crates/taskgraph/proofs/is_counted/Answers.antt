use Rattle.std.proofs.Common.{◌≡◌, false, Some, sym, ap, ◌∙◌, arith}
use Rattle.std.specs.Prelude.{◌&&◌, nat_le, slice_get, slice_index}
use Rattle.std.proofs.lemmas.Bool.{le-leb, lt-leb}
use Rattle.std.proofs.lemmas.Option.{slice_get-get_or}
use Rattle.base.specs.Machine.{precedes}
use Rattle.taskgraph.specs.declared.Task.{Task}
use Rattle.taskgraph.specs.Waiting.{plan_for}
use Rattle.taskgraph.proofs.Releases.{precedes_tasks}
use Rattle.taskgraph.proofs.is_counted.Goals as goal

pub returns-then-starts-later : goal.returns-then-starts-later
returns-then-starts-later c =
    let ts = c.args.tasks.now in
    let i = c.args.item in
    let j = c.args.later in
    let t = c.index-tasks-item.result in
    let u = c.index-tasks-later.result in
    let f : slice_get ts i ≡ Some t =
    slice_get-get_or ts i t (omega (arith, c.requires.before, c.requires.inside)) ∙ ap (λ (x : Task). Some x) (sym c.index-tasks-item.is) in
    let g : slice_get ts j ≡ Some u = slice_get-get_or ts j u c.requires.inside ∙ ap (λ (x : Task). Some x) (sym c.index-tasks-later.is) in
    c.is_predecessor.ensures ∙ sym (precedes_tasks ts i j t u f g c.requires.before)
    ∙ ap (λ x. x && precedes (plan_for ts) i j) (sym (le-leb (slice_index c.args.starts.now j) i c.if-starts-later.true))

pub returns-else-starts-later : goal.returns-else-starts-later
returns-else-starts-later c =
    let late : nat_le (slice_index c.args.starts.now c.args.later) c.args.item ≡ false =
    lt-leb (slice_index c.args.starts.now c.args.later) c.args.item c.if-starts-later.false in
    late ∙ ap (λ x. x && precedes (plan_for c.args.tasks.now) c.args.item c.args.later) (sym late)
