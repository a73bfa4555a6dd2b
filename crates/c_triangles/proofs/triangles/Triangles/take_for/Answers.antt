use Rattle.std.proofs.Common.{◌∙◌, take, Some, None, ap}
use Rattle.c_grammar.specs.Blocks.{bare}
use Rattle.c_grammar.specs.Triangles.{max_head, rectangular_in}
use Rattle.c_terminals.specs.Seen.{seen, seen_all}
use Rattle.c_triangles.specs.Blocks.{open_blocks}
use Rattle.c_triangles.specs.Loops.{loop_within, seen_loop}
use Rattle.c_triangles.specs.State.{seen_state}
use Rattle.c_triangles.proofs.Passing.{turned}
use Rattle.c_triangles.proofs.triangles.Triangles.take_for.Goals as goal

pub returns-in-Some : goal.returns-in-Some
returns-in-Some c =
    turned (seen_state c.args.self.now) (seen c.args.token) (bare (seen_all c.args.rest.now)) (seen_all c.in_ok-head.head.items)
    (seen_all c.args.self.now.done.items) (Some (seen_loop c.in-Some.own)) (λ s k. rectangular_in s k (seen_all c.args.rest.now))
    (c.in_ok-head.ensures ∙ ap (take max_head) c.new.ensures)
    (c.in-Some.ensures
    ∙ ap (λ ts. loop_within (open_blocks c.args.self.now.blocks) (seen_all ts)) c.deref.ensures.value)
    ∙ c.in_ok-put_loop.ensures

pub returns : goal.returns
returns c =
    turned (seen_state c.args.self.now) (seen c.args.token) (bare (seen_all c.args.rest.now)) (seen_all c.in_ok-head.head.items)
    (seen_all c.args.self.now.done.items) None (λ s k. rectangular_in s k (seen_all c.args.rest.now))
    (c.in_ok-head.ensures ∙ ap (take max_head) c.new.ensures)
    (c.in_default.ensures
    ∙ ap (λ ts. loop_within (open_blocks c.args.self.now.blocks) (seen_all ts)) c.deref.ensures.value)
    ∙ c.in_ok-put.ensures
