use Rattle.std.proofs.Common.{◌≡◌, ◌∙◌, ◌++◌, ℕ, sym, ap, arith}
use Rattle.c_grammar.specs.Blocks.{bare}
use Rattle.c_grammar.specs.Constants.{depth_behind}
use Rattle.c_grammar.specs.Counters.{behind, counted_in, type_for}
use Rattle.c_written.specs.declared.counters.Before.{Before}
use Rattle.c_written.specs.Counters.{seen_before, seen_found}
use Rattle.c_terminals.specs.Seen.{seen, seen_all}
use Rattle.c_written.proofs.Recounting.{put_more, token_put}
use Rattle.c_written.proofs.counted.Counters.take.Goals as goal

pub returns : goal.returns
returns c =
    let f = seen_found c.args.found.now in
    let old = c.args.self.now in
    let put = c.put.new.self in
    let i = seen c.args.token in
    let is = seen_all c.args.rest.now in
    let b = seen_before old.before in
    let left : old.left ≡ 0 = omega (arith, c.if-self-gt0.false) in
    let depth = c.in_ok-self.ensures ∙ ap (λ (d : ℕ). depth_behind i.terminal d) c.in_ok-put.ensures.depth in
    let before = c.behind-self.ensures ∙ ap (λ (x : Before). behind (seen_before x) i) c.in_ok-put.ensures.before in
    let none = c.in_ok-put.ensures.left ∙ left in
    ap (λ js. seen_all old.done.items ++ js)
    (token_put f old.depth b old.left i is (sym c.is_directive.ensures ∙ c.if-is_directive.false) left
    (sym c.in_ok-len.ensures ∙ c.in_default.is))
    ∙ put_more (seen_all old.done.items) (seen_all put.done.items) (type_for f b i (bare is))
    (counted_in f (depth_behind i.terminal old.depth) (behind b i) 0 is) i c.in_ok-put.ensures.done
    ∙ (λ k. seen_all put.done.items ++ counted_in f (sym depth k) (sym before k) (sym none k) is)
