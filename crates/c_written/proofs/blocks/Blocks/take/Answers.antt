use Rattle.std.proofs.Common.{◌∙◌, ◌++◌, Bool, false, ap, sym}
use Rattle.c_grammar.specs.Blocks.{Items, bare, in_blocks, plain, with_open}
use Rattle.c_terminals.specs.Ahead.{next_of}
use Rattle.c_terminals.specs.Seen.{seen, seen_all}
use Rattle.c_written.specs.Passes.{levels_of, reading}
use Rattle.c_written.proofs.Blocking.{begins_is, begins_not, blocks_line, blocks_other, line_next, on_ok, parted_is, parted_not}
use Rattle.c_written.proofs.blocks.Blocks.take.Goals as goal

pub returns-then-is_directive : goal.returns-then-is_directive
returns-then-is_directive c =
    on_ok c.take_line.result _ _
    (λ h. λ is e. ap (λ (js : Items). seen_all c.args.self.now.done.items ++ js)
    (blocks_line (reading c.args.self.now) (seen c.args.token) is (sym c.is_directive.ensures ∙ c.if-is_directive.true)
    ∙ line_next (seen c.args.token) (bare is) (next_of c.args.next) (reading c.args.self.now) (λ r. in_blocks r is) e)
    ∙ h (λ r. in_blocks r is))
    c.take_line.ensures

pub returns-then-begins : goal.returns-then-begins
returns-then-begins c =
    on_ok c.begin_body.result _ _
    (λ h. λ is e. ap (λ (js : Items). seen_all c.args.self.now.done.items ++ js)
    (blocks_other (reading c.args.self.now) (seen c.args.token) is (sym c.is_directive.ensures ∙ c.if-is_directive.false)
    ∙ begins_is (seen c.args.token) (bare is) (next_of c.args.next) (reading c.args.self.now) (λ r. in_blocks r is) e
    (sym c.begins.ensures ∙ c.if-begins.true))
    ∙ h (λ r. in_blocks r is))
    c.begin_body.ensures

pub returns-then-parts : goal.returns-then-parts
returns-then-parts c =
    on_ok c.part.result _ _
    (λ h. λ is e. ap (λ (js : Items). seen_all c.args.self.now.done.items ++ js)
    (blocks_other (reading c.args.self.now) (seen c.args.token) is (sym c.is_directive.ensures ∙ c.if-is_directive.false)
    ∙ begins_not (seen c.args.token) (bare is) (reading c.args.self.now) (λ r. in_blocks r is)
    (sym c.begins.ensures ∙ c.if-begins.false)
    ∙ parted_is (seen c.args.token) (bare is) (next_of c.args.next) _ (λ r. in_blocks r is) e
    (sym c.parts.ensures ∙ c.if-parts.true))
    ∙ h (λ r. in_blocks r is))
    c.part.ensures

pub returns : goal.returns
returns c =
    on_ok c.plain.result _ _
    (λ h. λ is e. ap (λ (js : Items). seen_all c.args.self.now.done.items ++ js)
    (blocks_other (reading c.args.self.now) (seen c.args.token) is (sym c.is_directive.ensures ∙ c.if-is_directive.false)
    ∙ begins_not (seen c.args.token) (bare is) (reading c.args.self.now) (λ r. in_blocks r is)
    (sym c.begins.ensures ∙ c.if-begins.false)
    ∙ parted_not (seen c.args.token) (bare is) (next_of c.args.next) _ (λ r. in_blocks r is) e
    (sym c.parts.ensures ∙ c.if-parts.false)
    ∙ ap (λ (b : Bool). plain (seen c.args.token) b (with_open (levels_of c.args.self.now.levels) false (reading c.args.self.now))
    (λ r. in_blocks r is)) (sym c.is_else.ensures))
    ∙ h (λ r. in_blocks r is))
    c.plain.ensures
