use Rattle.std.proofs.Common.{◌∙◌, ◌∷◌, ◌++◌, [], ap, refl, sym, arith}
use Rattle.c_grammar.specs.Blocks.{Items, bare}
use Rattle.c_grammar.specs.Changes.{Onward, behind_front, in_full, in_group, in_head, outside, token}
use Rattle.c_written.specs.declared.changes.Where.{Where}
use Rattle.c_terminals.specs.Seen.{seen, seen_all}
use Rattle.c_written.specs.Changes.{seen_where, state_of}
use Rattle.c_written.proofs.Changing.{gone_same}
use Rattle.c_written.proofs.Passing.{changes_left, changes_line, changes_other, taken}
use Rattle.c_written.proofs.changes.Changes.take.Goals as goal

pub returns-then-is_directive : goal.returns-then-is_directive
returns-then-is_directive c =
    let old = c.args.self.now in
    let i = seen c.args.token in
    let f = λ (go : Onward). i ∷ go (state_of old) old.left in
    taken c.push.result old c.push.new.self f i (seen_all c.args.rest.now)
    (changes_line (state_of old) old.left i (seen_all c.args.rest.now) (sym c.is_directive.ensures ∙ c.if-is_directive.true))
    (gone_same c.push.result old c.push.new.self (i ∷ []) (state_of old) old.left f c.push.ensures.done c.push.ensures.same refl refl
    (λ go. refl))

pub returns-then-self-gt0 : goal.returns-then-self-gt0
returns-then-self-gt0 c =
    let old = c.args.self.now in
    ap (λ (is : Items). seen_all old.done.items ++ is)
    (changes_left (state_of old) old.left (seen c.args.token) (seen_all c.args.rest.now)
    (sym c.is_directive.ensures ∙ c.if-is_directive.false) c.if-self-gt0.true)

pub returns-in-Outside : goal.returns-in-Outside
returns-in-Outside c =
    let old = c.args.self.now in
    let i = seen c.args.token in
    let is = seen_all c.args.rest.now in
    taken c.outside.result old c.outside.new.self (outside i (bare is) (state_of old)) i is
    (changes_other (state_of old) old.left i is (sym c.is_directive.ensures ∙ c.if-is_directive.false) (omega (arith, c.if-self-gt0.false))
    ∙ ap (λ (p : Where). token (seen_where p) i (bare is) (state_of old) (λ s k. in_full s k is)) c.in-Outside.is) c.outside.ensures

pub returns-in-InHead : goal.returns-in-InHead
returns-in-InHead c =
    let old = c.args.self.now in
    let i = seen c.args.token in
    let is = seen_all c.args.rest.now in
    taken c.in_head.result old c.in_head.new.self (in_head c.in-InHead.brackets i (bare is) (state_of old)) i is
    (changes_other (state_of old) old.left i is (sym c.is_directive.ensures ∙ c.if-is_directive.false) (omega (arith, c.if-self-gt0.false))
    ∙ ap (λ (p : Where). token (seen_where p) i (bare is) (state_of old) (λ s k. in_full s k is)) c.in-InHead.is) c.in_head.ensures

pub returns-in-Grouped : goal.returns-in-Grouped
returns-in-Grouped c =
    let old = c.args.self.now in
    let i = seen c.args.token in
    let is = seen_all c.args.rest.now in
    taken c.in_group.result old c.in_group.new.self (in_group c.in-Grouped.brackets i (state_of old)) i is
    (changes_other (state_of old) old.left i is (sym c.is_directive.ensures ∙ c.if-is_directive.false) (omega (arith, c.if-self-gt0.false))
    ∙ ap (λ (p : Where). token (seen_where p) i (bare is) (state_of old) (λ s k. in_full s k is)) c.in-Grouped.is) c.in_group.ensures

pub returns-in-Behind : goal.returns-in-Behind
returns-in-Behind c =
    let old = c.args.self.now in
    let i = seen c.args.token in
    let is = seen_all c.args.rest.now in
    taken c.behind.result old c.behind.new.self (behind_front c.in-Behind.op i (state_of old)) i is
    (changes_other (state_of old) old.left i is (sym c.is_directive.ensures ∙ c.if-is_directive.false) (omega (arith, c.if-self-gt0.false))
    ∙ ap (λ (p : Where). token (seen_where p) i (bare is) (state_of old) (λ s k. in_full s k is)) c.in-Behind.is) c.behind.ensures
