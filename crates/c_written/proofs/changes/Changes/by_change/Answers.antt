use Rattle.std.proofs.Common.{◌∙◌, Some, sym}
use Rattle.c_grammar.specs.Blocks.{bare}
use Rattle.c_grammar.specs.Changes.{at_front, by_kind, changed, kept}
use Rattle.c_terminals.specs.Seen.{seen, seen_all}
use Rattle.c_written.specs.Changes.{seen_change, seen_where, state_of}
use Rattle.c_written.proofs.Assigning.{kind_front, kind_kept, kind_target}
use Rattle.c_written.proofs.Changing.{gone_ok}
use Rattle.c_written.proofs.changes.Changes.by_change.Goals as goal

pub returns-then-is_fresh : goal.returns-then-is_fresh
returns-then-is_fresh c =
    let s = state_of c.args.self.now in
    let i = seen c.args.token in
    let k = seen_change c.args.change in
    let is = bare (seen_all c.args.rest.now) in
    gone_ok c.at_front.result c.args.self.now c.at_front.new.self (at_front i k is s) (by_kind i (Some k) is s)
    (λ go. kind_front i k is s go (sym c.is_fresh.ensures ∙ c.if-is_fresh.true)) c.at_front.ensures

pub returns-then-has_target : goal.returns-then-has_target
returns-then-has_target c =
    let old = c.args.self.now in
    let i = seen c.args.token in
    let k = seen_change c.args.change in
    let is = bare (seen_all c.args.rest.now) in
    let xs = seen_all old.since.items in
    gone_ok c.change.result old c.change.new.self (changed i xs k is (state_of old)) (by_kind i (Some k) is (state_of old))
    (λ go. kind_target i k is (seen_where old.place) xs go (sym c.is_fresh.ensures ∙ c.if-is_fresh.false)
    (sym c.has_target.ensures ∙ c.if-has_target.true)) c.change.ensures

pub returns : goal.returns
returns c =
    let old = c.args.self.now in
    let i = seen c.args.token in
    let k = seen_change c.args.change in
    let is = bare (seen_all c.args.rest.now) in
    let xs = seen_all old.since.items in
    gone_ok c.keep.result old c.keep.new.self (kept i (state_of old)) (by_kind i (Some k) is (state_of old))
    (λ go. kind_kept i k is (seen_where old.place) xs go (sym c.is_fresh.ensures ∙ c.if-is_fresh.false)
    (sym c.has_target.ensures ∙ c.if-has_target.false)) c.keep.ensures
