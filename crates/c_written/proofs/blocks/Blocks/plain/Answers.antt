use Rattle.std.proofs.Common.{◌∙◌, ap, sym}
use Rattle.c_terminals.specs.Seen.{seen, seen_all}
use Rattle.c_terminals.proofs.Lists.{seen_more}
use Rattle.c_written.proofs.Blocking.{gone_end, gone_read, on_ok}
use Rattle.c_written.proofs.blocks.Blocks.plain.Goals as goal

pub returns-then-ends : goal.returns-then-ends
returns-then-ends c =
    gone_end c.end.result _ (seen_all c.note.new.self.done.items) _ (seen c.args.token) c.args.other _ _ _
    (sym c.is_end-ends.ensures ∙ c.if-ends.true)
    (ap seen_all (c.in_ok-note.ensures.done ∙ c.in_ok-push.ensures.items) ∙ seen_more _ _) c.in_ok-note.ensures.reading
    c.end.ensures.done c.end.ensures.reading

pub returns : goal.returns
returns c =
    gone_read c.read.result _ (seen_all c.note.new.self.done.items) _ (seen c.args.token) c.args.other _ _ _
    (sym c.is_end-ends.ensures ∙ c.if-ends.false)
    (ap seen_all (c.in_ok-note.ensures.done ∙ c.in_ok-push.ensures.items) ∙ seen_more _ _) c.in_ok-note.ensures.reading
    (on_ok c.read.result _ _ (ap seen_all) c.read.ensures.done) c.read.ensures.reading
