use Rattle.std.proofs.Common.{◌∙◌, ◌∷◌, ◌++◌, [], sym}
use Rattle.c_grammar.specs.Changes.{Onward, Outside, assigned, behind_front, one_at}
use Rattle.c_terminals.specs.Seen.{seen, seen_all}
use Rattle.c_written.specs.Changes.{passed, seen_where, state_of}
use Rattle.c_written.proofs.Changing.{gone_behind, gone_ok}
use Rattle.c_written.proofs.LoopHeads.{front_ended}
use Rattle.c_written.proofs.changes.Changes.behind.Goals as goal

pub returns : goal.returns
returns c =
    let old = c.args.self.now in
    let i = seen c.args.token in
    let ws = assigned i (seen_all old.since.items) c.args.op ++ one_at i ∷ [] in
    gone_ok c.pass.result old c.pass.new.self (λ (go : Onward). ws ++ passed i Outside go) (behind_front c.args.op i (state_of old))
    (λ go. front_ended c.args.op i (seen_where old.place) (seen_all old.since.items) go (sym c.is_sign.ensures ∙ c.if-not-is_sign.false))
    (gone_behind c.pass.result old c.count.new.self c.pass.new.self ws (passed i Outside) c.in_ok-count.ensures.done c.pass.ensures)
