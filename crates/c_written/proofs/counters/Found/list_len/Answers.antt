use Rattle.std.proofs.Common.{rules, ◌≡◌, ◌∙◌, sym}
use Rattle.c_terminals.specs.Ahead.{ahead}
use Rattle.c_written.specs.Counters.{seen_found}
use Rattle.c_terminals.specs.Seen.{seen}
use Rattle.c_written.proofs.Recounting.{list_goes}
use Rattle.c_written.proofs.counters.Found.list_len.Goals as goal

pub names-preserved : goal.names-preserved
names-preserved c =
    sym (list_goes (seen_found c.args.self.now) c.names.len c.in_ok-len.len (seen c.in-Some.name) (seen c.in-Some-next.sign)
    (ahead c.names.ahead) (ahead c.next.new.self) (ahead c.next-in-Some.new.self) c.in-Some.ensures c.in-Some-next.ensures
    (sym c.counts.ensures ∙ c.if-not-counts.false) (sym c.is_sign.ensures ∙ c.if-is_sign.false)
    (sym c.is_sign-in-Some.ensures ∙ c.if-not-is_sign.false) (search rules))
    ∙ c.names.invariant
