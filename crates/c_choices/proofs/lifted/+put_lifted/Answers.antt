use Rattle.std.proofs.Common.{◌∙◌, ◌++◌, ◌∷◌, [], ◌-◌, sym, ap, arith}
use Rattle.c_grammar.specs.Choices.{lifted, with_first, with_second}
use Rattle.c_terminals.specs.Seen.{seen_all}
use Rattle.c_terminals.proofs.Lists.{seen_more}
use Rattle.c_choices.specs.Parts.{seen_parts}
use Rattle.c_choices.proofs.Lifting.{either_done, lifted_some}
use Rattle.c_choices.proofs.lifted.+put_lifted.Goals as goal

pub returns : goal.returns
returns t c =
    let p = seen_parts c.in-Some.parts in
    let d = seen_all c.args.done.now.items in
    either_done p.mark p.condition (lifted (c.args.depth - 1) (with_first p)) (lifted (c.args.depth - 1) (with_second p)) d
    (seen_all c.put_if.new.done.items) (seen_all c.put_lifted.new.done.items) (seen_all c.put_else.new.done.items)
    (seen_all c.put_lifted-2.new.done.items) (seen_all c.push.new.self.items) c.in_ok-put_if.ensures
    (c.in_ok-put_lifted.ensures ∙ ap (λ is. seen_all c.put_if.new.done.items ++ lifted (c.args.depth - 1) is)
    (ap seen_all c.deref.ensures.value ∙ c.in_ok-first.ensures)) c.in_ok-put_else.ensures
    (c.in_ok-put_lifted-2.ensures ∙ ap (λ is. seen_all c.put_else.new.done.items ++ lifted (c.args.depth - 1) is)
    (ap seen_all c.deref-2.ensures.value ∙ c.in_ok-second.ensures))
    (ap seen_all c.in_ok-push.ensures.items ∙ seen_more _ _
    ∙ ap (λ i. seen_all c.put_lifted-2.new.done.items ++ i ∷ []) c.at.ensures)
    ∙ ap (λ is. d ++ is)
    (sym (lifted_some c.args.depth (seen_all c.args.statement.now) p (omega (arith, c.if-depth-eq0.false)) c.in-Some.ensures))
