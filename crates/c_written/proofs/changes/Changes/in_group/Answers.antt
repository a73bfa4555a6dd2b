use Rattle.std.proofs.Common.{◌∙◌, ◌∷◌, [], refl, sym}
use Rattle.c_grammar.specs.Changes.{in_group}
use Rattle.c_terminals.specs.Seen.{seen}
use Rattle.c_written.specs.Changes.{state_of}
use Rattle.c_written.proofs.Assigning.{group_plain}
use Rattle.c_written.proofs.Changing.{gone_same}
use Rattle.c_written.proofs.changes.Changes.in_group.Goals as goal

pub returns : goal.returns
returns c =
    let old = c.args.self.now in
    let i = seen c.args.token in
    gone_same c.push.result old c.push.new.self (i ∷ []) (state_of old) 0 (in_group c.args.brackets i (state_of old))
    c.push.ensures.done c.push.ensures.same refl c.requires
    (λ go. group_plain c.args.brackets i (state_of old) go (sym c.is_sign.ensures ∙ c.if-is_sign.false)
    (sym c.is_sign-2.ensures ∙ c.if-is_sign-2.false) (sym c.is_sign-3.ensures ∙ c.if-is_sign-3.false)
    (sym c.is_boundary.ensures ∙ c.if-is_boundary.false))
