use Rattle.std.proofs.Common.{◌∙◌, ◌∷◌, ◌++◌, [], ap, refl}
use Rattle.c_tokens.specs.declared.kind.Sign.TheVariants as sign
use Rattle.c_grammar.specs.Terminal.{Mark}
use Rattle.c_grammar.specs.Blocks.{Items, at, bare}
use Rattle.c_grammar.specs.Changes.{InHead, in_state}
use Rattle.c_terminals.specs.Seen.{item_at, seen, seen_all}
use Rattle.c_written.specs.Changes.{state_of}
use Rattle.c_written.proofs.Changing.{gone_by, two_pushed}
use Rattle.c_written.proofs.LoopHeads.{limited_some}
use Rattle.c_written.proofs.changes.Changes.limit.Goals as goal

pub returns-in_ok-push-in-Some-2 : goal.returns-in_ok-push-in-Some-2
returns-in_ok-push-in-Some-2 c =
    let i = seen c.args.token in
    let done = ap seen_all c.go_on.ensures.done
    ∙ two_pushed _ _ _ _ _ _ _ c.in_ok-push-in-Some.ensures.done c.in_ok-push-in-Some-2.ensures.done c.at.ensures c.at-in-Some.ensures in
    λ go. ap (λ (is : Items). seen_all c.args.self.now.done.items ++ is)
    (limited_some _ _ c.in-Some.limit c.first_of.result i (bare (seen_all c.args.rest.now)) c.args.brackets (state_of c.args.self.now) go
    c.limit_behind.ensures c.in-Some.is c.first_of.ensures)
    ∙ gone_by _ _ (at i (Mark sign.Less) ∷ item_at c.first_of.result c.in-Some.limit ∷ []) (in_state (InHead c.args.brackets) []) _ 1 _
    done c.go_on.ensures.state refl go
