use Rattle.std.proofs.Common.{◌∙◌, ◌∷◌, ◌++◌, [], refl, sym}
use Rattle.c_tokens.specs.declared.kind.Sign.TheVariants as sign
use Rattle.c_grammar.specs.Terminal.{Mark}
use Rattle.c_grammar.specs.Blocks.{at, bare}
use Rattle.c_grammar.specs.Changes.{Onward, one_at}
use Rattle.c_terminals.specs.Seen.{seen, seen_all}
use Rattle.c_written.specs.Changes.{state_of, stepped}
use Rattle.c_written.proofs.Changing.{gone_behind, gone_ok, gone_same, same_state}
use Rattle.c_written.proofs.LoopHeads.{closes_is, stepped_closed, stepped_named}
use Rattle.c_written.proofs.changes.Changes.step_by_one.Goals as goal

pub returns-then-is_sign : goal.returns-then-is_sign
returns-then-is_sign c =
    let old = c.args.self.now in
    let is = bare (seen_all c.args.rest.now) in
    let closed = sym (closes_is c.next.result c.is_sign.result _ _ is c.next.ensures c.is_sign.ensures c.new.ensures) ∙ c.if-is_sign.true in
    gone_same c.step.result old c.step.new.self _ (state_of old) 0 (stepped (seen c.args.token) is (state_of old)) c.step.ensures.done
    c.step.ensures.same refl c.requires (λ go. stepped_closed (seen c.args.token) is (state_of old) go closed)

pub returns : goal.returns
returns c =
    let old = c.args.self.now in
    let i = seen c.args.token in
    let is = bare (seen_all c.args.rest.now) in
    let mid = record c.push.new.self { left = 1 } in
    let two = at i (Mark sign.PlusEqual) ∷ one_at i ∷ [] in
    let other = sym (closes_is c.next.result c.is_sign.result _ _ is c.next.ensures c.is_sign.ensures c.new.ensures) ∙ c.if-is_sign.false in
    gone_ok c.step-2.result old c.step-2.new.self (λ (go : Onward). (seen c.first_of.result ∷ []) ++ (two ++ go (state_of old) 1))
    (stepped i is (state_of old))
    (λ go. stepped_named i (seen c.first_of.result) is (state_of old) go other (sym c.is_name_closed.ensures ∙ c.if-not-is_name_closed.false)
    c.first_of.ensures)
    (gone_behind c.step-2.result old mid c.step-2.new.self (seen c.first_of.result ∷ []) (λ (go : Onward). two ++ go (state_of old) 1)
    c.in_ok-push.ensures.done
    (gone_same c.step-2.result mid c.step-2.new.self two (state_of old) 1 (λ (go : Onward). two ++ go (state_of old) 1)
    c.step-2.ensures.done c.step-2.ensures.same (same_state old c.push.new.self c.in_ok-push.ensures.same) refl (λ go. refl)))
