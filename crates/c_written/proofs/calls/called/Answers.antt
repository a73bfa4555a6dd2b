use Rattle.std.proofs.Common.{◌≡◌, ◌∙◌, ◌-◌, ◌++◌, Bool, length, Some, None, refl, sym, ap, rules}
use Rattle.c_grammar.specs.Blocks.{bare}
use Rattle.c_grammar.specs.Functions.{called}
use Rattle.c_written.specs.Functions.{functions_of, globals_of, seen_expanded, statement_at}
use Rattle.c_terminals.specs.Held.{written_all}
use Rattle.c_terminals.specs.Seen.{seen_all}
use Rattle.c_written.proofs.CallTexts.{put_last}
use Rattle.c_written.proofs.CallWalk.{behind, called_none, expands_walk, left_walk, line_walk, stays_walk}
use Rattle.c_written.proofs.calls.called.Goals as goal

pub tokens-preserved-then-is_directive : goal.tokens-preserved-then-is_directive
tokens-preserved-then-is_directive c =
    line_walk (globals_of c.args.scope.now) (functions_of c.args.scope.now) c.tokens.begins c.tokens.room c.tokens.left
    c.tokens.done.items c.push.new.self.items c.in_ok-of.field-0 c.tokens.rest.now c.token-item.result
    c.in-len1-up.len_at_least c.token-item.is (sym c.is_directive.ensures ∙ c.if-is_directive.true)
    c.in_ok-push.ensures.items c.in_ok-of.ensures
    ∙ c.tokens.invariant

pub tokens-preserved-then-left-gt0 : goal.tokens-preserved-then-left-gt0
tokens-preserved-then-left-gt0 c =
    left_walk (globals_of c.args.scope.now) (functions_of c.args.scope.now) c.tokens.begins c.tokens.room c.tokens.left
    c.tokens.done.items c.tokens.rest.now c.token-item.result c.in-len1-up.len_at_least c.token-item.is
    (sym c.is_directive.ensures ∙ c.if-is_directive.false) c.if-left-gt0.true
    ∙ c.tokens.invariant

pub tokens-preserved-in-Some : goal.tokens-preserved-in-Some
tokens-preserved-in-Some c =
    let scope = c.args.scope.now in
    let items = c.in-Some.found.items.items in
    let found : Some (seen_expanded c.in-Some.found)
    ≡ statement_at (globals_of scope) (functions_of scope) c.tokens.begins c.tokens.room
    (bare (seen_all c.tokens.rest.now)) = search rules in
    let put : c.append.new.self.items ≡ c.tokens.done.items ++ items = search rules in
    let room : c.saturating_sub-room.result ≡ c.tokens.room - length (bare (written_all items)) = search rules in
    let left : c.saturating_sub-left.result ≡ c.in-Some.found.len - 1 = search rules in
    expands_walk (globals_of scope) (functions_of scope) c.tokens.begins c.tokens.room c.tokens.left
    c.saturating_sub-room.result c.saturating_sub-left.result c.tokens.done.items c.append.new.self.items items
    (seen_expanded c.in-Some.found) c.tokens.rest.now c.token-item.result c.in-len1-up.len_at_least c.token-item.is
    (sym c.is_directive.ensures ∙ c.if-is_directive.false) c.if-left-gt0.false found refl put room left
    ∙ c.tokens.invariant

pub tokens-preserved : goal.tokens-preserved
tokens-preserved c =
    let scope = c.args.scope.now in
    let none : None
    ≡ statement_at (globals_of scope) (functions_of scope) c.tokens.begins c.tokens.room
    (bare (seen_all c.tokens.rest.now)) = search rules in
    ap (λ (b : Bool). written_all c.push-in-len1-up.new.self.items
    ++ called (globals_of scope) (functions_of scope) b c.tokens.room c.tokens.left
    (seen_all (behind c.tokens.rest.now))) c.is_boundary-begins.ensures
    ∙ stays_walk (globals_of scope) (functions_of scope) c.tokens.begins c.tokens.room c.tokens.left c.tokens.done.items
    c.push-in-len1-up.new.self.items c.in_ok-of-2.field-0 c.tokens.rest.now c.token-item.result
    c.in-len1-up.len_at_least c.token-item.is (sym c.is_directive.ensures ∙ c.if-is_directive.false)
    c.if-left-gt0.false none c.in_ok-push-2.ensures.items c.in_ok-of-2.ensures
    ∙ c.tokens.invariant

pub returns : goal.returns
returns c =
    let scope = c.args.scope.now in
    put_last c.tokens.done.items
    (called (globals_of scope) (functions_of scope) c.tokens.begins c.tokens.room c.tokens.left
    (seen_all c.tokens.rest.now))
    (written_all c.args.done.now.items
    ++ called (globals_of scope) (functions_of scope) c.args.begins c.args.room 0 (seen_all c.args.tokens.now))
    (called_none (globals_of scope) (functions_of scope) c.tokens.begins c.tokens.room c.tokens.left c.tokens.rest.now
    c.in_default.len_below)
    c.tokens.invariant
