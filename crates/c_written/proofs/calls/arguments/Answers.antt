use Rattle.std.proofs.Common.{◌≡◌, ◌∙◌, ℕ, ◌+◌, ◌-◌, true, false, ◌++◌, ◌∷◌, [], List, Some, length, ap, sym, arith}
use Rattle.std.specs.Prelude.{◌&&◌, ◌==◌}
use Rattle.std.proofs.lemmas.Bool.{and_parts, eqb-true}
use Rattle.c_tokens.specs.declared.kind.Sign.TheVariants as sign
use Rattle.c_grammar.specs.Terminal.{Terminal}
use Rattle.c_grammar.specs.Texts.{Item}
use Rattle.c_grammar.specs.Changes.{is_boundary, is_mark}
use Rattle.c_grammar.specs.Blocks.{Items}
use Rattle.c_grammar.specs.Functions.{arguments, closes, opens}
use Rattle.c_terminals.specs.Ahead.{ahead}
use Rattle.c_terminals.specs.Seen.{seen, seen_all}
use Rattle.c_terminals.proofs.Lists.{seen_more}
use Rattle.c_written.proofs.CallSteps.{arguments_bounded, arguments_closed, arguments_end, arguments_more, arguments_next, arguments_opened, arguments_over, arguments_stopped}
use Rattle.c_written.proofs.CallLists.{list_more, lists_of}
use Rattle.c_written.proofs.calls.arguments.Goals as goal

-- between arguments no bracket is open
next_argument : (d : ℕ) (now : Items) (done : List Items) (k : ℕ) (is js : Items) (i : Item Terminal) → is ≡ i ∷ js →
    is_boundary i.terminal ≡ false → opens i ≡ false → closes i ≡ false → (is_mark sign.Comma i && (d == 0)) ≡ true →
    arguments d now done k is ≡ arguments d [] (done ++ now ∷ []) (k + 1) js
next_argument d now done k is js i e a b c f =
    let none : d ≡ 0 = eqb-true d 0 (and_parts (is_mark sign.Comma i) (d == 0) f).1 in
    arguments_next d now done k is js i e a b c f
    ∙ ap (λ (n : ℕ). arguments n [] (done ++ now ∷ []) (k + 1) js) (sym none)

pub returns-then-is_boundary : goal.returns-then-is_boundary
returns-then-is_boundary c =
    sym (arguments_bounded c.tokens.depth (seen_all c.tokens.now.items) (lists_of c.tokens.list.items) c.tokens.len (ahead c.tokens.ahead)
    (ahead c.next.new.self) (seen c.in-Some.token) c.in-Some.ensures
    (sym c.is_boundary.ensures ∙ c.if-is_boundary.true))
    ∙ c.tokens.invariant.same

pub tokens-preserved-then-opens : goal.tokens-preserved-then-opens
tokens-preserved-then-opens c =
    let few = ap (λ (is : Items). length is) c.in-Some.ensures in
    record {
      same =
          ap (λ (is : Items). arguments (c.tokens.depth + 1) is (lists_of c.tokens.list.items) (c.tokens.len + 1) (ahead c.next.new.self))
          (ap seen_all c.in_ok-push.ensures.items ∙ seen_more c.tokens.now.items c.in-Some.token)
          ∙ sym (arguments_opened c.tokens.depth (seen_all c.tokens.now.items) (lists_of c.tokens.list.items) c.tokens.len (ahead c.tokens.ahead)
          (ahead c.next.new.self) (seen c.in-Some.token) c.in-Some.ensures
          (sym c.is_boundary.ensures ∙ c.if-is_boundary.false) (sym c.opens.ensures ∙ c.if-opens.true))
          ∙ c.tokens.invariant.same;
      few = omega (arith, few, c.tokens.invariant.few);
      deep = omega (arith, c.tokens.invariant.deep);
    }

pub returns-then-not-is_sign : goal.returns-then-not-is_sign
returns-then-not-is_sign c =
    sym (arguments_stopped c.tokens.depth (seen_all c.tokens.now.items) (lists_of c.tokens.list.items) c.tokens.len (ahead c.tokens.ahead)
    (ahead c.next.new.self) (seen c.in-Some.token) c.in-Some.ensures
    (sym c.is_boundary.ensures ∙ c.if-is_boundary.false) (sym c.opens.ensures ∙ c.if-opens.false) (sym c.closes.ensures ∙ c.if-closes.true) c.if-depth-eq0.true
    (sym c.is_sign.ensures ∙ c.if-not-is_sign.true))
    ∙ c.tokens.invariant.same

pub returns-then-depth-eq0 : goal.returns-then-depth-eq0
returns-then-depth-eq0 c =
    ap (λ (ls : List Items). Some (record { list = ls; len = c.tokens.len + 1 })) (list_more _ _ _ c.in_ok-push-2.ensures.items)
    ∙ sym (arguments_over c.tokens.depth (seen_all c.tokens.now.items) (lists_of c.tokens.list.items) c.tokens.len (ahead c.tokens.ahead)
    (ahead c.next.new.self) (seen c.in-Some.token) c.in-Some.ensures
    (sym c.is_boundary.ensures ∙ c.if-is_boundary.false) (sym c.opens.ensures ∙ c.if-opens.false) (sym c.closes.ensures ∙ c.if-closes.true) c.if-depth-eq0.true
    (sym c.is_sign.ensures ∙ c.if-not-is_sign.false))
    ∙ c.tokens.invariant.same

pub tokens-preserved-then-closes : goal.tokens-preserved-then-closes
tokens-preserved-then-closes c =
    let few = ap (λ (is : Items). length is) c.in-Some.ensures in
    record {
      same =
          ap (λ (is : Items). arguments (c.tokens.depth - 1) is (lists_of c.tokens.list.items) (c.tokens.len + 1) (ahead c.next.new.self))
          (ap seen_all c.in_ok-push-3.ensures.items ∙ seen_more c.tokens.now.items c.in-Some.token)
          ∙ sym (arguments_closed c.tokens.depth (seen_all c.tokens.now.items) (lists_of c.tokens.list.items) c.tokens.len (ahead c.tokens.ahead)
          (ahead c.next.new.self) (seen c.in-Some.token) c.in-Some.ensures
          (sym c.is_boundary.ensures ∙ c.if-is_boundary.false) (sym c.opens.ensures ∙ c.if-opens.false) (sym c.closes.ensures ∙ c.if-closes.true) (omega (arith, c.if-depth-eq0.false)))
          ∙ c.tokens.invariant.same;
      few = omega (arith, few, c.tokens.invariant.few);
      deep = omega (arith, c.tokens.invariant.deep);
    }

pub tokens-preserved-then-ends_argument : goal.tokens-preserved-then-ends_argument
tokens-preserved-then-ends_argument c =
    let few = ap (λ (is : Items). length is) c.in-Some.ensures in
    record {
      same =
          ap (λ (is : Items). arguments c.tokens.depth is (lists_of c.push-then-ends_argument.new.self.items) (c.tokens.len + 1)
          (ahead c.next.new.self)) (ap seen_all c.new-now-then-ends_argument.ensures.items)
          ∙ ap (λ (ls : List Items). arguments c.tokens.depth [] ls (c.tokens.len + 1) (ahead c.next.new.self))
          (list_more _ _ _ c.in_ok-push-4.ensures.items)
          ∙ sym (next_argument c.tokens.depth (seen_all c.tokens.now.items) (lists_of c.tokens.list.items) c.tokens.len (ahead c.tokens.ahead)
          (ahead c.next.new.self) (seen c.in-Some.token) c.in-Some.ensures
          (sym c.is_boundary.ensures ∙ c.if-is_boundary.false) (sym c.opens.ensures ∙ c.if-opens.false) (sym c.closes.ensures ∙ c.if-closes.false) (sym c.ends_argument.ensures ∙ c.if-ends_argument.true))
          ∙ c.tokens.invariant.same;
      few = omega (arith, few, c.tokens.invariant.few);
      deep = omega (arith, c.tokens.invariant.deep);
    }

pub tokens-preserved : goal.tokens-preserved
tokens-preserved c =
    let few = ap (λ (is : Items). length is) c.in-Some.ensures in
    record {
      same =
          ap (λ (is : Items). arguments c.tokens.depth is (lists_of c.tokens.list.items) (c.tokens.len + 1) (ahead c.next.new.self))
          (ap seen_all c.in_ok-push-5.ensures.items ∙ seen_more c.tokens.now.items c.in-Some.token)
          ∙ sym (arguments_more c.tokens.depth (seen_all c.tokens.now.items) (lists_of c.tokens.list.items) c.tokens.len (ahead c.tokens.ahead)
          (ahead c.next.new.self) (seen c.in-Some.token) c.in-Some.ensures
          (sym c.is_boundary.ensures ∙ c.if-is_boundary.false) (sym c.opens.ensures ∙ c.if-opens.false) (sym c.closes.ensures ∙ c.if-closes.false) (sym c.ends_argument.ensures ∙ c.if-ends_argument.false))
          ∙ c.tokens.invariant.same;
      few = omega (arith, few, c.tokens.invariant.few);
      deep = omega (arith, c.tokens.invariant.deep);
    }

pub returns : goal.returns
returns c =
    sym (arguments_end c.tokens.depth (seen_all c.tokens.now.items) (lists_of c.tokens.list.items) c.tokens.len (ahead c.tokens.ahead)
    c.in_default.ensures)
    ∙ c.tokens.invariant.same
