use Rattle.std.proofs.Common.{◌∙◌, ◌+◌, List, length, Some, ap, sym, arith}
use Rattle.c_grammar.specs.Blocks.{Items}
use Rattle.c_grammar.specs.FunctionHeads.{Adds, Begins, Closes, Declared, Goes, Stops, parameters}
use Rattle.c_terminals.specs.Ahead.{ahead}
use Rattle.c_written.specs.Functions.{all_declared, seen_head, seen_sort}
use Rattle.c_terminals.specs.Seen.{seen}
use Rattle.c_written.proofs.Heading.{declared_more, parameters_end, parameters_step}
use Rattle.c_written.proofs.heads.parameters.Goals as goal

pub tokens-preserved-in-Goes : goal.tokens-preserved-in-Goes
tokens-preserved-in-Goes c =
    let more = ap (λ (is : Items). length is) c.in-Some.ensures in
    record {
      same =
          sym (parameters_step (seen_head c.tokens.head) (all_declared c.tokens.declared.items) c.tokens.len (ahead c.tokens.ahead)
          (ahead c.next.new.self) (seen c.in-Some.token) (Goes (seen_head c.in-Goes.next)) c.in-Some.ensures c.in-Goes.ensures)
          ∙ c.tokens.invariant.same;
      few = omega (arith, more, c.tokens.invariant.few);
    }

pub tokens-preserved : goal.tokens-preserved
tokens-preserved c =
    let more = ap (λ (is : Items). length is) c.in-Some.ensures in
    record {
      same =
          ap (λ (ds : List Declared). parameters Begins ds (c.tokens.len + 1) (ahead c.next.new.self))
          (declared_more c.tokens.declared.items c.push.new.self.items c.in-Adds.one c.in_ok-push-in-Adds.ensures.items)
          ∙ sym (parameters_step (seen_head c.tokens.head) (all_declared c.tokens.declared.items) c.tokens.len
          (ahead c.tokens.ahead) (ahead c.next.new.self) (seen c.in-Some.token)
          (Adds c.in-Adds.one.name.now (seen_sort c.in-Adds.one.sort)) c.in-Some.ensures c.in-Adds.ensures)
          ∙ c.tokens.invariant.same;
      few = omega (arith, more, c.tokens.invariant.few);
    }

pub returns-in-Closes-clause-parameters : goal.returns-in-Closes-clause-parameters
returns-in-Closes-clause-parameters c =
    ap (λ (ds : List Declared). Some (ds, c.tokens.len + 1))
    (declared_more c.tokens.declared.items c.push-in-Closes.new.self.items c.in-Closes.one c.in_ok-push-in-Closes.ensures.items)
    ∙ sym (parameters_step (seen_head c.tokens.head) (all_declared c.tokens.declared.items) c.tokens.len
    (ahead c.tokens.ahead) (ahead c.next.new.self) (seen c.in-Some.token)
    (Closes c.in-Closes.one.name.now (seen_sort c.in-Closes.one.sort)) c.in-Some.ensures c.in-Closes.ensures)
    ∙ c.tokens.invariant.same

pub returns-in-Stops-clause-parameters : goal.returns-in-Stops-clause-parameters
returns-in-Stops-clause-parameters c =
    sym (parameters_step (seen_head c.tokens.head) (all_declared c.tokens.declared.items) c.tokens.len (ahead c.tokens.ahead)
    (ahead c.next.new.self) (seen c.in-Some.token) Stops c.in-Some.ensures c.in-Stops.ensures)
    ∙ c.tokens.invariant.same

pub returns-clause-parameters : goal.returns-clause-parameters
returns-clause-parameters c =
    sym (ap (parameters (seen_head c.tokens.head) (all_declared c.tokens.declared.items) c.tokens.len) c.in_default.ensures
    ∙ parameters_end (seen_head c.tokens.head) (all_declared c.tokens.declared.items) c.tokens.len)
    ∙ c.tokens.invariant.same
