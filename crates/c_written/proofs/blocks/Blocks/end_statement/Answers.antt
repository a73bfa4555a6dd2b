use Rattle.std.proofs.Common.{◌≡◌, ◌∙◌, ◌++◌, sym, ap, None, false, rules}
use Rattle.std.proofs.lemmas.List.{append-nil}
use Rattle.c_grammar.specs.Blocks.{Ends, braces_at}
use Rattle.c_written.specs.Opens.{stays}
use Rattle.c_terminals.specs.Seen.{seen, seen_all}
use Rattle.c_written.specs.Stack.{held, item_at}
use Rattle.c_written.proofs.Blocking.{ends_stay, ends_none, ends_go, ends_levels}
use Rattle.c_written.proofs.Popped.{popped}
use Rattle.c_written.proofs.blocks.Blocks.end_statement.Goals as goal

pub returns-then-stays-clause-done : goal.returns-then-stays-clause-done
returns-then-stays-clause-done c =
    let stay = ends_stay c.args.other _ _ (sym c.peek.ensures ∙ c.in-Some.is) (sym c.stays.ensures ∙ c.if-stays.true) in
    sym (append-nil (seen_all c.levels.self.done.items))
    ∙ ap (λ (e : Ends). seen_all c.levels.self.done.items ++ braces_at e.braces (seen c.args.token)) (sym stay)
    ∙ c.levels.invariant.done

pub returns-then-stays-clause-levels : goal.returns-then-stays-clause-levels
returns-then-stays-clause-levels c =
    let stay = ends_stay c.args.other _ _ (sym c.peek.ensures ∙ c.in-Some.is) (sym c.stays.ensures ∙ c.if-stays.true) in
    ap (λ (e : Ends). e.levels) (sym stay) ∙ c.levels.invariant.levels

pub returns-clause-done : goal.returns-clause-done
returns-clause-done c =
    let none : item_at 0 (held c.levels.self.levels) ≡ None = search rules in
    sym (append-nil (seen_all c.levels.self.done.items))
    ∙ ap (λ (e : Ends). seen_all c.levels.self.done.items ++ braces_at e.braces (seen c.args.token))
    (sym (ends_none c.args.other _ none)) ∙ c.levels.invariant.done

pub returns-clause-levels : goal.returns-clause-levels
returns-clause-levels c =
    let none : item_at 0 (held c.levels.self.levels) ≡ None = search rules in
    ap (λ (e : Ends). e.levels) (sym (ends_none c.args.other _ none)) ∙ c.levels.invariant.levels

pub levels-preserved : goal.levels-preserved
levels-preserved c =
    let off : stays c.args.other c.in-Some.level ≡ false = sym c.stays.ensures ∙ c.if-stays.false in
    let one = popped _ _ _ _ c.pop.ensures
    (ap (λ l. item_at 0 (held l)) c.in_ok-close.ensures.levels ∙ sym c.peek.ensures ∙ c.in-Some.is) in
    let same = ap held (sym c.in_ok-close.ensures.levels) ∙ one in
    record {
      done = ends_go c.args.other c.in-Some.level _ _ (seen c.args.token) _ _ same off c.in_ok-close.ensures.done
          ∙ c.levels.invariant.done;
      levels = ends_levels c.args.other c.in-Some.level _ _ same off ∙ c.levels.invariant.levels;
      same = search rules;
    }
