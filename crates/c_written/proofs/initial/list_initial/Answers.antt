use Rattle.std.proofs.Common.{◌∙◌, ◌+◌, ap, sym, arith, rules}
use Rattle.c_grammar.specs.Initial.{list_initial}
use Rattle.c_terminals.specs.Ahead.{ahead}
use Rattle.c_terminals.specs.Seen.{seen, seen_all}
use Rattle.c_written.proofs.Setting.{list_more}
use Rattle.c_written.proofs.initial.list_initial.Goals as goal

pub numbers-preserved : goal.numbers-preserved
numbers-preserved c =
    let x = c.args.name.now in
    let len = c.args.length in
    let k = c.numbers.cell in
    record {
      same =
          ap (λ is. list_initial x len (k + 1) is (ahead c.next-in-Some.new.self)) c.in_ok-set_cell.ensures
          ∙ sym (list_more x len k c.in-Some-value_of.value (seen_all c.numbers.sets.items) (ahead c.numbers.ahead)
          (ahead c.next.new.self) (ahead c.next-in-Some.new.self) (ahead c.next-in-Some-2.new.self)
          (seen c.in-Some.number) (seen c.in-Some-next.sign) (seen c.in-Some-next-2.next) c.in-Some.ensures
          c.in-Some-next.ensures c.in-Some-next-2.ensures (sym c.value_of.ensures ∙ c.in-Some-value_of.is)
          (omega (arith, c.if-cell-length.false)) (sym c.ends_list.ensures ∙ c.if-ends_list.false)
          (sym c.is_sign.ensures ∙ c.if-not-is_sign.false))
          ∙ c.numbers.invariant.same;
      len = let old = c.numbers.invariant.len in search rules;
    }
