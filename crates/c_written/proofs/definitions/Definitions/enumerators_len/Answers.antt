use Rattle.std.proofs.Common.{◌≡◌, ◌∙◌, ◌+◌, ◌&&◌, None, Some, ap, arith, sym}
use Rattle.std.specs.Prelude.{if◌then◌else◌}
use Rattle.c_tokens.specs.declared.kind.Sign.TheVariants as sign
use Rattle.c_grammar.specs.Constants.{enumerators_len, is_free, is_mark}
use Rattle.c_terminals.specs.Ahead.{ahead}
use Rattle.c_written.specs.Definitions.{names_of}
use Rattle.c_terminals.specs.Seen.{seen}
use Rattle.c_written.proofs.Enumerating.{and_false, and_true, four_less, last_one, named_len, one_more}
use Rattle.c_written.proofs.definitions.Definitions.enumerators_len.Goals as goal
use Rattle.c_written.proofs.definitions.Definitions.enumerators_len.Goals.{then-is_sign, else-is_sign}

pub returns-else-ends : goal.returns-else-ends
returns-else-ends c =
    let names = names_of c.args.self.now in
    let n = c.in-Some.number in
    let s = c.in-Some-next.sign in
    let next = c.in-Some-next-2.next in
    let rest = ahead c.next-in-constants-4.new.self in
    let both : c.if-is_sign.ends ≡ (is_mark sign.CloseBrace (seen s) && is_mark sign.Semicolon (seen next)) = elim c.if-is_sign.branch [
      | then-is_sign w ↦ w.ends-is ∙ w.is_sign-ends.ensures ∙ and_true _ _ (sym c.is_sign-then-not-is_sign-2.ensures ∙ w.if-is_sign.true)
      | else-is_sign w ↦ w.ends-is ∙ w.if-is_sign.false ∙ and_false _ _ (sym c.is_sign-then-not-is_sign-2.ensures ∙ w.if-is_sign.false)
    ] in
    sym (ap (λ t. if t then Some (c.constants.count + 5) else None) c.if-ends.false)
    ∙ last_one names c.constants.count (seen n) (seen s) (seen next) rest c.if-is_sign.ends
    (sym c.is_unworked.ensures ∙ c.if-is_unworked.false) (sym c.is_number.ensures ∙ c.if-not-is_number.false)
    (sym c.is_sign-in-constants.ensures ∙ c.if-not-is_sign-2.true) both
    ∙ sym (named_len names c.constants.count c.next.result c.next-in-constants.result (ahead c.constants.ahead) (ahead c.next.new.self)
    (ahead c.next-in-constants.new.self) (ahead c.next-in-constants-2.new.self) (ahead c.next-in-constants-3.new.self) rest n s next
    c.is_free.result c.is_sign.result c.next.ensures c.next-in-constants.ensures c.in-Some.ensures c.in-Some-next.ensures
    c.in-Some-next-2.ensures c.is_free.ensures c.constants-test.true c.is_sign.ensures c.if-not-is_sign.false)
    ∙ c.constants.invariant.same

pub constants-preserved : goal.constants-preserved
constants-preserved c =
    let names = names_of c.args.self.now in
    let n = c.in-Some.number in
    let s = c.in-Some-next.sign in
    let next = c.in-Some-next-2.next in
    let rest = ahead c.next-in-constants-4.new.self in
    let less =
    four_less c.next.result c.next-in-constants.result (ahead c.constants.ahead) (ahead c.next.new.self)
    (ahead c.next-in-constants.new.self) (ahead c.next-in-constants-2.new.self) (ahead c.next-in-constants-3.new.self) n s
    c.is_free.result c.is_sign.result (λ i. is_free names i.terminal) (is_mark sign.Equal) c.next.ensures c.next-in-constants.ensures
    c.in-Some.ensures c.in-Some-next.ensures c.is_free.ensures c.constants-test.true c.is_sign.ensures c.if-not-is_sign.false in
    let few = c.constants.invariant.few in
    record {
      same =
          ap (enumerators_len names (c.constants.count + 4)) c.in-Some-next-2.ensures
          ∙ sym (one_more names c.constants.count (seen n) (seen s) (seen next) rest
          (sym c.is_unworked.ensures ∙ c.if-is_unworked.false) (sym c.is_number.ensures ∙ c.if-not-is_number.false)
          (sym c.is_sign-in-constants.ensures ∙ c.if-not-is_sign-2.false))
          ∙ sym (named_len names c.constants.count c.next.result c.next-in-constants.result (ahead c.constants.ahead) (ahead c.next.new.self)
          (ahead c.next-in-constants.new.self) (ahead c.next-in-constants-2.new.self) (ahead c.next-in-constants-3.new.self) rest n s next
          c.is_free.result c.is_sign.result c.next.ensures c.next-in-constants.ensures c.in-Some.ensures c.in-Some-next.ensures
          c.in-Some-next-2.ensures c.is_free.ensures c.constants-test.true c.is_sign.ensures c.if-not-is_sign.false)
          ∙ c.constants.invariant.same;
      few = omega (arith, few, less);
    }
