use Rattle.std.proofs.Common.{◌≡◌, ◌∙◌, false, sym}
use Rattle.std.specs.Prelude.{◌&&◌}
use Rattle.c_grammar.specs.Allocations.{behind_size, is_ended}
use Rattle.c_grammar.specs.Constants.{is_mark}
use Rattle.c_terminals.specs.Ahead.{ahead}
use Rattle.c_terminals.specs.Seen.{seen}
use Rattle.c_written.proofs.Counting.{counted_more, first_not, second_not}
use Rattle.c_written.proofs.allocations.counted.Goals as goal
use Rattle.c_written.proofs.allocations.counted.Goals.{else-is_sign-via-then-is_sign+else-ends_with_size, else-is_sign-via-else-is_sign}

pub numbers-preserved : goal.numbers-preserved
numbers-preserved c =
    let x = c.args.name.now in
    let s = seen c.in-Some-next.sign in
    let is = ahead c.next-in-Some.new.self in
    let goes : (is_mark c.args.last s && is_ended (behind_size x is)) ≡ false = elim c.else-is_sign.branch [
      | else-is_sign-via-then-is_sign+else-ends_with_size w ↦
          second_not (is_mark c.args.last s) (is_ended (behind_size x is)) (sym w.ends_with_size.ensures ∙ w.if-ends_with_size.false)
      | else-is_sign-via-else-is_sign w ↦
          first_not (is_mark c.args.last s) (is_ended (behind_size x is)) (sym c.is_sign.ensures ∙ w.if-is_sign.false)
    ] in
    sym (counted_more x c.args.last _ _ _ _ _ _ _ c.in-Some.ensures c.in-Some-next.ensures
    (sym c.times.ensures ∙ c.in-Some-times.is) goes (sym c.is_sign-in-Some.ensures ∙ c.if-not-is_sign.false))
    ∙ c.numbers.invariant
