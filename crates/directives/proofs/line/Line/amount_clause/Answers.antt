use Rattle.std.proofs.Common.{Some, ◌∷◌, ◌∙◌, arith}
use Rattle.base.specs.declared.fault.ReadCode.TheVariants.{UnknownClause}
use Rattle.c_tokens.specs.declared.kind.Sign.TheVariants as sign
use Rattle.c_grammar.specs.LineMachine.{LineStack, AmountNumber, Clauses, w}
use Rattle.directives.specs.Kinds.{seen_amount, seen_kind}
use Rattle.directives.proofs.Sharing.{at_amount, read_amount}
use Rattle.directives.proofs.line.Line.amount_clause.Goals as goal

pub returns-in_err-enter-clause-read : goal.returns-in_err-enter-clause-read
returns-in_err-enter-clause-read c = λ s.
    let a = seen_amount c.args.amount in
    let after : LineStack = Clauses (seen_kind c.args.kind) ∷ s in
    let at = at_amount c.args.self.now (seen_kind c.args.kind) a s c.requires.takes c.requires.word in
    let failed = c.in_err-enter.ensures.read (Some UnknownClause)
    (w sign.OpenParen ∷ AmountNumber a ∷ w sign.CloseParen ∷ after) in
    grind (arith, at, failed)

pub returns-in_err-expect-clause-read : goal.returns-in_err-expect-clause-read
returns-in_err-expect-clause-read c = λ s.
    let a = seen_amount c.args.amount in
    let after : LineStack = Clauses (seen_kind c.args.kind) ∷ s in
    let path = at_amount c.args.self.now (seen_kind c.args.kind) a s c.requires.takes c.requires.word
    ∙ c.in_ok-enter.ensures.read (Some UnknownClause) (w sign.OpenParen ∷ AmountNumber a ∷ w sign.CloseParen ∷ after) in
    let failed = c.in_err-expect.ensures.read (AmountNumber a ∷ w sign.CloseParen ∷ after) in
    grind (arith, path, failed)

pub returns-in_err-number-clause-read : goal.returns-in_err-number-clause-read
returns-in_err-number-clause-read c = λ s.
    let a = seen_amount c.args.amount in
    let after : LineStack = Clauses (seen_kind c.args.kind) ∷ s in
    let path = at_amount c.args.self.now (seen_kind c.args.kind) a s c.requires.takes c.requires.word
    ∙ c.in_ok-enter.ensures.read (Some UnknownClause) (w sign.OpenParen ∷ AmountNumber a ∷ w sign.CloseParen ∷ after)
    ∙ c.in_ok-expect.ensures.read (AmountNumber a ∷ w sign.CloseParen ∷ after) in
    let failed = c.in_err-number.ensures.read (w sign.CloseParen ∷ after) in
    grind (arith, path, failed)

pub returns-in_err-expect-2-clause-read : goal.returns-in_err-expect-2-clause-read
returns-in_err-expect-2-clause-read c = λ s.
    let a = seen_amount c.args.amount in
    let after : LineStack = Clauses (seen_kind c.args.kind) ∷ s in
    let path = at_amount c.args.self.now (seen_kind c.args.kind) a s c.requires.takes c.requires.word
    ∙ c.in_ok-enter.ensures.read (Some UnknownClause) (w sign.OpenParen ∷ AmountNumber a ∷ w sign.CloseParen ∷ after)
    ∙ c.in_ok-expect.ensures.read (AmountNumber a ∷ w sign.CloseParen ∷ after)
    ∙ c.in_ok-number.ensures.read (w sign.CloseParen ∷ after) in
    let failed = c.in_err-expect-2.ensures.read after in
    grind (arith, path, failed)

pub returns-clause-read : goal.returns-clause-read
returns-clause-read c = λ s.
    let a = seen_amount c.args.amount in
    let after : LineStack = Clauses (seen_kind c.args.kind) ∷ s in
    let path = at_amount c.args.self.now (seen_kind c.args.kind) a s c.requires.takes c.requires.word
    ∙ c.in_ok-enter.ensures.read (Some UnknownClause) (w sign.OpenParen ∷ AmountNumber a ∷ w sign.CloseParen ∷ after)
    ∙ c.in_ok-expect.ensures.read (AmountNumber a ∷ w sign.CloseParen ∷ after)
    ∙ c.in_ok-number.ensures.read (w sign.CloseParen ∷ after)
    ∙ c.in_ok-expect-2.ensures.read after in
    grind (arith, path)

pub returns-clause-tree : goal.returns-clause-tree
returns-clause-tree c = grind (arith, read_amount)
