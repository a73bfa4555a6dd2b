use Rattle.std.proofs.Common.{◌∙◌, ◌∷◌, rules}
use Rattle.c_grammar.specs.Program.{Fractional, Tail}
use Rattle.c_expressions.specs.Means.{divide_of}
use Rattle.c_expressions.specs.Scopes.{context_of, names_of}
use Rattle.c_expressions.proofs.Joins.{read_division}
use Rattle.c_expressions.proofs.Outcomes.{on_from, on_memory}
use Rattle.c_expressions.proofs.Terms.{go_division}
use Rattle.c_expressions.proofs.scope.Scope.divided.Goals as goal

pub returns-clause-tree : goal.returns-clause-tree
returns-clause-tree c = λ least before low left.
    read_division (names_of c.args.self.now) least c.args.tally.now.top c.args.op c.in_ok-divisor.divisor before
    c.args.tokens.now c.spend.new.tokens c.divisor.new.tokens c.args.left c.division.result
    left low c.requires.sign c.requires.top c.in_ok-spend.ensures.taken c.in_ok-divisor.ensures.first
    c.in_ok-divisor.ensures.taken c.division.ensures.made

pub returns-in_err-spend-clause-read : goal.returns-in_err-spend-clause-read
returns-in_err-spend-clause-read c = λ d s.
    let go = go_division (context_of c.args.self.now d c.args.tally.now.tokens) c.args.tally.now.top s c.args.op
    c.args.tokens.now c.requires.sign c.requires.top in
    on_from _ _ _ _ go (let h = c.in_err-spend.ensures.read d (Fractional (divide_of c.args.op) ∷ Tail 9 ∷ s) in
    search rules)

pub returns-in_err-divisor-clause-read : goal.returns-in_err-divisor-clause-read
returns-in_err-divisor-clause-read c = λ d s.
    let go = go_division (context_of c.args.self.now d c.args.tally.now.tokens) c.args.tally.now.top s c.args.op
    c.args.tokens.now c.requires.sign c.requires.top in
    on_from _ _ _ _ (go ∙ c.in_ok-spend.ensures.read d (Fractional (divide_of c.args.op) ∷ Tail 9 ∷ s))
    (let h = c.in_err-divisor.ensures.read d c.args.op (Tail 9 ∷ s) in search rules)

pub returns-clause-read : goal.returns-clause-read
returns-clause-read c = λ d s.
    let go = go_division (context_of c.args.self.now d c.args.tally.now.tokens) c.args.tally.now.top s c.args.op
    c.args.tokens.now c.requires.sign c.requires.top in
    on_memory _ _ _ (go ∙ c.in_ok-spend.ensures.read d (Fractional (divide_of c.args.op) ∷ Tail 9 ∷ s)
    ∙ c.in_ok-divisor.ensures.read d c.args.op (Tail 9 ∷ s)) c.division.ensures.memory
