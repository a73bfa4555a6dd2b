use Rattle.std.proofs.Common.{◌≡◌, ◌∙◌, ℕ, Option, Some, None, sym, ap, arith, ◌*◌}
use Rattle.std.specs.Prelude.{IfSome}
use Rattle.std.specs.Option.{SomeIff}
use Rattle.actions.proofs.NestAt.{nest_length}
use Rattle.actions.proofs.nest.+count_of.Goals as goal

pub count_of-requires : goal.count_of-requires
count_of-requires t c = (omega (arith, c.if-depth-eq0.false), tt)

-- the number, where there is one
given : (o : Option ℕ) (P : Type 0) (n : ℕ) (Q : ℕ → Type 0) → SomeIff o P n → ((m : ℕ) → m ≡ n → Q m) → IfSome o Q
given None P n Q is q = tt
given (Some m) P n Q is q = q m is.1

pub returns : goal.returns
returns t c =
    given c.checked_mul.result _ _ _ c.checked_mul.ensures
    (λ m is loops.
    nest_length c.args.depth c.args.body.now c.in-Some.inner.now c.in-Some.bounds c.in_ok-each.each c.if-depth-eq0.false
    c.in-Some.ensures c.in_ok-each.ensures loops ∙ ap (λ n. n * c.in_ok-each.each) (sym c.turns.ensures) ∙ sym is)
