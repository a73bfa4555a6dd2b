use Rattle.std.proofs.Common.{sym, subst, refl, arith, true≢false}
use Rattle.actions.specs.Strand as strand
use Rattle.actions.proofs.Controls.{acts_strand, acts_turn}
use Rattle.actions.proofs.NextTurns.{next_of}
use Rattle.actions.proofs.control.Control.next.Goals as goal

pub returns-in-Some : goal.returns-in-Some
returns-in-Some c stopped =
    let is = acts_turn c.args.self.now c.place.result c.in-Some.turn.now c.place.ensures
    (omega (arith, c.in-Some.ensures.variant.0 refl)) c.in-Some.ensures.lookup in
    next_of c.args.self.now c.next.result stopped
    (λ h. subst (λ s. strand.IsNext s c.next.result) (sym is) (c.next.ensures (subst strand.IsStopped is h)))

pub returns-in-None : goal.returns-in-None
returns-in-None c stopped =
    let is = acts_strand c.args.self.now c.place.result c.place.ensures
    (λ lt. true≢false (sym (c.in-None.ensures.variant.1 (omega (arith, lt))))) in
    next_of c.args.self.now c.next-in-None.result stopped
    (λ h. subst (λ s. strand.IsNext s c.next-in-None.result) (sym is) (c.next-in-None.ensures (subst strand.IsStopped is h)))
