use Rattle.std.proofs.Common.{◌≡◌, ◌∙◌, ◌<◌, sym, ap, refl, subst, arith, length, true≢false, []}
use Rattle.std.proofs.lemmas.Result.{on_ok_weaker}
use Rattle.actions.specs.Control.{acting, left_of}
use Rattle.actions.specs.Strand as strand
use Rattle.actions.specs.Acting.{answer_of}
use Rattle.actions.proofs.Controls.{acts_turn}
use Rattle.actions.proofs.FirstActs.{stops_acting}
use Rattle.actions.proofs.KernelBegins.{none_there}
use Rattle.actions.proofs.NextTurns.{picked_at}
use Rattle.actions.proofs.TurnAnswers.{answers_strand, goes_on, turns_act}
use Rattle.actions.proofs.control.Control.proceed.Goals.{In-None, In-Some}
use Rattle.actions.proofs.control.Control.proceed.Goals as goal

-- the turn that was taken out is the one that acts next
inside : (c : In-Some) → c.place-place.result < length c.args.self.now.turns.items
inside c = omega (arith, c.in-Some.ensures.variant.0 refl)

taken : (c : In-Some) → acting c.args.self.now ≡ c.in-Some.turn
taken c =
    acts_turn c.args.self.now c.place-place.result c.in-Some.turn c.place-place.ensures (inside c) c.in-Some.ensures.value

-- there are no turns
none : (c : In-None) → c.args.self.now.turns.items ≡ []
none c =
    none_there c.args.self.now.order.now c.args.self.now.turns.items
    (λ lt. true≢false (sym (c.in-None.ensures.variant.1 (omega (arith, lt, c.place-place.ensures)))))

pub put_back-requires-clause-stopped : goal.put_back-requires-clause-stopped
put_back-requires-clause-stopped c =
    let at = (goal.at.put_back-requires-clause-stopped c).In-Some in
    let p = picked_at c.args.self.now (omega (arith, inside at)) c.requires.turns in
    subst strand.IsStopped (taken at) (stops_acting (acting c.args.self.now) p.acting)

pub returns-in_ok-proceed-in-None-clause-answered :
    goal.returns-in_ok-proceed-in-None-clause-answered
returns-in_ok-proceed-in-None-clause-answered c =
    let at = (goal.at.returns-in_ok-proceed-in-None-clause-answered c).In-None in
    let old = c.args.self.now in
    on_ok_weaker c.settle.result
    (λ same.
    answers_strand old c.proceed.new.self (answer_of c.args.given) (left_of c.settle.new.self) (none at) c.requires.kernel
    c.in_ok-proceed-in-None.ensures.answered
    (same ∙ ap (λ ts. left_of (record old { turns = ts; strand = c.proceed.new.self })) c.in-None.ensures.unchanged))
    c.settle.ensures.same

-- the open item before the turns that have not begun
pub settle-requires-in-Some-clause-turns : goal.settle-requires-in-Some-clause-turns
settle-requires-in-Some-clause-turns c =
    let at = (goal.at.settle-requires-in-Some-clause-turns c).In-Some in
    let old = c.args.self.now in
    turns_act old (record old { turns = c.put_back.new.turns; order = c.after_first-self.result }) c.in-Some.turn
    c.place-place.result c.remove.new.self.items (answer_of c.args.given) c.requires (inside at) c.place-place.ensures
    (taken at) c.in-Some.ensures.items refl refl c.after_first-self.ensures c.in_ok-put_back-in-Some.ensures

pub returns-in_ok-put_back-in-Some-clause-answered :
    goal.returns-in_ok-put_back-in-Some-clause-answered
returns-in_ok-put_back-in-Some-clause-answered c =
    let at = (goal.at.returns-in_ok-put_back-in-Some-clause-answered c).In-Some in
    let old = c.args.self.now in
    let went = goes_on old (record old { turns = c.put_back.new.turns; order = c.after_first-self.result }) c.in-Some.turn
    c.place-place.result c.remove.new.self.items (answer_of c.args.given) c.requires (inside at) c.place-place.ensures
    (taken at) c.in-Some.ensures.items refl refl c.after_first-self.ensures c.in_ok-put_back-in-Some.ensures in
    on_ok_weaker c.settle-in-Some.result (λ same q k e. same ∙ went q k e) c.settle-in-Some.ensures.same
