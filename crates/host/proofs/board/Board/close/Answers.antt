use Rattle.std.proofs.Common.{rules, ◌≡◌, ◌∙◌, Option, Some, None, ap, sym, subst}
use Rattle.host.specs.Looks.{IsClosing}
use Rattle.host.specs.Stops.{first_stop}
use Rattle.host.specs.declared.board.Stop.{Stop}
use Rattle.host.specs.declared.board.Stop.TheVariants as stop
use Rattle.host.proofs.board.Board.close.Goals as goal

pub returns-then-is_issued : goal.returns-then-is_issued
returns-then-is_issued g c =
    let s = c.args.self.now in
    let d = c.args.done.now in
    let none : s.stop ≡ None = search rules in
    let new = c.close_issued.new.self in
    subst (λ (o : Option Stop). IsClosing o s.state d.region.now d.frame.now new.stop new.state) (sym none) c.close_issued.ensures

pub returns-else-is_issued : goal.returns-else-is_issued
returns-else-is_issued g c =
    let s = c.args.self.now in
    let d = c.args.done.now in
    let none : s.stop ≡ None = search rules in
    let new = c.halt.new.self in
    let stops : new.stop ≡ Some stop.Stranger =
    c.halt.ensures.first ∙ ap (λ (o : Option Stop). first_stop o stop.Stranger) none in
    subst (λ (o : Option Stop). IsClosing o s.state d.region.now d.frame.now new.stop new.state) (sym none)
    (subst (λ (o : Option Stop). IsClosing None s.state d.region.now d.frame.now o new.state) (sym stops)
    (c.halt.ensures.state.0, c.is_issued.ensures.no c.if-is_issued.false))
