use Rattle.std.proofs.Common.{arith, refl, ap, sym, ◌∙◌, true≢false}
use Rattle.actions.specs.Strand.{is_action}
use Rattle.std.proofs.lemmas.Result.{on_ok_weaker}
use Rattle.actions.proofs.Takes.{takes_number, takes_subscript, takes_place, takes_and, takes_or, takes_right_of, takes_assign, takes_print, takes_choose, takes_entries, takes_exits, takes_copy_in, takes_copy_out}
use Rattle.actions.specs.declared.frame.Frame.TheVariants as frame
use Rattle.actions.specs.Rest.{rest_of}
use Rattle.actions.proofs.strand.Strand.take.Goals as goal
use Rattle.actions.proofs.strand.Strand.take.Goals.{then-self-eq0, else-self-eq0}

pub returns-in-Unary : goal.returns-in-Unary
unfolding rest_of
returns-in-Unary c =
    takes_number c.args.frame (frame.Unary c.in-Unary.op) c.args.self.now _ _ c.in-Unary.is c.of_one-self.ensures refl (omega arith)

pub returns-in-Both : goal.returns-in-Both
unfolding rest_of
returns-in-Both c =
    takes_number c.args.frame (frame.Both c.in-Both.op c.in-Both.left) c.args.self.now _ _ c.in-Both.is c.of_both-self.ensures refl (omega arith)

pub returns-in-Truth : goal.returns-in-Truth
unfolding rest_of
returns-in-Truth c =
    takes_number c.args.frame (frame.Truth) c.args.self.now _ _ c.in-Truth.is c.flag-self.ensures refl (omega arith)

pub returns-in-Shift : goal.returns-in-Shift
unfolding rest_of
returns-in-Shift c =
    takes_number c.args.frame (frame.Shift c.in-Shift.op c.in-Shift.n) c.args.self.now _ _ c.in-Shift.is c.of_shift-self.ensures refl (omega arith)

pub returns-in-Divide : goal.returns-in-Divide
unfolding rest_of
returns-in-Divide c =
    takes_number c.args.frame (frame.Divide c.in-Divide.op c.in-Divide.n) c.args.self.now _ _ c.in-Divide.is c.of_division-self.ensures refl (omega arith)

pub returns-in-Right : goal.returns-in-Right
returns-in-Right c =
    on_ok_weaker c.begin.result
    (takes_right_of c.args.frame c.in-Right.op c.in-Right.e c.args.self.now c.begin.new.self c.in-Right.is) c.begin.ensures

pub returns-in-AndRight : goal.returns-in-AndRight
returns-in-AndRight c =
    on_ok_weaker c.take_right.result
    (takes_and c.args.frame c.in-AndRight.e c.args.self.now c.take_right.new.self _ c.in-AndRight.is refl)
    c.take_right.ensures

pub returns-in-OrRight : goal.returns-in-OrRight
returns-in-OrRight c =
    on_ok_weaker c.take_right-in-OrRight.result
    (takes_or c.args.frame c.in-OrRight.e c.args.self.now c.take_right-in-OrRight.new.self _ c.in-OrRight.is refl)
    c.take_right-in-OrRight.ensures

pub returns-in-Subscript : goal.returns-in-Subscript
returns-in-Subscript c =
    on_ok_weaker c.begin_source.result
    (takes_subscript c.args.frame c.in-Subscript.array c.in-Subscript.v c.args.self.now c.begin_source.new.self c.in-Subscript.is)
    c.begin_source.ensures

pub returns-in-Place : goal.returns-in-Place
returns-in-Place c =
    on_ok_weaker c.begin-in-Place.result
    (takes_place c.args.frame c.in-Place.op c.in-Place.array c.in-Place.e c.args.self.now c.begin-in-Place.new.self c.in-Place.is)
    c.begin-in-Place.ensures

pub returns-in_ok-set-in-Assign : goal.returns-in_ok-set-in-Assign
returns-in_ok-set-in-Assign c =
    takes_assign c.args.frame c.in-Assign.x c.args.self.now _ c.in-Assign.is c.in_ok-set-in-Assign.ensures

pub returns-in_ok-push-in-Print : goal.returns-in_ok-push-in-Print
returns-in_ok-push-in-Print c =
    takes_print c.args.frame c.args.self.now c.push.new.self c.in-Print.is c.in_ok-push-in-Print.ensures.items

pub returns-in-Choose : goal.returns-in-Choose
returns-in-Choose c =
    on_ok_weaker c.push-in-Choose.result
    (takes_choose c.args.frame c.in-Choose.first c.in-Choose.second c.if-self-eq0.all c.args.self.now c.push-in-Choose.new.self
    c.in-Choose.is
    (elim c.if-self-eq0.branch [
      | then-self-eq0 w ↦ λ e. w.all-is
      | else-self-eq0 w ↦ λ e. absurd (w.if-self-eq0.false e)
    ])
    (elim c.if-self-eq0.branch [
      | then-self-eq0 w ↦ λ some. absurd (some w.if-self-eq0.true)
      | else-self-eq0 w ↦ λ some. w.all-is
    ])) c.push-in-Choose.ensures.pushed

pub returns-in-Entries : goal.returns-in-Entries
returns-in-Entries c = takes_entries c.args.frame _ c.args.self.now c.in-Entries.is c.requires

pub returns-in-Exits : goal.returns-in-Exits
returns-in-Exits c = takes_exits c.args.frame _ c.args.self.now c.in-Exits.is c.requires

pub returns-in-CopyIn : goal.returns-in-CopyIn
returns-in-CopyIn c = takes_copy_in c.args.frame _ c.args.self.now c.in-CopyIn.is c.requires

pub returns-in-CopyOut : goal.returns-in-CopyOut
returns-in-CopyOut c = takes_copy_out c.args.frame _ c.args.self.now c.in-CopyOut.is c.requires

pub returns-in-Load : goal.returns-in-Load
returns-in-Load c = absurd (true≢false (sym (ap is_action c.in-Load.is) ∙ c.requires))

pub returns-in-Store : goal.returns-in-Store
returns-in-Store c = absurd (true≢false (sym (ap is_action c.in-Store.is) ∙ c.requires))

pub returns-in-Remove : goal.returns-in-Remove
returns-in-Remove c = absurd (true≢false (sym (ap is_action c.in-Remove.is) ∙ c.requires))

pub returns-in-Combine : goal.returns-in-Combine
returns-in-Combine c = absurd (true≢false (sym (ap is_action c.in-Combine.is) ∙ c.requires))
