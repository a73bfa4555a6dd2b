use Rattle.std.proofs.Common.{ap, ◌∙◌, ◌∷◌}
use Rattle.std.proofs.lemmas.Result.{on_ok_weaker}
use Rattle.actions.proofs.Answered.{acts_first, answers_combine, answers_copy_in, answers_copy_out, answers_entries, answers_exits, answers_load, answers_none, answers_remove, answers_store, at_part}
use Rattle.actions.specs.declared.frame.Frame.TheVariants as frame
use Rattle.actions.specs.Acting.{answer_of}
use Rattle.actions.specs.Rest.{frames_of}
use Rattle.actions.proofs.strand.Strand.answer.Goals as goal

pub returns-in_default : goal.returns-in_default
returns-in_default c = answers_none c.args.self.now (record (c.args.self.now) { frames = c.pop.new.self }) _ c.in_default.ensures.0

pub returns-in-Entries : goal.returns-in-Entries
returns-in-Entries c =
    let is = c.in-Some.ensures ∙ ap (λ f. f ∷ frames_of c.pop.new.self) c.in-Entries.is in
    on_ok_weaker c.entered.result
    (λ a.
    at_part (frame.Entries c.in-Entries.maps) c.args.self.now c.entered.new.self (frames_of c.pop.new.self) _ is
    (answers_entries c.in-Entries.maps c.args.self.now c.entered.new.self c.pop.new.self _ _ _
    (acts_first (frame.Entries c.in-Entries.maps) c.args.self.now _ is c.requires) a)) c.entered.ensures

pub returns-in-Exits : goal.returns-in-Exits
returns-in-Exits c =
    let is = c.in-Some.ensures ∙ ap (λ f. f ∷ frames_of c.pop.new.self) c.in-Exits.is in
    on_ok_weaker c.left.result
    (λ a.
    at_part (frame.Exits c.in-Exits.maps) c.args.self.now c.left.new.self (frames_of c.pop.new.self) _ is
    (answers_exits c.in-Exits.maps c.args.self.now c.left.new.self c.pop.new.self _ _ _
    (acts_first (frame.Exits c.in-Exits.maps) c.args.self.now _ is c.requires) a)) c.left.ensures

pub returns-in-CopyIn : goal.returns-in-CopyIn
returns-in-CopyIn c =
    let is = c.in-Some.ensures ∙ ap (λ f. f ∷ frames_of c.pop.new.self) c.in-CopyIn.is in
    on_ok_weaker c.push.result
    (λ pushed.
    at_part (frame.CopyIn c.in-CopyIn.cells) c.args.self.now
    (record (c.args.self.now) { frames = c.push.new.self; number = 0 }) (frames_of c.pop.new.self) _ is
    (answers_copy_in c.in-CopyIn.cells c.after_first.result c.args.self.now (frames_of c.pop.new.self) c.push.new.self _
    c.after_first.ensures.array c.after_first.ensures.first c.after_first.ensures.count pushed)) c.push.ensures.pushed

pub returns-in-CopyOut : goal.returns-in-CopyOut
returns-in-CopyOut c =
    let is = c.in-Some.ensures ∙ ap (λ f. f ∷ frames_of c.pop.new.self) c.in-CopyOut.is in
    on_ok_weaker c.push-in-CopyOut.result
    (λ pushed.
    at_part (frame.CopyOut c.in-CopyOut.cells) c.args.self.now
    (record (c.args.self.now) { frames = c.push-in-CopyOut.new.self; number = 0 }) (frames_of c.pop.new.self) _ is
    (answers_copy_out c.in-CopyOut.cells c.after_first-in-CopyOut.result c.args.self.now (frames_of c.pop.new.self) c.push-in-CopyOut.new.self _
    c.after_first-in-CopyOut.ensures.array c.after_first-in-CopyOut.ensures.first c.after_first-in-CopyOut.ensures.count pushed)) c.push-in-CopyOut.ensures.pushed

pub returns-in-Load : goal.returns-in-Load
returns-in-Load c =
    let is = c.in-Some.ensures ∙ ap (λ f. f ∷ frames_of c.pop.new.self) c.in-Load.is in
    at_part (frame.Load _) c.args.self.now
    (record (c.args.self.now) { frames = c.pop.new.self; number = c.args.given.number }) (frames_of c.pop.new.self)
    (answer_of c.args.given) is (answers_load _ c.args.self.now c.pop.new.self (answer_of c.args.given))

pub returns-in-Store : goal.returns-in-Store
returns-in-Store c =
    let is = c.in-Some.ensures ∙ ap (λ f. f ∷ frames_of c.pop.new.self) c.in-Store.is in
    at_part _ c.args.self.now (record (c.args.self.now) { frames = c.pop.new.self; number = 0 }) (frames_of c.pop.new.self)
    (answer_of c.args.given) is (answers_store _ _ c.args.self.now c.pop.new.self (answer_of c.args.given))

pub returns-in-Combine : goal.returns-in-Combine
returns-in-Combine c =
    let is = c.in-Some.ensures ∙ ap (λ f. f ∷ frames_of c.pop.new.self) c.in-Combine.is in
    at_part _ c.args.self.now (record (c.args.self.now) { frames = c.pop.new.self; number = 0 }) (frames_of c.pop.new.self)
    (answer_of c.args.given) is (answers_combine _ _ _ c.args.self.now c.pop.new.self (answer_of c.args.given))

pub returns-in-Remove : goal.returns-in-Remove
returns-in-Remove c =
    let is = c.in-Some.ensures ∙ ap (λ f. f ∷ frames_of c.pop.new.self) c.in-Remove.is in
    at_part _ c.args.self.now (record (c.args.self.now) { frames = c.pop.new.self; number = 0 }) (frames_of c.pop.new.self)
    (answer_of c.args.given) is (answers_remove _ c.args.self.now c.pop.new.self (answer_of c.args.given))
