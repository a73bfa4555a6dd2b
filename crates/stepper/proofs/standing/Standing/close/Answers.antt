use Rattle.std.proofs.Common.{◌≡◌, ◌∙◌, Some, sym, ap}
use Rattle.std.specs.Prelude.{slice_get}
use Rattle.std.specs.List.{slice_set}
use Rattle.std.proofs.lemmas.Option.{slice_get-get_or}
use Rattle.stepper.specs.declared.standing.Slot.{Slot}
use Rattle.stepper.proofs.Closings.{closed, never_captured, never_empty}
use Rattle.stepper.proofs.standing.Standing.close.Goals as goal
use Rattle.stepper.proofs.standing.Standing.close.Goals.{in-Opened+in_ok-leave-in-Opened, in-Captured, in-Nothing}

pub returns-clause-closed : goal.returns-clause-closed
returns-clause-closed c plan s t w is kind_is at may e =
    let old = c.args.self.now in
    let i = c.args.item in
    let some = λ (x : Slot). Some x in
    let held : slice_get old.slots.items i ≡ Some c.replace-slot.result =
    slice_get-get_or old.slots.items i c.index_mut.result.now c.requires.inside
    ∙ ap some (sym c.index_mut.ensures.value) ∙ ap some (sym c.replace-slot.ensures.value) in
    elim c.match-slot.branch [
      | in-Opened+in_ok-leave-in-Opened w' ↦
          closed plan old s t at c.requires.going i w is may w'.in-Opened.control (held ∙ ap some w'.in-Opened.is) _
          c.match-slot.self c.args.kind kind_is c.closed.new.self w'.leave.new.self c.requires.here c.closed.ensures w'.self-is
          (w'.in_ok-leave-in-Opened.ensures).left (ap (λ (x : Slot). slice_set old.slots.items i x) c.replace-slot.ensures.after)
          c.requires.inside e
      | in-Captured w' ↦ absurd (never_captured plan old s t at c.requires.going i w is may _ (held ∙ ap some w'.in-Captured.is))
      | in-Nothing w' ↦ absurd (never_empty plan old s t at c.requires.going i w is may (held ∙ ap some w'.in-Nothing.is))
    ]
