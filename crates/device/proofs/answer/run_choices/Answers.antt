use Rattle.std.proofs.Common.{◌∙◌, ap}
use Rattle.base.specs.Items.{plan}
use Rattle.base.specs.declared.tree.Program.{Program}
use Rattle.headline.specs.Stepwise.{program_order}
use Rattle.device.proofs.Answers.{is_answer, no_answer}
use Rattle.device.proofs.Rooms.{answer_within}
use Rattle.device.proofs.answer.run_choices.Goals as goal

pub returns-in-Err-play_choices-clause-fault : goal.returns-in-Err-play_choices-clause-fault
returns-in-Err-play_choices-clause-fault c =
    no_answer c.args.image.now c.args.input.now c.args.choices.now c.args.capacity c.in-Ok.run' c.play_choices.new.self
    c.in-Err-play_choices.fault c.in-Ok.ensures.start c.in-Err-play_choices.ensures.stopped

pub returns-clause-answer : goal.returns-clause-answer
returns-clause-answer c =
    is_answer c.args.image.now c.args.input.now c.args.choices.now c.args.capacity c.in-Ok.run'
    c.play_choices.new.self c.in-Ok-answer.answer c.in-Ok.ensures.start c.in-Ok-play_choices.ensures.played
    c.is_reached.ensures.reached c.in-Ok-answer.ensures

pub returns-clause-within : goal.returns-clause-within
returns-clause-within c =
    let goes = c.in-Ok-play_choices.ensures.played.goes in
    let begun = c.in-Ok.ensures.start in
    answer_within c.play_choices.new.self c.args.image.now c.args.input.now c.args.capacity c.in-Ok-answer.answer
    c.is_reached.ensures.reached c.is_reached.ensures.stayed (goes.program ∙ begun.program) (goes.input ∙ begun.input)
    (goes.capacity ∙ begun.capacity) c.in-Ok-answer.ensures.history

pub returns-clause-in_order : goal.returns-clause-in_order
returns-clause-in_order c none =
    let goes = c.in-Ok-play_choices.ensures.played.goes in
    let begun = c.in-Ok.ensures.start in
    c.in-Ok-answer.ensures.history ∙ c.in-Ok-play_choices.ensures.in_order none begun.history
    ∙ ap (λ (p : Program). program_order (plan p)) (goes.program ∙ begun.program)
