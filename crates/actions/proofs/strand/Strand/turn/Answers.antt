use Rattle.std.proofs.Common.{false, refl, ap, ◌∙◌, ◌∷◌}
use Rattle.actions.specs.declared.frame.Frame.TheVariants as frame
use Rattle.actions.proofs.TurnBegins.{turn_begins}
use Rattle.actions.proofs.strand.Strand.turn.Goals as goal

pub returns : goal.returns
returns c =
    turn_begins c.args.self.now
    (record {
      on_host = false;
      frames = c.push.new.self;
      loops = c.in_ok-from_slice.field-0;
      number = 0;
      scalars = c.in_ok-copy.field-0;
      input = c.args.self.now.input;
      printed = c.in_ok-from_slice-2.field-0;
    }) c.args.body c.args.loops.now refl
    (c.in_ok-push.ensures.pushed ∙ ap (λ fs. frame.Rest c.args.body ∷ fs) c.new-frames.ensures)
    c.in_ok-from_slice.ensures.items c.in_ok-copy.ensures refl
    (c.in_ok-from_slice-2.ensures.items ∙ c.deref.ensures.value)
