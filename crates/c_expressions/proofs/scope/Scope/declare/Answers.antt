use Rattle.std.proofs.Common.{◌≡◌, ◌+◌, ◌-◌, length, refl, arith}
use Rattle.c_expressions.specs.declared.scope.Frame.{Frame}
use Rattle.c_expressions.proofs.Blocks.{declared_is, names_declared, same_frames, same_names, last_place, on_err}
use Rattle.c_expressions.proofs.scope.Scope.declare.Goals as goal

pub returns-in_err-push-clause-memory : goal.returns-in_err-push-clause-memory
returns-in_err-push-clause-memory c =
    let place : c.len-last.result - 1 + 1 ≡ length c.args.self.now.frames.items =
    last_place c.len-last.result c.args.self.now.frames.len (length c.args.self.now.frames.items)
    c.is_empty.result c.is_empty.ensures c.if-is_empty.false c.len-last.ensures
    (omega (arith, c.args.self.now.frames.ok.0)) in
    let frame : Frame = record {
      names = c.push.new.self;
      inside = c.index_mut-frame.result.now.inside;
      choice =
          c.index_mut-frame.result.now.choice;
    } in
    on_err c.from_residual.result _ (record {
      context = same_frames c.args.self.now (c.len-last.result - 1) c.index_mut-frame.result.now frame place
          c.index_mut-frame.ensures.value c.in_err-push.ensures.items refl refl;
      names = same_names c.args.self.now.frames.items (c.len-last.result - 1) c.index_mut-frame.result.now frame
          place c.index_mut-frame.ensures.value c.in_err-push.ensures.items;
      next = refl;
    })

pub returns-clause-declared : goal.returns-clause-declared
returns-clause-declared c =
    let place : c.len-last.result - 1 + 1 ≡ length c.args.self.now.frames.items =
    last_place c.len-last.result c.args.self.now.frames.len (length c.args.self.now.frames.items)
    c.is_empty.result c.is_empty.ensures c.if-is_empty.false c.len-last.ensures
    (omega (arith, c.args.self.now.frames.ok.0)) in
    let frame : Frame = record {
      names = c.push.new.self;
      inside = c.index_mut-frame.result.now.inside;
      choice =
          c.index_mut-frame.result.now.choice;
    } in
    declared_is c.args.self.now (c.len-last.result - 1) c.index_mut-frame.result.now frame
    (record { text = c.args.text; meaning = c.args.meaning }) place c.index_mut-frame.ensures.value
    c.in_ok-push.ensures.items refl refl

pub returns-clause-names : goal.returns-clause-names
returns-clause-names c =
    let place : c.len-last.result - 1 + 1 ≡ length c.args.self.now.frames.items =
    last_place c.len-last.result c.args.self.now.frames.len (length c.args.self.now.frames.items)
    c.is_empty.result c.is_empty.ensures c.if-is_empty.false c.len-last.ensures
    (omega (arith, c.args.self.now.frames.ok.0)) in
    let frame : Frame = record {
      names = c.push.new.self;
      inside = c.index_mut-frame.result.now.inside;
      choice =
          c.index_mut-frame.result.now.choice;
    } in
    names_declared c.args.self.now.frames.items (c.len-last.result - 1) c.index_mut-frame.result.now frame
    (record { text = c.args.text; meaning = c.args.meaning }) place c.index_mut-frame.ensures.value
    c.in_ok-push.ensures.items
