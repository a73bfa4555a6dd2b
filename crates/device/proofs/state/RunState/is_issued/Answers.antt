use Rattle.std.proofs.Common.{◌∙◌, ap, ap₂, sym}
use Rattle.std.specs.Prelude.{slice_get}
use Rattle.std.proofs.lemmas.Bool.{true≢false}
use Rattle.base.specs.declared.tree.Region.{Region}
use Rattle.base.specs.Items.{plan}
use Rattle.base.specs.Machine.{is_open}
use Rattle.two_memories.proofs.PlanItems.{on_true}
use Rattle.device.specs.Run.{Run, state_of}
use Rattle.device.specs.Same.{same_list}
use Rattle.device.proofs.IssuedFrames.{code_statements}
use Rattle.device.proofs.state.RunState.is_issued.Goals as goal

pub returns-clause-yes : goal.returns-clause-yes
returns-clause-yes c e = record {
  is_open = sym c.is_enabled.ensures ∙ c.if-not-is_enabled.false;
  is_held = c.holds.ensures.yes c.if-not-holds.false;
  has_statements = λ w at.
      let k = code_statements w.region c.code-code.result.now (c.code-code.ensures w
      (ap (λ (r : Run). slice_get (plan r.program).items c.args.frame.now.item) c.self.view_is ∙ at)) in
      ap₂ same_list (sym (c.deref.ensures.value ∙ ap (λ (r : Region). r.body.items) c.region.ensures ∙ k)) (sym c.deref-2.ensures.value)
      ∙ sym c.is_same_list.ensures ∙ e;
}

pub returns-clause-no : goal.returns-clause-no
returns-clause-no c e d =
    let f = on_true (plan c.args.self.now.program) c.args.frame.now.item
    (λ w. is_open ((state_of c.args.self.now).condition c.args.frame.now.item)) d.is_open in
    let k = code_statements f.0.region c.code-code.result.now (c.code-code.ensures f.0
    (ap (λ (r : Run). slice_get (plan r.program).items c.args.frame.now.item) c.self.view_is ∙ f.1)) in
    true≢false (sym (d.has_statements f.0 f.1)
    ∙ ap₂ same_list (sym (c.deref.ensures.value ∙ ap (λ (r : Region). r.body.items) c.region.ensures ∙ k)) (sym c.deref-2.ensures.value)
    ∙ sym c.is_same_list.ensures ∙ e)
