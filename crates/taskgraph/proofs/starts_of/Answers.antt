use Rattle.std.proofs.Common.{◌≡◌, ◌⊎◌, inl, inr, ◌<◌, ◌+◌, ℕ, List, [], ◌∷◌, ◌++◌, sym, ap, subst, ◌∙◌, arith}
use Rattle.std.specs.Prelude.{slice_index}
use Rattle.std.proofs.lemmas.Grind.{common_steps}
use Rattle.std.proofs.Math.Seq.{get_or-append_seam}
use Rattle.std.proofs.lemmas.Bool.{cases_eq}
use Rattle.std.proofs.lemmas.List.{get_or_append_left}
use Rattle.taskgraph.specs.Waiting.{IsStart, plan_for}
use Rattle.taskgraph.proofs.starts_of.Goals as goal

pub items-preserved : goal.items-preserved
items-preserved c = record {
  long = grind (arith, common_steps);
  each = λ j lt. go j lt (cases_eq j c.items.item);
}
  where
    go : (j : ℕ) → j < c.items.item + 1 → (j ≡ c.items.item) ⊎ (j ≡ c.items.item → ⊥) →
        IsStart (plan_for c.args.tasks.now) j (slice_index c.push.new.self.items j)
    go j lt (inl e) =
        let same : slice_index c.push.new.self.items j ≡ c.start_of.result =
        ap (λ (ns : List ℕ). slice_index ns j) c.in_ok-push.ensures.items
        ∙ ap (λ k. slice_index (c.items.starts.items ++ c.start_of.result ∷ []) k) (e ∙ sym c.items.invariant.long)
        ∙ get_or-append_seam c.items.starts.items c.start_of.result [] 0 in
        subst (λ n. IsStart (plan_for c.args.tasks.now) j n) (sym same)
        (subst (λ k. IsStart (plan_for c.args.tasks.now) k c.start_of.result) (sym e) c.start_of.ensures)
    go j lt (inr ne) =
        let less : j < c.items.item = omega (arith, lt, ne) in
        let same : slice_index c.push.new.self.items j ≡ slice_index c.items.starts.items j =
        ap (λ (ns : List ℕ). slice_index ns j) c.in_ok-push.ensures.items
        ∙ get_or_append_left c.items.starts.items (c.start_of.result ∷ []) 0 j (omega (arith, less, c.items.invariant.long)) in
        subst (λ n. IsStart (plan_for c.args.tasks.now) j n) (sym same) (c.items.invariant.each j less)

pub returns : goal.returns
returns c = grind (arith, common_steps)
