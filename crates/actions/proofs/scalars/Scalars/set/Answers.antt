use Rattle.std.proofs.Common.{◌≡◌, ◌+◌, ◌<◌, ◌≤◌, ◌++◌, ℕ, List, ap, ◌∙◌, sym, arith, length, subst, replicate}
use Rattle.std.specs.Prelude.{slice_index, take}
use Rattle.std.specs.List.{slice_set}
use Rattle.base.specs.Meaning.{set_scalar}
use Rattle.actions.specs.declared.scalars.Scalars.TheInside.{Inside}
use Rattle.actions.proofs.Numbers.{set_is, set_grown}
use Rattle.actions.proofs.scalars.Scalars.set.Goals.{then-len-place+in_ok-resize, else-len-place}
use Rattle.actions.proofs.scalars.Scalars.set.Goals as goal

-- after the list has grown
grown : (xs ys : List ℕ) (m x n : ℕ) → length xs ≤ x → ys ≡ take (x + 1) xs ++ replicate m 0 → x < length ys →
    slice_index (slice_set ys x n) ≡ set_scalar x n (slice_index xs)
grown xs ys m x n few is inside =
    ap (λ zs. slice_index (slice_set zs x n)) is ∙ set_grown xs m x n few (subst (λ zs. x < length zs) is inside)

same : (xs ys : List ℕ) (x n : ℕ) → ys ≡ xs → x < length ys →
    slice_index (slice_set ys x n) ≡ set_scalar x n (slice_index xs)
same xs ys x n is inside = set_is ys x n inside ∙ ap (λ zs. set_scalar x n (slice_index zs)) is

pub returns : goal.returns
returns c =
    elim c.if-len-place.branch [
      | then-len-place+in_ok-resize w ↦
          grown c.self.inside.numbers.items _ _ c.args.x c.args.number
          (omega (arith, w.if-len-place.true, c.len.ensures))
          (ap (λ (s : Inside). s.numbers.items) w.self-inside-is ∙ w.in_ok-resize.ensures.items)
          (subst (λ (s : Inside). c.args.x < length s.numbers.items) (sym w.self-inside-is)
          (omega (arith, w.in_ok-resize.ensures.len)))
      | else-len-place w ↦
          same c.self.inside.numbers.items _ c.args.x c.args.number
          (ap (λ (s : Inside). s.numbers.items) w.self-inside-is)
          (subst (λ (s : Inside). c.args.x < length s.numbers.items) (sym w.self-inside-is)
          (omega (arith, w.if-len-place.false, c.len.ensures)))
    ]
    ∙ ap (λ zs. set_scalar c.args.x c.args.number (slice_index zs)) c.self.view_is
