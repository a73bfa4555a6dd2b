use Rattle.std.proofs.Common.{◌≡◌, ℕ, ◌-◌, List, ◌++◌, take, drop, ap, sym, subst, ◌∙◌}
use Rattle.c_tokens.specs.Ahead.{ahead}
use Rattle.mend.specs.Bare.{gap}
use Rattle.mend.proofs.Kept.{IsKept, kept_starts, kept_line, kept_other, token_within}
use Rattle.mend.proofs.bare.without_directives.Goals as goal

pub loop-token-init : goal.loop-token-init
loop-token-init c =
    let same = ap ahead c.into_iter-token-iterator.ensures.into_iter_gives ∙ c.tokens-token-items.ensures in (
      tt,
      tt,
      subst (λ (xs : List ℕ). IsKept c.args.bytes.now xs 0 (ahead c.into_iter-token-iterator.result))
          (sym c.new-kept.ensures.items) (kept_starts c.args.bytes.now _ same),
    )

pub gap-start-requires-clause-within : goal.gap-start-requires-clause-within
gap-start-requires-clause-within c = (token_within _ _ _ _ _ _ c.in-Some.ensures.steps c.loop-token.invariant.2).1

pub loop-token-preserved-then-is_directive : goal.loop-token-preserved-then-is_directive
loop-token-preserved-then-is_directive c =
    let bytes : List ℕ = c.args.bytes.now in
    let next : ℕ = c.loop-token.next in
    let g : c.gap-start.result ≡ gap bytes c.in-Some.token = c.gap-start.ensures in
    let kept : List ℕ = c.loop-token.kept.items in
    let before : List ℕ = take ((gap bytes c.in-Some.token).0 - next) (drop next bytes) in
    let front : c.cut.result.now ≡ before = c.cut.ensures ∙ ap (λ (r : ℕ × ℕ). take (r.0 - next) (drop next bytes)) g in
    let items : c.extend_from_slice.new.self.items ≡ kept ++ before =
    c.in_ok-extend_from_slice.ensures.items ∙ ap (λ (xs : List ℕ). kept ++ xs) front in (
      tt,
      tt,
      subst (λ (xs : List ℕ). IsKept bytes xs c.gap-start.result.1 (ahead c.next.new.self)) (sym items)
          (subst (λ (r : ℕ × ℕ). IsKept bytes (kept ++ before) r.1 (ahead c.next.new.self)) (sym g)
          (kept_line _ _ _ _ _ _ c.in-Some.ensures.steps (sym c.is_directive.ensures ∙ c.if-is_directive.true)
          c.loop-token.invariant.2)),
    )

pub loop-token-preserved : goal.loop-token-preserved
loop-token-preserved c = (
  tt,
  tt,
  kept_other _ _ _ _ _ _ c.in-Some.ensures.steps (sym c.is_directive.ensures ∙ c.if-is_directive.false)
      c.loop-token.invariant.2,
)
