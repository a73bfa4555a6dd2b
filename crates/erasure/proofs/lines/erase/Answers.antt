use Rattle.std.proofs.Common.{rules, arith, ◌≡◌, ℕ, ◌+◌, ◌≤◌, List, length, ap, sym, subst, ◌∙◌}
use Rattle.c_tokens.specs.Ahead.{ahead}
use Rattle.c_source.specs.Source.{Spells}
use Rattle.erasure.specs.Plain.{plain_tree}
use Rattle.erasure.proofs.Spelled.{spells_plain}
use Rattle.erasure.specs.Erased.{erased_text, items_in}
use Rattle.erasure.proofs.Covered.{erased_items}
use Rattle.erasure.proofs.Copies.{IsCopied, copy_starts, copy_line, copy_other, copy_ends, token_within}
use Rattle.erasure.proofs.lines.erase.Goals as goal

pub loop-token-init : goal.loop-token-init
loop-token-init c =
    let same = ap ahead c.into_iter-token-iterator.ensures.into_iter_gives ∙ c.tokens-token-items.ensures in (
      tt,
      tt,
      subst (λ (xs : List ℕ). IsCopied c.args.bytes.now xs 0 (ahead c.into_iter-token-iterator.result))
          (sym c.new-kept.ensures.items) (copy_starts c.args.bytes.now _ same),
    )

pub slice_bounds-extend_from_slice-end : goal.slice_bounds-extend_from_slice-end
slice_bounds-extend_from_slice-end c =
    let place = token_within _ _ _ _ _ _ c.in-Some.ensures.steps c.loop-token.invariant.2 in omega (arith, place.0, place.1, place.2)

pub slice_bounds-extend_from_slice-count : goal.slice_bounds-extend_from_slice-count
slice_bounds-extend_from_slice-count c =
    let place = token_within _ _ _ _ _ _ c.in-Some.ensures.steps c.loop-token.invariant.2 in omega (arith, place.0, place.1, place.2)

pub overflow_add-next : goal.overflow_add-next
overflow_add-next c =
    let place = token_within _ _ _ _ _ _ c.in-Some.ensures.steps c.loop-token.invariant.2 in
    let bound : c.in-Some.token.last + 1 ≤ length c.args.bytes.now = place.2 in search (rules, bound)

pub loop-token-preserved-then-is_directive : goal.loop-token-preserved-then-is_directive
loop-token-preserved-then-is_directive c = (
  tt,
  tt,
  subst (λ (xs : List ℕ). IsCopied c.args.bytes.now xs (c.in-Some.token.last + 1) (ahead c.next.new.self))
      (sym c.in_ok-extend_from_slice.ensures.items)
      (copy_line _ _ _ _ _ _ c.in-Some.ensures.steps (sym c.is_directive.ensures ∙ c.if-is_directive.true)
      c.loop-token.invariant.2),
)

pub loop-token-preserved : goal.loop-token-preserved
loop-token-preserved c = (
  tt,
  tt,
  copy_other _ _ _ _ _ _ c.in-Some.ensures.steps (sym c.is_directive.ensures ∙ c.if-is_directive.false)
      c.loop-token.invariant.2,
)

pub returns : goal.returns
returns c =
    let text : c.extend_from_slice-2.new.self.items ≡ erased_text c.args.bytes.now =
    c.in_ok-extend_from_slice-2.ensures.items
    ∙ copy_ends _ _ _ _ c.in-None.ensures.steps.0 c.loop-token.invariant.2 in
    record {
      erased = text;
      tokens = ap items_in text ∙ erased_items c.args.bytes.now;
      tree = λ t s. subst (λ (bs : List ℕ). Spells bs (plain_tree t)) (sym text) (spells_plain c.args.bytes.now t s);
    }
