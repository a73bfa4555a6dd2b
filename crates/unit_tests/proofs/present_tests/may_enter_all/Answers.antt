use Rattle.std.proofs.Common.{◌≡◌, ◌⊎◌, ℕ, ◌+◌, ◌<◌, List, length, get_or, true, false, Some, refl, inl, inr, sym, ◌∙◌, ap, subst, arith}
use Rattle.std.specs.Prelude.{slice_get, nat_lt}
use Rattle.std.proofs.lemmas.Bool.{cases_Bool, ltb-true, ltb-false}
use Rattle.std.proofs.lemmas.Option.{slice_get-get_or, slice_get_within}
use Rattle.base.specs.declared.item.MapItem.{MapItem}
use Rattle.present.proofs.Founds.{one_block}
use Rattle.unit_tests.proofs.present_tests.may_enter_all.Goals as goal

-- what holds of the items below a place, and of the one there, holds of those up to it
one_more : (P : MapItem → Type 0) (items : List MapItem) (i : ℕ) (d : MapItem) →
    ((k : ℕ) (item : MapItem) → k < i → slice_get items k ≡ Some item → P item) → i < length items →
    P (get_or items i d) →
    (k : ℕ) (item : MapItem) → k < i + 1 → slice_get items k ≡ Some item → P item
one_more P items i d below l here k item m e = go (cases_Bool (nat_lt k i))
  where
    go : (nat_lt k i ≡ true) ⊎ (nat_lt k i ≡ false) → P item
    go (inl b) = below k item (ltb-true k i b) e
    go (inr b) =
        let up = ltb-false k i b in
        let same : k ≡ i = omega arith in
        let is : get_or items i d ≡ item =
        one_block (slice_get items i) (get_or items i d) item (slice_get-get_or items i d l) (ap (slice_get items)
        (sym same) ∙ e) in
        subst P is here

pub loop-item-preserved : goal.loop-item-preserved
loop-item-preserved c =
    let h = c.if-not-may_enter.ensures in
    one_more _ c.args.items.now c.loop-item.item-index _ c.loop-item.invariant c.loop-item-test.true
    (h.section refl, h.within refl, h.count refl)

pub returns : goal.returns
returns c = record {
  sections = λ x k item e. (let w = slice_get_within c.args.items.now k item e in (c.loop-item.invariant k item
      (omega arith) e).0);
  within = λ x k item e. (let w = slice_get_within c.args.items.now k item e in (c.loop-item.invariant k item
      (omega arith) e).1);
  counts = λ x k item z e. (let w = slice_get_within c.args.items.now k item e in
      let fits = (c.loop-item.invariant k item (omega arith) e).2 in omega (arith, fits));
}
