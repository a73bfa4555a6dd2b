use Rattle.std.proofs.Common.{◌≡◌, ◌+◌, ap, ◌∙◌, subst, arith}
use Rattle.std.specs.Prelude.{slice_get, slice_set}
use Rattle.std.proofs.lemmas.Option.{slice_get_within}
use Rattle.base.specs.Map.{entry_copies}
use Rattle.present.specs.declared.block.Block.{Block}
use Rattle.present.specs.Found.{IsAbsentAt, IsInsideAt}
use Rattle.present.specs.Change.{Missing, with_count}
use Rattle.present.proofs.Founds.{one_block}
use Rattle.present.proofs.Entries.{count_here}
use Rattle.present.proofs.Table.count.Goals as goal

pub overflow_add-count : goal.overflow_add-count
overflow_add-count c =
    let t = c.args.self.now in
    let s = c.args.item.now.section in
    let h : IsInsideAt t.blocks.items s c.in-Inside.at = subst
    (λ bs. IsInsideAt bs s c.in-Inside.at) c.deref.ensures.value c.in-Inside.ensures in
    let k = c.count_of-count.ensures in
    let same : h.block ≡ k.block = one_block (slice_get t.blocks.items c.in-Inside.at) h.block k.block h.is k.is in
    let here = count_here t s c.in-Inside.at h.block c.requires.section h.is h.inside in
    let count : h.block.count ≡ k.block.count = ap (λ (b : Block). b.count) same in
    let fits = c.requires.count in
    omega (arith, k.count', here, count, fits)

pub set_count-requires : goal.set_count-requires
set_count-requires c = slice_get_within c.args.self.now.blocks.items c.in-Inside.at c.count_of-count.ensures.block
    c.count_of-count.ensures.is

pub returns-then-item-clause-fault : goal.returns-then-item-clause-fault
returns-then-item-clause-fault c = Missing (record {
  at = c.in-Absent.at;
  absent = subst (λ bs. IsAbsentAt bs c.args.item.now.section c.in-Absent.at) c.deref.ensures.value
      c.in-Absent.ensures;
  with_present = c.if-item.true;
})

pub returns-in-Ok-clause-counted : goal.returns-in-Ok-clause-counted
returns-in-Ok-clause-counted c =
    let t = c.args.self.now in
    record {
      absent = subst (λ bs. IsAbsentAt bs c.args.item.now.section c.in-Absent.at) c.deref.ensures.value
          c.in-Absent.ensures;
      without_present = c.if-item.false;
      room = (let r = t.room in omega arith);
      creates = c.in-Ok.ensures.created;
      copies = c.copies_in.ensures;
    }

pub returns-in-Inside-clause-counted : goal.returns-in-Inside-clause-counted
returns-in-Inside-clause-counted c =
    let t = c.args.self.now in
    let s = c.args.item.now.section in
    let bs = t.blocks.items in
    let h : IsInsideAt bs s c.in-Inside.at = subst
    (λ bs. IsInsideAt bs s c.in-Inside.at) c.deref.ensures.value c.in-Inside.ensures in
    let k = c.count_of-count.ensures in
    let r = c.set_count.ensures.counted in
    let same : k.block ≡ h.block = one_block (slice_get bs c.in-Inside.at) k.block h.block k.is h.is in
    let other : r.before ≡ h.block = one_block (slice_get bs c.in-Inside.at) r.before h.block r.is h.is in
    let count : c.count_of-count.result ≡ h.block.count = k.count' ∙ ap (λ (b : Block). b.count) same in
    record {
      before = h.block;
      is = h.is;
      inside = h.inside;
      blocks = r.blocks ∙ (λ i. slice_set bs c.in-Inside.at (with_count (other i) (count i + 1)));
      copies = c.copies_in-in-Inside.ensures ∙ ap (λ n. entry_copies c.args.item.now (n + 1)) count;
    }
