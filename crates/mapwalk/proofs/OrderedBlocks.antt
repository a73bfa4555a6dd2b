-- Blocks in order, with the block of each spot and the spot of each block.
use Rattle.std.proofs.Common.{◌≡◌, ◌⊎◌, ℕ, zero, suc, ◌==◌, true, false, List, [], ◌∷◌, get_or, Option, Some, None, refl, sym, ap, ◌∙◌, inl, inr, arith}
use Rattle.std.specs.Prelude.{slice_get}
use Rattle.std.proofs.lemmas.Bool.{eq-eqb, eqb-true, or_cases, or_left, or_right}
use Rattle.std.proofs.lemmas.Option.{same_Some, slice_get-get_or, slice_get_within}
use Rattle.base.specs.declared.item.Section.{Section}
use Rattle.base.specs.Memory.{same_section}
use Rattle.base.proofs.Sections.{same_parts, same_self}
use Rattle.mapwalk.specs.declared.blocks.Block.{Block}
use Rattle.mapwalk.specs.declared.spots.Spot.{Spot}
use Rattle.mapwalk.specs.Spots.{AreOrdered, HasBlock, HasSpot, IsOrder, has_block, has_spot}

section_is : (s t : Section) → same_section s t ≡ true → s ≡ t
section_is s t h =
    let p = same_parts s t h in
    λ i. record { array = record { 0 = p.array i }; first = p.first i; length = p.length i }

block_there : (bs : List Block) (x : Spot) → has_block bs x ≡ true → HasBlock bs x
block_there bs x h = go (slice_get bs x.number) refl
  where
    go : (o : Option Block) → slice_get bs x.number ≡ o → HasBlock bs x
    go None e = absurd (cc (sym (ap (λ o. elim o [ None ↦ false | Some b ↦ same_section b.section x.section ]) e) ∙ h))
    go (Some b) e = record {
      block = b;
      is = e;
      section = section_is b.section x.section (sym (ap (λ o. elim o [ None ↦ false | Some b ↦ same_section b.section x.section ]) e) ∙ h);
    }

spot_there : (spots : List Spot) (n : ℕ) → has_spot spots n ≡ true → HasSpot spots n
spot_there [] n h = absurd (cc h)
spot_there (x ∷ spots) n h = go (spot_there spots n) (or_cases (x.number == n) (has_spot spots n) h)
  where
    go : (has_spot spots n ≡ true → HasSpot spots n) → (x.number == n ≡ true) ⊎ (has_spot spots n ≡ true) → HasSpot (x ∷ spots) n
    go again (inl e) = record { place = zero; spot = x; is = refl; number = eqb-true x.number n e }
    go again (inr e) =
        let r = again e in
        record { place = suc r.place; spot = r.spot; is = r.is; number = r.number }

any_at : (spots : List Spot) (n k : ℕ) (x : Spot) → slice_get spots k ≡ Some x → x.number ≡ n → has_spot spots n ≡ true
any_at [] n k x e h = absurd (cc e)
any_at (y ∷ spots) n zero x e h =
    or_left (y.number == n) (has_spot spots n) (eq-eqb y.number n (ap (λ (z : Spot). z.number) (same_Some y x e) ∙ h))
any_at (y ∷ spots) n (suc k) x e h = or_right (y.number == n) (has_spot spots n) (any_at spots n k x e h)

pub order_of : (bs : List Block) (spots : List Spot) → AreOrdered bs spots → IsOrder bs spots
order_of bs spots h = record {
  in_order = h.in_order;
  block = λ k x e. block_there bs x (h.blocks' k x e);
  spot = λ n b e. spot_there spots n (h.spots' n (slice_get_within bs n b e));
}

pub ordered_by : (bs : List Block) (spots : List Spot) → IsOrder bs spots → AreOrdered bs spots
ordered_by bs spots h = record {
  in_order = h.in_order;
  blocks' = λ k x e. (let b = h.block k x e in
      ap (λ o. elim o [ None ↦ false | Some b ↦ same_section b.section x.section ]) b.is
      ∙ ap (λ s. same_section s x.section) b.section ∙ same_self x.section);
  spots' = λ n l. (let r = h.spot n (get_or bs n no_block) (slice_get-get_or bs n no_block l) in any_at spots n r.place r.spot r.is r.number);
}
  where
    no_block : Block
    no_block = record { section = record { array = record { 0 = 0 }; first = 0; length = 0 }; count = 0 }

pub none_ordered : AreOrdered [] []
none_ordered = record {
  in_order = λ i j x y l e f. absurd (cc e);
  blocks' = λ k x e. absurd (cc e);
  spots' = λ n l. absurd (omega (arith, l));
}
