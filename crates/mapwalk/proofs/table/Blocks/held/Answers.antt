use Rattle.std.proofs.Common.{◌≡◌, ◌∙◌, ℕ, List, Some, get_or, refl, sym, ap}
use Rattle.std.specs.Prelude.{slice_get}
use Rattle.std.proofs.lemmas.Option.{same_Some, slice_get-get_or, slice_get_within}
use Rattle.base.specs.Map.{Inside}
use Rattle.base.specs.Memory.{same_section}
use Rattle.mapwalk.specs.declared.blocks.Block.{Block}
use Rattle.mapwalk.specs.declared.spots.Spot.{Spot}
use Rattle.mapwalk.specs.Blocks.{block_of}
use Rattle.mapwalk.proofs.table.Blocks.held.Goals as goal

read : {A : Type 0} (xs : List A) (n m : ℕ) (x r : A) → slice_get xs n ≡ Some x → m ≡ n → r ≡ get_or xs m r → r ≡ x
read xs n m x r e same f =
    same_Some r x (ap (λ y. Some y) (f ∙ ap (λ k. get_or xs k r) same) ∙ sym (slice_get-get_or xs n r (slice_get_within xs n x e)) ∙ e)

pub returns : goal.returns
returns c =
    let bs = c.args.self.now.blocks.items in
    let s = c.args.section.now in
    let r = c.requires in
    let number : r.spot.number ≡ c.index.result.now.number =
    sym (ap (λ (x : Spot). x.number) (read c.args.self.now.spots.items c.args.at c.args.at r.spot c.index.result.now r.is refl c.index.ensures)) in
    let block : r.block ≡ c.index-2.result.now = sym (read bs r.spot.number c.index.result.now.number r.block c.index-2.result.now r.there (sym number) c.index-2.ensures) in
    record {
      spot = record { spot = r.spot; is = r.is; some = r.some };
      number = number;
      there = ap (slice_get bs) (sym number) ∙ r.there ∙ ap (λ b. Some b) block;
      inside = r.inside ∙ ap (λ b. Inside (block_of b)) block;
      one = λ k x other e.
          ap (λ (b : Block). same_section x.section b.section) (sym block) ∙ r.one k x (λ h. other (h ∙ number)) e;
    }
