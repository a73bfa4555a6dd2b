-- Blocks that are entered stay so as they are counted, created and removed.
use Rattle.std.proofs.Common.{◌≡◌, ◌⊎◌, ℕ, ◌≤◌, true, false, not, List, [], ◌∷◌, ◌++◌, map, Option, Some, None, sym, ◌∙◌, ap, inl, inr, subst}
use Rattle.std.proofs.lemmas.Bool.{cases_Bool, cond-true, cond-false}
use Rattle.base.specs.declared.item.Cell.{Cell}
use Rattle.base.specs.declared.item.Section.{Section}
use Rattle.base.specs.Memory.{is_in, same_section}
use Rattle.base.specs.Map.{Block, counted, without}
use Rattle.base.specs.Blocks.{holder}
use Rattle.two_memories.specs.Two.{AreEntered, AreBlocks}
use Rattle.base.proofs.Blocks.{find_yes, find_no, has, other_than, counted_apart, more_apart, fewer_apart}

-- a block that has a cell is entered
pub is_entered : (blocks : List Block) (c : Cell) (b : Block) → AreEntered blocks → holder blocks c ≡ Some b → 1 ≤ b.count
is_entered [] c b ok h = absurd (cc h)
is_entered (a ∷ rest) c b ok h = go (λ e. is_entered rest c b ok.1 e) (cases_Bool (has c a))
  where
    go : (holder rest c ≡ Some b → 1 ≤ b.count) → (has c a ≡ true) ⊎ (has c a ≡ false) → 1 ≤ b.count
    go again (inl i) =
        let e : ◌≡◌ {A = Option Block} (Some a) (Some b) = sym (find_yes (has c) a rest i) ∙ h in
        let is : a ≡ b = cc e in
        subst (λ (x : Block). 1 ≤ x.count) is ok.0
    go again (inr i) = again (sym (find_no (has c) a rest i) ∙ h)

counted_entered : (blocks : List Block) (s : Section) (n : ℕ) → AreEntered blocks → 1 ≤ n →
    AreEntered (map (counted s n) blocks)
counted_entered [] s n ok p = tt
counted_entered (b ∷ rest) s n ok p = go (counted_entered rest s n ok.1 p) (cases_Bool (same_section b.section s))
  where
    go : AreEntered (map (counted s n) rest) → (same_section b.section s ≡ true) ⊎ (same_section b.section s ≡ false) →
        AreEntered (counted s n b ∷ map (counted s n) rest)
    go again (inl e) = (
      subst (λ (x : Block). 1 ≤ x.count)
          (sym (cond-true (same_section b.section s) (record { section = s; count = n }) b e)) p,
      again,
    )
    go again (inr e) = (
      subst (λ (x : Block). 1 ≤ x.count)
          (sym (cond-false (same_section b.section s) (record { section = s; count = n }) b e)) ok.0,
      again,
    )

more_entered : (blocks : List Block) (b : Block) → AreEntered blocks → 1 ≤ b.count → AreEntered (blocks ++ b ∷ [])
more_entered [] b ok p = (p, tt)
more_entered (a ∷ rest) b ok p = (ok.0, more_entered rest b ok.1 p)

fewer_entered : (blocks : List Block) (s : Section) → AreEntered blocks → AreEntered (without blocks s)
fewer_entered [] s ok = tt
fewer_entered (b ∷ rest) s ok = go (fewer_entered rest s ok.1) (cases_Bool (same_section b.section s))
  where
    go : AreEntered (without rest s) → (same_section b.section s ≡ true) ⊎ (same_section b.section s ≡ false) →
        AreEntered (without (b ∷ rest) s)
    go again (inl e) = subst AreEntered
        (sym (cond-false (other_than s b) (b ∷ without rest s) (without rest s) (ap not e))) again
    go again (inr e) =
        subst AreEntered (sym (cond-true (other_than s b) (b ∷ without rest s) (without rest s) (ap not e))) (ok.0, again)

-- counting keeps blocks
pub counted_blocks : (blocks : List Block) (s : Section) (n : ℕ) → AreBlocks blocks → 1 ≤ n →
    AreBlocks (map (counted s n) blocks)
counted_blocks blocks s n ok p = (counted_apart blocks s n ok.0, counted_entered blocks s n ok.1 p)

-- so does a new block whose cells have none
pub more_blocks : (blocks : List Block) (b : Block) →
    AreBlocks blocks →
    1 ≤ b.section.length →
    1 ≤ b.count →
    ((c : Cell) → is_in c b.section ≡ true → holder blocks c ≡ None) →
    AreBlocks (blocks ++ b ∷ [])
more_blocks blocks b ok p q h = (more_apart blocks b ok.0 p h, more_entered blocks b ok.1 q)

-- and so does a removal
pub fewer_blocks : (blocks : List Block) (s : Section) → AreBlocks blocks → AreBlocks (without blocks s)
fewer_blocks blocks s ok = (fewer_apart blocks s ok.0, fewer_entered blocks s ok.1)
