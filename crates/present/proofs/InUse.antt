-- The cells that have storage, as blocks are created, counted and removed.
use Rattle.std.proofs.Common.{◌≡◌, ◌⊎◌, ℕ, ◌+◌, true, false, not, List, [], ◌∷◌, ◌++◌, map, Some, None, refl, sym, ◌∙◌, ap, inl, inr, true≢false, arith}
use Rattle.std.proofs.lemmas.Bool.{cases_Bool, cond-true, cond-false}
use Rattle.std.proofs.lemmas.List.Sums.{sum_by-cons, sum_by_push}
use Rattle.base.specs.declared.item.Cell.{Cell}
use Rattle.base.specs.declared.item.Section.{Section}
use Rattle.base.specs.Memory.{is_in, same_section}
use Rattle.base.specs.Map.{Block, counted, without, in_use}
use Rattle.base.specs.Blocks.{holder, AreApart}
use Rattle.base.proofs.Sections.{same_parts, same_in, same_self}
use Rattle.base.proofs.Blocks.{find_yes, find_no, has, other_than, holds}

abbrev pub size : Block → ℕ
size b = b.section.length

pub in_use_more : (b : Block) (blocks : List Block) → in_use (b ∷ blocks) ≡ size b + in_use blocks
in_use_more b blocks = sum_by-cons size b blocks

pub in_use_created : (blocks : List Block) (b : Block) → in_use (blocks ++ b ∷ []) ≡ in_use blocks + size b
in_use_created blocks b = sum_by_push size blocks b

size_counted : (s : Section) (n : ℕ) (b : Block) → size (counted s n b) ≡ size b
size_counted s n b = go (cases_Bool (same_section b.section s))
  where
    go : (same_section b.section s ≡ true) ⊎ (same_section b.section s ≡ false) → size (counted s n b) ≡ size b
    go (inl e) = ap size (cond-true (same_section b.section s) (record { section = s; count = n }) b e)
        ∙ sym (same_parts b.section s e).length
    go (inr e) = ap size (cond-false (same_section b.section s) (record { section = s; count = n }) b e)

pub in_use_counted : (blocks : List Block) (s : Section) (n : ℕ) → in_use (map (counted s n) blocks) ≡ in_use blocks
in_use_counted [] s n = refl
in_use_counted (b ∷ rest) s n =
    let r = in_use_counted rest s n in
    let z = size_counted s n b in
    omega (arith, in_use_more b rest, in_use_more (counted s n b) (map (counted s n) rest), r, z)

-- a section that no block has is not removed
without_none : (blocks : List Block) (s : Section) (c : Cell) → holder blocks c ≡ None → is_in c s ≡ true →
    without blocks s ≡ blocks
without_none [] s c h i = refl
without_none (b ∷ rest) s c h i = go (λ e. without_none rest s c e i) (cases_Bool (has c b)) (cases_Bool
    (same_section b.section s))
  where
    go : (holder rest c ≡ None → without rest s ≡ rest) →
        (has c b ≡ true) ⊎ (has c b ≡ false) →
        (same_section b.section s ≡ true) ⊎ (same_section b.section s ≡ false) →
        without (b ∷ rest) s ≡ b ∷ rest
    go again (inl k) _ = absurd (cc (sym (find_yes (has c) b rest k) ∙ h))
    go again (inr k) (inl e) = absurd (true≢false (sym (same_in c b.section s e ∙ i) ∙ k))
    go again (inr k) (inr e) =
        cond-true (other_than s b) (b ∷ without rest s) (without rest s) (ap not e)
        ∙ ap (λ xs. b ∷ xs) (again (sym (find_no (has c) b rest k) ∙ h))

pub in_use_removed : (blocks : List Block) (b : Block) (c : Cell) → AreApart blocks → holder blocks c ≡ Some b →
    in_use (without blocks b.section) + size b ≡ in_use blocks
in_use_removed [] b c ok h = absurd (cc)
in_use_removed (a ∷ rest) b c ok h =
    go (λ e. in_use_removed rest b c ok.rest e) (cases_Bool (has c a)) (cases_Bool (same_section a.section b.section))
  where
    here : is_in c b.section ≡ true
    here = (holds (a ∷ rest) c b ok h).here

    go : (holder rest c ≡ Some b → in_use (without rest b.section) + size b ≡ in_use rest) →
        (has c a ≡ true) ⊎ (has c a ≡ false) →
        (same_section a.section b.section ≡ true) ⊎ (same_section a.section b.section ≡ false) →
        in_use (without (a ∷ rest) b.section) + size b ≡ in_use (a ∷ rest)
    go again (inl k) (inl e) =
        let gone : without (a ∷ rest) b.section ≡ rest =
        cond-false (other_than b.section a) (a ∷ without rest b.section) (without rest b.section) (ap not e)
        ∙ without_none rest b.section c (ok.apart c k) here in
        let long = (same_parts a.section b.section e).length in
        omega (arith, ap in_use gone, in_use_more a rest, long)
    go again (inl k) (inr e) =
        let f : Some a ≡ Some b = sym (find_yes (has c) a rest k) ∙ h in
        let is : a ≡ b = cc f in
        absurd (true≢false (sym (same_self b.section)
        ∙ (ap (λ (x : Block). same_section x.section b.section) (sym is) ∙ e)))
    go again (inr k) (inl e) = absurd (true≢false (sym (same_in c a.section b.section e ∙ here) ∙ k))
    go again (inr k) (inr e) =
        let stays : without (a ∷ rest) b.section ≡ a ∷ without rest b.section =
        cond-true (other_than b.section a) (a ∷ without rest b.section) (without rest b.section) (ap not e) in
        let r = again (sym (find_no (has c) a rest k) ∙ h) in
        omega (arith, ap in_use stays, in_use_more a rest, in_use_more a (without rest b.section), r)
