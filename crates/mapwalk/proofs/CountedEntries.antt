-- Each block has a count for each of some entries in it.
use Rattle.std.proofs.Common.{◌≡◌, ℕ, ◌+◌, ◌<◌, ◌≤◌, Bool, true, false, List, [], ◌∷◌, ◌++◌, ◌⊎◌, inl, inr, map, Option, Some, None, refl, sym, ap, ◌∙◌, subst, arith, true≢false}
use Rattle.std.specs.Prelude.{find, option_map, if◌then◌else◌, ◌&&◌, ◌||◌}
use Rattle.std.proofs.lemmas.Bool.{cases_Bool, cond-true, cond-false, or_parts}
use Rattle.std.proofs.lemmas.Option.{same_Some}
use Rattle.base.proofs.Sections.{same_self, inside_self}
use Rattle.base.specs.declared.item.MapItem.{MapItem}
use Rattle.base.specs.declared.item.Section.{Section}
use Rattle.base.specs.Memory.{is_inside, overlaps, same_section}
use Rattle.base.specs.declared.item.ItemKind.TheVariants.{Target}
use Rattle.base.specs.Map.{Block, blocks_after, counted, entry}
use Rattle.base.specs.Actions.{Met}
use Rattle.base.specs.Accepted.{in_part, is_absent as absent, met_at}
use Rattle.mapwalk.specs.Acts.{entries_after}
use Rattle.mapwalk.specs.Laws.{AllWide, is_missing, meets_badly}
use Rattle.mapwalk.specs.Seen.{entry_mets}
use Rattle.base.proofs.Moves.{is_absent, is_there, is_part}
use Rattle.mapwalk.proofs.HeldBlocks.{after_absent, after_inside, find_added, find_kept, find_other, has_length, held, held_counted, meets_itself, name, name_absent, name_inside, names, no_block, same_is, section_counted}
use Rattle.base.proofs.Blocks.{find_yes, find_no, meets, counted_other, counted_same}

-- how many of some entries are in a block

abbrev pub one : Section → Section → ℕ
one t s = if same_section t s then 1 else 0

abbrev pub uses : List Section → Section → ℕ
uses [] s = 0
uses (t ∷ ts) s = one t s + uses ts s

pub one_same : (t s : Section) → same_section t s ≡ true → one t s ≡ 1
one_same t s e = cond-true (same_section t s) 1 0 e

pub one_other : (t s : Section) → same_section t s ≡ false → one t s ≡ 0
one_other t s e = cond-false (same_section t s) 1 0 e

same_turned : (s t : Section) → same_section s t ≡ false → same_section t s ≡ false
same_turned s t e = go (cases_Bool (same_section t s))
  where
    go : (same_section t s ≡ true) ⊎ (same_section t s ≡ false) → same_section t s ≡ false
    go (inr h) = h
    go (inl h) =
        absurd (true≢false (sym (same_self s) ∙ ap (same_section s) (sym (same_is t s h)) ∙ e))

-- each block has a count for these many entries
abbrev pub Enough : (Section → ℕ) → List Block → Type 0
Enough f [] = Unit {0}
Enough f (b ∷ blocks) = (f b.section ≤ b.count) × Enough f blocks

pub record Holds (f : Section → ℕ) (blocks : List Block) : Type 0 where
  pub enough : Enough f blocks
  pub none : (s : Section) → held s blocks ≡ None → f s ≡ 0

pub enough_found : (f : Section → ℕ) (p : Block → Bool) (blocks : List Block) (b : Block) → Enough f blocks →
    find p blocks ≡ Some b → f b.section ≤ b.count
enough_found f p [] b h e = no_block b e
enough_found f p (x ∷ blocks) b h e = go (enough_found f p blocks b h.1) (cases_Bool (p x))
  where
    go : (find p blocks ≡ Some b → f b.section ≤ b.count) → (p x ≡ true) ⊎ (p x ≡ false) → f b.section ≤ b.count
    go again (inl t) = subst (λ (y : Block). f y.section ≤ y.count) (same_Some x b (sym (find_yes p x blocks t) ∙ e)) h.0
    go again (inr t) = again (sym (find_no p x blocks t) ∙ e)

pub enough_same : (f g : Section → ℕ) → ((s : Section) → f s ≡ g s) → (blocks : List Block) → Enough f blocks → Enough g blocks
enough_same f g e [] h = tt
enough_same f g e (b ∷ blocks) h =
    (let same = e b.section in let le = h.0 in omega (arith, same, le), enough_same f g e blocks h.1)

pub enough_less : (f g : Section → ℕ) → ((s : Section) → g s ≤ f s) → (blocks : List Block) → Enough f blocks → Enough g blocks
enough_less f g e [] h = tt
enough_less f g e (b ∷ blocks) h =
    (let less = e b.section in let le = h.0 in omega (arith, less, le), enough_less f g e blocks h.1)

enough_added : (f : Section → ℕ) (blocks : List Block) (b : Block) → Enough f blocks → f b.section ≤ b.count →
    Enough f (blocks ++ b ∷ [])
enough_added f [] b h k = (k, tt)
enough_added f (x ∷ blocks) b h k = (h.0, enough_added f blocks b h.1 k)

-- an entry in no block yet
enough_absent : (f : Section → ℕ) (s : Section) → 0 < s.length → (blocks : List Block) → held s blocks ≡ None →
    Enough f blocks → Enough (λ u. f u + one s u) blocks
enough_absent f s long [] e h = tt
enough_absent f s long (b ∷ blocks) e h = (here, enough_absent f s long blocks (later (cases_Bool (meets s b))) h.1)
  where
    later : (meets s b ≡ true) ⊎ (meets s b ≡ false) → held s blocks ≡ None
    later (inl t) = no_block b (sym e ∙ find_yes (meets s) b blocks t)
    later (inr t) = sym (find_no (meets s) b blocks t) ∙ e

    zero_here : (same_section s b.section ≡ true) ⊎ (same_section s b.section ≡ false) → one s b.section ≡ 0
    zero_here (inr t) = one_other s b.section t
    zero_here (inl t) =
        let is : s ≡ b.section = same_is s b.section t in
        let met : meets s b ≡ true = ap (λ u. overlaps u s) (sym is) ∙ meets_itself s long in
        no_block b (sym e ∙ find_yes (meets s) b blocks met)

    here : f b.section + one s b.section ≤ b.count
    here = let z = zero_here (cases_Bool (same_section s b.section)) in let le = h.0 in omega (arith, z, le)

-- one entry more in a block
enough_more : (f : Section → ℕ) (s : Section) (n : ℕ) → f s + 1 ≤ n → (blocks : List Block) → Enough f blocks →
    Enough (λ u. f u + one s u) (map (counted s n) blocks)
enough_more f s n k [] h = tt
enough_more f s n k (b ∷ blocks) h = (go (cases_Bool (same_section b.section s)), enough_more f s n k blocks h.1)
  where
    go : (same_section b.section s ≡ true) ⊎ (same_section b.section s ≡ false) →
        f (counted s n b).section + one s (counted s n b).section ≤ (counted s n b).count
    go (inl t) = subst (λ (x : Block). f x.section + one s x.section ≤ x.count) (sym (counted_same s n b t))
        (let o = one_same s s (same_self s) in omega (arith, o, k))
    go (inr t) = subst (λ (x : Block). f x.section + one s x.section ≤ x.count) (sym (counted_other s n b t))
        (let o = one_other s b.section (same_turned b.section s t) in let le = h.0 in omega (arith, o, le))

-- the block of a section has this section
pub record IsHeld (s t : Section) (blocks : List Block) : Type 0 where
  pub count : ℕ
  pub is : held s blocks ≡ Some (record { section = t; count = count })
  pub inside : is_inside s t ≡ true

abbrev pub Stays : List Block → List Block → Type 0
Stays blocks later = (s t : Section) → IsHeld s t blocks → IsHeld s t later

pub stays_counted : (s : Section) (n : ℕ) (blocks : List Block) → Stays blocks (map (counted s n) blocks)
stays_counted s n blocks u t h =
    let b : Block = record { section = t; count = h.count } in
    record {
      count = (counted s n b).count;
      is = held_counted u s n blocks ∙ ap (option_map (counted s n)) h.is
          ∙ (λ i. Some (record { section = section_counted s n b i; count = (counted s n b).count }));
      inside = h.inside;
    }

-- what one entry does
record Step (f : Section → ℕ) (m : MapItem) (blocks : List Block) : Type 0 where
  holds : Holds (λ s. f s + one (name m blocks) s) (blocks_after blocks (entry m blocks))
  here : IsHeld m.section (name m blocks) (blocks_after blocks (entry m blocks))
  stays : Stays blocks (blocks_after blocks (entry m blocks))

abbrev StepTo : (Section → ℕ) → MapItem → List Block → Section → List Block → Type 0
StepTo f m blocks t later = Holds (λ s. f s + one t s) later × IsHeld m.section t later × Stays blocks later

step_from : (f : Section → ℕ) (m : MapItem) (blocks : List Block) (t : Section) (later : List Block) → name m blocks ≡ t →
    blocks_after blocks (entry m blocks) ≡ later → StepTo f m blocks t later → Step f m blocks
step_from f m blocks t later n e h =
    let all = subst (λ x. StepTo f m blocks x (blocks_after blocks (entry m blocks))) (sym n)
    (subst (λ x. StepTo f m blocks t x) (sym e) h) in
    record { holds = all.0; here = all.1; stays = all.2 }

step_absent : (f : Section → ℕ) (m : MapItem) (blocks : List Block) → 0 < m.section.length → Holds f blocks →
    held m.section blocks ≡ None → StepTo f m blocks m.section (blocks ++ record { section = m.section; count = 1 } ∷ [])
step_absent f m blocks long h e = (record { enough = enough; none = none }, here, stays)
  where
    s : Section
    s = m.section

    new : Block
    new = record { section = m.section; count = 1 }

    enough : Enough (λ u. f u + one m.section u) (blocks ++ record { section = m.section; count = 1 } ∷ [])
    enough = enough_added (λ u. f u + one m.section u) blocks (record { section = m.section; count = 1 })
        (enough_absent f m.section long blocks e h.enough)
        (let z = h.none m.section e in let o = one_same m.section m.section (same_self m.section) in omega (arith, z, o))

    none : (u : Section) → held u (blocks ++ record { section = m.section; count = 1 } ∷ []) ≡ None → f u + one m.section u ≡ 0
    none u k = go (held u blocks) refl
      where
        go : (o : Option Block) → held u blocks ≡ o → f u + one m.section u ≡ 0
        go (Some b) g = no_block b (sym k ∙ find_kept (meets u) blocks (record { section = m.section; count = 1 } ∷ []) b g)
        go None g = inner (cases_Bool (same_section m.section u))
          where
            inner : (same_section m.section u ≡ true) ⊎ (same_section m.section u ≡ false) → f u + one m.section u ≡ 0
            inner (inr t) = let z = h.none u g in let o = one_other m.section u t in omega (arith, z, o)
            inner (inl t) =
                let is : m.section ≡ u = same_is m.section u t in
                let met : overlaps m.section u ≡ true = ap (overlaps m.section) (sym is) ∙ meets_itself m.section long in
                no_block (record { section = m.section; count = 1 })
                (sym k ∙ find_added (meets u) blocks (record { section = m.section; count = 1 } ∷ []) g
                ∙ find_yes (meets u) (record { section = m.section; count = 1 }) [] met)

    here : IsHeld m.section m.section (blocks ++ record { section = m.section; count = 1 } ∷ [])
    here = record {
      count = 1;
      is = find_added (meets m.section) blocks (record { section = m.section; count = 1 } ∷ []) e
          ∙ find_yes (meets m.section) (record { section = m.section; count = 1 }) [] (meets_itself m.section long);
      inside = inside_self m.section;
    }

    stays : Stays blocks (blocks ++ record { section = m.section; count = 1 } ∷ [])
    stays u t g = record {
      count = g.count;
      is = find_kept (meets u) blocks (record { section = m.section; count = 1 } ∷ [])
          (record { section = t; count = g.count }) g.is;
      inside = g.inside;
    }

step_inside : (f : Section → ℕ) (m : MapItem) (blocks : List Block) (b : Block) → 0 < m.section.length → Holds f blocks →
    held m.section blocks ≡ Some b → is_inside m.section b.section ≡ true →
    StepTo f m blocks b.section (map (counted b.section (b.count + 1)) blocks)
step_inside f m blocks b long h e inside =
    (record { enough = enough; none = none }, here, stays_counted b.section (b.count + 1) blocks)
  where
    enough : Enough (λ u. f u + one b.section u) (map (counted b.section (b.count + 1)) blocks)
    enough = enough_more f b.section (b.count + 1)
        (let le : f b.section ≤ b.count = enough_found f (meets m.section) blocks b h.enough e in omega (arith, le)) blocks h.enough

    none : (u : Section) → held u (map (counted b.section (b.count + 1)) blocks) ≡ None → f u + one b.section u ≡ 0
    none u k = go (held u blocks) refl
      where
        go : (o : Option Block) → held u blocks ≡ o → f u + one b.section u ≡ 0
        go (Some x) g = no_block (counted b.section (b.count + 1) x)
            (sym k ∙ held_counted u b.section (b.count + 1) blocks ∙ ap (option_map (counted b.section (b.count + 1))) g)
        go None g = inner (cases_Bool (same_section b.section u))
          where
            inner : (same_section b.section u ≡ true) ⊎ (same_section b.section u ≡ false) → f u + one b.section u ≡ 0
            inner (inr t) = let z = h.none u g in let o = one_other b.section u t in omega (arith, z, o)
            inner (inl t) =
                let is : b.section ≡ u = same_is b.section u t in
                let met : overlaps b.section u ≡ true =
                ap (overlaps b.section) (sym is) ∙ meets_itself b.section (has_length b.section m.section long inside) in
                absurd (find_other (meets m.section) (meets u) blocks b e met g)

    here : IsHeld m.section b.section (map (counted b.section (b.count + 1)) blocks)
    here = record {
      count = b.count + 1;
      is = held_counted m.section b.section (b.count + 1) blocks ∙ ap (option_map (counted b.section (b.count + 1))) e
          ∙ ap (λ (x : Block). Some x) (counted_same b.section (b.count + 1) b (same_self b.section));
      inside = inside;
    }

may_be_absent : (b : Bool) → (b && true) ≡ false → b ≡ false
may_be_absent true e = e
may_be_absent false e = refl

step : (f : Section → ℕ) (m : MapItem) (blocks : List Block) → 0 < m.section.length → Holds f blocks →
    in_part (met_at (record { item = m; blocks = blocks })) ≡ false →
    is_missing (record { item = m; blocks = blocks }) ≡ false → Step f m blocks
step f m blocks long h part there = go (held m.section blocks) refl
  where
    inner : (b : Block) → held m.section blocks ≡ Some b →
        (is_inside m.section b.section ≡ true) ⊎ (is_inside m.section b.section ≡ false) → Step f m blocks
    inner b e (inl i) =
        let at = is_there blocks m.section b e i in
        step_from f m blocks b.section (map (counted b.section (b.count + 1)) blocks) (name_inside m blocks b at)
        (after_inside m blocks b at) (step_inside f m blocks b long h e i)
    inner b e (inr i) = absurd (true≢false (sym (ap in_part (is_part blocks m.section b e i)) ∙ part))

    go : (o : Option Block) → held m.section blocks ≡ o → Step f m blocks
    go None e =
        let at = is_absent blocks m.section e in
        let free = may_be_absent m.present (ap (λ p. m.present && absent p) (sym at) ∙ there) in
        step_from f m blocks m.section (blocks ++ record { section = m.section; count = 1 } ∷ []) (name_absent m blocks at free)
        (after_absent m blocks at free) (step_absent f m blocks long h e)
    go (Some b) e = inner b e (cases_Bool (is_inside m.section b.section))

-- each map item's block has the section of its entry
abbrev pub AllHeld : List MapItem → List Section → List Block → Type 0
AllHeld [] ts blocks = Unit {0}
AllHeld (m ∷ maps) [] blocks = ⊥
AllHeld (m ∷ maps) (t ∷ ts) blocks = IsHeld m.section t blocks × AllHeld maps ts blocks

-- what entries in turn do
pub record Steps (f : Section → ℕ) (maps : List MapItem) (blocks : List Block) : Type 0 where
  pub holds : Holds (λ s. f s + uses (names maps blocks) s) (entries_after maps blocks)
  pub here : AllHeld maps (names maps blocks) (entries_after maps blocks)
  pub stays : Stays blocks (entries_after maps blocks)

holds_same : (f g : Section → ℕ) → ((s : Section) → f s ≡ g s) → (blocks : List Block) → Holds f blocks → Holds g blocks
holds_same f g e blocks h =
    record { enough = enough_same f g e blocks h.enough; none = λ s k. sym (e s) ∙ h.none s k }

pub steps : (f : Section → ℕ) (maps : List MapItem) (blocks : List Block) → AllWide maps → Holds f blocks →
    meets_badly Target (entry_mets maps blocks) ≡ false → Steps f maps blocks
steps f [] blocks wide h part =
    record { holds = holds_same f (λ s. f s + 0) (λ s. omega arith) blocks h; here = tt; stays = λ s t k. k }
steps f (m ∷ maps) blocks wide h part =
    let next = blocks_after blocks (entry m blocks) in
    let t = name m blocks in
    let at : Met = record { item = m; blocks = blocks } in
    let both = or_parts (in_part (met_at at) || is_missing at) _ part in
    let fine = or_parts (in_part (met_at at)) (is_missing at) both.0 in
    let first = step f m blocks wide.0 h fine.0 fine.1 in
    let rest = steps (λ s. f s + one t s) maps next wide.1 first.holds both.1 in
    record {
      holds = holds_same (λ s. (f s + one t s) + uses (names maps next) s) (λ s. f s + (one t s + uses (names maps next) s))
          (λ s. omega arith) (entries_after maps next) rest.holds;
      here = (rest.stays m.section t first.here, rest.here);
      stays = λ s u k. rest.stays s u (first.stays s u k);
    }
