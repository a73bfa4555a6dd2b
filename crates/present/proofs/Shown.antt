-- What blocks show of a device, and that they still show it when both change alike.
use Rattle.std.proofs.Common.{◌≡◌, ◌⊎◌, ℕ, ◌+◌, ◌≤◌, Bool, true, false, List, [], ◌∷◌, ◌++◌, map, Option, Some, None, refl, sym, ◌∙◌, ap, inl, inr, true≢false, arith}
use Rattle.std.specs.Prelude.{find, option_map, option_and_then}
use Rattle.std.proofs.lemmas.Bool.{cases_Bool, cond-true, cond-false, false_from_ne_true}
use Rattle.base.specs.declared.item.Cell.{Cell}
use Rattle.base.specs.declared.item.Section.{Section}
use Rattle.base.specs.Memory.{View, is_in, is_inside, same_section, within}
use Rattle.base.specs.Map.{Block as Present, Device, Absent, Inside, InPart, presence, counted, without}
use Rattle.present.specs.declared.block.Block.{Block}
use Rattle.present.specs.Blocks.{Show, present, number_in, stored_at, has}
use Rattle.base.specs.Blocks.{holder}
use Rattle.base.proofs.Sections.{inside_in, same_in, same_self, first_in}
use Rattle.present.proofs.Finds.{find_yes, find_no}
use Rattle.base.proofs.Blocks.{meets, holder_absent, holder_inside, absent_from, inside_found, holder_counted, holder_some, holder_none, holder_outside, holder_removed, counted_apart, more_apart, fewer_apart}
use Rattle.base.proofs.Moves.{is_absent, is_there, is_part}
use Rattle.present.proofs.InUse.{in_use_created, in_use_counted, in_use_removed}

pub within_in : {A : Type 0} (s : Section) (f g : Cell → A) (c : Cell) → is_in c s ≡ true → within s f g c ≡ f c
within_in s f g c e = ap (λ (t : Bool). elim t [ true ↦ f c | false ↦ g c ]) e

pub within_out : {A : Type 0} (s : Section) (f g : Cell → A) (c : Cell) → is_in c s ≡ false → within s f g c ≡ g c
within_out s f g c e = ap (λ (t : Bool). elim t [ true ↦ f c | false ↦ g c ]) e

-- a block that is found has the cell
pub stored_has : (bs : List Block) (c : Cell) (b : Block) → stored_at bs c ≡ Some b → is_in c b.section ≡ true
stored_has [] c b h = absurd (cc)
stored_has (x ∷ bs) c b h = go (λ e. stored_has bs c b e) (cases_Bool (has c x))
  where
    go : (stored_at bs c ≡ Some b → is_in c b.section ≡ true) → (has c x ≡ true) ⊎ (has c x ≡ false) →
        is_in c b.section ≡ true
    go again (inl e) =
        let f : Some x ≡ Some b = sym (find_yes (has c) x bs e) ∙ h in
        let is : x ≡ b = cc in
        ap (has c) (sym is) ∙ e
    go again (inr e) = again (sym (find_no (has c) x bs e) ∙ h)

-- the same value on the cells of a section, and the old one elsewhere
pub by_section : {A : Type 0} (s : Section) (f g h : Cell → A) →
    ((c : Cell) → is_in c s ≡ true → h c ≡ f c) → ((c : Cell) → is_in c s ≡ false → h c ≡ g c) →
    (c : Cell) → h c ≡ within s f g c
by_section s f g h p q c = go (cases_Bool (is_in c s))
  where
    go : (is_in c s ≡ true) ⊎ (is_in c s ≡ false) → h c ≡ within s f g c
    go (inl e) = p c e ∙ sym (within_in s f g c e)
    go (inr e) = q c e ∙ sym (within_out s f g c e)

module _ (bs : List Block) (used : ℕ) (d : Device) (h : Show bs used d) where
  -- where a section lies

  pub presence_absent : (s : Section) → 1 ≤ s.length → ((c : Cell) → is_in c s ≡ true → stored_at bs c ≡ None) →
      presence d.blocks s ≡ Absent
  presence_absent s n none =
      is_absent d.blocks s
      (absent_from d.blocks s h.apart n (λ c i. h.blocks c ∙ ap (option_map present) (none c i)))

  pub presence_inside : (s : Section) (b : Block) → 1 ≤ s.length → is_inside s b.section ≡ true →
      ((c : Cell) → is_in c b.section ≡ true → stored_at bs c ≡ Some b) → presence d.blocks s ≡ Inside (present b)
  presence_inside s b n i all =
      is_there d.blocks s (present b)
      (inside_found d.blocks s (present b) h.apart n
      (λ c k. h.blocks c ∙ ap (option_map present) (all c (inside_in c s b.section i k)))) i

  pub presence_part : (s : Section) (b : Block) (c : Cell) → stored_at bs c ≡ Some b → is_in c s ≡ true →
      is_inside s b.section ≡ false → presence d.blocks s ≡ InPart
  presence_part s b c e k out = go (find (meets s) d.blocks) refl
    where
      held : holder d.blocks c ≡ Some (present b)
      held = h.blocks c ∙ ap (option_map present) e

      inside : (x : Present) → find (meets s) d.blocks ≡ Some x → is_inside s x.section ≡ true → ⊥
      inside x f i =
          let g : Some x ≡ Some (present b) = sym (holder_inside d.blocks s x c f i k) ∙ held in
          let is : x ≡ present b = cc in
          true≢false (sym i ∙ ap (λ (y : Present). is_inside s y.section) is ∙ out)

      go : (o : Option Present) → find (meets s) d.blocks ≡ o → presence d.blocks s ≡ InPart
      go None f = absurd (cc (sym held ∙ holder_absent d.blocks s c f k))
      go (Some x) f = is_part d.blocks s x f (false_from_ne_true (is_inside s x.section) (inside x f))

  -- a cell that no block has, and one that has a block

  pub held_none : (c : Cell) → stored_at bs c ≡ None → holder d.blocks c ≡ None
  held_none c e = h.blocks c ∙ ap (option_map present) e

  pub held_some : (c : Cell) (b : Block) → stored_at bs c ≡ Some b → holder d.blocks c ≡ Some (present b)
  held_some c b e = h.blocks c ∙ ap (option_map present) e

-- A block is created.
module _ (bs after : List Block) (used : ℕ) (d : Device) (h : Show bs used d) (new : Block)
    (numbers : Cell → Option ℕ) (some : 1 ≤ new.section.length)
    (none : (c : Cell) → is_in c new.section ≡ true → stored_at bs c ≡ None)
    (change : (c : Cell) → stored_at after c ≡ within new.section (λ x. Some new) (stored_at bs) c)
    (filled : (c : Cell) → is_in c new.section ≡ true → number_in c new ≡ numbers c) where
  created_holder : (c : Cell) → holder (d.blocks ++ present new ∷ []) c ≡ option_map present (stored_at after c)
  created_holder c = go (cases_Bool (is_in c new.section)) ∙ ap (option_map present) (sym (change c))
    where
      old : is_in c new.section ≡ false → (o : Option Block) → stored_at bs c ≡ o →
          holder (d.blocks ++ present new ∷ []) c ≡ option_map present o
      old e None f =
          holder_none d.blocks (present new) c (held_none bs used d h c f)
          ∙ find_no (λ (b : Present). is_in c b.section) (present new) [] e
      old e (Some b) f = holder_some d.blocks (present new) c (present b) (held_some bs used d h c b f)

      go : (is_in c new.section ≡ true) ⊎ (is_in c new.section ≡ false) →
          holder (d.blocks ++ present new ∷ []) c
          ≡ option_map present (within new.section (λ x. Some new) (stored_at bs) c)
      go (inl e) =
          holder_none d.blocks (present new) c (held_none bs used d h c (none c e))
          ∙ find_yes (λ (b : Present). is_in c b.section) (present new) [] e
          ∙ ap (option_map present) (sym (within_in new.section (λ x. Some new) (stored_at bs) c e))
      go (inr e) =
          old e (stored_at bs c) refl
          ∙ ap (option_map present) (sym (within_out new.section (λ x. Some new) (stored_at bs) c e))

  created_numbers : (c : Cell) →
      within new.section numbers d.cells c ≡ option_and_then (number_in c) (stored_at after c)
  created_numbers c = go (cases_Bool (is_in c new.section)) ∙ ap (option_and_then (number_in c)) (sym (change c))
    where
      go : (is_in c new.section ≡ true) ⊎ (is_in c new.section ≡ false) →
          within new.section numbers d.cells c
          ≡ option_and_then (number_in c) (within new.section (λ x. Some new) (stored_at bs) c)
      go (inl e) =
          within_in new.section numbers d.cells c e ∙ sym (filled c e)
          ∙ ap (option_and_then (number_in c)) (sym (within_in new.section (λ x. Some new) (stored_at bs) c e))
      go (inr e) =
          within_out new.section numbers d.cells c e ∙ h.numbers c
          ∙ ap (option_and_then (number_in c)) (sym (within_out new.section (λ x. Some new) (stored_at bs) c e))

  pub shows_created : Show after (used + new.section.length)
      (record { blocks = d.blocks ++ present new ∷ []; cells = within new.section numbers d.cells })
  shows_created = record {
    apart = more_apart d.blocks (present new) h.apart some (λ c e. held_none bs used d h c (none c e));
    blocks = created_holder;
    numbers = created_numbers;
    in_use = in_use_created d.blocks (present new) ∙ ap (λ n. n + new.section.length) h.in_use;
  }

-- A block changes, and keeps its section.
module _ (bs after : List Block) (used : ℕ) (d : Device) (h : Show bs used d) (old new : Block)
    (same : new.section ≡ old.section)
    (all : (c : Cell) → is_in c old.section ≡ true → stored_at bs c ≡ Some old)
    (change : (c : Cell) → stored_at after c ≡ within old.section (λ x. Some new) (stored_at bs) c) where
  counted_one : (b : Block) (c : Cell) → is_in c old.section ≡ false → stored_at bs c ≡ Some b →
      counted old.section new.count (present b) ≡ present b
  counted_one b c e f = go (cases_Bool (same_section b.section old.section))
    where
      go : (same_section b.section old.section ≡ true) ⊎ (same_section b.section old.section ≡ false) →
          counted old.section new.count (present b) ≡ present b
      go (inl i) = absurd (true≢false (sym (stored_has bs c b f) ∙ (same_in c b.section old.section i ∙ e)))
      go (inr i) =
          cond-false (same_section b.section old.section) (record { section = old.section; count = new.count })
          (present b) i

  counted_holder : (c : Cell) →
      holder (map (counted old.section new.count) d.blocks) c ≡ option_map present (stored_at after c)
  counted_holder c =
      holder_counted d.blocks old.section new.count c
      ∙ ap (option_map (counted old.section new.count)) (h.blocks c)
      ∙ go (cases_Bool (is_in c old.section))
      ∙ ap (option_map present) (sym (change c))
    where
      other : is_in c old.section ≡ false → (o : Option Block) → stored_at bs c ≡ o →
          option_map (counted old.section new.count) (option_map present o) ≡ option_map present o
      other e None f = refl
      other e (Some b) f = ap Some (counted_one b c e f)

      go : (is_in c old.section ≡ true) ⊎ (is_in c old.section ≡ false) →
          option_map (counted old.section new.count) (option_map present (stored_at bs c))
          ≡ option_map present (within old.section (λ x. Some new) (stored_at bs) c)
      go (inl e) =
          ap (λ o. option_map (counted old.section new.count) (option_map present o)) (all c e)
          ∙ ap Some (cond-true (same_section old.section old.section)
          (record { section = old.section; count = new.count }) (present old) (same_self old.section))
          ∙ ap (λ s. Some (record { section = s; count = new.count })) (sym same)
          ∙ ap (option_map present) (sym (within_in old.section (λ x. Some new) (stored_at bs) c e))
      go (inr e) =
          other e (stored_at bs c) refl
          ∙ ap (option_map present) (sym (within_out old.section (λ x. Some new) (stored_at bs) c e))

  -- a block with the same count shows the same blocks
  kept_holder : new.count ≡ old.count → (c : Cell) → holder d.blocks c ≡ option_map present (stored_at after c)
  kept_holder n c = h.blocks c ∙ go (cases_Bool (is_in c old.section)) ∙ ap (option_map present) (sym (change c))
    where
      go : (is_in c old.section ≡ true) ⊎ (is_in c old.section ≡ false) →
          option_map present (stored_at bs c)
          ≡ option_map present (within old.section (λ x. Some new) (stored_at bs) c)
      go (inl e) =
          ap (option_map present) (all c e)
          ∙ (λ i. Some (record { section = sym same i; count = sym n i }))
          ∙ ap (option_map present) (sym (within_in old.section (λ x. Some new) (stored_at bs) c e))
      go (inr e) = ap (option_map present) (sym (within_out old.section (λ x. Some new) (stored_at bs) c e))

  -- the numbers afterwards
  changed_numbers : (cells : View) → ((c : Cell) → is_in c old.section ≡ true → cells c ≡ number_in c new) →
      ((c : Cell) → is_in c old.section ≡ false → cells c ≡ d.cells c) →
      (c : Cell) → cells c ≡ option_and_then (number_in c) (stored_at after c)
  changed_numbers cells p q c = go (cases_Bool (is_in c old.section))
      ∙ ap (option_and_then (number_in c)) (sym (change c))
    where
      go : (is_in c old.section ≡ true) ⊎ (is_in c old.section ≡ false) →
          cells c ≡ option_and_then (number_in c) (within old.section (λ x. Some new) (stored_at bs) c)
      go (inl e) = p c e ∙ ap (option_and_then (number_in c)) (sym (within_in old.section (λ x. Some new)
          (stored_at bs) c e))
      go (inr e) =
          q c e ∙ h.numbers c
          ∙ ap (option_and_then (number_in c)) (sym (within_out old.section (λ x. Some new) (stored_at bs) c e))

  number_before : (c : Cell) → is_in c old.section ≡ true → d.cells c ≡ number_in c old
  number_before c e = h.numbers c ∙ ap (option_and_then (number_in c)) (all c e)

  -- it was counted
  pub shows_counted : ((c : Cell) → number_in c new ≡ number_in c old) →
      Show after used (record { blocks = map (counted old.section new.count) d.blocks; cells = d.cells })
  shows_counted v = record {
    apart = counted_apart d.blocks old.section new.count h.apart;
    blocks = counted_holder;
    numbers = changed_numbers d.cells (λ c e. number_before c e ∙ sym (v c)) (λ c e. refl);
    in_use = in_use_counted d.blocks old.section new.count ∙ h.in_use;
  }

  -- its numbers changed
  pub shows_changed : (cells : View) → new.count ≡ old.count →
      ((c : Cell) → is_in c old.section ≡ true → cells c ≡ number_in c new) →
      ((c : Cell) → is_in c old.section ≡ false → cells c ≡ d.cells c) →
      Show after used (record { blocks = d.blocks; cells = cells })
  shows_changed cells n p q = record {
    apart = h.apart;
    blocks = kept_holder n;
    numbers = changed_numbers cells p q;
    in_use = h.in_use;
  }

-- A block is removed.
module _ (bs after : List Block) (used less : ℕ) (d : Device) (h : Show bs used d) (old : Block)
    (some : 1 ≤ old.section.length)
    (all : (c : Cell) → is_in c old.section ≡ true → stored_at bs c ≡ Some old)
    (change : (c : Cell) → stored_at after c ≡ within old.section (λ x. None) (stored_at bs) c)
    (fewer : less + old.section.length ≡ used) where
  removed_holder : (c : Cell) → holder (without d.blocks old.section) c ≡ option_map present (stored_at after c)
  removed_holder c = go (cases_Bool (is_in c old.section)) ∙ ap (option_map present) (sym (change c))
    where
      go : (is_in c old.section ≡ true) ⊎ (is_in c old.section ≡ false) →
          holder (without d.blocks old.section) c
          ≡ option_map present (within old.section (λ x. None) (stored_at bs) c)
      go (inl e) =
          holder_removed d.blocks old.section c (present old) h.apart (held_some bs used d h c old (all c e))
          (same_self old.section)
          ∙ ap (option_map present) (sym (within_in old.section (λ x. None) (stored_at bs) c e))
      go (inr e) =
          holder_outside d.blocks old.section c e ∙ h.blocks c
          ∙ ap (option_map present) (sym (within_out old.section (λ x. None) (stored_at bs) c e))

  removed_numbers : (c : Cell) →
      within old.section (λ x. None) d.cells c ≡ option_and_then (number_in c) (stored_at after c)
  removed_numbers c = go (cases_Bool (is_in c old.section)) ∙ ap (option_and_then (number_in c)) (sym (change c))
    where
      go : (is_in c old.section ≡ true) ⊎ (is_in c old.section ≡ false) →
          within old.section (λ x. None) d.cells c
          ≡ option_and_then (number_in c) (within old.section (λ x. None) (stored_at bs) c)
      go (inl e) =
          within_in old.section (λ x. None) d.cells c e
          ∙ ap (option_and_then (number_in c)) (sym (within_in old.section (λ x. None) (stored_at bs) c e))
      go (inr e) =
          within_out old.section (λ x. None) d.cells c e ∙ h.numbers c
          ∙ ap (option_and_then (number_in c)) (sym (within_out old.section (λ x. None) (stored_at bs) c e))

  pub shows_removed : Show after less
      (record { blocks = without d.blocks old.section; cells = within old.section (λ x. None) d.cells })
  shows_removed =
      let first : Cell = record { array = old.section.array; index = old.section.first } in
      let gone = in_use_removed d.blocks (present old) first h.apart
      (held_some bs used d h first old (all first (first_in old.section some))) in
      let in_use = h.in_use in
      record {
        apart = fewer_apart d.blocks old.section h.apart;
        blocks = removed_holder;
        numbers = removed_numbers;
        in_use = omega arith;
      }
