-- A store in one cell.
use Rattle.std.proofs.Common.{◌≡◌, ◌≢◌, ◌⊎◌, ℕ, ◌-◌, true, false, ◌==◌, List, [], ◌∷◌, Option, Some, None, refl, sym, ◌∙◌, ap, inl, inr, true≢false, subst, arith}
use Rattle.std.specs.Prelude.{slice_get, slice_set, option_and_then, is_some, IsSomeAnd}
use Rattle.std.specs.List.{list_all}
use Rattle.std.proofs.lemmas.Bool.{cases_Bool, and_parts, and_from, eqb-true, eq-eqb, cond-true, cond-false}
use Rattle.std.proofs.lemmas.Option.{slice_get-get_or}
use Rattle.base.specs.declared.item.Cell.{Cell}
use Rattle.base.specs.Memory.{View, is_in, same_cell, last_stored}
use Rattle.base.specs.Map.{Device}
use Rattle.base.specs.Machine.{store_device}
use Rattle.base.proofs.Places.{get_set_same, get_set_other}
use Rattle.shared_row.specs.Rows.{numbers_of}
use Rattle.present.specs.declared.block.Block.{Block}
use Rattle.present.specs.Blocks.{Show, are_stored, number_in, stored_at}
use Rattle.base.proofs.Sections.{IsIn, in_parts}
use Rattle.present.proofs.Orders.{Stored, stored_each}
use Rattle.present.proofs.Founds.{at_block}
use Rattle.present.proofs.Shown.{shows_changed}
use Rattle.present.proofs.BlockReads.{change_set, number_within}

-- the cells after the store
abbrev pub after_store : Cell → ℕ → View → View
after_store x v cells c = elim (last_stored ((x, v) ∷ []) c) [ None ↦ cells c | Some w ↦ Some w ]

store_here : (x : Cell) (v : ℕ) (cells : View) (c : Cell) → same_cell x c ≡ true → after_store x v cells c ≡ Some v
store_here x v cells c e =
    ap (λ (o : Option ℕ). elim o [ None ↦ cells c | Some w ↦ Some w ]) (cond-true (same_cell x c) (Some v) None e)

store_there : (x : Cell) (v : ℕ) (cells : View) (c : Cell) → same_cell x c ≡ false → after_store x v cells c ≡ cells c
store_there x v cells c e =
    ap (λ (o : Option ℕ). elim o [ None ↦ cells c | Some w ↦ Some w ]) (cond-false (same_cell x c) (Some v) None e)

pub stores_one : (x : Cell) (v : ℕ) (d : Device) → is_some (d.cells x) ≡ true →
    store_device ((x, v) ∷ []) d ≡ Some (record { blocks = d.blocks; cells = after_store x v d.cells })
stores_one x v d e = cond-true (list_all (λ (s : Cell × ℕ). is_some (d.cells s.0)) ((x, v) ∷ [])) _ _
    (and_from _ _ e refl)

-- the block with another number in one cell
pub record HasNumber (b : Block) (i v : ℕ) (new : Block) : Type 0 where
  pub section : new.section ≡ b.section
  pub count : new.count ≡ b.count
  pub numbers : numbers_of new.values ≡ slice_set (numbers_of b.values) i v

pub number_there : (b : Block) (c : Cell) → Stored b → is_in c b.section ≡ true → is_some (number_in c b) ≡ true
number_there b c w h = ap is_some (slice_get-get_or (numbers_of b.values) (c.index - b.section.first) 0
    (number_within b c w h))

module _ (b : Block) (x : Cell) (v : ℕ) (w : Stored b) (here : is_in x b.section ≡ true) (new : Block)
    (is : HasNumber b (x.index - b.section.first) v new) where
  abbrev place : ℕ
  place = x.index - b.section.first

  pub number_changed : (cells : View) → ((c : Cell) → is_in c b.section ≡ true → cells c ≡ number_in c b) →
      (c : Cell) →
      is_in c b.section ≡ true → after_store x v cells c ≡ number_in c new
  number_changed cells h c i = go (cases_Bool (same_cell x c))
    where
      changed : number_in c new
          ≡ slice_get (slice_set (numbers_of b.values) (x.index - b.section.first) v) (c.index - b.section.first)
      changed = (λ j. slice_get (is.numbers j) (c.index - (is.section j).first))

      p : IsIn x b.section
      p = in_parts x b.section here

      q : IsIn c b.section
      q = in_parts c b.section i

      differ : same_cell x c ≡ false → x.index - b.section.first ≢ c.index - b.section.first
      differ e k =
          let above = p.above in
          let above' = q.above in
          let same : x.index ≡ c.index = omega arith in
          true≢false (sym (and_from (x.array.0 == c.array.0) (x.index == c.index)
          (eq-eqb x.array.0 c.array.0 (p.array ∙ sym q.array)) (eq-eqb x.index c.index same)) ∙ e)

      go : (same_cell x c ≡ true) ⊎ (same_cell x c ≡ false) →
          after_store x v cells c ≡ number_in c new
      go (inl e) =
          let same = eqb-true x.index c.index (and_parts (x.array.0 == c.array.0) (x.index == c.index) e).1 in
          store_here x v cells c e
          ∙ sym (get_set_same (numbers_of b.values) (x.index - b.section.first) v (number_within b x w here))
          ∙ ap (λ n. slice_get (slice_set (numbers_of b.values) (x.index - b.section.first) v) (n - b.section.first))
          same
          ∙ sym changed
      go (inr e) =
          store_there x v cells c e ∙ h c i
          ∙ sym (get_set_other (numbers_of b.values) (x.index - b.section.first) v (c.index - b.section.first)
          (differ e))
          ∙ sym changed

  pub number_outside : (cells : View) (c : Cell) → is_in c b.section ≡ false → after_store x v cells c ≡ cells c
  number_outside cells c i = go (cases_Bool (same_cell x c))
    where
      go : (same_cell x c ≡ true) ⊎ (same_cell x c ≡ false) → after_store x v cells c ≡ cells c
      go (inr e) = store_there x v cells c e
      go (inl e) =
          let q = and_parts (x.array.0 == c.array.0) (x.index == c.index) e in
          let same : x ≡ c = (λ j. record {
            array = record { 0 = eqb-true x.array.0 c.array.0 q.0 j };
            index = eqb-true x.index c.index q.1 j;
          }) in
          absurd (true≢false (sym here ∙ (ap (λ (y : Cell). is_in y b.section) same ∙ i)))

-- what a store in a block's cell does
pub shows_stored : (bs : List Block) (used : ℕ) (d : Device) (ok : are_stored bs ≡ true) (n : ℕ) (b : Block)
    (x : Cell) (v : ℕ) (new : Block) →
    slice_get bs n ≡ Some b → is_in x b.section ≡ true → HasNumber b (x.index - b.section.first) v new →
    Show bs used d → IsSomeAnd (store_device ((x, v) ∷ []) d) (λ e. Show (slice_set bs n new) used e)
shows_stored bs used d ok n b x v new e here is h =
    let w = stored_each bs ok n b e in
    let all : (c : Cell) → is_in c b.section ≡ true → stored_at bs c ≡ Some b = λ c i. at_block bs ok c n b e i in
    let numbers : (c : Cell) → is_in c b.section ≡ true → d.cells c ≡ number_in c b =
    λ c i. h.numbers c ∙ ap (option_and_then (number_in c)) (all c i) in
    let some = ap is_some (numbers x here) ∙ number_there b x w here in
    subst (λ o. IsSomeAnd o (λ e. Show (slice_set bs n new) used e)) (sym (stores_one x v d some))
    (shows_changed bs (slice_set bs n new) used d h b new is.section all (change_set bs ok n b new e is.section)
    (after_store x v d.cells) is.count (number_changed b x v w here new is d.cells numbers)
    (number_outside b x v w here new is d.cells))
