-- Blocks whose numbers are read in a row, or take those of a row.
use Rattle.std.proofs.Common.{◌≡◌, ◌≢◌, ◌⊎◌, ℕ, zero, suc, ◌+◌, ◌<◌, ◌≤◌, ◌==◌, take, Bool, true, false, List, [], ◌∷◌, length, get_or, Option, Some, None, refl, sym, ap, ◌∙◌, inl, inr, true≢false, subst, length-take, arith}
use Rattle.std.specs.Prelude.{slice_get, slice_set, nat_le, nat_lt, find, option_map, option_and_then, unwrap_or}
use Rattle.std.specs.List.{list_all}
use Rattle.std.proofs.lemmas.Bool.{cases_Bool, ltb-true, ltb-false, eqb-true, eq-eqb}
use Rattle.std.proofs.lemmas.Option.{slice_get-get_or, slice_get_within}
use Rattle.base.specs.declared.item.Cell.{Cell}
use Rattle.base.specs.declared.tree.ArrayId.{ArrayId}
use Rattle.base.specs.declared.item.Section.{Section}
use Rattle.base.specs.Memory.{View, end_of, is_in}
use Rattle.base.specs.Map.{Device}
use Rattle.base.proofs.Places.{get_take, get_set_same, get_set_other}
use Rattle.present.specs.declared.block.Block.{Block}
use Rattle.present.specs.Blocks.{Show, are_stored, number_in, stored_at, has, is_stored, present, cells_in, start_of, stop_of}
use Rattle.present.specs.Rows.{AreStoredIn, IsLoaded, IsStoredIn, cell_at, numbers_at, view_in, with_numbers}
use Rattle.present.proofs.Finds.{find_at, find_none, find_yes, find_no}
use Rattle.present.proofs.Orders.{parts, whole, follows_on, stored_parts, stored_from, cells_more, all_at, all_from}
use Rattle.present.proofs.Founds.{one_block, others_lack}
use Rattle.present.proofs.RowParts.{untaken}

-- Several blocks, one after the other.

find_suc : {A : Type 0} (p : A → Bool) (xs : List A) (n : ℕ) (x : A) → slice_get xs n ≡ Some x → p x ≡ false →
    find p (take (suc n) xs) ≡ find p (take n xs)
find_suc p [] n x e out = absurd (cc e)
find_suc p (y ∷ ys) zero x e out = let is : y ≡ x = cc in find_no p y [] (ap p is ∙ out)
find_suc p (y ∷ ys) (suc n) x e out = go (cases_Bool (p y)) (find_suc p ys n x e out)
  where
    go : (p y ≡ true) ⊎ (p y ≡ false) → (find p (take (suc n) ys) ≡ find p (take n ys)) →
        find p (y ∷ take (suc n) ys) ≡ find p (y ∷ take n ys)
    go (inl t) again = find_yes p y (take (suc n) ys) t ∙ sym (find_yes p y (take n ys) t)
    go (inr t) again = find_no p y (take (suc n) ys) t ∙ again ∙ sym (find_no p y (take n ys) t)

find_more : {A : Type 0} (p : A → Bool) (xs : List A) (n : ℕ) (x : A) → slice_get xs n ≡ Some x → p x ≡ false →
    find p (take (n + 1) xs) ≡ find p (take n xs)
find_more p xs n x e out =
    let more : n + 1 ≡ suc n = omega arith in ap (λ m. find p (take m xs)) more ∙ find_suc p xs n x e out

module _ (bs : List Block) (ok : are_stored bs ≡ true) (n : ℕ) (b : Block) (e : slice_get bs n ≡ Some b) where
  -- one block more
  more_here : (c : Cell) → is_in c b.section ≡ true → stored_at (take (n + 1) bs) c ≡ Some b
  more_here c i =
      find_at (has c) (take (n + 1) bs) n b (get_take (n + 1) bs n (omega arith) ∙ e)
      (λ k x l f. others_lack bs ok c n b e i k x (λ s. omega arith) (sym (get_take (n + 1) bs k (omega arith)) ∙ f)) i

  none_here : (c : Cell) → is_in c b.section ≡ true → stored_at (take n bs) c ≡ None
  none_here c i = find_none (has c) (take n bs) (λ k x f. lack k x f (nat_lt k n) refl)
    where
      lack : (k : ℕ) (x : Block) → slice_get (take n bs) k ≡ Some x → (t : Bool) → nat_lt k n ≡ t → has c x ≡ false
      lack k x f true t =
          let l = ltb-true k n t in
          others_lack bs ok c n b e i k x (λ s. omega arith) (sym (get_take n bs k l) ∙ f)
      lack k x f false t =
          let l = ltb-false k n t in
          let w = slice_get_within (take n bs) k x f in
          absurd (omega (arith, l, w, length-take n bs))

  pub loaded_more : (a : ArrayId) (first : ℕ) (old now new : List ℕ) →
      IsLoaded (numbers_at (take n bs)) a first old now → IsLoaded (view_in b) a first now new →
      IsLoaded (numbers_at (take (n + 1) bs)) a first old new
  loaded_more a first old now new h g k = go (cases_Bool (is_in (cell_at a (first + k)) b.section))
    where
      go : (is_in (cell_at a (first + k)) b.section ≡ true) ⊎ (is_in (cell_at a (first + k)) b.section ≡ false) →
          slice_get new k ≡ option_map (λ m. unwrap_or (numbers_at (take (n + 1) bs) (cell_at a (first + k))) m) (slice_get old k)
      go (inl i) =
          let same : slice_get now k ≡ slice_get old k = h k
          ∙ sym (untaken (numbers_at (take n bs) (cell_at a (first + k))) (slice_get old k)
          (inl (ap (option_and_then (number_in (cell_at a (first + k)))) (none_here (cell_at a (first + k)) i)))) in
          g k ∙ ap (option_map (λ m. unwrap_or (view_in b (cell_at a (first + k))) m)) same
          ∙ ap (λ v. option_map (λ m. unwrap_or v m) (slice_get old k))
          (ap (λ (t : Bool). elim t [ true ↦ number_in (cell_at a (first + k)) b | false ↦ None ]) i
          ∙ ap (option_and_then (number_in (cell_at a (first + k)))) (sym (more_here (cell_at a (first + k)) i)))
      go (inr i) =
          g k
          ∙ sym (untaken (view_in b (cell_at a (first + k))) (slice_get now k)
          (inl (ap (λ (t : Bool). elim t [ true ↦ number_in (cell_at a (first + k)) b | false ↦ None ]) i)))
          ∙ h k
          ∙ ap (λ o. option_map (λ m. unwrap_or (option_and_then (number_in (cell_at a (first + k))) o) m) (slice_get old k))
          (sym (find_more (has (cell_at a (first + k))) bs n b e i))

-- What a store in a row does to blocks.

module _ (v : View) where
  -- those before place n took the numbers, and the others are as they were
  pub record StoredUpTo (n : ℕ) (old now : List Block) : Type 0 where
    pub done : (k : ℕ) (x y : Block) → k < n → slice_get old k ≡ Some x → slice_get now k ≡ Some y → IsStoredIn v x y
    pub rest : (k : ℕ) → n ≤ k → slice_get now k ≡ slice_get old k

  pub stored_more : (n : ℕ) (old now : List Block) (x y : Block) → slice_get now n ≡ Some x → IsStoredIn v x y →
      StoredUpTo n old now → StoredUpTo (n + 1) old (slice_set now n y)
  stored_more n old now x y e one h = record {
    done = λ k p q l f g. at k p q l f g (k == n) refl;
    rest = λ k l. get_set_other now n y k (λ s. omega arith) ∙ h.rest k (omega arith);
  }
    where
      at : (k : ℕ) (p q : Block) → k < n + 1 → slice_get old k ≡ Some p → slice_get (slice_set now n y) k ≡ Some q →
          (t : Bool) → (k == n) ≡ t → IsStoredIn v p q
      at k p q l f g true t =
          let is : k ≡ n = eqb-true k n t in
          let here : slice_get (slice_set now n y) k ≡ Some y =
          ap (slice_get (slice_set now n y)) is ∙ get_set_same now n y (slice_get_within now n x e) in
          let old_one : slice_get old k ≡ Some x = sym (h.rest k (omega arith)) ∙ ap (slice_get now) is ∙ e in
          let first : x ≡ p = one_block (slice_get old k) x p old_one f in
          let second : y ≡ q = one_block (slice_get (slice_set now n y) k) y q here g in
          subst (λ z. IsStoredIn v p z) second (subst (λ z. IsStoredIn v z y) first one)
      at k p q l f g false t =
          let other : k ≢ n = λ same. true≢false (sym (eq-eqb k n same) ∙ t) in
          h.done k p q (omega arith) f (sym (get_set_other now n y k (λ s. other (sym s))) ∙ g)

  pub stored_all : (n : ℕ) (old now : List Block) → length now ≡ length old → length old ≤ n → StoredUpTo n old now →
      AreStoredIn v old now
  stored_all n old now long past h = record {
    same_length = long;
    each = λ k x y e f. h.done k x y (let w = slice_get_within old k x e in omega arith) e f;
  }

  pub stored_tail : (x y : Block) (xs ys : List Block) → AreStoredIn v (x ∷ xs) (y ∷ ys) → AreStoredIn v xs ys
  stored_tail x y xs ys h = record {
    same_length = let l = h.same_length in omega arith;
    each = λ k p q e f. h.each (suc k) p q e f;
  }

  same_later : (x y : Block) (xs ys : List Block) → AreStoredIn v (x ∷ xs) (y ∷ ys) →
      list_all (follows_on x) xs ≡ true → list_all (follows_on y) ys ≡ true
  same_later x y xs ys h t = all_from (follows_on y) ys go
    where
      head : IsStoredIn v x y
      head = h.each zero x y refl refl

      go : (k : ℕ) (z : Block) → slice_get ys k ≡ Some z → follows_on y z ≡ true
      go k z f =
          let w = slice_get_within ys k z f in
          let l = h.same_length in
          let e = slice_get-get_or xs k x (omega arith) in
          let one = h.each (suc k) (get_or xs k x) z e f in
          (λ i. nat_le (stop_of (head.section i)) (start_of (one.section i)))
          ∙ all_at (follows_on x) xs t k (get_or xs k x) e

  pub same_stored : (old new : List Block) → AreStoredIn v old new → are_stored old ≡ true → are_stored new ≡ true
  same_stored [] [] h t = t
  same_stored [] (y ∷ ys) h t = let l = h.same_length in absurd (omega arith)
  same_stored (x ∷ xs) [] h t = let l = h.same_length in absurd (omega arith)
  same_stored (x ∷ xs) (y ∷ ys) h t =
      let p = parts x xs t in
      let one = h.each zero x y refl refl in
      let w = stored_parts x p.first in
      let first : is_stored y ≡ true = stored_from y (record {
        has_cells = subst (λ (s : Section). 1 ≤ s.length) (sym one.section) w.has_cells;
        end = subst (λ (s : Section). end_of s ≤ 65536) (sym one.section) w.end;
        numbers = one.same_length ∙ w.numbers ∙ ap (λ (s : Section). s.length) (sym one.section);
      }) in
      whole y ys (record {
        first = first;
        later = same_later x y xs ys h p.later;
        others = same_stored xs ys (stored_tail x y xs ys h) p.others;
      })

  pub same_cells : (old new : List Block) → AreStoredIn v old new → cells_in new ≡ cells_in old
  same_cells [] [] h = refl
  same_cells [] (y ∷ ys) h = let l = h.same_length in absurd (omega arith)
  same_cells (x ∷ xs) [] h = let l = h.same_length in absurd (omega arith)
  same_cells (x ∷ xs) (y ∷ ys) h =
      let again = same_cells xs ys (stored_tail x y xs ys h) in
      let one = h.each zero x y refl refl in
      let long : y.section.length ≡ x.section.length = ap (λ (s : Section). s.length) one.section in
      omega (arith, cells_more y ys, cells_more x xs, again, long)

  -- what stands at a cell in both
  abbrev Both : Cell → Option Block → Option Block → Type 0
  Both c None None = Unit {0}
  Both c None (Some y) = ⊥
  Both c (Some x) None = ⊥
  Both c (Some x) (Some y) = IsStoredIn v x y × (is_in c x.section ≡ true)

  both : (old new : List Block) (c : Cell) → AreStoredIn v old new → Both c (stored_at old c) (stored_at new c)
  both [] [] c h = tt
  both [] (y ∷ ys) c h = let l = h.same_length in absurd (omega arith)
  both (x ∷ xs) [] c h = let l = h.same_length in absurd (omega arith)
  both (x ∷ xs) (y ∷ ys) c h = go (cases_Bool (has c x)) (both xs ys c (stored_tail x y xs ys h))
    where
      one : IsStoredIn v x y
      one = h.each zero x y refl refl

      same : has c y ≡ has c x
      same = ap (is_in c) one.section

      go : (has c x ≡ true) ⊎ (has c x ≡ false) → Both c (stored_at xs c) (stored_at ys c) →
          Both c (stored_at (x ∷ xs) c) (stored_at (y ∷ ys) c)
      go (inl t) again =
          subst (λ o. Both c o (stored_at (y ∷ ys) c)) (sym (find_yes (has c) x xs t))
          (subst (Both c (Some x)) (sym (find_yes (has c) y ys (same ∙ t))) (one, t))
      go (inr t) again =
          subst (λ o. Both c o (stored_at (y ∷ ys) c)) (sym (find_no (has c) x xs t))
          (subst (Both c (stored_at xs c)) (sym (find_no (has c) y ys (same ∙ t))) again)

  pub shows_rows : (old new : List Block) (used : ℕ) (d : Device) → AreStoredIn v old new → Show old used d →
      Show new used (with_numbers v d)
  shows_rows old new used d h w = record {
    apart = w.apart;
    blocks = λ c. w.blocks c ∙ blocks c (stored_at old c) (stored_at new c) (both old new c h);
    numbers = λ c. ap (λ o. option_map (λ m. unwrap_or (v c) m) o) (w.numbers c)
        ∙ numbers c (stored_at old c) (stored_at new c) (both old new c h);
    in_use = w.in_use;
  }
    where
      blocks : (c : Cell) (o p : Option Block) → Both c o p → option_map present o ≡ option_map present p
      blocks c None None b = refl
      blocks c None (Some y) b = absurd b
      blocks c (Some x) None b = absurd b
      blocks c (Some x) (Some y) b = λ i. Some (record { section = sym b.0.section i; count = sym b.0.count i })

      numbers : (c : Cell) (o p : Option Block) → Both c o p →
          option_map (λ m. unwrap_or (v c) m) (option_and_then (number_in c) o) ≡ option_and_then (number_in c) p
      numbers c None None b = refl
      numbers c None (Some y) b = absurd b
      numbers c (Some x) None b = absurd b
      numbers c (Some x) (Some y) b = sym (b.0.numbers c b.1)
