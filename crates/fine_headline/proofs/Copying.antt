-- A section copied cell by cell is a section copied whole, where its cells have storage.
use Rattle.std.proofs.Common.{◌≡◌, ◌⊎◌, ℕ, zero, suc, ◌+◌, ◌==◌, Bool, true, false, Option, Some, refl, sym, ◌∙◌, ap, ap₂, inl, inr, arith, subst, true≢false}
use Rattle.std.specs.Prelude.{option_map, unwrap_or, if◌then◌else◌, List}
use mathlib.Core.Path.{fun_ext}
use Rattle.std.proofs.lemmas.Bool.{cases_Bool, and_parts, and_from, eqb-true, eq-eqb, cond-true, cond-false, false_from_ne_true, cases_eq}
use Rattle.base.specs.declared.item.Cell.{Cell}
use Rattle.base.specs.declared.item.Section.{Section}
use Rattle.base.specs.declared.tree.ArrayId.{ArrayId}
use Rattle.base.specs.Memory.{Memory, View, is_in, same_cell, within}
use Rattle.base.specs.Map.{Memories, Fill, copy_in, copy_out}
use Rattle.base.proofs.Sections.{IsIn, in_parts, in_from}
use Rattle.fine_machine.specs.Left.{Left, CopyIn, CopyOut, cells_left}
use Rattle.fine_machine.specs.Action.{loaded, with_host, with_device}
use Rattle.two_memories.proofs.MapMoves.{within_yes, within_no}
use Rattle.fine_headline.proofs.Reaching.{Reaches, there, next}

-- the cells of a section have storage
abbrev pub HasStorage : Section → Memories → Type 0
HasStorage s m = (c : Cell) → is_in c s ≡ true → (n : ℕ) × (m.device.cells c ≡ Some n)

abbrev section : ArrayId → ℕ → ℕ → Section
section a first n = record { array = a; first = first; length = n }

abbrev cell : ArrayId → ℕ → Cell
cell a i = record { array = a; index = i }

same_cells : (c d : Cell) → same_cell c d ≡ true → c ≡ d
same_cells c d h =
    let p = and_parts (c.array.0 == d.array.0) (c.index == d.index) h in
    ap₂ (λ x y. record { array = record { 0 = x }; index = y }) (eqb-true c.array.0 d.array.0 p.0)
    (eqb-true c.index d.index p.1)

none_in : (a : ArrayId) (first : ℕ) (d : Cell) → is_in d (section a first 0) ≡ true → ⊥
none_in a first d h = let p = in_parts d (section a first 0) h in let x = p.above in let y = p.below in omega arith

later_in : (a : ArrayId) (first n : ℕ) (d : Cell) → is_in d (section a (first + 1) n) ≡ true →
    is_in d (section a first (suc n)) ≡ true
later_in a first n d h =
    let p = in_parts d (section a (first + 1) n) h in let x = p.above in let y = p.below in in_from d
    (section a first (suc n)) (record { array = p.array; above = omega arith; below = omega arith })

first_here : (a : ArrayId) (first n : ℕ) → is_in (cell a first) (section a first (suc n)) ≡ true
first_here a first n =
    in_from (cell a first) (section a first (suc n)) (record { array = refl; above = omega arith; below = omega arith })

-- the first cell of a section, and the others
first_or_later : (a : ArrayId) (first n : ℕ) (d : Cell) → is_in d (section a first (suc n)) ≡ true →
    is_in d (section a (first + 1) n) ≡ false → same_cell (cell a first) d ≡ true
first_or_later a first n d h k = go (cases_eq first d.index)
  where
    p : IsIn d (section a first (suc n))
    p = in_parts d (section a first (suc n)) h

    go : (first ≡ d.index) ⊎ (first ≡ d.index → ⊥) → same_cell (cell a first) d ≡ true
    go (inl e) =
        and_from (a.0 == d.array.0) (first == d.index) (eq-eqb a.0 d.array.0 (sym p.array)) (eq-eqb first d.index e)
    go (inr ne) =
        let x = p.above in
        let y = p.below in
        absurd (true≢false (sym (in_from d (section a (first + 1) n)
        (record { array = p.array; above = omega arith; below = omega arith })) ∙ k))

-- one cell after the other is the whole section
cell_by_cell : {A : Type 0} (f g h : Cell → A) (x : A) (a : ArrayId) (first n : ℕ) (d : Cell) → x ≡ f (cell a first) →
    (is_in d (section a (first + 1) n) ≡ true → h d ≡ f d) →
    within (section a (first + 1) n) h (λ e. if same_cell (cell a first) e then x else g e) d ≡ within
    (section a first (suc n)) f g d
cell_by_cell f g h x a first n d e k =
    go (cases_Bool (is_in d (section a (first + 1) n))) (cases_Bool (is_in d (section a first (suc n))))
  where
    go : (is_in d (section a (first + 1) n) ≡ true) ⊎ (is_in d (section a (first + 1) n) ≡ false) →
        (is_in d (section a first (suc n)) ≡ true) ⊎ (is_in d (section a first (suc n)) ≡ false) →
        within (section a (first + 1) n) h (λ e. if same_cell (cell a first) e then x else g e) d ≡ within
        (section a first (suc n)) f g d
    go (inl i) _ =
        within_yes (section a (first + 1) n) h (λ e. if same_cell (cell a first) e then x else g e) d i ∙
        (k i ∙ sym (within_yes (section a first (suc n)) f g d (later_in a first n d i)))
    go (inr i) (inl j) =
        let s = first_or_later a first n d j i in
        within_no (section a (first + 1) n) h (λ e. if same_cell (cell a first) e then x else g e) d i
        ∙ (cond-true (same_cell (cell a first) d) x (g d) s ∙
        (e ∙ (ap f (same_cells (cell a first) d s) ∙ sym (within_yes (section a first (suc n)) f g d j))))
    go (inr i) (inr j) =
        within_no (section a (first + 1) n) h (λ e. if same_cell (cell a first) e then x else g e) d i
        ∙ (cond-false (same_cell (cell a first) d) x (g d)
        (false_from_ne_true (same_cell (cell a first) d)
        (λ s. true≢false (sym (first_here a first n) ∙
        (ap (λ c. is_in c (section a first (suc n))) (same_cells (cell a first) d s) ∙ j))))
        ∙ sym (within_no (section a first (suc n)) f g d j))

module _ (lengths : List ℕ) (fill : Fill) where
  still_stored : (m : Memories) (a : ArrayId) (first n v : ℕ) → HasStorage (section a first (suc n)) m →
      HasStorage (section a (first + 1) n) (with_device (cell a first) v m)
  still_stored m a first n v h c i = go (same_cell (cell a first) c) (h c (later_in a first n c i))
    where
      go : (b : Bool) → (w : ℕ) × (m.device.cells c ≡ Some w) →
          (w : ℕ) × ((if b then Some v else m.device.cells c) ≡ Some w)
      go true q = (v, refl)
      go false q = q

  pub copies_in : (n : ℕ) (a : ArrayId) (first : ℕ) (m : Memories) (k : Unit {0} → Left) →
      HasStorage (record { array = a; first = first; length = n }) m →
      Reaches lengths fill (cells_left CopyIn a first n k) m (k tt)
      (copy_in (record { array = a; first = first; length = n }) m)
  copies_in zero a first m k h = subst (λ x. Reaches lengths fill (k tt) m (k tt) x) (nothing m) (there (k tt) m)
    where
      nothing : (m : Memories) → m ≡ copy_in (record { array = a; first = first; length = 0 }) m
      nothing m =
          ap (λ (v : View). let x : Memories = record
          { host = m.host; device = record { blocks = m.device.blocks; cells = v } } in x)
          (fun_ext (λ d. sym (within_no (section a first 0) (λ c. Some (m.host c)) m.device.cells d
          (false_from_ne_true (is_in d (section a first 0)) (none_in a first d)))))
  copies_in (suc n) a first m k h =
      let c : Cell = record { array = a; index = first } in
      let m' : Memories = with_device c (m.host c) m in
      let q = h c (first_here a first n) in
      subst (λ x. Reaches lengths fill (cells_left CopyIn a first (suc n) k) m (k tt) x) whole
      (next (CopyIn c) (λ r. cells_left CopyIn a (first + 1) n k) (loaded 0) m m' (k tt)
      (copy_in (record { array = a; first = first + 1; length = n }) m')
      (ap (option_map (λ old. (loaded 0, with_device c (m.host c) m))) q.1)
      (copies_in n a (first + 1) m' k (still_stored m a first n (m.host c) h)))
    where
      whole : copy_in (record { array = a; first = first + 1; length = n })
          (with_device (cell a first) (m.host (cell a first)) m) ≡ copy_in
          (record { array = a; first = first; length = suc n }) m
      whole =
          ap (λ (v : View). let x : Memories = record
          { host = m.host; device = record { blocks = m.device.blocks; cells = v } } in x)
          (fun_ext (λ d. cell_by_cell (λ c. Some (m.host c)) m.device.cells (λ c. Some (m.host c))
          (Some (m.host (cell a first))) a first n d refl (λ i. refl)))

  pub copies_out : (n : ℕ) (a : ArrayId) (first : ℕ) (m : Memories) (k : Unit {0} → Left) →
      HasStorage (record { array = a; first = first; length = n }) m →
      Reaches lengths fill (cells_left CopyOut a first n k) m (k tt)
      (copy_out (record { array = a; first = first; length = n }) m)
  copies_out zero a first m k h = subst (λ x. Reaches lengths fill (k tt) m (k tt) x) (nothing m) (there (k tt) m)
    where
      nothing : (m : Memories) → m ≡ copy_out (record { array = a; first = first; length = 0 }) m
      nothing m =
          ap (λ (v : Memory). let x : Memories = record { host = v; device = m.device } in x)
          (fun_ext (λ d. sym (within_no (section a first 0) (λ c. unwrap_or (m.device.cells c) (m.host c)) m.host d
          (false_from_ne_true (is_in d (section a first 0)) (none_in a first d)))))
  copies_out (suc n) a first m k h =
      let c : Cell = record { array = a; index = first } in
      let q = h c (first_here a first n) in
      let m' : Memories = with_host c q.0 m in
      subst (λ x. Reaches lengths fill (cells_left CopyOut a first (suc n) k) m (k tt) x) (whole q.0 q.1)
      (next (CopyOut c) (λ r. cells_left CopyOut a (first + 1) n k) (loaded 0) m m' (k tt)
      (copy_out (record { array = a; first = first + 1; length = n }) m')
      (ap (option_map (λ v. (loaded 0, with_host c v m))) q.1)
      (copies_out n a (first + 1) m' k (λ d i. h d (later_in a first n d i))))
    where
      known : (o : Option ℕ) (x y w : ℕ) → o ≡ Some w → unwrap_or o x ≡ unwrap_or o y
      known o x y w e = ap (λ p. unwrap_or p x) e ∙ sym (ap (λ p. unwrap_or p y) e)

      whole : (v : ℕ) → m.device.cells (cell a first) ≡ Some v →
          copy_out (record { array = a; first = first + 1; length = n }) (with_host (cell a first) v m) ≡ copy_out
          (record { array = a; first = first; length = suc n }) m
      whole v e =
          ap (λ (w : Memory). let x : Memories = record { host = w; device = m.device } in x)
          (fun_ext (λ d. cell_by_cell (λ c. unwrap_or (m.device.cells c) (m.host c)) m.host
          (λ c. unwrap_or (m.device.cells c) (if same_cell (cell a first) c then v else m.host c)) v a first n d
          (sym (ap (λ p. unwrap_or p (m.host (cell a first))) e))
          (λ i. let q = h d (later_in a first n d i) in known (m.device.cells d)
          (if same_cell (cell a first) d then v else m.host d) (m.host d) q.0 q.1)))
