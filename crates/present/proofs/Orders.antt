-- Blocks in order, by their places.
use Rattle.std.proofs.Common.{◌≡◌, ℕ, zero, suc, ◌+◌, ◌<◌, ◌≤◌, Bool, true, List, [], ◌∷◌, length, Some, refl, sym, ap, ◌∙◌, arith}
use Rattle.std.specs.Prelude.{slice_get, slice_set, insert, remove, nat_le}
use Rattle.std.specs.List.{list_all}
use Rattle.std.proofs.lemmas.Bool.{and_parts, and_from, leb-true, le-leb, eqb-true, eq-eqb}
use Rattle.std.proofs.lemmas.List.Sums.{sum_by-cons}
use Rattle.base.specs.declared.item.Section.{Section}
use Rattle.base.specs.Memory.{end_of}
use Rattle.shared_row.specs.Rows.{numbers_of}
use Rattle.present.specs.declared.block.Block.{Block}
use Rattle.present.specs.Blocks.{is_stored, are_stored, start_of, stop_of, length_of, cells_in}

-- what is known of a block
pub record Stored (b : Block) : Type 0 where
  pub has_cells : 1 ≤ b.section.length
  pub end : end_of b.section ≤ 65536
  pub numbers : length (numbers_of b.values) ≡ b.section.length

pub stored_parts : (b : Block) → is_stored b ≡ true → Stored b
stored_parts b h =
    let p = and_parts (nat_le 1 b.section.length) _ h in
    let q = and_parts (nat_le (end_of b.section) 65536) _ p.1 in
    record {
      has_cells = leb-true 1 b.section.length p.0;
      end = leb-true (end_of b.section) 65536 q.0;
      numbers = eqb-true (length (numbers_of b.values)) b.section.length q.1;
    }

pub stored_from : (b : Block) → Stored b → is_stored b ≡ true
stored_from b h =
    and_from _ _ (le-leb 1 b.section.length h.has_cells)
    (and_from _ _ (le-leb (end_of b.section) 65536 h.end)
    (eq-eqb (length (numbers_of b.values)) b.section.length h.numbers))

-- the test of a later block
abbrev pub follows_on : Block → Block → Bool
follows_on b x = nat_le (stop_of b.section) (start_of x.section)

pub record Parts (b : Block) (rest : List Block) : Type 0 where
  pub first : is_stored b ≡ true
  pub later : list_all (follows_on b) rest ≡ true
  pub others : are_stored rest ≡ true

pub parts : (b : Block) (rest : List Block) → are_stored (b ∷ rest) ≡ true → Parts b rest
parts b rest h =
    let p = and_parts (is_stored b) _ h in
    let q = and_parts (list_all (follows_on b) rest) _ p.1 in
    record { first = p.0; later = q.0; others = q.1 }

pub whole : (b : Block) (rest : List Block) → Parts b rest → are_stored (b ∷ rest) ≡ true
whole b rest h = and_from _ _ h.first (and_from _ _ h.later h.others)

module _ {A : Type 0} (p : A → Bool) where
  pub all_at : (xs : List A) → list_all p xs ≡ true → (k : ℕ) (x : A) → slice_get xs k ≡ Some x → p x ≡ true
  all_at [] h k x e = absurd cc
  all_at (y ∷ xs) h zero x e = let is : y ≡ x = cc in ap p (sym is) ∙ (and_parts (p y) _ h).0
  all_at (y ∷ xs) h (suc k) x e = all_at xs (and_parts (p y) _ h).1 k x e

  pub all_from : (xs : List A) → ((k : ℕ) (x : A) → slice_get xs k ≡ Some x → p x ≡ true) → list_all p xs ≡ true
  all_from [] h = refl
  all_from (y ∷ xs) h = and_from _ _ (h zero y refl) (all_from xs (λ k x e. h (suc k) x e))

  pub all_insert : (xs : List A) (n : ℕ) (y : A) → list_all p xs ≡ true → p y ≡ true →
      list_all p (insert xs n y) ≡ true
  all_insert xs zero y h t = and_from _ _ t h
  all_insert [] (suc n) y h t = and_from _ _ t refl
  all_insert (x ∷ xs) (suc n) y h t = let q = and_parts (p x) _ h in and_from _ _ q.0 (all_insert xs n y q.1 t)

  pub all_set : (xs : List A) (n : ℕ) (y : A) → list_all p xs ≡ true → p y ≡ true →
      list_all p (slice_set xs n y) ≡ true
  all_set [] n y h t = refl
  all_set (x ∷ xs) zero y h t = and_from _ _ t (and_parts (p x) _ h).1
  all_set (x ∷ xs) (suc n) y h t = let q = and_parts (p x) _ h in and_from _ _ q.0 (all_set xs n y q.1 t)

  pub all_remove : (xs : List A) (n : ℕ) → list_all p xs ≡ true → list_all p (remove xs n) ≡ true
  all_remove [] zero h = refl
  all_remove [] (suc n) h = refl
  all_remove (x ∷ xs) zero h = (and_parts (p x) _ h).1
  all_remove (x ∷ xs) (suc n) h = let q = and_parts (p x) _ h in and_from _ _ q.0 (all_remove xs n q.1)

pub stored_each : (xs : List Block) → are_stored xs ≡ true → (k : ℕ) (x : Block) → slice_get xs k ≡ Some x → Stored x
stored_each [] h k x e = absurd cc
stored_each (y ∷ xs) h zero x e = let is : y ≡ x = cc in stored_parts x (ap is_stored (sym is) ∙ (parts y xs h).first)
stored_each (y ∷ xs) h (suc k) x e = stored_each xs (parts y xs h).others k x e

-- a later block begins where an earlier one ends, or behind it
pub in_order : (xs : List Block) → are_stored xs ≡ true → (i j : ℕ) (x y : Block) → i < j →
    slice_get xs i ≡ Some x → slice_get xs j ≡ Some y → stop_of x.section ≤ start_of y.section
in_order [] h i j x y l e f = absurd (cc)
in_order (z ∷ xs) h i zero x y l e f = absurd (omega arith)
in_order (z ∷ xs) h zero (suc j) x y l e f =
    let is : z ≡ x = cc in
    leb-true (stop_of x.section) (start_of y.section)
    (ap (λ b. follows_on b y) (sym is) ∙ all_at (follows_on z) xs (parts z xs h).later j y f)
in_order (z ∷ xs) h (suc i) (suc j) x y l e f = in_order xs (parts z xs h).others i j x y (omega arith) e f

pub stored_insert : (xs : List Block) (n : ℕ) (y : Block) → are_stored xs ≡ true → is_stored y ≡ true →
    n ≤ length xs →
    ((k : ℕ) (x : Block) → k < n → slice_get xs k ≡ Some x → stop_of x.section ≤ start_of y.section) →
    ((k : ℕ) (x : Block) → n ≤ k → slice_get xs k ≡ Some x → stop_of y.section ≤ start_of x.section) →
    are_stored (insert xs n y) ≡ true
stored_insert xs zero y h t l before after =
    whole y xs (record {
      first = t;
      later = all_from (follows_on y) xs (λ k x e. le-leb (stop_of y.section) (start_of x.section) (after k x
          (omega arith) e));
      others = h;
    })
stored_insert [] (suc n) y h t l before after = absurd (omega arith)
stored_insert (x ∷ xs) (suc n) y h t l before after =
    let p = parts x xs h in
    whole x (insert xs n y) (record {
      first = p.first;
      later = all_insert (follows_on x) xs n y p.later
          (le-leb (stop_of x.section) (start_of y.section) (before zero x (omega arith) refl));
      others = stored_insert xs n y p.others t (omega arith) (λ k z m e. before (suc k) z (omega arith) e)
          (λ k z m e. after (suc k) z (omega arith) e);
    })

pub stored_set : (xs : List Block) (n : ℕ) (x y : Block) → are_stored xs ≡ true → slice_get xs n ≡ Some x →
    y.section ≡ x.section → is_stored y ≡ true → are_stored (slice_set xs n y) ≡ true
stored_set [] n x y h e s t = refl
stored_set (z ∷ xs) zero x y h e s t =
    let is : z ≡ x = cc in
    let same : z.section ≡ y.section = ap (λ (b : Block). b.section) is ∙ sym s in
    let p = parts z xs h in
    whole y xs (record {
      first = t;
      later = ap (λ (s : Section). list_all (λ x. nat_le (stop_of s) (start_of x.section)) xs) (sym same) ∙ p.later;
      others = p.others;
    })
stored_set (z ∷ xs) (suc n) x y h e s t =
    let p = parts z xs h in
    let follows : follows_on z y ≡ true =
    ap (λ (s : Section). nat_le (stop_of z.section) (start_of s)) s ∙ all_at (follows_on z) xs p.later n x e in
    whole z (slice_set xs n y) (record {
      first = p.first;
      later = all_set (follows_on z) xs n y p.later follows;
      others = stored_set xs n x y p.others e s t;
    })

pub stored_remove : (xs : List Block) (n : ℕ) → are_stored xs ≡ true → are_stored (remove xs n) ≡ true
stored_remove [] zero h = refl
stored_remove [] (suc n) h = refl
stored_remove (x ∷ xs) zero h = (parts x xs h).others
stored_remove (x ∷ xs) (suc n) h =
    let p = parts x xs h in
    whole x (remove xs n) (record {
      first = p.first;
      later = all_remove (follows_on x) xs n p.later;
      others = stored_remove xs n p.others;
    })

-- How many cells they have.

pub cells_more : (x : Block) (xs : List Block) → cells_in (x ∷ xs) ≡ x.section.length + cells_in xs
cells_more x xs = sum_by-cons length_of x xs

pub cells_insert : (xs : List Block) (n : ℕ) (y : Block) → cells_in (insert xs n y) ≡ cells_in xs + y.section.length
cells_insert xs zero y = omega (arith, cells_more y xs)
cells_insert [] (suc n) y = omega (arith, cells_more y [])
cells_insert (x ∷ xs) (suc n) y =
    let e = cells_insert xs n y in omega (arith, cells_more x xs, cells_more x (insert xs n y), e)

pub cells_set : (xs : List Block) (n : ℕ) (x y : Block) → slice_get xs n ≡ Some x → y.section ≡ x.section →
    cells_in (slice_set xs n y) ≡ cells_in xs
cells_set [] n x y e s = refl
cells_set (z ∷ xs) zero x y e s =
    let is : z ≡ x = cc in
    let same : y.section ≡ z.section = s ∙ ap (λ (b : Block). b.section) (sym is) in
    let long : y.section.length ≡ z.section.length = ap (λ (t : Section). t.length) same in
    omega (arith, cells_more y xs, cells_more z xs, long)
cells_set (z ∷ xs) (suc n) x y e s =
    let r = cells_set xs n x y e s in
    omega (arith, cells_more z xs, cells_more z (slice_set xs n y), r)

pub cells_remove : (xs : List Block) (n : ℕ) (x : Block) → slice_get xs n ≡ Some x →
    cells_in (remove xs n) + x.section.length ≡ cells_in xs
cells_remove [] n x e = absurd cc
cells_remove (z ∷ xs) zero x e =
    let is : z ≡ x = cc in
    let l : z.section.length ≡ x.section.length = ap length_of is in
    omega (arith, cells_more z xs, l)
cells_remove (z ∷ xs) (suc n) x e =
    let r = cells_remove xs n x e in omega (arith, cells_more z xs, cells_more z (remove xs n), r)
