-- How many items parts have.
use Rattle.std.proofs.Common.{◌≡◌, ℕ, zero, suc, ◌+◌, ◌*◌, ◌<◌, ◌≤◌, min, List, refl, sym, ap, ◌∙◌, ⊎_elim, Vec, Global, arith}
use Rattle.std.proofs.Math.Nat.{zero-mul, suc-mul}
use Rattle.std.proofs.lemmas.Bool.{cases_lt}
use Rattle.std.proofs.lemmas.List.Sums.{sum_by-cons}
use mathlib.Core.Former.{Count}
use Rattle.base.specs.declared.tree.Bounds.{Bounds}
use Rattle.base.specs.declared.tree.Data.{Data as DataText}
use Rattle.base.specs.declared.tree.Part.{Part, Block, Loop, Data, Row_of-Part, end_of-Part, more_of-Part, items-the_row-Part, items_hidden-the_row-Part-0}
use Rattle.base.specs.Meaning.{turns_of}
use Rattle.outline.specs.Counts.{part_count, row_count, list_count}
use Rattle.outline.proofs.Rows.{PartRow, part_row}

count_list : (n : Count) (row : Row_of-Part n) → row_count row ≡ list_count (items-the_row-Part n row)
count_list n end_of-Part = refl
count_list n (more_of-Part first rest) = ap (λ m. part_count first + m) (count_list _ rest)
    ∙ sym (sum_by-cons part_count first (items-the_row-Part _ rest))

count_row : (row : PartRow) (all : List Part) → items-the_row-Part row.0 row.1 ≡ all → row_count row.1 ≡ list_count all
count_row row all e = count_list row.0 row.1 ∙ ap (λ xs. list_count xs) e

pub count_Block : (all : Vec Part Global) → part_count (Block all) ≡ list_count all.items
count_Block all = count_row (part_row (Block all)) all.items (items_hidden-the_row-Part-0 all)

pub count_Loop : (b : Bounds) (all : Vec Part Global) → part_count (Loop b all) ≡ turns_of b * list_count all.items
count_Loop b all = ap (λ n. turns_of b * n)
    (count_row (part_row (Loop b all)) all.items (items_hidden-the_row-Part-0 all))

-- a product of numbers that are kept as a most
pub least_product : (t r m : ℕ) → min (t * min r m) m ≡ min (t * r) m
least_product zero r m = ap (λ x. min x m) (zero-mul (min r m) ∙ sym (zero-mul r))
least_product (suc t) r m = ⊎_elim large small (cases_lt m r)
  where
    times : (k x : ℕ) → x ≤ suc k * x
    times k x = omega (arith, suc-mul k x)

    small : r ≤ m → min (suc t * min r m) m ≡ min (suc t * r) m
    small h = let e : min r m ≡ r = omega arith in ap (λ x. min (suc t * x) m) e

    large : m < r → min (suc t * min r m) m ≡ min (suc t * r) m
    large h =
        let e : min r m ≡ m = omega arith in
        let left : min (suc t * m) m ≡ m = omega (arith, times t m) in
        let right : min (suc t * r) m ≡ m = omega (arith, times t r) in
        ap (λ x. min (suc t * x) m) e ∙ left ∙ sym right

pub counted_Loop : (p : Part) (b : Bounds) (all : Vec Part Global) (xs : List Part) (t n r m : ℕ) →
    p ≡ Loop b all → xs ≡ all.items → t ≡ turns_of b → n ≡ min (list_count xs) m → r ≡ min (t * n) m →
    r ≡ min (part_count p) m
counted_Loop p b all xs t n r m is xs_is t_is n_is r_is =
    r_is
    ∙ (λ i. min (t_is i * n_is i) m)
    ∙ least_product (turns_of b) (list_count xs) m
    ∙ ap (λ ys. min (turns_of b * list_count ys) m) xs_is
    ∙ ap (λ k. min k m) (sym (count_Loop b all) ∙ ap (λ q. part_count q) (sym is))

pub count_Data : (d : DataText) (all : Vec Part Global) →
    part_count (Data d all) ≡ list_count all.items + 2
count_Data d all = ap (λ n. n + 2) (count_row (part_row (Data d all)) all.items (items_hidden-the_row-Part-0 all))

pub counted_Data : (p : Part) (d : DataText) (all : Vec Part Global) (xs : List Part)
    (n r m : ℕ) → p ≡ Data d all → xs ≡ all.items → n ≡ min (list_count xs) m → r ≡ min (n + 2) m →
    r ≡ min (part_count p) m
counted_Data p d all xs n r m is xs_is n_is r_is =
    r_is ∙ ap (λ k. min (k + 2) m) n_is
    ∙ least_two (list_count xs) m
    ∙ ap (λ ys. min (list_count ys + 2) m) xs_is
    ∙ ap (λ k. min k m) (sym (count_Data d all) ∙ ap (λ q. part_count q) (sym is))
  where
    least_two : (a m : ℕ) → min (min a m + 2) m ≡ min (a + 2) m
    least_two a m = omega arith
