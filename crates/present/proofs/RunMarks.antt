-- Marks of a run, and numbers that agree where there is none.
use Rattle.std.proofs.Common.{◌≡◌, ◌⊎◌, ℕ, zero, suc, ◌+◌, ◌-◌, ◌<◌, ◌≤◌, Bool, true, false, List, ◌++◌, length, Option, Some, None, refl, sym, ap, ◌∙◌, inl, inr, arith}
use Rattle.std.specs.Prelude.{◌^◌, min, slice_get, slice_range, replicate, nat_lt, option_map, unwrap_or}
use Rattle.std.proofs.lemmas.Bool.{ltb-true, ltb-false}
use Rattle.std.proofs.lemmas.List.{length-replicate}
use Rattle.std.proofs.lemmas.Option.{slice_get_past}
use Rattle.std.proofs.lemmas.Grind.{common_steps}
use Rattle.std.proofs.lemmas.List.Edits.{length-between}
use Rattle.base.specs.Rows.{at_index, if_marked}
use Rattle.base.proofs.Places.{get_left, get_right, get_take, get_drop}
use Rattle.shared_row.specs.Rows.{marks_of}
use Rattle.shared_row.specs.declared.marks.Marks.TheVariants as marks
use Rattle.present.specs.Rows.{AgreeBeside, AgreeUnmarked, Takes, marked_at}
use Rattle.present.proofs.Copies.{part_at}
use Rattle.present.proofs.RowParts.{at_index_from, at_index_before, at_index_past}

get_same : {A : Type 0} (n i : ℕ) (v : A) → i < n → slice_get (replicate n v) i ≡ Some v
get_same zero i v h = absurd (omega arith)
get_same (suc n) zero v h = refl
get_same (suc n) (suc i) v h = get_same n i v (omega arith)

module _ (n from end : ℕ) (long : length (marks_of n (marks.Run from end)) ≡ n) where
  abbrev unmarked : List Bool
  unmarked = replicate from false

  abbrev marked : List Bool
  marked = replicate (end - from) true

  abbrev rest : List Bool
  rest = replicate (n - end) false

  pub run_parts : from + ((end - from) + (n - end)) ≡ n
  run_parts =
      let p : length unmarked ≡ from = length-replicate from false in
      let q : length marked ≡ end - from = length-replicate (end - from) true in
      let r : length rest ≡ n - end = length-replicate (n - end) false in
      grind (arith, common_steps)

  pub run_order : from ≤ end
  run_order = let h = run_parts in omega arith

  pub run_bound : end ≤ n
  run_bound = let h = run_parts in omega arith

  pub mark_before : (k : ℕ) → k < from → slice_get (marks_of n (marks.Run from end)) k ≡ Some false
  mark_before k h =
      let p : length unmarked ≡ from = length-replicate from false in
      get_left unmarked (marked ++ rest) k (omega arith) ∙ get_same from k false h

  pub mark_in : (k : ℕ) → from ≤ k → k < end → slice_get (marks_of n (marks.Run from end)) k ≡ Some true
  mark_in k h l =
      let p : length unmarked ≡ from = length-replicate from false in
      let q : length marked ≡ end - from = length-replicate (end - from) true in
      get_right unmarked (marked ++ rest) k (omega arith)
      ∙ get_left marked rest (k - length unmarked) (omega arith)
      ∙ get_same (end - from) (k - length unmarked) true (omega arith)

  pub mark_after : (k : ℕ) → end ≤ k → k < n → slice_get (marks_of n (marks.Run from end)) k ≡ Some false
  mark_after k h l =
      let p : length unmarked ≡ from = length-replicate from false in
      let q : length marked ≡ end - from = length-replicate (end - from) true in
      let o = run_order in
      get_right unmarked (marked ++ rest) k (omega arith)
      ∙ get_right marked rest (k - length unmarked) (omega arith)
      ∙ get_same (n - end) (k - length unmarked - length marked) false (omega arith)

  -- numbers that are the same beside the run
  pub agree_run : (old new : List ℕ) → AgreeBeside old new from end →
      AgreeUnmarked old new (marks_of n (marks.Run from end))
  agree_run old new h k e = go (nat_lt k from) refl (nat_lt k end) refl
    where
      go : (s : Bool) → nat_lt k from ≡ s → (t : Bool) → nat_lt k end ≡ t → slice_get new k ≡ slice_get old k
      go true f t g =
          let l = ltb-true k from f in
          sym (get_take from new k l) ∙ ap (λ xs. slice_get xs k) h.before ∙ get_take from old k l
      go false f true g =
          let l = ltb-false k from f in
          let m = ltb-true k end g in
          let is : Some false ≡ Some true = sym e ∙ mark_in k l m in
          absurd (cc is)
      go false f false g =
          let l = ltb-false k end g in
          let at : end + (k - end) ≡ k = omega arith in
          sym (get_drop end new (k - end) ∙ ap (slice_get new) at)
          ∙ ap (λ xs. slice_get xs (k - end)) h.after
          ∙ get_drop end old (k - end) ∙ ap (slice_get old) at

  -- the marked numbers are those of the run
  pub marked_run : (numbers : List ℕ) (first begin i : ℕ) → length numbers ≡ n →
      (begin ≡ first + from) ⊎ ((i < begin) × (i < first + from)) →
      at_index begin (slice_range numbers from end) i ≡ marked_at first numbers (marks_of n (marks.Run from end)) i
  marked_run numbers first begin i is (inr l) =
      at_index_before begin (slice_range numbers from end) i l.0
      ∙ sym (go (nat_lt i first) refl)
    where
      go : (s : Bool) → nat_lt i first ≡ s → marked_at first numbers (marks_of n (marks.Run from end)) i ≡ None
      go true e =
          ap (λ o. if_marked o (at_index first numbers i))
          (at_index_before first (marks_of n (marks.Run from end)) i (ltb-true i first e))
      go false e =
          let a = ltb-false i first e in
          let b = l.1 in
          ap (λ o. if_marked o (at_index first numbers i))
          (at_index_from first (marks_of n (marks.Run from end)) i a ∙ mark_before (i - first) (omega arith))
  marked_run numbers first begin i is (inl same) =
      ap (λ b. at_index b (slice_range numbers from end) i) same
      ∙ go (nat_lt i first) refl (nat_lt i (first + from)) refl (nat_lt i (first + end)) refl
    where
      order : from ≤ end
      order = run_order

      bound : end ≤ n
      bound = run_bound

      of_mark : (o : Option Bool) → first ≤ i → slice_get (marks_of n (marks.Run from end)) (i - first) ≡ o →
          marked_at first numbers (marks_of n (marks.Run from end)) i ≡ if_marked o (slice_get numbers (i - first))
      of_mark o a e =
          ap (λ p. if_marked p (at_index first numbers i))
          (at_index_from first (marks_of n (marks.Run from end)) i a ∙ e)
          ∙ ap (if_marked o) (at_index_from first numbers i a)

      past : first + end ≤ i → (t : Bool) → nat_lt i (first + n) ≡ t →
          None ≡ marked_at first numbers (marks_of n (marks.Run from end)) i
      past a true e =
          let b = ltb-true i (first + n) e in
          sym (of_mark (Some false) (omega (arith, a))
          (mark_after (i - first) (omega (arith, a)) (omega (arith, a, b))))
      past a false e =
          let b = ltb-false i (first + n) e in
          sym (of_mark None (omega (arith, a))
          (slice_get_past (marks_of n (marks.Run from end)) (i - first) (omega (arith, a, b, long))))

      go : (s : Bool) → nat_lt i first ≡ s → (t : Bool) → nat_lt i (first + from) ≡ t →
          (u : Bool) → nat_lt i (first + end) ≡ u →
          at_index (first + from) (slice_range numbers from end) i
          ≡ marked_at first numbers (marks_of n (marks.Run from end)) i
      go true e t f u g =
          let a = ltb-true i first e in
          at_index_before (first + from) (slice_range numbers from end) i (omega (arith, a))
          ∙ sym (ap (λ o. if_marked o (at_index first numbers i))
          (at_index_before first (marks_of n (marks.Run from end)) i a))
      go false e true f u g =
          let a = ltb-false i first e in
          let b = ltb-true i (first + from) f in
          at_index_before (first + from) (slice_range numbers from end) i b
          ∙ sym (of_mark (Some false) a (mark_before (i - first) (omega (arith, a, b))))
      go false e false f true g =
          let a = ltb-false i first e in
          let b = ltb-false i (first + from) f in
          let d = ltb-true i (first + end) g in
          let at : from + (i - (first + from)) ≡ i - first = omega (arith, a, b) in
          at_index_from (first + from) (slice_range numbers from end) i b
          ∙ part_at numbers from end (i - (first + from)) (omega (arith, a, b, d))
          ∙ ap (slice_get numbers) at
          ∙ sym (of_mark (Some true) a (mark_in (i - first) (omega (arith, a, b)) (omega (arith, a, d))))
      go false e false f false g =
          let b = ltb-false i (first + from) f in
          let d = ltb-false i (first + end) g in
          let parts = length-between numbers from end (omega (arith, bound, is)) in
          at_index_past (first + from) (slice_range numbers from end) i (omega (arith, b, d, parts, order))
          ∙ past d (nat_lt i (first + n)) refl

  -- values that take the numbers of the run take the marked ones
  pub run_taken : (numbers old new : List ℕ) (first start begin : ℕ) → length numbers ≡ n →
      begin ≡ min (first + from) (2 ^ 64 - 1) → start + length old ≤ 65536 →
      Takes (at_index begin (slice_range numbers from end)) start old new →
      Takes (marked_at first numbers (marks_of n (marks.Run from end))) start old new
  run_taken numbers old new first start begin is at fits h k = go (nat_lt k (length old)) refl
    where
      go : (s : Bool) → nat_lt k (length old) ≡ s →
          slice_get new k
          ≡ option_map (λ x. unwrap_or (marked_at first numbers (marks_of n (marks.Run from end)) (start + k)) x)
          (slice_get old k)
      go true e =
          h k
          ∙ ap (λ o. option_map (λ x. unwrap_or o x) (slice_get old k))
          (marked_run numbers first begin (start + k) is (place (nat_lt (first + from) (2 ^ 64)) refl))
        where
          within : k < length old
          within = ltb-true k (length old) e

          place : (s : Bool) → nat_lt (first + from) (2 ^ 64) ≡ s →
              (begin ≡ first + from) ⊎ ((start + k < begin) × (start + k < first + from))
          place true f = let l = ltb-true (first + from) (2 ^ 64) f in inl (omega (arith, l, at))
          place false f =
              let l = ltb-false (first + from) (2 ^ 64) f in
              inr (omega (arith, l, at, within, fits), omega (arith, l, within, fits))
      go false e =
          let past = ltb-false k (length old) e in
          let none = slice_get_past old k past in
          h k
          ∙ ap (option_map (λ x. unwrap_or (at_index begin (slice_range numbers from end) (start + k)) x)) none
          ∙ sym (ap
          (option_map (λ x. unwrap_or (marked_at first numbers (marks_of n (marks.Run from end)) (start + k)) x)) none)
