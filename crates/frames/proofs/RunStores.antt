-- The numbers of a run, as they come into the host memory.
use Rattle.std.proofs.Common.{◌≡◌, ℕ, zero, suc, ◌+◌, ◌-◌, ◌<◌, ◌≤◌, Bool, true, false, List, length, None, Some, refl, sym, ap, ◌∙◌, arith}
use Rattle.std.specs.Prelude.{nat_lt, unwrap_or, slice_get, slice_index, slice_range}
use Rattle.std.proofs.lemmas.Bool.{ltb-true, ltb-false}
use mathlib.Core.Path.{fun_ext}
use Rattle.base.specs.declared.item.Cell.{Cell}
use Rattle.base.specs.declared.item.Section.{Section}
use Rattle.base.specs.declared.tree.ArrayId.{ArrayId}
use Rattle.base.specs.Memory.{Memory, View, within}
use Rattle.shared_row.specs.Rows.{marks_of}
use Rattle.shared_row.specs.declared.marks.Marks.TheVariants as marks
use Rattle.present.specs.Rows.{marked_in}
use Rattle.present.proofs.RunMarks.{mark_after, mark_before, mark_in, run_bound, run_order}
use Rattle.frames.specs.Views.{with_stored}
use Rattle.frames.proofs.Stores.{below_all, below_no, below_run, below_skip, below_yes, none_before, stored_below}

module _ (a : ArrayId) (first : ℕ) (numbers : List ℕ) (marks : List Bool) where
  -- places that are not marked
  below_more : (i k : ℕ) → ((j : ℕ) → i ≤ j → j < i + k → slice_get marks j ≡ Some false) → (c : Cell) →
      stored_below a first numbers marks i c ≡ stored_below a first numbers marks (i + k) c
  below_more i zero off c =
      let at : i ≡ i + 0 = omega arith in ap (λ j. stored_below a first numbers marks j c) at
  below_more i (suc k) off c =
      let at : i + k + 1 ≡ i + suc k = omega arith in
      below_more i k (λ j l m. off j l (omega (arith, m))) c
      ∙ below_skip a first numbers marks (i + k) (off (i + k) (omega arith) (omega arith)) c
      ∙ ap (λ j. stored_below a first numbers marks j c) at

  below_first : (c : Cell) → stored_below a first numbers marks 0 c ≡ None
  below_first c = go (nat_lt c.index (first + 0)) refl
    where
      go : (t : Bool) → nat_lt c.index (first + 0) ≡ t → stored_below a first numbers marks 0 c ≡ None
      go true e =
          let l = ltb-true c.index (first + 0) e in
          below_yes a first numbers marks 0 c l ∙ none_before a first numbers marks c (omega (arith, l))
      go false e = below_no a first numbers marks 0 c (ltb-false c.index (first + 0) e)

module _ (a : ArrayId) (first : ℕ) (numbers : List ℕ) (from end : ℕ)
    (long : length (marks_of (length numbers) (marks.Run from end)) ≡ length numbers) where
  abbrev all : List Bool
  all = marks_of (length numbers) (marks.Run from end)

  before : (c : Cell) → stored_below a first numbers (marks_of (length numbers) (marks.Run from end)) from c ≡ None
  before c =
      let at : from ≡ 0 + from = omega arith in
      ap (λ j. stored_below a first numbers all j c) at
      ∙ sym (below_more a first numbers all 0 from
      (λ j l m. mark_before (length numbers) from end long j (omega (arith, m))) c)
      ∙ below_first a first numbers all c

  behind : (c : Cell) → stored_below a first numbers (marks_of (length numbers) (marks.Run from end)) end c
      ≡ marked_in a first numbers (marks_of (length numbers) (marks.Run from end)) c
  behind c =
      let bound = run_bound (length numbers) from end long in
      below_more a first numbers all end (length numbers - end)
      (λ j l m. mark_after (length numbers) from end long j l (omega (arith, m, bound))) c
      ∙ below_all a first numbers all (end + (length numbers - end)) (omega (arith, bound, long)) c

  -- a run of cells that is stored as a section
  pub run_stored : from < end → (s : Section) → s.array.0 ≡ a.0 → s.first ≡ first + from → s.length ≡ end - from →
      (now after : Memory) → after ≡ within s (λ c. slice_index (slice_range numbers from end) (c.index - s.first)) now →
      after ≡ with_stored (marked_in a first numbers (marks_of (length numbers) (marks.Run from end))) now
  run_stored some s sa sf sl now after f =
      below_run a first numbers all from end some
      (let b = run_bound (length numbers) from end long in omega (arith, b, long)) long
      (mark_in (length numbers) from end long) s sa sf sl now now after
      (sym (fun_ext (λ (c : Cell). ap (λ o. unwrap_or o (now c)) (before c)))) f
      ∙ ap (λ (v : View). with_stored v now) (fun_ext behind)

  -- a run without cells
  pub none_stored : end ≤ from → (now : Memory) →
      now ≡ with_stored (marked_in a first numbers (marks_of (length numbers) (marks.Run from end))) now
  none_stored none now =
      let order = run_order (length numbers) from end long in
      let same : from ≡ end = omega (arith, order, none) in
      fun_ext (λ (c : Cell). ap (λ o. unwrap_or o (now c))
      (sym (before c) ∙ ap (λ i. stored_below a first numbers all i c) same ∙ behind c))
