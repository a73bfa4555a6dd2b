-- The marked item at a place, by the counts of rows.
use Rattle.std.proofs.Common.{◌≡◌, ℕ, ◌+◌, ◌*◌, ◌-◌, ◌<◌, ◌≤◌, Bool, List, ◌++◌, None, length, sym, ap, ◌∙◌, arith}
use Rattle.std.specs.Prelude.{slice_get, slice_index}
use Rattle.std.proofs.lemmas.List.{length-append}
use Rattle.std.proofs.lemmas.Option.{slice_get_past}
use Rattle.taskgraph.specs.Marks.{AreCounted, all_marked, is_marked, those_from}
use Rattle.taskgraph.proofs.Rows.{cut}
use Rattle.taskgraph.proofs.Those.{get_left, get_right, parts_at}

module _ (marks : List Bool) (counts : List ℕ) (len r left place : ℕ) (h : AreCounted marks counts len)
    (up_to : left + length (those_from (is_marked marks) 0 (256 * r)) ≡ place) where
  one_row : those_from (is_marked marks) 0 (256 * (r + 1))
      ≡ those_from (is_marked marks) 0 (256 * r) ++ those_from (is_marked marks) (256 * r) 256
  one_row = let next : 256 * (r + 1) ≡ 256 * r + 256 = omega arith in
      ap (those_from (is_marked marks) 0) next ∙ parts_at (is_marked marks) 0 (256 * r) 256 (256 * r) (omega arith)

  -- it is in this row
  pub at_row : r < length counts → left < slice_index counts r →
      slice_get (those_from (is_marked marks) (256 * r) 256) left ≡ slice_get (all_marked marks) place
  at_row inside lt =
      let rest = 256 * (length counts - (r + 1)) in
      let whole : 256 * length counts ≡ 256 * (r + 1) + rest = omega arith in
      let front = those_from (is_marked marks) 0 (256 * r) in
      let here = those_from (is_marked marks) (256 * r) 256 in
      let after = those_from (is_marked marks) (256 * (r + 1)) rest in
      let long : length (front ++ here) ≡ length front + length here = length-append front here in
      let split : all_marked marks ≡ (front ++ here) ++ after =
      sym (cut marks 0 (length marks) (256 * length counts) h.enough (omega arith))
      ∙ ap (those_from (is_marked marks) 0) whole ∙ parts_at (is_marked marks) 0 (256 * (r + 1)) rest (256 * (r + 1)) (omega arith)
      ∙ ap (λ l. l ++ after) one_row in
      let few : left < length here = omega (arith, lt, h.each r inside) in
      sym (ap (λ l. slice_get l place) split ∙ get_left (front ++ here) after place (omega (arith, long, few, up_to))
      ∙ get_right front here left place up_to)

  -- it is past this row
  pub past_row : r < length counts → slice_index counts r ≤ left →
      (left - slice_index counts r) + length (those_from (is_marked marks) 0 (256 * (r + 1))) ≡ place
  past_row inside le =
      let long = ap (λ (l : List ℕ). length l) one_row
      ∙ length-append (those_from (is_marked marks) 0 (256 * r)) (those_from (is_marked marks) (256 * r) 256) in
      omega (arith, long, h.each r inside, up_to, le)

  -- it is past the last row
  pub past_all : length counts ≤ r → slice_get (all_marked marks) place ≡ None
  past_all le =
      let whole = ap (λ (l : List ℕ). length l) (cut marks 0 (length marks) (256 * r) (omega (arith, le, h.enough)) (omega arith)) in
      slice_get_past (all_marked marks) place (omega (arith, whole, up_to))
