-- Where the entries of parts stand.
use Rattle.std.proofs.Common.{◌≡◌, ℕ, zero, suc, ◌+◌, ◌-◌, ◌<◌, ◌≤◌, min, List, [], ◌∷◌, ◌++◌, length, drop, get_or, Some, ◌^◌, refl, sym, ap, subst, ◌∙◌, arith, length-append, length-drop, append_assoc, drop-drop, add-one}
use Rattle.std.proofs.Math.Seq.{drop-append_seam}
use Rattle.std.specs.Prelude.{slice_get}
use Rattle.base.specs.declared.tree.Part.{Part, Row_of-Part, end_of-Part, more_of-Part}
use Rattle.base.specs.declared.tree.Part.TheVariants as part
use Rattle.outline.specs.Regions.{Entry, StandAt, part_entries, row_entries, list_entries}
use Rattle.outline.specs.Walk.{part_regions, row_regions}

pub stand_is : (all : List Entry) (k : ℕ) (es fs : List Entry) → es ≡ fs → StandAt all k es → StandAt all k fs
stand_is all k es fs e h = record { rest = h.rest; are = h.are ∙ ap (λ gs. gs ++ h.rest) e }

pub stand_first : (all : List Entry) (k : ℕ) (es fs : List Entry) → StandAt all k (es ++ fs) → StandAt all k es
stand_first all k es fs h = record { rest = fs ++ h.rest; are = h.are ∙ append_assoc es fs h.rest }

pub stand_second : (all : List Entry) (k : ℕ) (es fs : List Entry) → StandAt all k (es ++ fs) →
    StandAt all (k + length es) fs
stand_second all k es fs h =
    record {
      rest = h.rest;
      are =
          sym (drop-drop (length es) k all)
          ∙ ap (λ xs. drop (length es) xs) (h.are ∙ append_assoc es fs h.rest)
          ∙ drop-append_seam es (fs ++ h.rest);
    }

-- as many entries are there
pub stand_within : (all : List Entry) (k : ℕ) (es : List Entry) → StandAt all k es → length es ≤ length all - k
stand_within all k es h =
    let e : length (drop k all) ≡ length (es ++ h.rest) = ap (λ xs. length xs) h.are in
    omega (arith, e, length-drop k all, length-append es h.rest)

stand_here : (all : List Entry) (k : ℕ) (e : Entry) (rest : List Entry) → drop k all ≡ e ∷ rest → slice_get all k
    ≡ Some e
stand_here [] zero e rest h = cc
stand_here [] (suc k) e rest h = cc
stand_here (x ∷ all) zero e rest h = cc
stand_here (x ∷ all) (suc k) e rest h = stand_here all k e rest h

pub stand_get : (all : List Entry) (k : ℕ) (e : Entry) → StandAt all k (e ∷ []) → slice_get all k ≡ Some e
stand_get all k e h = stand_here all k e h.rest h.are

mutual
  entries_length : (s a : ℕ) (p : Part) → length (part_entries s a p) ≡ part_regions p
  entries_length s a (part.Host r) = refl
  entries_length s a (part.Block' shape all) = row_length s a all
  entries_length s a (part.Loop' b shape all) = row_length s a all
  entries_length s a (part.Target t r) = refl
  entries_length s a (part.Data' d shape all) = row_length s a all
  entries_length s a (part.Alone place d) = refl

  row_length : {m : _} (s a : ℕ) (row : Row_of-Part m) → length (row_entries s a row) ≡ row_regions row
  row_length s a end_of-Part = refl
  row_length s a (more_of-Part first rest) =
      length-append (part_entries s a first) (row_entries s a rest)
      ∙ (λ i. entries_length s a first i + row_length s a rest i)

pub next_part : {X : Type 0} (xs : List X) (k : ℕ) (x : X) → k < length xs → x ≡ get_or xs k x → drop k xs
    ≡ x ∷ drop (k + 1) xs
next_part [] k x h e = absurd (omega arith)
next_part (y ∷ xs) zero x h e = ap (λ z. z ∷ xs) (sym e)
next_part (y ∷ xs) (suc k) x h e =
    next_part xs k x (omega arith) e ∙ ap (λ n. x ∷ drop n (y ∷ xs)) (sym (add-one (k + 1)) ∙ eq)
  where
    eq : (k + 1) + 1 ≡ suc k + 1
    eq = omega arith

-- the entries of the next part, and of those behind it
pub stand_part : (all : List Entry) (s a place k : ℕ) (parts : List Part) (p : Part) →
    StandAt all place (list_entries s a (drop k parts)) → k < length parts → p ≡ get_or parts k p →
    StandAt all place (part_entries s a p)
stand_part all s a place k parts p h within is =
    stand_first all place (part_entries s a p) (list_entries s a (drop (k + 1) parts))
    (stand_is all place _ _ (ap (λ xs. list_entries s a xs) (next_part parts k p within is)) h)

pub stand_next : (all : List Entry) (s a place k n : ℕ) (parts : List Part) (p : Part) →
    StandAt all place (list_entries s a (drop k parts)) → k < length parts → p ≡ get_or parts k p →
    n ≡ min (part_regions p) (2 ^ 32 - 1) → length all < 2 ^ 32 →
    StandAt all (place + n) (list_entries s a (drop (k + 1) parts))
stand_next all s a place k n parts p h within is n_is few =
    let whole : StandAt all place (part_entries s a p ++ list_entries s a (drop (k + 1) parts)) =
    stand_is all place _ _ (ap (λ xs. list_entries s a xs) (next_part parts k p within is)) h in
    let here = stand_first all place (part_entries s a p) (list_entries s a (drop (k + 1) parts)) whole in
    let bound = stand_within all place (part_entries s a p) here in
    let count = entries_length s a p in
    let same : place + length (part_entries s a p) ≡ place + n = omega (arith, bound, count, n_is, few) in
    subst (λ at. StandAt all at (list_entries s a (drop (k + 1) parts))) same
    (stand_second all place (part_entries s a p) (list_entries s a (drop (k + 1) parts)) whole)

-- the number of the next part's first region fits
pub stand_fits : (all : List Entry) (s a place k n : ℕ) (parts : List Part) (p : Part) →
    StandAt all place (list_entries s a (drop k parts)) → k < length parts → p ≡ get_or parts k p →
    n ≡ min (part_regions p) (2 ^ 32 - 1) → length all < 2 ^ 32 → place < 2 ^ 32 → place + n < 2 ^ 32
stand_fits all s a place k n parts p h within is n_is few place_fits =
    let here = stand_part all s a place k parts p h within is in
    let bound = stand_within all place (part_entries s a p) here in
    let count = entries_length s a p in
    omega (arith, bound, count, n_is, few, place_fits)
