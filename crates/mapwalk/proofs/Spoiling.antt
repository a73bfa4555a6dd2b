-- What may be written by one device's region is not current on the others.
use Rattle.std.proofs.Common.{◌≡◌, ℕ, suc, zero, ◌+◌, ◌<◌, ◌≤◌, ◌==◌, Bool, true, false, List, [], ◌∷◌, ◌++◌, ◌⊎◌, inl, inr, length, get_or, Option, Some, None, refl, sym, ap, ◌∙◌, subst, arith, eqb-true}
use Rattle.std.specs.Prelude.{nat_lt, if◌then◌else◌, option_map, slice_get, slice_set, not, ◌&&◌}
use Rattle.std.proofs.lemmas.Option.{slice_get-get_or}
use Rattle.std.proofs.lemmas.Bool.{cases_Bool, ltb-false}
use Rattle.std.proofs.lemmas.Bool.Decides.{nat_tests}
use mathlib.Core.Path.{fun_ext}
use Rattle.base.specs.declared.item.Cell.{Cell}
use Rattle.base.proofs.Places.{get_set_same, get_set_other}
use Rattle.mapwalk.specs.declared.steps.DeviceState.{DeviceState}
use Rattle.mapwalk.specs.Current.{marks_in, row_lengths, with_cut}
use Rattle.mapwalk.specs.Steps.{AreAlike, entries_in, entries_of, marks_of, marks_on, spoiled, table_in, tables_of}
use Rattle.mapwalk.proofs.SideRows.{other_number}

-- a device more
pub each_push : (P : Option DeviceState → Type 0) (xs : List DeviceState) (x : DeviceState) → P None → P (Some x) →
    ((d : ℕ) → P (slice_get xs d)) → (d : ℕ) → P (slice_get (xs ++ x ∷ []) d)
each_push P [] x none new all zero = new
each_push P [] x none new all (suc d) = none
each_push P (y ∷ xs) x none new all zero = all 0
each_push P (y ∷ xs) x none new all (suc d) = each_push P xs x none new (λ e. all (suc e)) d

-- one device has become another with marks for as many cells
pub alike_set : (lengths : List ℕ) (xs : List DeviceState) (k : ℕ) (y : DeviceState) → AreAlike lengths xs →
    row_lengths y.current.items ≡ lengths → AreAlike lengths (slice_set xs k y)
alike_set lengths [] k y all h d x at = all d x at
alike_set lengths (z ∷ xs) zero y all h zero x at =
    let same : y ≡ x = cc in subst (λ v. row_lengths v.current.items ≡ lengths) same h
alike_set lengths (z ∷ xs) zero y all h (suc d) x at = all (suc d) x at
alike_set lengths (z ∷ xs) (suc k) y all h zero x at = all zero x at
alike_set lengths (z ∷ xs) (suc k) y all h (suc d) x at = alike_set lengths xs k y (λ e. all (suc e)) h d x at

-- one device has become another that has seen more entries
pub entries_set : (xs : List DeviceState) (k : ℕ) (x y : DeviceState) (more : ℕ) → slice_get xs k ≡ Some x →
    y.blocks.entries ≤ x.blocks.entries + more → (d : ℕ) → entries_of (slice_set xs k y) d ≤ entries_of xs d + more
entries_set [] k x y more at le d = omega arith
entries_set (z ∷ xs) zero x y more at le zero =
    let same : z ≡ x = cc in
    let is : z.blocks.entries ≡ x.blocks.entries = ap (λ (v : DeviceState). v.blocks.entries) same in omega (arith, is, le)
entries_set (z ∷ xs) zero x y more at le (suc d) = omega arith
entries_set (z ∷ xs) (suc k) x y more at le zero = omega arith
entries_set (z ∷ xs) (suc k) x y more at le (suc d) = entries_set xs k x y more at le d

-- a device is there by its number
pub device_at : (xs : List DeviceState) (d n : ℕ) (x : DeviceState) → length xs ≡ n → d < n → x ≡ get_or xs d x →
    slice_get xs d ≡ Some x
device_at xs d n x many low is =
    slice_get-get_or xs d x (omega (arith, many, low)) ∙ ap (λ (y : DeviceState). Some y) (sym is)

-- of how many cells the arrays are that a device has marks for
abbrev pub lengths_on : Option DeviceState → Option (List ℕ)
lengths_on o = option_map (λ x. row_lengths x.current.items) o

-- device e, where the others below k have been done
pub record IsSpoilt (own k : ℕ) (cells : Cell → Bool) (e : ℕ) (old now : Option DeviceState) : Type 0 where
  pub marks : marks_on now ≡ (if nat_lt e k then (if e == own then marks_on old else with_cut cells (marks_on old)) else marks_on old)
  pub table : table_in now ≡ table_in old
  pub entries : entries_in now ≡ entries_in old
  pub lengths : lengths_on now ≡ lengths_on old

abbrev pub AreSpoilt : ℕ → ℕ → (Cell → Bool) → List DeviceState → List DeviceState → Type 0
AreSpoilt own k cells old now = (e : ℕ) → IsSpoilt own k cells e (slice_get old e) (slice_get now e)

below_none : (e : ℕ) → nat_lt e 0 ≡ false
below_none e = grind (arith, nat_tests)

pub none_spoilt : (own : ℕ) (cells : Cell → Bool) (xs : List DeviceState) → AreSpoilt own 0 cells xs xs
none_spoilt own cells xs e =
    record {
      marks = ap (λ b. if b then (if e == own then marks_on (slice_get xs e) else with_cut cells (marks_on (slice_get xs e)))
          else marks_on (slice_get xs e)) (sym (below_none e));
      table = refl;
      entries = refl;
      lengths = refl;
    }

as_before : (e k : ℕ) → (e == k) ≡ false → nat_lt e (k + 1) ≡ nat_lt e k
as_before e k h = grind (arith, nat_tests)

at_itself : (k : ℕ) → nat_lt k k ≡ false
at_itself k = grind (arith, nat_tests)

just_below : (k : ℕ) → nat_lt k (k + 1) ≡ true
just_below k = grind (arith, nat_tests)

another : (own k : ℕ) (cells : Cell → Bool) (e : ℕ) (old now : Option DeviceState) → (e == k) ≡ false →
    IsSpoilt own k cells e old now → IsSpoilt own (k + 1) cells e old now
another own k cells e old now n h =
    record {
      marks = h.marks ∙ ap (λ b. if b then (if e == own then marks_on old else with_cut cells (marks_on old)) else marks_on old)
          (sym (as_before e k n));
      table = h.table;
      entries = h.entries;
      lengths = h.lengths;
    }

-- the own device is left as it is
pub own_kept : (own k : ℕ) (cells : Cell → Bool) (old now : List DeviceState) → k ≡ own → AreSpoilt own k cells old now →
    AreSpoilt own (k + 1) cells old now
own_kept own k cells old now same h e = go (cases_Bool (e == k))
  where
    o : Option DeviceState
    o = slice_get old e

    go : ((e == k) ≡ true) ⊎ ((e == k) ≡ false) → IsSpoilt own (k + 1) cells e (slice_get old e) (slice_get now e)
    go (inr n) = another own k cells e (slice_get old e) (slice_get now e) n (h e)
    go (inl t) =
        let is : e ≡ k = eqb-true e k t in
        let mine : (e == own) ≡ true = ap (λ n. e == n) (sym same) ∙ t in
        let before : nat_lt e k ≡ false = ap (λ n. nat_lt n k) is ∙ at_itself k in
        let after : nat_lt e (k + 1) ≡ true = ap (λ n. nat_lt n (k + 1)) is ∙ just_below k in
        record {
          marks = (h e).marks
              ∙ ap (λ b. if b then (if e == own then marks_on (slice_get old e) else with_cut cells (marks_on (slice_get old e)))
              else marks_on (slice_get old e)) before
              ∙ sym (ap (λ b. if b then marks_on (slice_get old e) else with_cut cells (marks_on (slice_get old e))) mine)
              ∙ sym (ap (λ b. if b then (if e == own then marks_on (slice_get old e) else with_cut cells (marks_on (slice_get old e)))
              else marks_on (slice_get old e)) after);
          table = (h e).table;
          entries = (h e).entries;
          lengths = (h e).lengths;
        }

-- one device more is done
pub one_spoilt : (own k : ℕ) (cells : Cell → Bool) (old now : List DeviceState) (x y : DeviceState) → (k == own) ≡ false →
    slice_get now k ≡ Some x → k < length now → y.blocks ≡ x.blocks →
    marks_in y.current.items ≡ with_cut cells (marks_in x.current.items) →
    row_lengths y.current.items ≡ row_lengths x.current.items → AreSpoilt own k cells old now →
    AreSpoilt own (k + 1) cells old (slice_set now k y)
one_spoilt own k cells old now x y other at inside blocks marks lengths h e = go (cases_Bool (e == k))
  where
    go : ((e == k) ≡ true) ⊎ ((e == k) ≡ false) → IsSpoilt own (k + 1) cells e (slice_get old e) (slice_get (slice_set now k y) e)
    go (inr n) =
        subst (IsSpoilt own (k + 1) cells e (slice_get old e)) (sym (get_set_other now k y e (other_number e k n)))
        (another own k cells e (slice_get old e) (slice_get now e) n (h e))
    go (inl t) =
        subst (λ n. IsSpoilt own (k + 1) cells n (slice_get old n) (slice_get (slice_set now k y) n)) (sym (eqb-true e k t))
        (subst (IsSpoilt own (k + 1) cells k (slice_get old k)) (sym (get_set_same now k y inside)) here)
      where
        was : IsSpoilt own k cells k (slice_get old k) (Some x)
        was = subst (IsSpoilt own k cells k (slice_get old k)) at (h k)

        here : IsSpoilt own (k + 1) cells k (slice_get old k) (Some y)
        here = record {
          marks = marks
              ∙ ap (with_cut cells) (was.marks
              ∙ ap (λ b. if b then (if k == own then marks_on (slice_get old k) else with_cut cells (marks_on (slice_get old k)))
              else marks_on (slice_get old k)) (at_itself k))
              ∙ sym (ap (λ b. if b then marks_on (slice_get old k) else with_cut cells (marks_on (slice_get old k))) other)
              ∙ sym (ap (λ b. if b then (if k == own then marks_on (slice_get old k) else with_cut cells (marks_on (slice_get old k)))
              else marks_on (slice_get old k)) (just_below k));
          table = ap (λ b. table_in (Some (record y { blocks = b }))) blocks ∙ was.table;
          entries = ap (λ b. entries_in (Some (record y { blocks = b }))) blocks ∙ was.entries;
          lengths = ap (λ ls. Some ls) lengths ∙ was.lengths;
        }

no_device : (xs : List DeviceState) (e : ℕ) → length xs ≤ e → slice_get xs e ≡ None
no_device [] e h = refl
no_device (x ∷ xs) zero h = absurd (omega arith)
no_device (x ∷ xs) (suc e) h = no_device xs e (omega arith)

cut_none : (cells : Cell → Bool) → (λ (c : Cell). false) ≡ with_cut cells (λ c. false)
cut_none cells = fun_ext (λ (c : Cell). go (cells c))
  where
    go : (b : Bool) → false ≡ (not b && false)
    go true = refl
    go false = refl

-- all devices are done
pub all_spoilt : (own k : ℕ) (cells : Cell → Bool) (old now : List DeviceState) → length old ≤ k →
    AreSpoilt own k cells old now → marks_of now ≡ spoiled own cells (marks_of old)
all_spoilt own k cells old now far h = fun_ext (λ (e : ℕ). (h e).marks ∙ go e (cases_Bool (nat_lt e k)))
  where
    go : (e : ℕ) → (nat_lt e k ≡ true) ⊎ (nat_lt e k ≡ false) →
        (if nat_lt e k then (if e == own then marks_on (slice_get old e) else with_cut cells (marks_on (slice_get old e)))
        else marks_on (slice_get old e)) ≡ (if e == own then marks_on (slice_get old e) else with_cut cells (marks_on (slice_get old e)))
    go e (inl t) =
        ap (λ b. if b then (if e == own then marks_on (slice_get old e) else with_cut cells (marks_on (slice_get old e)))
        else marks_on (slice_get old e)) t
    go e (inr t) =
        ap (λ b. if b then (if e == own then marks_on (slice_get old e) else with_cut cells (marks_on (slice_get old e)))
        else marks_on (slice_get old e)) t
        ∙ subst (λ (o : Option DeviceState). marks_on o ≡ (if e == own then marks_on o else with_cut cells (marks_on o)))
        (sym (no_device old e (let le : k ≤ e = ltb-false e k t in omega arith))) (either (e == own))
      where
        either : (b : Bool) → (λ (c : Cell). false) ≡ (if b then (λ (c : Cell). false) else with_cut cells (λ c. false))
        either true = refl
        either false = cut_none cells

pub same_tables : (own k : ℕ) (cells : Cell → Bool) (old now : List DeviceState) → AreSpoilt own k cells old now →
    tables_of now ≡ tables_of old
same_tables own k cells old now h = fun_ext (λ (e : ℕ). (h e).table)

pub same_entries : (own k : ℕ) (cells : Cell → Bool) (old now : List DeviceState) → AreSpoilt own k cells old now →
    entries_of now ≡ entries_of old
same_entries own k cells old now h = fun_ext (λ (e : ℕ). (h e).entries)

-- a device has marks for as many cells as before
pub known_lengths : (own k : ℕ) (cells : Cell → Bool) (old now : List DeviceState) (e : ℕ) (x : DeviceState) →
    AreSpoilt own k cells old now → slice_get now e ≡ Some x →
    (y : DeviceState) × (slice_get old e ≡ Some y) × (row_lengths x.current.items ≡ row_lengths y.current.items)
known_lengths own k cells old now e x h at = go (slice_get old e) refl
  where
    same : lengths_on (Some x) ≡ lengths_on (slice_get old e)
    same = ap lengths_on (sym at) ∙ (h e).lengths

    go : (o : Option DeviceState) → slice_get old e ≡ o →
        (y : DeviceState) × (slice_get old e ≡ Some y) × (row_lengths x.current.items ≡ row_lengths y.current.items)
    go None f = absurd (let bad : lengths_on (Some x) ≡ None = same ∙ ap lengths_on f in cc)
    go (Some y) f =
        let is : lengths_on (Some x) ≡ lengths_on (Some y) = same ∙ ap lengths_on f in
        let lengths : row_lengths x.current.items ≡ row_lengths y.current.items = cc in (y, f, lengths)
