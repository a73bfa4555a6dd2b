-- What the counts of rows tell of the marked items.
use Rattle.std.proofs.Common.{◌≡◌, ◌⊎◌, inl, inr, ℕ, ◌+◌, ◌*◌, ◌-◌, ◌/◌, ◌<◌, ◌≤◌, Bool, true, false, List, ◌++◌, length, min, replicate, sym, ap, ◌∙◌, arith}
use Rattle.std.specs.Prelude.{slice_index}
use Rattle.std.specs.List.{slice_set}
use Rattle.std.proofs.lemmas.Bool.{cases_eq, cases_lt}
use Rattle.std.proofs.lemmas.List.{append-nil, get_or_past, get_or-replicate, get_or-set_other, get_or-set_same, length-replicate, length-set}
use Rattle.taskgraph.specs.Marks.{AreCounted, all_marked, is_marked, those_from}
use Rattle.taskgraph.specs.Waiting.{one_if}
use Rattle.taskgraph.proofs.Those.{around, changed, none, parts, same}

-- past the last item none is marked
pub past : (marks : List Bool) (i : ℕ) → length marks ≤ i → is_marked marks i ≡ false
past marks i le = get_or_past marks i false le

pub marked_inside : (marks : List Bool) (i : ℕ) → is_marked marks i ≡ true → i < length marks
marked_inside marks i e = go (cases_lt i (length marks))
  where
    go : (i < length marks) ⊎ (length marks ≤ i) → i < length marks
    go (inl lt) = lt
    go (inr le) = let bad : false ≡ true = sym (past marks i le) ∙ e in absurd cc

-- so a range may go on past the last
pub cut : (marks : List Bool) (s m n : ℕ) → m ≤ n → length marks ≤ s + m →
    those_from (is_marked marks) s n ≡ those_from (is_marked marks) s m
cut marks s m n le inside =
    let whole : n ≡ m + (n - m) = omega arith in
    ap (those_from (is_marked marks) s) whole ∙ parts (is_marked marks) s m (n - m)
    ∙ ap (λ l. those_from (is_marked marks) s m ++ l)
    (none (is_marked marks) (s + m) (n - m) (λ i from _. past marks i (omega arith)))
    ∙ append-nil (those_from (is_marked marks) s m)

-- a row, from one of its items on, up to its end
pub to_end : (marks : List Bool) (s n end : ℕ) → s ≤ end → end ≡ min (s + n) (length marks) →
    those_from (is_marked marks) s (end - s) ≡ those_from (is_marked marks) s n
to_end marks s n end le e = go (cases_lt (length marks) (s + n))
  where
    go : (length marks < s + n) ⊎ (s + n ≤ length marks) →
        those_from (is_marked marks) s (end - s) ≡ those_from (is_marked marks) s n
    go (inl lt) = sym (cut marks s (end - s) n (omega arith) (omega arith))
    go (inr more) = let whole : end - s ≡ n = omega arith in ap (those_from (is_marked marks) s) whole

-- ---- one mark is set

-- one that is marked is counted
pub counted_here : (p : ℕ → Bool) (s n i : ℕ) → s ≤ i → i < s + n → p i ≡ true → 1 ≤ length (those_from p s n)
counted_here p s n i le lt e = let one : one_if (p i) ≡ 1 = ap one_if e in omega (arith, around p s i n le lt, one)

-- the row of an item
pub row_inside : (marks : List Bool) (counts : List ℕ) (len i : ℕ) → AreCounted marks counts len → i < length marks →
    i / 256 < length counts
row_inside marks counts len i h lt = omega (arith, h.enough, lt)

-- the counts after one mark was set
module _ (marks : List Bool) (counts : List ℕ) (len i v m : ℕ) (x : Bool) (h : AreCounted marks counts len)
    (lt : i < length marks) (row : v + one_if (is_marked marks i) ≡ slice_index counts (i / 256) + one_if x)
    (all : m + one_if (is_marked marks i) ≡ len + one_if x) where
  abbrev new : List Bool
  new = slice_set marks i x

  here : is_marked new i ≡ x
  here = get_or-set_same marks i x false lt

  others : (j : ℕ) → (j ≡ i → ⊥) → is_marked marks j ≡ is_marked new j
  others j ne = sym (get_or-set_other marks i j x false ne)

  each_row : (r : ℕ) → r < length counts → (r ≡ i / 256) ⊎ (r ≡ i / 256 → ⊥) →
      slice_index (slice_set counts (i / 256) v) r ≡ length (those_from (is_marked new) (256 * r) 256)
  each_row r inside (inl e) =
      let set : slice_index (slice_set counts (i / 256) v) r ≡ v =
      ap (slice_index (slice_set counts (i / 256) v)) e ∙ get_or-set_same counts (i / 256) v 0 (omega arith) in
      let was : slice_index counts (i / 256) ≡ length (those_from (is_marked marks) (256 * r) 256) =
      ap (slice_index counts) (sym e) ∙ h.each r inside in
      let is : one_if (is_marked new i) ≡ one_if x = ap one_if here in
      omega (arith, set, was, is, row, changed (is_marked marks) (is_marked new) (256 * r) 256 i (omega arith) (omega arith) others)
  each_row r inside (inr ne) =
      get_or-set_other counts (i / 256) r v 0 ne ∙ h.each r inside
      ∙ ap (λ (l : List ℕ). length l) (same (is_marked marks) (is_marked new) (256 * r) 256
      (λ j le less. others j (λ e. ne (omega arith))))

  pub counted_set : AreCounted (slice_set marks i x) (slice_set counts (i / 256) v) m
  counted_set =
      let long : length new ≡ length marks = length-set marks i x in
      let rows : length (slice_set counts (i / 256) v) ≡ length counts = length-set counts (i / 256) v in
      let is : one_if (is_marked new i) ≡ one_if x = ap one_if here in
      let whole : length (all_marked new) ≡ length (those_from (is_marked new) 0 (length marks)) =
      ap (λ n. length (those_from (is_marked new) 0 n)) long in
      record {
        enough = omega (arith, long, rows, h.enough);
        few = omega (arith, long, rows, h.few);
        each = λ r inside. each_row r (omega (arith, rows, inside)) (cases_eq r (i / 256));
        all = omega (
          arith,
          whole,
          all,
          is,
          h.all,
          changed (is_marked marks) (is_marked new) 0 (length marks) i (omega arith) (omega arith) others,
        );
      }

-- none is marked at first
pub counted_new : (n rows : ℕ) → n ≤ 256 * rows → 256 * rows < n + 256 → AreCounted (replicate n false) (replicate rows 0) 0
counted_new n rows enough few =
    let long : length (replicate n false) ≡ n = length-replicate n false in
    let zeros : List ℕ = replicate rows 0 in
    let count : length zeros ≡ rows = length-replicate rows 0 in
    record {
      enough = omega (arith, long, count, enough);
      few = omega (arith, long, count, few);
      each = λ r lt. let empty = ap (λ (l : List ℕ). length l)
          (none (is_marked (replicate n false)) (256 * r) 256 (λ i _ _. unmarked i (cases_lt i n))) in
          get_or-replicate rows r 0 0 (omega (arith, count, lt)) ∙ sym empty;
      all = let empty = ap (λ (l : List ℕ). length l)
          (none (is_marked (replicate n false)) 0 (length (replicate n false)) (λ i _ _. unmarked i (cases_lt i n))) in sym empty;
    }
  where
    unmarked : (i : ℕ) → (i < n) ⊎ (n ≤ i) → is_marked (replicate n false) i ≡ false
    unmarked i (inl lt) = get_or-replicate n i false false lt
    unmarked i (inr le) = past (replicate n false) i (omega (arith, length-replicate n false, le))
