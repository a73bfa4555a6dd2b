-- Where all cells move on by one in each turn, a cell that no access begins at is in a set only if the one before it is.
use Rattle.std.proofs.Common.{◌≡◌, ℕ, zero, suc, ◌+◌, Bool, true, false, List, [], ◌∷◌, ◌++◌, map, sym, ◌∙◌, ap, ap₂, refl, inl, inr, arith, append_assoc}
use Rattle.std.specs.Prelude.{not, ◌&&◌, ◌||◌, ◌==◌, ◌⊎◌}
use Rattle.std.specs.List.{list_any}
use Rattle.std.proofs.lemmas.Bool.{false≢true, or_parts}
use Rattle.std.proofs.lemmas.Bool.Decides.{nat_tests}
use Rattle.std.proofs.lemmas.List.{append-nil}
use Rattle.base.specs.declared.item.Cell.{Cell}
use Rattle.base.specs.Footprint.{Touch, exposes, has_cell, is_sure, reads, surely_writes, writes}
use Rattle.ranges.specs.declared.run_list.Part.{Part}
use Rattle.ranges.specs.declared.run_list.Part.TheVariants.{Exposed, Read, Write, Sure}
use Rattle.ranges.specs.declared.slide.Slide.{Slide}
use Rattle.ranges.specs.Reach.{cell_of}
use Rattle.ranges.specs.FewRuns.{is_in_part}
use Rattle.ranges.proofs.NearTurns.{near_touch, near_turns}

-- touches of other cells

unsure : (w c s h : Bool) → h ≡ false → (w && (c && (s && h))) ≡ false
unsure true true true h e = e
unsure true true false h e = refl
unsure true false s h e = refl
unsure false c s h e = refl

unread : (w h : Bool) → h ≡ false → (w && h) ≡ false
unread true h e = e
unread false h e = refl

pub not_there : (part : Part) (xs ys : List Touch) (c : Cell) → list_any (has_cell c) xs ≡ false →
    is_in_part part (xs ++ ys) c ≡ is_in_part part ys c
not_there part [] ys c h = refl
not_there Exposed (t ∷ xs) ys c h =
    let out = (or_parts (has_cell c t) (list_any (has_cell c) xs) h).0 in
    let sure = unsure t.is_write t.certain (t.cells.lo == t.cells.hi) (has_cell c t) out in
    let read = unread (not t.is_write) (has_cell c t) out in
    ap₂ (λ s r. not s && (r || exposes (xs ++ ys) c)) sure read
    ∙ not_there Exposed xs ys c (or_parts (has_cell c t) (list_any (has_cell c) xs) h).1
not_there Read (t ∷ xs) ys c h =
    let out = (or_parts (has_cell c t) (list_any (has_cell c) xs) h).0 in
    ap (λ r. r || reads (xs ++ ys) c) (unread (not t.is_write) (has_cell c t) out)
    ∙ not_there Read xs ys c (or_parts (has_cell c t) (list_any (has_cell c) xs) h).1
not_there Write (t ∷ xs) ys c h =
    let out = (or_parts (has_cell c t) (list_any (has_cell c) xs) h).0 in
    ap (λ r. r || writes (xs ++ ys) c) (unread t.is_write (has_cell c t) out)
    ∙ not_there Write xs ys c (or_parts (has_cell c t) (list_any (has_cell c) xs) h).1
not_there Sure (t ∷ xs) ys c h =
    let out = (or_parts (has_cell c t) (list_any (has_cell c) xs) h).0 in
    ap (λ r. r || surely_writes (xs ++ ys) c) (unsure t.is_write t.certain (t.cells.lo == t.cells.hi) (has_cell c t) out)
    ∙ not_there Sure xs ys c (or_parts (has_cell c t) (list_any (has_cell c) xs) h).1

-- more touches take no cell away

or_more : (x y z : Bool) → (y ≡ true → z ≡ true) → (x || y) ≡ true → (x || z) ≡ true
or_more true y z f h = refl
or_more false y z f h = f h

exposed_more : (s r y z : Bool) → (y ≡ true → z ≡ true) → (not s && (r || y)) ≡ true → (not s && (r || z)) ≡ true
exposed_more true r y z f h = h
exposed_more false r y z f h = or_more r y z f h

pub still_there : (part : Part) (xs ys : List Touch) (c : Cell) → is_in_part part xs c ≡ true → is_in_part part (xs ++ ys) c ≡ true
still_there Exposed [] ys c h = absurd (false≢true h)
still_there Read [] ys c h = absurd (false≢true h)
still_there Write [] ys c h = absurd (false≢true h)
still_there Sure [] ys c h = absurd (false≢true h)
still_there Exposed (t ∷ xs) ys c h =
    exposed_more (is_sure c t) (not t.is_write && has_cell c t) (exposes xs c) (exposes (xs ++ ys) c)
    (still_there Exposed xs ys c) h
still_there Read (t ∷ xs) ys c h =
    or_more (not t.is_write && has_cell c t) (reads xs c) (reads (xs ++ ys) c) (still_there Read xs ys c) h
still_there Write (t ∷ xs) ys c h =
    or_more (t.is_write && has_cell c t) (writes xs c) (writes (xs ++ ys) c) (still_there Write xs ys c) h
still_there Sure (t ∷ xs) ys c h =
    or_more (is_sure c t) (surely_writes xs c) (surely_writes (xs ++ ys) c) (still_there Sure xs ys c) h

-- the same touches of another cell

record IsAlike (c d : Cell) (t u : Touch) : Type 0 where
  pub write : t.is_write ≡ u.is_write
  pub cell : has_cell c t ≡ has_cell d u
  pub sure : is_sure c t ≡ is_sure d u

abbrev AreAlike : Cell → Cell → List Touch → List Touch → Type 0
AreAlike c d [] [] = Unit {0}
AreAlike c d [] (u ∷ us) = ⊥
AreAlike c d (t ∷ ts) [] = ⊥
AreAlike c d (t ∷ ts) (u ∷ us) = IsAlike c d t u × AreAlike c d ts us

alike_both : (c d : Cell) (ts us ts' us' : List Touch) → AreAlike c d ts us → AreAlike c d ts' us' →
    AreAlike c d (ts ++ ts') (us ++ us')
alike_both c d [] [] ts' us' h h' = h'
alike_both c d [] (u ∷ us) ts' us' h h' = absurd h
alike_both c d (t ∷ ts) [] ts' us' h h' = absurd h
alike_both c d (t ∷ ts) (u ∷ us) ts' us' h h' = (h.0, alike_both c d ts us ts' us' h.1 h')

in_alike : (part : Part) (c d : Cell) (ts us : List Touch) → AreAlike c d ts us → is_in_part part ts c ≡ is_in_part part us d
in_alike Exposed c d [] [] h = refl
in_alike Read c d [] [] h = refl
in_alike Write c d [] [] h = refl
in_alike Sure c d [] [] h = refl
in_alike part c d [] (u ∷ us) h = absurd h
in_alike part c d (t ∷ ts) [] h = absurd h
in_alike Exposed c d (t ∷ ts) (u ∷ us) h =
    let rest = in_alike Exposed c d ts us h.1 in
    λ i. not (h.0.sure i) && ((not (h.0.write i) && h.0.cell i) || rest i)
in_alike Read c d (t ∷ ts) (u ∷ us) h =
    let rest = in_alike Read c d ts us h.1 in
    λ i. (not (h.0.write i) && h.0.cell i) || rest i
in_alike Write c d (t ∷ ts) (u ∷ us) h =
    let rest = in_alike Write c d ts us h.1 in
    λ i. (h.0.write i && h.0.cell i) || rest i
in_alike Sure c d (t ∷ ts) (u ∷ us) h =
    let rest = in_alike Sure c d ts us h.1 in
    λ i. h.0.sure i || rest i

-- whether the access begins at the cell
abbrev pub begins_at : Cell → Slide → Bool
begins_at c s = (s.array.0 == c.array.0) && (s.start == c.index)

begin_in_turn : (c : Cell) (slides : List Slide) → list_any (has_cell c) (map (near_touch 0) slides) ≡ list_any (begins_at c) slides
begin_in_turn c [] = refl
begin_in_turn c (s ∷ slides) =
    let one : has_cell c (near_touch 0 s) ≡ begins_at c s = grind (arith, nat_tests) in
    ap₂ (λ x y. x || y) one (begin_in_turn c slides)

-- a turn later each access has the next cell
next_cell : (a i k : ℕ) (s : Slide) →
    has_cell (cell_of a (suc i)) (near_touch (k + 1) s) ≡ has_cell (cell_of a i) (near_touch k s)
next_cell a i k s = grind (arith, nat_tests)

same_number : (n : ℕ) → (n == n) ≡ true
same_number n = grind (arith, nat_tests)

alike_turn : (a i k : ℕ) (slides : List Slide) →
    AreAlike (cell_of a (suc i)) (cell_of a i) (map (near_touch (k + 1)) slides) (map (near_touch k) slides)
alike_turn a i k [] = tt
alike_turn a i k (s ∷ slides) = (
  record {
    write = refl;
    cell = next_cell a i k s;
    sure = ap₂ (λ one h. s.writes && (s.certain && (one && h)))
        (same_number (s.start + (k + 1)) ∙ sym (same_number (s.start + k))) (next_cell a i k s);
  },
  alike_turn a i k slides,
)

alike_turns : (a i n k : ℕ) (slides : List Slide) →
    AreAlike (cell_of a (suc i)) (cell_of a i) (near_turns n (k + 1) slides) (near_turns n k slides)
alike_turns a i zero k slides = tt
alike_turns a i (suc n) k slides =
    alike_both (cell_of a (suc i)) (cell_of a i) (map (near_touch (k + 1)) slides) (map (near_touch k) slides)
    (near_turns n (k + 1 + 1) slides) (near_turns n (k + 1) slides) (alike_turn a i k slides)
    (alike_turns a i n (k + 1) slides)

-- no later turn has the first cell
not_first : (a k : ℕ) (slides : List Slide) → list_any (has_cell (cell_of a 0)) (map (near_touch (k + 1)) slides) ≡ false
not_first a k [] = refl
not_first a k (s ∷ slides) =
    let one : has_cell (cell_of a 0) (near_touch (k + 1) s) ≡ false = grind (arith, nat_tests) in
    ap₂ (λ x y. x || y) one (not_first a k slides)

none_first : (part : Part) (a n k : ℕ) (slides : List Slide) → is_in_part part (near_turns n (k + 1) slides) (cell_of a 0) ≡ false
none_first Exposed a zero k slides = refl
none_first Read a zero k slides = refl
none_first Write a zero k slides = refl
none_first Sure a zero k slides = refl
none_first part a (suc n) k slides =
    not_there part (map (near_touch (k + 1)) slides) (near_turns n (k + 1 + 1) slides) (cell_of a 0) (not_first a k slides)
    ∙ none_first part a n (k + 1) slides

-- the last turn
last_turn : (n k : ℕ) (slides : List Slide) →
    near_turns (suc n) k slides ≡ near_turns n k slides ++ map (near_touch (k + n)) slides
last_turn zero k slides = append-nil (map (near_touch k) slides) ∙ ap (λ m. map (near_touch m) slides) (omega arith)
last_turn (suc n) k slides =
    ap (λ (ts : List Touch). map (near_touch k) slides ++ ts)
    (last_turn n (k + 1) slides
    ∙ ap (λ m. near_turns n (k + 1) slides ++ map (near_touch m) slides) (omega arith))
    ∙ sym (append_assoc (map (near_touch k) slides) (near_turns n (k + 1) slides)
    (map (near_touch (k + suc n)) slides))

-- a cell of a set is one that an access begins at, or the one before it is in the set too
abbrev pub IsReached : (Cell → Bool) → List Slide → ℕ → ℕ → Type 0
IsReached p slides a zero = list_any (begins_at (cell_of a zero)) slides ≡ true
IsReached p slides a (suc i) = (list_any (begins_at (cell_of a (suc i))) slides ≡ true) ⊎ (p (cell_of a i) ≡ true)

pub reached : (part : Part) (n : ℕ) (slides : List Slide) (a i : ℕ) →
    is_in_part part (near_turns n 0 slides) (cell_of a i) ≡ true →
    IsReached (is_in_part part (near_turns n 0 slides)) slides a i
reached Exposed zero slides a i h = absurd (false≢true h)
reached Read zero slides a i h = absurd (false≢true h)
reached Write zero slides a i h = absurd (false≢true h)
reached Sure zero slides a i h = absurd (false≢true h)
reached part (suc n) slides a zero h = go (list_any (begins_at (cell_of a zero)) slides) refl
  where
    go : (b : Bool) → list_any (begins_at (cell_of a zero)) slides ≡ b → list_any (begins_at (cell_of a zero)) slides ≡ true
    go true e = e
    go false e = absurd (false≢true
        (sym (not_there part (map (near_touch 0) slides) (near_turns n 1 slides) (cell_of a 0)
        (begin_in_turn (cell_of a 0) slides ∙ e) ∙ none_first part a n 0 slides) ∙ h))
reached part (suc n) slides a (suc i) h = go (list_any (begins_at (cell_of a (suc i))) slides) refl
  where
    go : (b : Bool) → list_any (begins_at (cell_of a (suc i))) slides ≡ b →
        (list_any (begins_at (cell_of a (suc i))) slides ≡ true)
        ⊎ (is_in_part part (near_turns (suc n) 0 slides) (cell_of a i) ≡ true)
    go true e = inl e
    go false e =
        let there : is_in_part part (near_turns n 0 slides) (cell_of a i) ≡ true =
        sym (in_alike part (cell_of a (suc i)) (cell_of a i) (near_turns n 1 slides) (near_turns n 0 slides)
        (alike_turns a i n 0 slides))
        ∙ sym (not_there part (map (near_touch 0) slides) (near_turns n 1 slides) (cell_of a (suc i))
        (begin_in_turn (cell_of a (suc i)) slides ∙ e)) ∙ h in
        inr (ap (λ ts. is_in_part part ts (cell_of a i)) (last_turn n 0 slides)
        ∙ still_there part (near_turns n 0 slides) (map (near_touch (0 + n)) slides) (cell_of a i) there)
