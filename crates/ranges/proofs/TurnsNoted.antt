-- What is noted of turns is what they touch, and the least cell on which one of them meets those before it.
use Rattle.std.proofs.Common.{◌≡◌, ℕ, Bool, true, false, List, [], ◌∷◌, ◌++◌, refl, sym, ap, subst, ◌∙◌, append_assoc}
use Rattle.std.specs.Prelude.{◌&&◌, ◌||◌, ◌==◌, flat_map, option_map}
use Rattle.std.specs.List.{list_any}
use Rattle.std.proofs.lemmas.List.{append-nil}
use Rattle.std.proofs.lemmas.List.Folds.{list_any-append}
use Rattle.std.proofs.Math.Bool.{or-false, or_assoc}
use Rattle.base.specs.declared.item.Cell.{Cell}
use Rattle.base.specs.Footprint.{Touch, has_cell, leaves_array}
use Rattle.base.specs.Least.{IsLeast, lesser}
use Rattle.base.specs.Turns.{Turn, turn_touches}
use Rattle.base.proofs.Leasts.{least_same, lesser_is}
use Rattle.ranges.specs.Meetings.{meets_before, meets_from, touched_before}
use Rattle.ranges.specs.Ways.{Noted, after_turn, after_turns, after_use, after_uses, cell_in, first_opposed, kind_of, nothing_noted, opposed, ways}
use Rattle.ranges.proofs.FirstOpposed.{least_opposed}
use Rattle.ranges.proofs.OpposedBefore.{opposed_before}

-- no touch leaves its array
abbrev pub AllFit : List ℕ → List Touch → Type 0
AllFit lengths [] = Unit {0}
AllFit lengths (t ∷ rest) = (leaves_array lengths t ≡ false) × AllFit lengths rest

pub fit_parts : (lengths : List ℕ) (xs ys : List Touch) → AllFit lengths (xs ++ ys) → AllFit lengths xs × AllFit lengths ys
fit_parts lengths [] ys h = (tt, h)
fit_parts lengths (x ∷ xs) ys h = let r = fit_parts lengths xs ys h.1 in ((h.0, r.0), r.1)

-- these touches were added, and two of the turns meet so far just where the test holds
pub record Stands (before : List Touch) (p : Cell → Bool) (s : Noted) : Type 0 where
  pub touched : (k : ℕ) (c : Cell) → s.touched k c ≡ list_any (λ t. (kind_of t == k) && has_cell c t) before
  pub least : IsLeast p s.least

stands_as : (before : List Touch) (p q : Cell → Bool) (s : Noted) → ((c : Cell) → p c ≡ q c) → Stands before p s →
    Stands before q s
stands_as before p q s e h = record { touched = h.touched; least = least_same p q s.least e h.least }

-- one touch is tested
test_one : (lengths : List ℕ) (before : List Touch) (p : Cell → Bool) (t : Touch) (s : Noted) →
    leaves_array lengths t ≡ false → Stands before p s →
    Stands before (λ c. p c || (has_cell c t && touched_before before (kind_of t) c))
    (after_use lengths false (kind_of t) t.array t.cells s)
test_one lengths before p t s fits h = rw fits (record { touched = h.touched; least = both })
  where
    at : (c : Cell) → (has_cell c t && opposed ways (kind_of t) s.touched c) ≡ (has_cell c t && touched_before before (kind_of t) c)
    at c = ap (λ (b : Bool). has_cell c t && b) (opposed_before before s.touched c (λ k. h.touched k c) (kind_of t))

    both : IsLeast (λ c. p c || (has_cell c t && touched_before before (kind_of t) c))
        (lesser s.least (option_map (cell_in t.array) (first_opposed (kind_of t) t.array t.cells s.touched)))
    both =
        lesser_is p (λ c. has_cell c t && touched_before before (kind_of t) c) s.least
        (option_map (cell_in t.array) (first_opposed (kind_of t) t.array t.cells s.touched)) h.least
        (least_same (λ c. has_cell c t && opposed ways (kind_of t) s.touched c) (λ c. has_cell c t && touched_before before (kind_of t) c)
        (option_map (cell_in t.array) (first_opposed (kind_of t) t.array t.cells s.touched)) at
        (least_opposed (kind_of t) t.array t.cells s.touched))

-- all touches of a turn are tested
test_all : (lengths : List ℕ) (before : List Touch) (ts : List Touch) (p : Cell → Bool) (s : Noted) → AllFit lengths ts →
    Stands before p s → Stands before (λ c. p c || meets_before before ts c) (after_uses lengths false ts s)
test_all lengths before [] p s fit h = stands_as before p (λ c. p c || false) s (λ c. sym (or-false (p c))) h
test_all lengths before (t ∷ ts) p s fit h =
    let here : Cell → Bool = λ c. has_cell c t && touched_before before (kind_of t) c in
    stands_as before (λ c. (p c || here c) || meets_before before ts c) (λ c. p c || (here c || meets_before before ts c))
    (after_uses lengths false (t ∷ ts) s)
    (λ c. or_assoc (p c) (here c) (meets_before before ts c))
    (test_all lengths before ts (λ c. p c || here c) (after_use lengths false (kind_of t) t.array t.cells s) fit.1
    (test_one lengths before p t s fit.0 h))

-- one touch is added
add_one : (lengths : List ℕ) (before : List Touch) (p : Cell → Bool) (t : Touch) (s : Noted) →
    leaves_array lengths t ≡ false → Stands before p s →
    Stands (before ++ t ∷ []) p (after_use lengths true (kind_of t) t.array t.cells s)
add_one lengths before p t s fits h = rw fits (record { touched = more; least = h.least })
  where
    more : (k : ℕ) (c : Cell) → (s.touched k c || ((kind_of t == k) && has_cell c t))
        ≡ list_any (λ u. (kind_of u == k) && has_cell c u) (before ++ t ∷ [])
    more k c =
        ap (λ (b : Bool). b || ((kind_of t == k) && has_cell c t)) (h.touched k c)
        ∙ ap (λ (b : Bool). list_any (λ u. (kind_of u == k) && has_cell c u) before || b)
        (sym (or-false ((kind_of t == k) && has_cell c t)))
        ∙ sym (list_any-append (λ u. (kind_of u == k) && has_cell c u) before (t ∷ []))

add_all : (lengths : List ℕ) (before : List Touch) (ts : List Touch) (p : Cell → Bool) (s : Noted) → AllFit lengths ts →
    Stands before p s → Stands (before ++ ts) p (after_uses lengths true ts s)
add_all lengths before [] p s fit h = subst (λ (xs : List Touch). Stands xs p s) (sym (append-nil before)) h
add_all lengths before (t ∷ ts) p s fit h =
    subst (λ (xs : List Touch). Stands xs p (after_uses lengths true (t ∷ ts) s)) (append_assoc before (t ∷ []) ts)
    (add_all lengths (before ++ t ∷ []) ts p (after_use lengths true (kind_of t) t.array t.cells s) fit.1
    (add_one lengths before p t s fit.0 h))

turn_stands : (lengths : List ℕ) (before : List Touch) (t : Turn) (p : Cell → Bool) (s : Noted) →
    AllFit lengths (turn_touches t) → Stands before p s →
    Stands (before ++ turn_touches t) (λ c. p c || meets_before before (turn_touches t) c) (after_turn lengths t s)
turn_stands lengths before t p s fit h =
    add_all lengths before (turn_touches t) (λ c. p c || meets_before before (turn_touches t) c)
    (after_uses lengths false (turn_touches t) s) fit (test_all lengths before (turn_touches t) p s fit h)

turns_least : (lengths : List ℕ) (before : List Touch) (turns : List Turn) (p : Cell → Bool) (s : Noted) →
    AllFit lengths (flat_map turn_touches turns) → Stands before p s →
    IsLeast (λ c. p c || meets_from before turns c) (after_turns lengths turns s).least
turns_least lengths before [] p s fit h = least_same p (λ c. p c || false) s.least (λ c. sym (or-false (p c))) h.least
turns_least lengths before (t ∷ turns) p s fit h =
    let fits = fit_parts lengths (turn_touches t) (flat_map turn_touches turns) fit in
    let here : Cell → Bool = meets_before before (turn_touches t) in
    least_same (λ c. (p c || here c) || meets_from (before ++ turn_touches t) turns c)
    (λ c. p c || (here c || meets_from (before ++ turn_touches t) turns c)) (after_turns lengths (t ∷ turns) s).least
    (λ c. or_assoc (p c) (here c) (meets_from (before ++ turn_touches t) turns c))
    (turns_least lengths (before ++ turn_touches t) turns (λ c. p c || here c) (after_turn lengths t s) fits.1
    (turn_stands lengths before t p s fits.0 h))

-- from nothing on
pub noted_least : (lengths : List ℕ) (turns : List Turn) → AllFit lengths (flat_map turn_touches turns) →
    IsLeast (meets_from [] turns) (after_turns lengths turns nothing_noted).least
noted_least lengths turns fit =
    turns_least lengths [] turns (λ c. false) nothing_noted fit
    (record { touched = λ k c. refl; least = λ c. refl })
