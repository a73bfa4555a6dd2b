-- Choices in runs.
use Rattle.std.proofs.Common.{◌≡◌, ◌∙◌, ℕ, zero, suc, ◌+◌, ◌^◌, ◌<◌, ◌≤◌, cond, List, [], ◌∷◌, ◌++◌, length, take, drop, Option, Some, None, refl, ap, sym, arith, append_assoc, append-nil, le-leb, nat_le}
use Rattle.std.proofs.lemmas.Bool.{lt-leb}
use Rattle.std.specs.List.{prefix_len}
use Rattle.numbers.specs.Numbers.{is_no_star, most_choices, number_below, repeated, run_in, run_of, runs_behind, runs_of, runs_on, then_run, times_in, is_comma}
use Rattle.std.specs.List.{slice_split}

pub run_known : (text : List ℕ) (k n t : ℕ) → k ≡ prefix_len is_no_star text → number_below (2 ^ 32) (take k text) ≡ Some n →
    times_in (drop k text) ≡ Some t → run_in text ≡ Some (repeated t n)
run_known text k n t e f g = rw (sym e, f, g) refl

pub no_number : (text : List ℕ) (k : ℕ) → k ≡ prefix_len is_no_star text → number_below (2 ^ 32) (take k text) ≡ None → run_in text ≡ None
no_number text k e f = rw (sym e, f) refl

no_run : (o : Option ℕ) → run_of o None ≡ None
no_run None = refl
no_run (Some n) = refl

pub no_times : (text : List ℕ) (k : ℕ) → k ≡ prefix_len is_no_star text → times_in (drop k text) ≡ None → run_in text ≡ None
no_times text k e f = rw (sym e, f) (no_run (number_below (2 ^ 32) (take k text)))

repeated_length : (k n : ℕ) → length (repeated k n) ≡ k
repeated_length zero n = refl
repeated_length (suc k) n = ap suc (repeated_length k n)

pub too_many : (ns text : List ℕ) (n t : ℕ) → run_in text ≡ Some (repeated t n) → most_choices < length ns + t →
    then_run ns (run_in text) ≡ None
too_many ns text n t e h =
    rw (e, repeated_length t n, lt-leb (length ns + t) most_choices h) refl

pub enough : (ns text : List ℕ) (n t : ℕ) → run_in text ≡ Some (repeated t n) → length ns + t ≤ most_choices →
    then_run ns (run_in text) ≡ Some (ns ++ repeated t n)
enough ns text n t e h =
    rw (e, repeated_length t n, le-leb (length ns + t) most_choices h) refl

-- one choice more, behind others
pub once_more : (ns : List ℕ) (k n : ℕ) → (ns ++ repeated k n) ++ n ∷ [] ≡ ns ++ repeated (suc k) n
once_more ns k n = append_assoc ns (repeated k n) (n ∷ []) ∙ ap (λ (xs : List ℕ). ns ++ xs) (behind k)
  where
    behind : (k : ℕ) → repeated k n ++ n ∷ [] ≡ n ∷ repeated k n
    behind zero = refl
    behind (suc k) = ap (λ (xs : List ℕ). n ∷ xs) (behind k)

-- the runs of a text
pub runs_start : (text : List ℕ) → 0 < length text → runs_behind [] (slice_split is_comma text) ≡ runs_of text
unfolding runs_of
runs_start [] h = absurd (omega arith)
runs_start (b ∷ bs) h = refl

pub runs_empty : (text : List ℕ) → length text ≡ 0 → runs_of text ≡ Some []
unfolding runs_of
runs_empty [] h = refl
runs_empty (b ∷ bs) h = absurd (omega arith)

pub one_run : (ns ms w : List ℕ) (ws : List (List ℕ)) → then_run ns (run_in w) ≡ Some ms → runs_behind ns (w ∷ ws) ≡ runs_behind ms ws
one_run ns ms w ws e = ap (λ (o : Option (List ℕ)). runs_on o (λ ns. runs_behind ns ws)) e

pub no_run_here : (ns w : List ℕ) (ws : List (List ℕ)) → then_run ns (run_in w) ≡ None → runs_behind ns (w ∷ ws) ≡ None
no_run_here ns w ws e = ap (λ (o : Option (List ℕ)). runs_on o (λ ns. runs_behind ns ws)) e
