-- Numbers that follow one another.
use Rattle.std.proofs.Common.{◌≡◌, ℕ, ◌+◌, ◌<◌, ◌==◌, Bool, true, List, length, sym, ap, ◌∙◌, arith, subst, ⊎_elim, eqb-true}
use Rattle.std.specs.Prelude.{◌&&◌, slice_index}
use Rattle.std.proofs.lemmas.Bool.{and_parts, cases_eq}
use Rattle.base.specs.declared.tree.ArrayId.{ArrayId}
use Rattle.base.specs.Memory.{View}
use Rattle.kernel.specs.Lanes.{Agrees, IsRun, IsRunFrom}

-- one more of them does
pub one_follows : (xs : List ℕ) (first n : ℕ) (so b : Bool) → b ≡ (so && (slice_index xs n == first + n)) →
    (so ≡ true → (k : ℕ) → k < n → slice_index xs k ≡ first + k) →
    b ≡ true → (k : ℕ) → k < n + 1 → slice_index xs k ≡ first + k
one_follows xs first n so b is h all k lt =
    let p = and_parts so (slice_index xs n == first + n) (sym is ∙ all) in
    ⊎_elim (λ e. ap (slice_index xs) e ∙ eqb-true (slice_index xs n) (first + n) p.1 ∙ sym (ap (λ j. first + j) e))
    (λ ne. h p.0 k (omega (arith, lt, ne))) (cases_eq k n)

-- what a run has is what stands at numbers that follow one another
pub run_agrees : (view : View) (a : ArrayId) (xs ys : List ℕ) (first n k y : ℕ) → IsRunFrom xs first → n ≡ length xs → k < n →
    IsRun view a first n ys → y ≡ slice_index ys k → Agrees (view (record { array = a; index = slice_index xs k })) y
run_agrees view a xs ys first n k y from size lt run is =
    let at : first + k ≡ slice_index xs k = sym (from.each k (omega arith)) in
    subst (λ (i : ℕ). Agrees (view (record { array = a; index = i })) y) at
    (subst (λ (m : ℕ). Agrees (view (record { array = a; index = first + k })) m) (sym is) (run.each k lt))
