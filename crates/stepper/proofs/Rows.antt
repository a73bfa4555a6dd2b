-- The numbers of an array on the host.
use Rattle.std.proofs.Common.{◌≡◌, ◌+◌, ◌-◌, ◌<◌, ℕ, zero, suc, List, [], ◌∷◌, ◌++◌, length, map, take, get_or, Vec, Global, refl, sym, ap, ap₂, ◌∙◌, arith, take_all}
use Rattle.std.specs.Prelude.{slice_get, slice_index, slice_range, unwrap_or}
use Rattle.std.specs.List.{range_with_len}
use Rattle.std.proofs.lemmas.List.{map-append, take_more}
use Rattle.host_memory.specs.declared.memory.Memory.{Memory as Arrays}
use Rattle.base.specs.declared.tree.ArrayId.{ArrayId}
use Rattle.base.specs.Answer.{array_values}
use Rattle.host_memory.specs.Arrays.{lengths_of, memory_of, row_of}
use Rattle.device.specs.Answering.{final_of}
use Rattle.host_memory.proofs.HostRows.{row_length}
use Rattle.stepper.specs.Answering.{row_in}

all_values : (f : ℕ → ℕ) (xs : List ℕ) (a : ℕ) → ((k : ℕ) → k < length xs → f (a + k) ≡ slice_index xs k) →
    map f (range_with_len a (length xs)) ≡ xs
all_values f [] a h = refl
all_values f (x ∷ xs) a h =
    ap₂ ◌∷◌ (ap f (here a) ∙ h 0 (omega arith))
    (all_values f xs (a + 1) (λ k lt. ap f (past a k) ∙ h (suc k) (omega arith)))
  where
    here : (a : ℕ) → a ≡ a + 0
    here a = omega arith

    past : (a k : ℕ) → (a + 1) + k ≡ a + suc k
    past a k = omega arith

value_is : (xs : List ℕ) (k : ℕ) → unwrap_or (slice_get xs k) 0 ≡ slice_index xs k
value_is [] k = refl
value_is (x ∷ xs) zero = refl
value_is (x ∷ xs) (suc k) = value_is xs k

pub nought : (k : ℕ) → 0 + k ≡ k
nought k = omega arith

-- a whole row
pub row_values : (host : Arrays) (a : ArrayId) →
    array_values (memory_of host) a.0 (slice_index (lengths_of host) a.0) ≡ row_of host a.0
row_values host a =
    ap (λ n. array_values (memory_of host) a.0 n) (row_length host a.0)
    ∙ all_values (λ j. memory_of host (record { array = record { 0 = a.0 }; index = j })) (row_of host a.0) 0
    (λ k lt.
    ap (λ j. memory_of host (record { array = record { 0 = a.0 }; index = j })) (nought k) ∙ value_is (row_of host a.0) k)

pub whole_row : (xs : List ℕ) (n : ℕ) → n ≡ length xs → slice_range xs 0 n ≡ xs
whole_row xs n is = ap (λ m. slice_range xs 0 m) is ∙ take_all (length xs - 0) xs (omega arith)

pub none_in : (xs : List ℕ) → length xs ≡ 0 → xs ≡ []
none_in [] h = refl
none_in (x ∷ xs) h = absurd (omega (arith, h))

pub final_more : (host : Arrays) (arrays : List ArrayId) (k : ℕ) (d : ArrayId) (finals more : List (ArrayId × Vec ℕ Global))
    (values : Vec ℕ Global) → k < length arrays → map final_of finals ≡ map (row_in host) (take k arrays) →
    more ≡ finals ++ (get_or arrays k d, values) ∷ [] →
    values.items ≡ array_values (memory_of host) (get_or arrays k d).0 (slice_index (lengths_of host) (get_or arrays k d).0) →
    map final_of more ≡ map (row_in host) (take (k + 1) arrays)
final_more host arrays k d finals more values lt before pushed shown =
    let a = get_or arrays k d in
    let first = map (row_in host) (take k arrays) in
    ap (λ xs. map final_of xs) pushed ∙ map-append final_of finals ((a, values) ∷ [])
    ∙ ap (λ xs. xs ++ (a.0, values.items) ∷ []) before
    ∙ ap (λ vs. first ++ (a.0, vs) ∷ []) shown
    ∙ sym (map-append (row_in host) (take k arrays) (a ∷ []))
    ∙ ap (λ xs. map (row_in host) xs) (sym (take_more arrays k d lt))
