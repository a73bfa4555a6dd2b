-- The values of the first arrays of a program, on two memories that agree on these.
use Rattle.std.proofs.Common.{◌≡◌, ℕ, ◌<◌, Bool, true, false, cond, List, [], ◌∷◌, length, map, filter, nat_lt, slice_index, refl, ap, ◌∙◌, arith}
use Rattle.std.specs.List.{range_with_len}
use Rattle.std.proofs.lemmas.Bool.Decides.{nat_tests}
use Rattle.base.specs.declared.item.Cell.{Cell}
use Rattle.base.specs.declared.tree.Program.{Program}
use Rattle.base.specs.Answer.{array_values, marked_values}
use Rattle.base.specs.Current.{is_marked}
use Rattle.base.specs.Items.{plan}
use Rattle.base.specs.Meaning.{lengths_of}
use Rattle.base.specs.Memory.{Memory}
use Rattle.pipeline.specs.Source.{first_arrays}

module _ (p : Program) (n : ℕ) (m w : Memory) (same : (c : Cell) → c.array.0 < n → m c ≡ w c) where
  cells : (a : ℕ) → a < n → (ks : List ℕ) →
      map (λ k. m (record { array = record { 0 = a }; index = k })) ks
      ≡ map (λ k. w (record { array = record { 0 = a }; index = k })) ks
  cells a h [] = refl
  cells a h (k ∷ ks) =
      ap (λ (v : ℕ). v ∷ map (λ k. m (record { array = record { 0 = a }; index = k })) ks)
      (same (record { array = record { 0 = a }; index = k }) h)
      ∙ ap (λ (vs : List ℕ). w (record { array = record { 0 = a }; index = k }) ∷ vs) (cells a h ks)

  abbrev valued : Memory → ℕ → ℕ × List ℕ
  valued memory a = (a, array_values memory a (slice_index (lengths_of p) a))

  arrays : (ns : List ℕ) → first_arrays n (map (valued m) ns) ≡ first_arrays n (map (valued w) ns)
  arrays [] = refl
  arrays (a ∷ ns) = go (nat_lt a n) refl (arrays ns)
    where
      go : (b : Bool) → nat_lt a n ≡ b → first_arrays n (map (valued m) ns) ≡ first_arrays n (map (valued w) ns) →
          cond b (valued m a ∷ first_arrays n (map (valued m) ns)) (first_arrays n (map (valued m) ns))
          ≡ cond b (valued w a ∷ first_arrays n (map (valued w) ns)) (first_arrays n (map (valued w) ns))
      go true e h =
          let below : a < n = grind (arith, nat_tests) in
          ap (λ (fs : List (ℕ × List ℕ)). valued m a ∷ fs) h
          ∙ ap (λ (vs : List ℕ). (a, vs) ∷ first_arrays n (map (valued w) ns))
          (cells a below (range_with_len 0 (slice_index (lengths_of p) a)))
      go false e h = h

  pub same_first : first_arrays n (marked_values p m) ≡ first_arrays n (marked_values p w)
  same_first = arrays (filter (is_marked (plan p)) (range_with_len 0 (length (lengths_of p))))
