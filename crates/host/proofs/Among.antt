-- What ends of a channel received is among what was sent.
use Rattle.std.proofs.Common.{◌≡◌, ◌≢◌, ◌<◌, ℕ, false, true≢false, List, [], ◌∷◌, ◌++◌, set, sym, refl, ◌∙◌, subst, ⊎_elim, arith}
use Rattle.std.specs.List.{Contains}
use Rattle.std.proofs.lemmas.List.Elements.{Contains-append_left, Contains-append_right, Contains-push_cases}
use mathlib.Core.Option.{some}
use lib.ListN.{get_elem?}
use Rattle.atomic_table.proofs.Lists.{at_set}
use Rattle.host.specs.declared.channel.Known.{Known}
use Rattle.host.specs.Once.{AreAmong, IsSender}

module _ {T : Type 0} where
  -- ---- what is among what was sent

  pub none_among : (ys : List T) → AreAmong [] ys
  none_among ys x h = absurd (let k : h.0 < 0 = h.1 in omega (arith, k))

  pub still_among : (xs ys : List T) (y : T) → AreAmong xs ys → AreAmong xs (ys ++ y ∷ [])
  still_among xs ys y h x c = Contains-append_left ys (y ∷ []) x (h x c)

  pub more_among : (xs ys : List T) (y : T) → AreAmong xs ys → Contains ys y → AreAmong (xs ++ y ∷ []) ys
  more_among xs ys y h there x c =
      ⊎_elim (h x) (λ (e : y ≡ x). subst (Contains ys) e there) (Contains-push_cases xs y x c)

  pub rest_among : (y : T) (xs ys : List T) → AreAmong (y ∷ xs) ys → AreAmong xs ys
  rest_among y xs ys h x c = h x (Contains-append_right (y ∷ []) xs x c)

  pub first_among : (y : T) (xs ys : List T) → AreAmong (y ∷ xs) ys → Contains ys y
  first_among y xs ys h = h y (0, omega arith, refl)

  -- ---- what the rule says of one end

  abbrev pub IsEnd : ℕ → List T → ℕ → Known T → Type 0
  IsEnd seat sent pass v = IsSender seat sent pass v × AreAmong v.got sent

  pub ends_set : (seat : ℕ) (sent : List T) (views : List (Known T)) (pass : ℕ) (w : Known T) → IsEnd seat sent pass w →
      ((p : ℕ) (v : Known T) → p ≢ pass → get_elem? views p ≡ some v → IsEnd seat sent p v) →
      (p : ℕ) (v : Known T) → get_elem? (set views pass w) p ≡ some v → IsEnd seat sent p v
  ends_set seat sent views pass w mine others p v at =
      ⊎_elim
      (λ (e : (p ≡ pass) × (w ≡ v)). subst (λ (y : ℕ × Known T). IsEnd seat sent y.0 y.1) (λ i. (sym e.0 i, e.1 i)) mine)
      (λ (e : (p ≢ pass) × (get_elem? views p ≡ some v)). others p v e.0 e.1) (at_set views pass p w v at)

  pub no_sender : (seat : ℕ) (sent : List T) (pass : ℕ) (v : Known T) → v.sends ≡ false → IsSender seat sent pass v
  no_sender seat sent pass v is may = absurd (true≢false (sym may ∙ is))
