-- What is left of a kernel copies no cell, by whatever order its turns go on.
use Rattle.std.proofs.Common.{◌≡◌, ℕ, zero, suc, ◌%◌, List, [], ◌∷◌, map, Option, Some, None, refl}
use Rattle.base.specs.declared.tree.Region.{Region}
use Rattle.base.specs.Meaning.{Run}
use Rattle.base.specs.Turns.{Turn, turns_at}
use Rattle.fine_machine.specs.Left.{Left, Finished, Asks, OnDevice, then_left, in_order, waiting, act_of, together, turn_left, kernel_left}
use Rattle.actions.specs.Opening.{StaysInside, IsDone, Goes}
use Rattle.actions.proofs.RegionInside.{list_inside}

module _ (lengths : List ℕ) where
  abbrev Stays : Left → Type 0
  Stays = StaysInside lengths

  abbrev AllStay : List Left → Type 0
  AllStay [] = Unit {0}
  AllStay (l ∷ rest) = Stays l × AllStay rest

  then_inside : (l after : Left) → Stays l → Stays after → Stays (then_left l after)
  then_inside _ after (IsDone t) h = h
  then_inside _ after (Goes q k inside each) h =
      Goes q (λ a. then_left (k a) after) inside (λ a. then_inside (k a) after (each a) h)

  order_inside : (ls : List Left) (after : Left) → AllStay ls → Stays after → Stays (in_order ls after)
  order_inside [] after all h = h
  order_inside (l ∷ ls) after all h = then_inside l (in_order ls after) all.0 (order_inside ls after all.1 h)

  act_inside : (n : ℕ) (ls : List Left) (follow : List Left → Left) (other : Left) → AllStay ls →
      ((ls' : List Left) → AllStay ls' → Stays (follow ls')) → Stays other → Stays (act_of n ls follow other)
  act_inside n [] follow other all again h = h
  act_inside n (Finished t ∷ ls) follow other all again h =
      act_inside n ls (λ ls'. follow (Finished t ∷ ls')) other all.1 (λ ls' a. again (Finished t ∷ ls') (all.0, a)) h
  act_inside zero (Asks q k ∷ ls) follow other all again h = first all.0
    where
      first : Stays (Asks q k) → Stays (Asks q (λ a. follow (k a ∷ ls)))
      first (Goes _ _ inside each) = Goes q (λ a. follow (k a ∷ ls)) inside (λ a. again (k a ∷ ls) (each a, all.1))
  act_inside (suc n) (Asks q k ∷ ls) follow other all again h =
      act_inside n ls (λ ls'. follow (Asks q k ∷ ls')) other all.1 (λ ls' a. again (Asks q k ∷ ls') (all.0, a)) h

  together_inside : (order : List ℕ) (ls : List Left) (after : Left) → AllStay ls → Stays after →
      Stays (together order ls after)
  together_inside [] ls after all h = order_inside ls after all h
  together_inside (n ∷ order) ls after all h =
      act_inside (n % waiting ls) ls (λ ls'. together order ls' after) (in_order ls after) all
      (λ ls' a. together_inside order ls' after a h) (order_inside ls after all h)

  turns_stay : (s : Run) (turns : List Turn) → AllStay (map (turn_left s) turns)
  turns_stay s [] = tt
  turns_stay s (t ∷ rest) = (list_inside lengths t.body OnDevice t.loops s Finished (λ x. IsDone x), turns_stay s rest)

  pub kernel_inside : (order : List ℕ) (o : Option Region) (loops : List ℕ) (s : Run) (k : Run → Left) →
      ((t : Run) → Stays (k t)) → Stays (kernel_left order o loops s k)
  kernel_inside order None loops s k h = h s
  kernel_inside order (Some r) loops s k h = go r.depth refl
    where
      go : (d : ℕ) → r.depth ≡ d → Stays (kernel_left order (Some r) loops s k)
      go zero e = rw (e, kernel_left) (list_inside lengths r.body.items OnDevice loops s k h)
      go (suc d) e =
          rw (e, kernel_left)
          (together_inside order (map (turn_left s) (turns_at (suc d) r.body.items loops)) (k s)
          (turns_stay s (turns_at (suc d) r.body.items loops)) (h s))
