-- Whichever of some turns has an action to do, a number of an order picks it: so the orders are all interleavings.
use Rattle.std.proofs.Common.{◌≡◌, ℕ, suc, ◌<◌, List, ◌∷◌, refl, ◌∙◌, ap, arith}
use Rattle.std.proofs.Math.Nat.{mod-eq_of_lt}
use Rattle.fine_machine.specs.Left.{Left, Finished, Asks, Request, Answer, waiting, act_of, in_order, together}
use Rattle.fine_headline.proofs.TurnDeeds.{Picks, here, later}

-- the number by which a turn is picked
record IsPicked (ls : List Left) (r : Request) (after : Answer → List Left) : Type 0 where
  number : ℕ
  below : number < waiting ls
  acts : (follow : List Left → Left) (other : Left) →
      act_of number ls follow other ≡ Asks r (λ a. follow (after a))

picked : (n : ℕ) (ls : List Left) (r : Request) (after : Answer → List Left) → Picks n ls r after →
    IsPicked ls r after
picked _ _ _ _ (here r k ls) = record { number = 0; below = omega arith; acts = λ follow other. refl }
picked _ _ _ _ (later n (Finished t) ls r after p) =
    let q = picked n ls r after p in
    record {
      number = q.number;
      below = q.below;
      acts = λ follow other. q.acts (λ ls. follow (Finished t ∷ ls)) other;
    }
picked _ _ _ _ (later n (Asks s k) ls r after p) =
    let q = picked n ls r after p in
    let lt : q.number < waiting ls = q.below in
    record {
      number = suc q.number;
      below = omega arith;
      acts = λ follow other. q.acts (λ ls. follow (Asks s k ∷ ls)) other;
    }

-- the order that begins with it
pub any_turn : (n : ℕ) (ls : List Left) (r : Request) (after : Answer → List Left) → Picks n ls r after →
    (order : List ℕ) (rest : Left) →
    (p : ℕ) × (together (p ∷ order) ls rest ≡ Asks r (λ a. together order (after a) rest))
any_turn n ls r after p order rest =
    let q = picked n ls r after p in (
      q.number,
      ap (λ k. act_of k ls (λ ls. together order ls rest) (in_order ls rest)) (mod-eq_of_lt q.below)
          ∙ q.acts (λ ls. together order ls rest) (in_order ls rest),
    )
