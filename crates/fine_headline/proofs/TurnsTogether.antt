-- Turns none of which changes what another one touches, but for updates that commute: done action by action in any
-- order they leave what they leave one after the other.
use Rattle.std.proofs.Common.{◌≡◌, ℕ, zero, suc, ◌%◌, false, List, [], ◌∷◌, Some, refl, sym, ◌∙◌, ap, subst}
use Rattle.base.specs.declared.item.Cell.{Cell}
use Rattle.base.specs.Memory.{View}
use Rattle.base.specs.Map.{Memories, Fill}
use Rattle.base.specs.Footprint.{Touch, writes}
use Rattle.fine_machine.specs.Left.{Side, Left, Finished, Asks, Request, Answer, Load, then_left, in_order, waiting, act_of, together}
use Rattle.fine_machine.specs.Action.{loaded, act}
use Rattle.std.specs.Prelude.{None}
use Rattle.fine_headline.proofs.Reaching.{Reaches, there, next, on_from}
use Rattle.fine_headline.proofs.Alone.{Member, first, later, Looks, Alters, change_at, Alone, ended, loads, alters, Commutes, alone_keeps, alone_has, alone_change}

-- a cell that some turn looks at, and how some action of a turn changes one
pub record SomeLooks (ts : List (List Touch)) (c : Cell) : Type 0 where
  pub turn : List Touch
  pub is_in : Member turn ts
  pub looks : Looks None turn c

pub record SomeAlters (side : Side) (ts : List (List Touch)) (r : Request) (c : Cell) (f : ℕ → ℕ) : Type 0 where
  pub turn : List Touch
  pub is_in : Member turn ts
  pub alters : Alters side turn r c f

pub more_look : (t : List Touch) (ts : List (List Touch)) (c : Cell) → SomeLooks ts c → SomeLooks (t ∷ ts) c
more_look t ts c h = record { turn = h.turn; is_in = later t ts h.is_in; looks = h.looks }

pub more_alter : (side : Side) (t : List Touch) (ts : List (List Touch)) (r : Request) (c : Cell) (f : ℕ → ℕ) →
    SomeAlters side ts r c f → SomeAlters side (t ∷ ts) r c f
more_alter side t ts r c f h = record { turn = h.turn; is_in = later t ts h.is_in; alters = h.alters }

-- a turn does not write what those after it look at, and each change by them commutes with it
pub record IsClear (side : Side) (t : List Touch) (ts : List (List Touch)) : Type 0 where
  pub of_looks : (c : Cell) → SomeLooks ts c → writes t c ≡ false
  pub of_alters : (r : Request) (c : Cell) (f : ℕ → ℕ) → SomeAlters side ts r c f → Commutes side t c f

abbrev pub AreClear : Side → List (List Touch) → Type 0
AreClear side [] = Unit {0}
AreClear side (t ∷ ts) = IsClear side t ts × AreClear side ts

-- each done whole, one after the other
abbrev pub InTurn : Side → List (List Touch) → List Left → View → View → Type 0
InTurn side [] [] v w = v ≡ w
InTurn side [] (l ∷ ls) v w = ⊥
InTurn side (t ∷ ts) [] v w = ⊥
InTurn side (t ∷ ts) (l ∷ ls) v w = (u : View) × Alone side t l v u × InTurn side ts ls u w

-- what comes before some turns leaves alone what they look at, keeps what is there, and commutes with their changes
record Passes (side : Side) (P : View → View → Type 0) (ts : List (List Touch)) : Type 0 where
  same : (v u : View) (c : Cell) → P v u → SomeLooks ts c → v c ≡ u c
  has : (v u : View) (c : Cell) (n : ℕ) → P v u → u c ≡ Some n → (m : ℕ) × (v c ≡ Some m)
  change : (v u : View) (r : Request) (c : Cell) (f : ℕ → ℕ) → P v u → SomeAlters side ts r c f →
      P (change_at c f v) (change_at c f u)

-- and one more turn before the others
abbrev pub Then : Side → List Touch → Left → (View → View → Type 0) → View → View → Type 0
Then side t l P v u = (x : View) × P v x × Alone side t l x u

passes_one : (side : Side) (t : List Touch) (ts : List (List Touch)) (l : Left) (P : View → View → Type 0) →
    Passes side P (t ∷ ts) → IsClear side t ts → Passes side (Then side t l P) ts
passes_one side t ts l P before clear = record {
  same =
      λ v u c p h. before.same v p.0 c p.1 (more_look t ts c h)
      ∙ sym (alone_keeps side t l p.0 u c (clear.of_looks c h) p.2);
  has = λ v u c n p e. let q = alone_has side t l p.0 u c n p.2 e in before.has v p.0 c q.0 p.1 q.1;
  change =
      λ v u r c f p h. (
        change_at c f p.0,
        before.change v p.0 r c f p.1 (more_alter side t ts r c f h),
        alone_change side t l p.0 u c f (clear.of_alters r c f h) p.2,
      );
}

module _ (lengths : List ℕ) (fill : Fill) (side : Side) (mem : View → Memories)
    (look : (v : View) (c : Cell) (n : ℕ) → v c ≡ Some n → act lengths fill (Load side c) (mem v) ≡ Some
    (loaded n, mem v))
    (alter : (xs : List Touch) (r : Request) (c : Cell) (f : ℕ → ℕ) → Alters side xs r c f → (v : View) (old : ℕ) →
    v c ≡ Some old → act lengths fill r (mem v) ≡ Some (loaded 0, mem (change_at c f v))) where
  abbrev To : Left → View → Left → View → Type 0
  To l v l' w = Reaches lengths fill l (mem v) l' (mem w)

  then_reaches : (t : List Touch) (l : Left) (v w : View) (after : Left) → Alone side t l v w →
      To (then_left l after) v after w
  then_reaches t _ _ _ after (ended r v) = there after (mem v)
  then_reaches t _ _ _ after (loads c k n v w r e more) =
      next (Load side c) (λ a. then_left (k a) after) (loaded n) (mem v) (mem v) after (mem w) (look v c n e)
      (then_reaches t (k (loaded n)) v w after more)
  then_reaches t _ _ _ after (alters r c f old k v w is e more) =
      next r (λ a. then_left (k a) after) (loaded 0) (mem v) (mem (change_at c f v)) after (mem w)
      (alter t r c f is v old e) (then_reaches t (k (loaded 0)) (change_at c f v) w after more)

  in_order_reaches : (ts : List (List Touch)) (ls : List Left) (v w : View) (after : Left) → InTurn side ts ls v w →
      To (in_order ls after) v after w
  in_order_reaches [] [] v w after h = subst (To after v after) h (there after (mem v))
  in_order_reaches [] (l ∷ ls) v w after h = absurd h
  in_order_reaches (t ∷ ts) [] v w after h = absurd h
  in_order_reaches (t ∷ ts) (l ∷ ls) v w after h =
      on_from lengths fill (then_left l (in_order ls after)) (mem v) (in_order ls after) (mem h.0) after (mem w)
      (then_reaches t l v h.0 (in_order ls after) h.1) (in_order_reaches ts ls h.0 w after h.2)

  -- the turns that come after what leaves alone what they touch: one of them does an action
  acts_reach : (n : ℕ) (ts : List (List Touch)) (ls : List Left) (P : View → View → Type 0) (v u w : View)
      (follow : List Left → Left) (other after : Left) → AreClear side ts → Passes side P ts → P v u →
      InTurn side ts ls u w →
      ((ls' : List Left) (v' u' : View) → P v' u' → InTurn side ts ls' u' w → To (follow ls') v' after w) →
      To other v after w → To (act_of n ls follow other) v after w
  acts_reach n [] [] P v u w follow other after clear passes p h again else = else
  acts_reach n [] (l ∷ ls) P v u w follow other after clear passes p h again else = absurd h
  acts_reach n (t ∷ ts) [] P v u w follow other after clear passes p h again else = absurd h
  acts_reach n (t ∷ ts) (Finished r ∷ ls) P v u w follow other after clear passes p h again else =
      acts_reach n ts ls (Then side t (Finished r) P) v h.0 w (λ ls. follow (Finished r ∷ ls)) other after clear.1
      (passes_one side t ts (Finished r) P passes clear.0) (u, p, h.1) h.2
      (λ ls' v' u' q g. again (Finished r ∷ ls') v' q.0 q.1 (u', q.2, g)) else
  acts_reach zero (t ∷ ts) (Asks r k ∷ ls) P v u w follow other after clear passes p h again else =
      acts r k h.1 again
    where
      acts : (r : _) (k : Answer → Left) → Alone side t (Asks r k) u h.0 →
          ((ls' : List Left) (v' u' : View) → P v' u' → InTurn side (t ∷ ts) ls' u' w → To (follow ls') v' after w) →
          To (Asks r (λ a. follow (k a ∷ ls))) v after w
      acts _ _ (loads c k n _ _ r e more) again =
          next (Load side c) (λ a. follow (k a ∷ ls)) (loaded n) (mem v) (mem v) after (mem w)
          (look v c n (passes.same v u c p (record { turn = t; is_in = first ts; looks = r }) ∙ e))
          (again (k (loaded n) ∷ ls) v u p (h.0, more, h.2))
      acts _ _ (alters r c f old k _ _ is e more) again =
          let was = passes.has v u c old p e in
          next r (λ a. follow (k a ∷ ls)) (loaded 0) (mem v) (mem (change_at c f v)) after (mem w)
          (alter t r c f is v was.0 was.1)
          (again (k (loaded 0) ∷ ls) (change_at c f v) (change_at c f u)
          (passes.change v u r c f p (record { turn = t; is_in = first ts; alters = is })) (h.0, more, h.2))
  acts_reach (suc n) (t ∷ ts) (Asks r k ∷ ls) P v u w follow other after clear passes p h again else =
      acts_reach n ts ls (Then side t (Asks r k) P) v h.0 w (λ ls. follow (Asks r k ∷ ls)) other after clear.1
      (passes_one side t ts (Asks r k) P passes clear.0) (u, p, h.1) h.2
      (λ ls' v' u' q g. again (Asks r k ∷ ls') v' q.0 q.1 (u', q.2, g)) else

  -- whatever the order
  pub together_reaches : (order : List ℕ) (ts : List (List Touch)) (ls : List Left) (v w : View) (after : Left) →
      AreClear side ts → InTurn side ts ls v w → To (together order ls after) v after w
  together_reaches [] ts ls v w after clear h = in_order_reaches ts ls v w after h
  together_reaches (n ∷ order) ts ls v w after clear h =
      acts_reach (n % waiting ls) ts ls (λ v u. v ≡ u) v v w (λ ls. together order ls after) (in_order ls after) after
      clear
      (record {
        same = λ v u c p h. ap (λ (x : View). x c) p;
        has = λ v u c n p e. (n, ap (λ (x : View). x c) p ∙ e);
        change = λ v u r c f p h. ap (change_at c f) p;
      }) refl h
      (λ ls' v' u' p g. together_reaches order ts ls' v' w after clear
      (subst (λ x. InTurn side ts ls' x w) (sym p) g)) (in_order_reaches ts ls v w after h)
