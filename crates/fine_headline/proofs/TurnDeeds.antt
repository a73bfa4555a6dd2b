-- However far independent turns have gone, the next action of each is the one that it does where the turns are done one
-- after the other, and a load gets the same number.
use Rattle.std.proofs.Common.{◌≡◌, ℕ, zero, suc, List, [], ◌∷◌, Some, refl, sym, ◌∙◌, ap, ap₂, subst}
use Rattle.std.proofs.Math.Path.{path_j, subst_refl}
use Rattle.base.specs.declared.item.Cell.{Cell}
use Rattle.base.specs.Memory.{View}
use Rattle.base.specs.Footprint.{Touch}
use Rattle.fine_machine.specs.Left.{Side, Left, Asks, Request, Answer, Load}
use Rattle.fine_machine.specs.Action.{loaded}
use Rattle.fine_headline.proofs.Alone.{first, change_at, change_other, there_after, Alone, ended, loads, alters, Commutes, alone_keeps, alone_has, unseen_other, altered_twice}
use Rattle.fine_headline.proofs.TurnsTogether.{SomeLooks, SomeAlters, more_look, more_alter, AreClear, InTurn}

-- an action, and what it gave
abbrev pub Deed : Type 0
Deed = Request × Answer

module _ (side : Side) where
  -- what a turn that is done alone does
  abbrev pub deeds : (xs : List Touch) (l : Left) (v w : View) → Alone side xs l v w → List Deed
  deeds xs _ _ _ (ended t v) = []
  deeds xs _ _ _ (loads c k n v w r e more) = (Load side c, loaded n) ∷ deeds xs (k (loaded n)) v w more
  deeds xs _ _ _ (alters r c f old k v w is e more) =
      (r, loaded 0) ∷ deeds xs (k (loaded 0)) (change_at c f v) w more

  -- what each of the turns does, that are done one after the other
  abbrev pub all_deeds : (ts : List (List Touch)) (ls : List Left) (v w : View) → InTurn side ts ls v w →
      List (List Deed)
  all_deeds [] [] v w h = []
  all_deeds [] (l ∷ ls) v w h = []
  all_deeds (t ∷ ts) [] v w h = []
  all_deeds (t ∷ ts) (l ∷ ls) v w h = deeds t l v h.0 h.1 ∷ all_deeds ts ls h.0 w h.2

  moved_deeds : (xs : List Touch) (l : Left) (v u w : View) (e : v ≡ u) (a : Alone side xs l v w) →
      deeds xs l u w (subst (λ x. Alone side xs l x w) e a) ≡ deeds xs l v w a
  moved_deeds xs l v u w e a =
      path_j (λ u e. deeds xs l u w (subst (λ x. Alone side xs l x w) e a) ≡ deeds xs l v w a)
      (ap (deeds xs l v w) (subst_refl (λ x. Alone side xs l x w) a)) e

  -- a change that commutes changes nothing of it
  record IsMoved (xs : List Touch) (l : Left) (v w v' w' : View) (a : Alone side xs l v w) : Type 0 where
    alone : Alone side xs l v' w'
    same : deeds xs l v' w' alone ≡ deeds xs l v w a

  change_moves : (xs : List Touch) (l : Left) (v w : View) (c : Cell) (f : ℕ → ℕ) → Commutes side xs c f →
      (a : Alone side xs l v w) → IsMoved xs l v w (change_at c f v) (change_at c f w) a
  change_moves xs _ _ _ c f clear (ended t v) = record { alone = ended t (change_at c f v); same = refl }
  change_moves xs _ _ _ c f clear (loads d k m v w r e more) =
      let rest = change_moves xs (k (loaded m)) v w c f clear more in
      record {
        alone =
            loads d k m (change_at c f v) (change_at c f w) r
            (change_other c d f v (unseen_other side xs c d f clear r) ∙ e) rest.alone;
        same = ap (λ ds. (Load side d, loaded m) ∷ ds) rest.same;
      }
  change_moves xs _ _ _ c f clear (alters r d g old k v w is e more) =
      let rest = change_moves xs (k (loaded 0)) (change_at d g v) w c f clear more in
      let twice = sym (altered_twice side xs c d f g r v clear is) in
      let now = there_after c d f v old e in
      record {
        alone =
            alters r d g now.0 k (change_at c f v) (change_at c f w) is now.1
            (subst (λ u. Alone side xs (k (loaded 0)) u (change_at c f w)) twice rest.alone);
        same =
            ap (λ ds. (r, loaded 0) ∷ ds)
            (moved_deeds xs (k (loaded 0)) (change_at c f (change_at d g v)) (change_at d g (change_at c f v))
            (change_at c f w) twice rest.alone ∙ rest.same);
      }

-- the n-th of what is left of some turns has an action to do, and what then is left of them
pub data Picks : ℕ → List Left → Request → (Answer → List Left) → Type 0 where
  here : (r : Request) (k : Answer → Left) (ls : List Left) → Picks 0 (Asks r k ∷ ls) r (λ a. k a ∷ ls)
  later : (n : ℕ) (l : Left) (ls : List Left) (r : Request) (after : Answer → List Left) → Picks n ls r after →
      Picks (suc n) (l ∷ ls) r (λ a. l ∷ after a)

-- one deed of the n-th, before its others
abbrev pub before : ℕ → Deed → List (List Deed) → List (List Deed)
before n d [] = []
before zero d (g ∷ gs) = (d ∷ g) ∷ gs
before (suc n) d (g ∷ gs) = g ∷ before n d gs

module _ (side : Side) (w : View) where
  -- that action is the first one that the turn does, where the turns are done one after the other from here
  pub data Next (n : ℕ) (ts : List (List Touch)) (v : View) (logs : List (List Deed)) :
      Request → (Answer → List Left) → Type 0 where
    load : (c : Cell) (x : ℕ) (after : Answer → List Left) → SomeLooks ts c → v c ≡ Some x →
        (h : InTurn side ts (after (loaded x)) v w) →
        logs ≡ before n (Load side c, loaded x) (all_deeds side ts (after (loaded x)) v w h) →
        Next n ts v logs (Load side c) after
    alter : (r : Request) (c : Cell) (f : ℕ → ℕ) (old : ℕ) (after : Answer → List Left) → SomeAlters side ts r c f →
        v c ≡ Some old → (h : InTurn side ts (after (loaded 0)) (change_at c f v) w) →
        logs ≡ before n (r, loaded 0) (all_deeds side ts (after (loaded 0)) (change_at c f v) w h) →
        Next n ts v logs r after

  pub next_deed : (n : ℕ) (ts : List (List Touch)) (ls : List Left) (r : Request) (after : Answer → List Left)
      (v : View) → Picks n ls r after → AreClear side ts → (h : InTurn side ts ls v w) →
      Next n ts v (all_deeds side ts ls v w h) r after
  next_deed _ [] _ _ _ v (here r k ls) clear h = absurd h
  next_deed _ (t ∷ ts) _ _ _ v (here r k ls) clear h = go r k h.0 h.1 h.2
    where
      go : (r : Request) (k : Answer → Left) (u : View) (a : Alone side t (Asks r k) v u) (m : InTurn side ts ls u w) →
          Next 0 (t ∷ ts) v (deeds side t (Asks r k) v u a ∷ all_deeds side ts ls u w m) r (λ a. k a ∷ ls)
      go _ _ _ (loads c k x _ u i e more) m =
          load c x (λ a. k a ∷ ls) (record { turn = t; is_in = first ts; looks = i }) e (u, more, m) refl
      go _ _ _ (alters r c f old k _ u i e more) m =
          alter r c f old (λ a. k a ∷ ls) (record { turn = t; is_in = first ts; alters = i }) e (u, more, m) refl
  next_deed _ [] _ _ _ v (later n l ls r after p) clear h = absurd h
  next_deed _ (t ∷ ts) _ _ _ v (later n l ls r after p) clear h =
      go r after (all_deeds side ts ls h.0 w h.2) (next_deed n ts ls r after h.0 p clear.1 h.2)
    where
      go : (r : Request) (after : Answer → List Left) (logs : List (List Deed)) → Next n ts h.0 logs r after →
          Next (suc n) (t ∷ ts) v (deeds side t l v h.0 h.1 ∷ logs) r (λ a. l ∷ after a)
      go _ _ logs (load c x after i e m same) =
          load c x (λ a. l ∷ after a) (more_look t ts c i)
          (sym (alone_keeps side t l v h.0 c (clear.0.of_looks c i) h.1) ∙ e) (h.0, h.1, m)
          (ap (λ gs. deeds side t l v h.0 h.1 ∷ gs) same)
      go _ _ logs (alter r c f old after i e m same) =
          let was = alone_has side t l v h.0 c old h.1 e in
          let q = change_moves side t l v h.0 c f (clear.0.of_alters r c f i) h.1 in
          alter r c f was.0 (λ a. l ∷ after a) (more_alter side t ts r c f i) was.1 (change_at c f h.0, q.alone, m)
          (ap₂ (λ g gs. g ∷ gs) (sym q.same) same)
