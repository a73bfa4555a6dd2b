-- What is left of a turn, done alone: it does not hang on cells that it does not touch, and it leaves those that it does
-- not write. Where it only updates a cell, another update of it that commutes can as well come before it.
use Rattle.std.proofs.Common.{◌≡◌, ◌⊎◌, inl, inr, ℕ, Bool, true, false, List, [], ◌∷◌, Option, Some, None, refl, sym, ◌∙◌, ap, subst}
use Rattle.std.specs.Prelude.{not, ◌&&◌, option_map, if◌then◌else◌}
use Rattle.std.specs.List.{list_any}
use mathlib.Core.Path.{fun_ext}
use Rattle.std.proofs.lemmas.Bool.{false≢true, and_from, or_left, or_right}
use Rattle.base.specs.declared.item.Cell.{Cell}
use Rattle.base.specs.declared.tree.CombineOp.{CombineOp}
use Rattle.base.specs.Memory.{View, same_cell}
use Rattle.base.specs.Value.{combined}
use Rattle.base.specs.Meaning.{Run}
use Rattle.base.specs.Footprint.{Touch, has_cell, reads, writes}
use Rattle.fine_machine.specs.Left.{Side, Left, Finished, Asks, Request, Answer, Load, Store, Combine}
use Rattle.fine_machine.specs.Action.{loaded}
use Rattle.fine_headline.proofs.RegionReaching.{same_cells}
use Rattle.fine_headline.proofs.Reaching.{map_parts}

-- an element of a list
pub data Member {A : Type 0} (x : A) : List A → Type 0 where
  first : (rest : List A) → Member x (x ∷ rest)
  later : (y : A) (rest : List A) → Member x rest → Member x (y ∷ rest)

pub any_member : {A : Type 0} (p : A → Bool) (x : A) (xs : List A) → Member x xs → p x ≡ true → list_any p xs ≡ true
any_member p x _ (first rest) h = or_left (p x) (list_any p rest) h
any_member p x _ (later y rest m) h = or_right (p y) (list_any p rest) (any_member p x rest m h)

pub member_none : {A : Type 0} (x : A) → Member x [] → ⊥
member_none x h = elim h [ ]

pub member_more : {A : Type 0} (x y : A) (ys : List A) → Member x (y ∷ ys) → (y ≡ x) ⊎ Member x ys
member_more x _ _ (first rest) = inl refl
member_more x _ _ (later y rest m) = inr m

-- a touch of the cell, of this sort: the load or the store of an update by an operator, or of no update
pub record IsTouched (is_write : Bool) (mark : Option CombineOp) (xs : List Touch) (c : Cell) : Type 0 where
  pub touch : Touch
  pub is_in : Member touch xs
  pub sort : touch.is_write ≡ is_write
  pub combines : touch.combines ≡ mark
  pub has : has_cell c touch ≡ true

abbrev pub Looks : Option CombineOp → List Touch → Cell → Type 0
Looks mark xs c = IsTouched false mark xs c

abbrev pub Changes : Option CombineOp → List Touch → Cell → Type 0
Changes mark xs c = IsTouched true mark xs c

pub looks_reads : (mark : Option CombineOp) (xs : List Touch) (c : Cell) → Looks mark xs c → reads xs c ≡ true
looks_reads mark xs c h =
    any_member (λ t. not t.is_write && has_cell c t) h.touch xs h.is_in
    (and_from (not h.touch.is_write) (has_cell c h.touch) (ap not h.sort) h.has)

pub changes_writes : (mark : Option CombineOp) (xs : List Touch) (c : Cell) → Changes mark xs c → writes xs c ≡ true
changes_writes mark xs c h =
    any_member (λ t. t.is_write && has_cell c t) h.touch xs h.is_in
    (and_from h.touch.is_write (has_cell c h.touch) h.sort h.has)

-- an action that changes a cell, and how
pub data Alters (side : Side) (xs : List Touch) : Request → Cell → (ℕ → ℕ) → Type 0 where
  by_store : (c : Cell) (n : ℕ) → Changes None xs c → Alters side xs (Store side c n) c (λ old. n)
  by_update : (op : CombineOp) (c : Cell) (n : ℕ) → Changes (Some op) xs c →
      Alters side xs (Combine side op c n) c (λ old. combined op old n)

pub alters_writes : (side : Side) (xs : List Touch) (r : Request) (c : Cell) (f : ℕ → ℕ) → Alters side xs r c f →
    writes xs c ≡ true
alters_writes side xs _ _ _ (by_store c n h) = changes_writes None xs c h
alters_writes side xs _ _ _ (by_update op c n h) = changes_writes (Some op) xs c h

-- the memory with one cell changed, where it is there
abbrev pub change_at : Cell → (ℕ → ℕ) → View → View
change_at c f v d = if same_cell c d then option_map f (v d) else v d

pub change_other : (c d : Cell) (f : ℕ → ℕ) (v : View) → same_cell c d ≡ false → change_at c f v d ≡ v d
change_other c d f v h = ap (λ b. if b then option_map f (v d) else v d) h

-- a cell is there before and after
pub there_before : (c d : Cell) (f : ℕ → ℕ) (v : View) (n : ℕ) → change_at c f v d ≡ Some n → (m : ℕ) × (v d ≡ Some m)
there_before c d f v n e = go (same_cell c d) e
  where
    go : (b : Bool) → (if b then option_map f (v d) else v d) ≡ Some n → (m : ℕ) × (v d ≡ Some m)
    go true e = let p = map_parts f (v d) n e in (p.0, p.1)
    go false e = (n, e)

pub there_after : (c d : Cell) (f : ℕ → ℕ) (v : View) (n : ℕ) → v d ≡ Some n → (m : ℕ) × (change_at c f v d ≡ Some m)
there_after c d f v n e = go (same_cell c d)
  where
    go : (b : Bool) → (m : ℕ) × ((if b then option_map f (v d) else v d) ≡ Some m)
    go true = (f n, ap (option_map f) e)
    go false = (n, e)

-- two changes come to the same in either order, where they do so of one cell
pub change_twice : (c d : Cell) (f g : ℕ → ℕ) (v : View) → (c ≡ d → (a : ℕ) → f (g a) ≡ g (f a)) →
    change_at d g (change_at c f v) ≡ change_at c f (change_at d g v)
change_twice c d f g v h = fun_ext (λ e. go e (same_cell c e) (same_cell d e) refl refl)
  where
    both : (o : Option ℕ) → ((a : ℕ) → f (g a) ≡ g (f a)) →
        option_map g (option_map f o) ≡ option_map f (option_map g o)
    both None k = refl
    both (Some a) k = ap Some (sym (k a))

    go : (e : Cell) (a b : Bool) → same_cell c e ≡ a → same_cell d e ≡ b →
        (if b then option_map g (if a then option_map f (v e) else v e) else (if a then option_map f (v e) else v e))
        ≡ (if a then option_map f (if b then option_map g (v e) else v e) else
        (if b then option_map g (v e) else v e))
    go e false false p q = refl
    go e false true p q = refl
    go e true false p q = refl
    go e true true p q = both (v e) (h (same_cells c e p ∙ sym (same_cells d e q)))

-- what is left of a turn touches no more than this, comes to its end, and makes of the one memory the other
pub data Alone (side : Side) (xs : List Touch) : Left → View → View → Type 0 where
  ended : (t : Run) (v : View) → Alone side xs (Finished t) v v
  loads : (c : Cell) (k : Answer → Left) (n : ℕ) (v w : View) → Looks None xs c → v c ≡ Some n →
      Alone side xs (k (loaded n)) v w → Alone side xs (Asks (Load side c) k) v w
  alters : (r : Request) (c : Cell) (f : ℕ → ℕ) (old : ℕ) (k : Answer → Left) (v w : View) → Alters side xs r c f →
      v c ≡ Some old → Alone side xs (k (loaded 0)) (change_at c f v) w → Alone side xs (Asks r k) v w

-- a change of a cell that is not looked at, and that commutes with each action that changes it
pub record Commutes (side : Side) (xs : List Touch) (c : Cell) (f : ℕ → ℕ) : Type 0 where
  pub unseen : Looks None xs c → ⊥
  pub free : (r : Request) (g : ℕ → ℕ) → Alters side xs r c g → (a : ℕ) → f (g a) ≡ g (f a)

module _ (side : Side) (xs : List Touch) where
  -- a cell that is not written stays
  pub alone_keeps : (l : Left) (v w : View) (c : Cell) → writes xs c ≡ false → Alone side xs l v w → w c ≡ v c
  alone_keeps _ _ _ c h (ended t v) = refl
  alone_keeps _ _ _ c h (loads d k n v w r e more) = alone_keeps (k (loaded n)) v w c h more
  alone_keeps _ _ _ c h (alters r d f old k v w is e more) =
      alone_keeps (k (loaded 0)) (change_at d f v) w c h more ∙ change_other d c f v (other (same_cell d c) refl)
    where
      other : (b : Bool) → same_cell d c ≡ b → b ≡ false
      other false e = refl
      other true e =
          absurd (false≢true (sym h ∙ (ap (writes xs) (sym (same_cells d c e)) ∙ alters_writes side xs r d f is)))

  -- a cell that is there in the end was there
  pub alone_has : (l : Left) (v w : View) (c : Cell) (n : ℕ) → Alone side xs l v w → w c ≡ Some n →
      (m : ℕ) × (v c ≡ Some m)
  alone_has _ _ _ c n (ended t v) h = (n, h)
  alone_has _ _ _ c n (loads d k m v w r e more) h = alone_has (k (loaded m)) v w c n more h
  alone_has _ _ _ c n (alters r d f old k v w is e more) h =
      let p = alone_has (k (loaded 0)) (change_at d f v) w c n more h in there_before d c f v p.0 p.1

  -- what is not looked at is another cell
  pub unseen_other : (c d : Cell) (f : ℕ → ℕ) → Commutes side xs c f → Looks None xs d → same_cell c d ≡ false
  unseen_other c d f clear l = go (same_cell c d) refl
    where
      go : (b : Bool) → same_cell c d ≡ b → b ≡ false
      go false e = refl
      go true e = absurd (clear.unseen (subst (Looks None xs) (sym (same_cells c d e)) l))

  -- both changes, in either order
  pub altered_twice : (c d : Cell) (f g : ℕ → ℕ) (r : Request) (v : View) → Commutes side xs c f →
      Alters side xs r d g → change_at d g (change_at c f v) ≡ change_at c f (change_at d g v)
  altered_twice c d f g r v clear is =
      change_twice c d f g v (λ e. clear.free r g (subst (λ x. Alters side xs r x g) (sym e) is))

  -- a change that commutes can as well come before
  pub alone_change : (l : Left) (v w : View) (c : Cell) (f : ℕ → ℕ) → Commutes side xs c f →
      Alone side xs l v w → Alone side xs l (change_at c f v) (change_at c f w)
  alone_change _ _ _ c f clear (ended t v) = ended t (change_at c f v)
  alone_change _ _ _ c f clear (loads d k m v w r e more) =
      loads d k m (change_at c f v) (change_at c f w) r (change_other c d f v (unseen_other c d f clear r) ∙ e)
      (alone_change (k (loaded m)) v w c f clear more)
  alone_change _ _ _ c f clear (alters r d g old k v w is e more) =
      let now = there_after c d f v old e in
      alters r d g now.0 k (change_at c f v) (change_at c f w) is now.1
      (subst (λ u. Alone side xs (k (loaded 0)) u (change_at c f w)) (sym (altered_twice c d f g r v clear is))
      (alone_change (k (loaded 0)) (change_at d g v) w c f clear more))
