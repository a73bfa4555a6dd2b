-- A turn each of whose cells is there comes to its end, from whatever scalars.
use Rattle.std.proofs.Common.{◌≡◌, ◌⊎◌, ℕ, ◌<◌, ◌≤◌, ◌^◌, Bool, true, false, List, [], ◌∷◌, Some, None, arith, refl, sym, ◌∙◌, ap, inl, inr}
use Rattle.std.specs.Prelude.{not, ◌&&◌, ◌||◌, nat_le, ◌==◌}
use mathlib.Core.Path.{fun_ext}
use Rattle.std.proofs.lemmas.Bool.{false≢true, and_from, and_parts, or_left, or_right, or_from, eq-eqb, le-leb, leb-true, false_from_ne_true}
use Rattle.std.proofs.lemmas.Option.{none-some}
use Rattle.base.specs.declared.item.Cell.{Cell}
use Rattle.base.specs.Memory.{View, Scalars}
use Rattle.base.specs.Value.{combined}
use Rattle.base.specs.Footprint.{Touch, has_cell, reads, writes}
use Rattle.base.specs.Turns.{Turn, turn_touches}
use Rattle.fine_machine.specs.Left.{Left, Finished, Asks, Request, Answer, Load, Store, Combine, OnDevice, turn_left}
use Rattle.fine_machine.specs.Action.{loaded}
use Rattle.regions.specs.Footprints.{BoundedScalars}
use Rattle.regions.proofs.Intervals.{combined_small}
use Rattle.regions.proofs.Needs.{Every}
use Rattle.regions.proofs.StatementsDone.{AllSmall, SmallView}
use Rattle.fine_headline.proofs.Regional.{list_all}
use Rattle.fine_headline.proofs.Alone.{Looks, Changes, looks_reads, Alters, by_store, by_update, alters_writes, change_at, there_after, Alone, ended, loads, alters, alone_keeps}
use Rattle.fine_headline.proofs.TurnAlone.{begins, change_small, turn_allowed}

-- the memory has each cell of a touch
abbrev pub Has : View → Touch → Type 0
Has v t = (c : Cell) → has_cell c t ≡ true → (n : ℕ) × (v c ≡ Some n)

-- the memory has each cell that is touched
abbrev pub HasAll : View → List Touch → Type 0
HasAll v xs = (c : Cell) → (reads xs c ≡ true) ⊎ (writes xs c ≡ true) → (n : ℕ) × (v c ≡ Some n)

touched : (b h rest : Bool) → (b && h || rest) ≡ true → {A : Type 0} → (h ≡ true → A) → (rest ≡ true → A) → A
touched true true rest e f g = f refl
touched true false rest e f g = g e
touched false h rest e f g = g e

pub has_all : (v : View) (xs : List Touch) → Every (Has v) xs → HasAll v xs
has_all v [] h c (inl e) = absurd (false≢true e)
has_all v [] h c (inr e) = absurd (false≢true e)
has_all v (t ∷ xs) h c (inl e) =
    touched (not t.is_write) (has_cell c t) (reads xs c) e (h.0 c) (λ e. has_all v xs h.1 c (inl e))
has_all v (t ∷ xs) h c (inr e) =
    touched t.is_write (has_cell c t) (writes xs c) e (h.0 c) (λ e. has_all v xs h.1 c (inr e))

module _ (xs : List Touch) where
  abbrev IsTotal : Left → Type 0
  IsTotal l = (v : View) → HasAll v xs → SmallView v → (w : View) × Alone OnDevice xs l v w

  loads_total : (c : Cell) (k : Answer → Left) → Looks None xs c →
      ((a : Answer) → a.number < 2 ^ 64 → IsTotal (k a)) → IsTotal (Asks (Load OnDevice c) k)
  loads_total c k h each v has small =
      let n = has c (inl (looks_reads None xs c h)) in
      let rest = each (loaded n.0) (small c n.0 n.1) v has small in
      (rest.0, loads c k n.0 v rest.0 h n.1 rest.1)

  alters_total : (r : Request) (c : Cell) (f : ℕ → ℕ) (k : Answer → Left) → Alters OnDevice xs r c f →
      ((a : ℕ) → a < 2 ^ 64 → f a < 2 ^ 64) → ((a : Answer) → IsTotal (k a)) → IsTotal (Asks r k)
  alters_total r c f k h below each v has small =
      let old = has c (inr (alters_writes OnDevice xs r c f h)) in
      let rest = each (loaded 0) (change_at c f v) (λ d e. let p = has d e in there_after c d f v p.0 p.1)
      (change_small c f v small below) in
      (rest.0, alters r c f old.0 k v rest.0 h old.1 rest.1)

-- from any scalars below 2^64
pub turn_total : (t : Turn) (scalars : Scalars) (v : View) → BoundedScalars scalars → AllSmall t.loops →
    HasAll v (turn_touches t) → SmallView v →
    (w : View) × Alone OnDevice (turn_touches t) (turn_left (begins scalars) t) v w
turn_total t scalars v bounded loops has small =
    list_all (λ mark. Looks mark (turn_touches t)) (λ mark. Changes mark (turn_touches t)) OnDevice
    (IsTotal (turn_touches t)) (loads_total (turn_touches t))
    (λ c n k h below each. alters_total (turn_touches t) (Store OnDevice c n) c (λ old. n) k (by_store c n h)
    (λ a _. below) each)
    (λ op c n k h below each. alters_total (turn_touches t) (Combine OnDevice op c n) c (λ old. combined op old n) k
    (by_update op c n h) (λ a small. combined_small op a n small below) each)
    t.body t.loops loops (turn_allowed (turn_touches t)) (begins scalars) Finished
    (record { scalars = bounded; input = tt; stores = λ c n e. absurd (none-some n e) })
    (λ u f v has small. (v, ended u v)) v has small

-- a turn that writes no cell leaves the memory as it is
pub reads_only : (t : Turn) (l : Left) (v w : View) → ((c : Cell) → writes (turn_touches t) c ≡ false) →
    Alone OnDevice (turn_touches t) l v w → w ≡ v
reads_only t l v w h a = fun_ext (λ c. alone_keeps OnDevice (turn_touches t) l v w c (h c) a)

no_cell : (t : Touch) → nat_le t.cells.lo t.cells.hi ≡ false → (c : Cell) → has_cell c t ≡ false
no_cell t h c = false_from_ne_true (has_cell c t) (λ e. let p = and_parts (t.array.0 == c.array.0) _ e in
    let q = and_parts (nat_le t.cells.lo c.index) (nat_le c.index t.cells.hi) p.1 in
    false≢true (sym h ∙ le-leb t.cells.lo t.cells.hi (through t.cells.lo c.index t.cells.hi
    (leb-true t.cells.lo c.index q.0) (leb-true c.index t.cells.hi q.1))))
  where
    through : (a b c : ℕ) → a ≤ b → b ≤ c → a ≤ c
    through a b c h k = omega arith

-- the turn writes some cell, or none
pub some_cell : (xs : List Touch) → ((c : Cell) × (writes xs c ≡ true)) ⊎ ((c : Cell) → writes xs c ≡ false)
some_cell [] = inr (λ c. refl)
some_cell (t ∷ xs) = go t.is_write (nat_le t.cells.lo t.cells.hi) refl refl (some_cell xs)
  where
    none : ((c : Cell) → (t.is_write && has_cell c t) ≡ false) →
        ((c : Cell) × (writes xs c ≡ true)) ⊎ ((c : Cell) → writes xs c ≡ false) →
        ((c : Cell) × (writes (t ∷ xs) c ≡ true)) ⊎ ((c : Cell) → writes (t ∷ xs) c ≡ false)
    none h (inl p) = inl (p.0, or_right (t.is_write && has_cell p.0 t) (writes xs p.0) p.1)
    none h (inr n) = inr (λ c. or_from (t.is_write && has_cell c t) (writes xs c) (h c) (n c))

    go : (b s : Bool) → t.is_write ≡ b → nat_le t.cells.lo t.cells.hi ≡ s →
        ((c : Cell) × (writes xs c ≡ true)) ⊎ ((c : Cell) → writes xs c ≡ false) →
        ((c : Cell) × (writes (t ∷ xs) c ≡ true)) ⊎ ((c : Cell) → writes (t ∷ xs) c ≡ false)
    go false s e f rest = none (λ c. ap (λ b. b && has_cell c t) e) rest
    go true false e f rest =
        none (λ c. false_from_ne_true _ (λ h. false≢true (sym (no_cell t f c) ∙ (and_parts t.is_write (has_cell c t) h).1)))
        rest
    go true true e f rest =
        let c : Cell = record { array = t.array; index = t.cells.lo } in
        inl (
          c,
          or_left (t.is_write && has_cell c t) (writes xs c) (and_from t.is_write (has_cell c t) e
              (and_from (t.array.0 == t.array.0) _ (eq-eqb t.array.0 t.array.0 refl)
              (and_from (nat_le t.cells.lo t.cells.lo) (nat_le t.cells.lo t.cells.hi)
              (le-leb t.cells.lo t.cells.lo (itself t.cells.lo)) f))),
        )
      where
        itself : (n : ℕ) → n ≤ n
        itself n = omega arith
