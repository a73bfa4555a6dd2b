-- A statement for the turns of a block that take part.
use Rattle.std.proofs.Common.{◌≡◌, ℕ, ◌+◌, ◌-◌, ◌<◌, ◌==◌, Bool, true, false, List, [], ◌∷◌, ◌++◌, length, Some, refl, sym, ap, ap₂, ◌∙◌, arith, subst, if◌then◌else◌}
use Rattle.std.specs.Prelude.{◌&&◌, not, nat_le, nat_lt, slice_index, slice_index_or, unwrap_or, Option, None}
use Rattle.std.proofs.lemmas.Bool.{and_parts}
use Rattle.std.proofs.Common.{eqb-true, leb-true, ltb-true}
use mathlib.Core.Path.{fun_ext}
use Rattle.base.specs.declared.item.Cell.{Cell}
use Rattle.base.specs.declared.tree.ArrayId.{ArrayId}
use Rattle.base.specs.declared.tree.Expr.{Expr}
use Rattle.base.specs.declared.tree.Stmt.{Stmt}
use Rattle.base.specs.Memory.{View, Scalars}
use Rattle.base.specs.Value.{is_zero, value}
use Rattle.base.specs.Meaning.{set_scalar}
use Rattle.lanes.specs.Apart.{Places, Block, block_body, in_block, names_at, numbers, set_lanes, where_false, where_true, with_lanes}
use Rattle.lanes.specs.There.{BodyThere, HasValues}
use Rattle.kernel.specs.Masks.{IsMask}
use Rattle.kernel.specs.Offsets.{moved_by, places_of}
use Rattle.kernel.specs.Rows.{cells_kept, parts_stored}
use Rattle.kernel.specs.Lanes.{Agrees, AreAssigned, AreNumbersOf, AreValues, IsBlock, IsPart, IsStoredIn, lane_scalars, names_of, inside_of, masked, takes_part, block_of, stored_lanes, begun_block}
use Rattle.kernel.specs.Rows.{Parts}
use Rattle.kernel.specs.declared.turns.Lane.{Lane}
use Rattle.kernel.specs.declared.turns.Turns.{Turns}
use Rattle.kernel.specs.declared.turns.Reads.{Reads}
use Rattle.kernel.proofs.Agreements.{agrees_there}
use Rattle.kernel.proofs.Offsets.{place_in, run_same}
use Rattle.kernel.proofs.Parts.{takes_all}

in_place : (first count v : ℕ) → in_block first count v ≡ true → (v - first < count) × (first + (v - first) ≡ v)
in_place first count v h =
    let p = and_parts (nat_le first v) (nat_lt v (first + count)) h in
    let low = leb-true first v p.0 in
    let high = ltb-true v (first + count) p.1 in
    (omega arith, omega arith)

-- what a turn sees, by its place and by its number
pub names_same : (b : Reads) (k : ℕ) → k < b.at.now.count →
    names_at (block_of b.at.now b.lanes.now b.rows.now) b.at.now.outer.now (b.at.now.first + k) ≡ names_of b k
names_same b k h =
    let at = b.at.now in
    let i = place_in at.first at.count k h in
    let less : at.first + k - at.first ≡ k = omega arith in
    let same : (block_of at b.lanes.now b.rows.now).scalars (at.first + k) ≡ lane_scalars b.lanes.now (slice_index at.scalars.now) k =
    ap (λ q. if q then lane_scalars b.lanes.now (slice_index at.scalars.now) (at.first + k - at.first) else slice_index at.scalars.now) i
    ∙ ap (lane_scalars b.lanes.now (slice_index at.scalars.now)) less in
    ap (λ (f : Scalars). record { scalars = f; loops = at.outer.now ++ (at.first + k) ∷ []; cells = cells_kept b.rows.now }) same

-- a turn that takes part, by its place and by its number
pub inside_at : (at : Turns) (k : ℕ) → k < at.count → takes_part at k ≡ true → inside_of at (at.first + k) ≡ true
inside_at at k lt part =
    let less : at.first + k - at.first ≡ k = omega arith in
    ap (λ j. takes_part at j && in_block at.first at.count (at.first + k)) less
    ∙ ap₂ (λ p q. p && q) part (place_in at.first at.count k lt)

-- what was evaluated
pub numbers_of : (b : Reads) (e : Expr) (ys : List ℕ) →
    HasValues (inside_of b.at.now) b.at.now.outer.now e (block_of b.at.now b.lanes.now b.rows.now) →
    length ys ≡ b.at.now.count → AreValues e b ys → AreNumbersOf b.at.now e (block_of b.at.now b.lanes.now b.rows.now) ys
numbers_of b e ys there size values k lt part =
    let at = b.at.now in
    let w = ap (value e) (names_same b k lt) in
    let some = there (at.first + k) (inside_at at k lt part) in
    agrees_there (value e (names_at (block_of at b.lanes.now b.rows.now) at.outer.now (at.first + k))) (slice_index ys k)
    (subst (λ (o : Option ℕ). Agrees o (slice_index ys k)) (sym w) (values k (omega arith))) some

number_is : (at : Turns) (e : Expr) (b : Block) (ys : List ℕ) → AreNumbersOf at e b ys → (v : ℕ) →
    inside_of at v ≡ true → numbers e b at.outer.now v ≡ slice_index ys (v - at.first)
number_is at e b ys given v i =
    let l = and_parts (takes_part at (v - at.first)) (in_block at.first at.count v) i in
    let p = in_place at.first at.count v l.1 in
    ap (λ w. numbers e b at.outer.now w) (sym p.1)
    ∙ ap (λ o. unwrap_or o 0) (given (v - at.first) p.0 l.0)

-- numbers of an expression, which all turns assign
pub all_assigned : (at : Turns) (x : ℕ) (e : Expr) (lanes : List Lane) (b : Block) (ys : List ℕ) → at.mask ≡ None →
    AreNumbersOf at e b ys → AreAssigned at x e lanes b ys
all_assigned at x e lanes b ys none given k lt =
    let all = takes_all at k none in
    sym (ap (λ o. unwrap_or o 0) (given k lt all))
    ∙ sym (ap (λ q. if q then numbers e b at.outer.now (at.first + k) else lane_scalars lanes (slice_index at.scalars.now) k x) all)

-- and those that some turns assign
pub some_assigned : (at : Turns) (x : ℕ) (e : Expr) (lanes : List Lane) (b : Block) (ys others new : List ℕ) (mask : List Bool) →
    ((k : ℕ) → takes_part at k ≡ slice_index_or mask k false) → AreNumbersOf at e b ys →
    ((k : ℕ) → k < at.count → slice_index others k ≡ lane_scalars lanes (slice_index at.scalars.now) k x) →
    ((k : ℕ) → k < at.count → slice_index new k ≡ (if slice_index_or mask k false then slice_index ys k else slice_index others k)) →
    AreAssigned at x e lanes b new
some_assigned at x e lanes b ys others new mask same given left is k lt =
    is k lt ∙ ap (λ q. if q then slice_index ys k else slice_index others k) (sym (same k)) ∙ go (takes_part at k) refl
  where
    go : (q : Bool) → takes_part at k ≡ q → (if q then slice_index ys k else slice_index others k)
        ≡ (if q then numbers e b at.outer.now (at.first + k) else lane_scalars lanes (slice_index at.scalars.now) k x)
    go true part = sym (ap (λ o. unwrap_or o 0) (given k lt part))
    go false part = left k lt

set_same : (x : ℕ) (f : Scalars) → set_scalar x (f x) f ≡ f
set_same x f = fun_ext (λ (y : ℕ). go y (x == y) refl)
  where
    go : (y : ℕ) (q : Bool) → (x == y) ≡ q → (if q then f x else f y) ≡ f y
    go y true e = ap f (eqb-true x y e)
    go y false e = refl

-- a scalar that the turns of the block assign that take part
pub assigned_block : (at : Turns) (lanes : List Lane) (rows : List Parts) (e : Expr) (l : Lane) →
    AreAssigned at l.scalar.0 e lanes (block_of at lanes rows) l.numbers.items →
    block_of at (l ∷ lanes) rows
    ≡ set_lanes (inside_of at) l.scalar.0 (numbers e (block_of at lanes rows) at.outer.now) (block_of at lanes rows)
assigned_block at lanes rows e l given =
    ap (λ (f : ℕ → Scalars). record (block_of at lanes rows) { scalars = f })
    (fun_ext (λ (v : ℕ). go v (in_block at.first at.count v) refl))
  where
    now : (v : ℕ) (p : Bool) → in_block at.first at.count v ≡ true → takes_part at (v - at.first) ≡ p →
        set_scalar l.scalar.0 (slice_index l.numbers.items (v - at.first)) (lane_scalars lanes (slice_index at.scalars.now) (v - at.first))
        ≡ (if p then set_scalar l.scalar.0 (numbers e (block_of at lanes rows) at.outer.now v) (lane_scalars lanes (slice_index at.scalars.now) (v - at.first))
        else lane_scalars lanes (slice_index at.scalars.now) (v - at.first))
    now v p i part = by p part
      where
        place : (v - at.first < at.count) × (at.first + (v - at.first) ≡ v)
        place = in_place at.first at.count v i

        by : (p : Bool) → takes_part at (v - at.first) ≡ p →
            set_scalar l.scalar.0 (slice_index l.numbers.items (v - at.first)) (lane_scalars lanes (slice_index at.scalars.now) (v - at.first))
            ≡ (if p then set_scalar l.scalar.0 (numbers e (block_of at lanes rows) at.outer.now v) (lane_scalars lanes (slice_index at.scalars.now) (v - at.first))
            else lane_scalars lanes (slice_index at.scalars.now) (v - at.first))
        by true part =
            ap (λ n. set_scalar l.scalar.0 n (lane_scalars lanes (slice_index at.scalars.now) (v - at.first)))
            (given (v - at.first) place.0
            ∙ ap (λ q. if q then numbers e (block_of at lanes rows) at.outer.now (at.first + (v - at.first))
            else lane_scalars lanes (slice_index at.scalars.now) (v - at.first) l.scalar.0) part
            ∙ ap (numbers e (block_of at lanes rows) at.outer.now) place.1)
        by false part =
            ap (λ n. set_scalar l.scalar.0 n (lane_scalars lanes (slice_index at.scalars.now) (v - at.first)))
            (given (v - at.first) place.0
            ∙ ap (λ q. if q then numbers e (block_of at lanes rows) at.outer.now (at.first + (v - at.first))
            else lane_scalars lanes (slice_index at.scalars.now) (v - at.first) l.scalar.0) part)
            ∙ set_same l.scalar.0 (lane_scalars lanes (slice_index at.scalars.now) (v - at.first))

    none : (p : Bool) → (p && false) ≡ false
    none true = refl
    none false = refl

    go : (v : ℕ) (q : Bool) → in_block at.first at.count v ≡ q →
        (if q then lane_scalars (l ∷ lanes) (slice_index at.scalars.now) (v - at.first) else slice_index at.scalars.now)
        ≡ (if takes_part at (v - at.first) && q
        then set_scalar l.scalar.0 (numbers e (block_of at lanes rows) at.outer.now v) (if q then lane_scalars lanes (slice_index at.scalars.now) (v - at.first) else slice_index at.scalars.now)
        else if q then lane_scalars lanes (slice_index at.scalars.now) (v - at.first) else slice_index at.scalars.now)
    go v true i = now v (takes_part at (v - at.first)) i refl ∙ both (takes_part at (v - at.first))
      where
        both : (p : Bool) →
            (if p then set_scalar l.scalar.0 (numbers e (block_of at lanes rows) at.outer.now v) (lane_scalars lanes (slice_index at.scalars.now) (v - at.first))
            else lane_scalars lanes (slice_index at.scalars.now) (v - at.first))
            ≡ (if p && true then set_scalar l.scalar.0 (numbers e (block_of at lanes rows) at.outer.now v) (lane_scalars lanes (slice_index at.scalars.now) (v - at.first))
            else lane_scalars lanes (slice_index at.scalars.now) (v - at.first))
        both true = refl
        both false = refl
    go v false i =
        sym (ap (λ q. if q then set_scalar l.scalar.0 (numbers e (block_of at lanes rows) at.outer.now v) (slice_index at.scalars.now) else slice_index at.scalars.now)
        (none (takes_part at (v - at.first))))

lanes_same : (pl : Places) (inside : ℕ → Bool) (a : ℕ) (n m : ℕ → ℕ) (view : View) →
    ((v : ℕ) → inside v ≡ true → n v ≡ m v) →
    with_lanes pl inside a n view ≡ with_lanes pl inside a m view
lanes_same pl inside a n m view h =
    fun_ext (λ (c : Cell). go c (pl.turn_of c.index) (a == c.array.0) (inside (pl.turn_of c.index)) refl)
  where
    go : (c : Cell) (v : ℕ) (p q : Bool) → inside v ≡ q →
        (if p && q then Some (n v) else view c) ≡ (if p && q then Some (m v) else view c)
    go c v true true i = ap Some (h v i)
    go c v true false i = refl
    go c v false q i = refl

-- cells that the turns of the block store that take part
pub stored_block : (at : Turns) (lanes : List Lane) (rows rows' : List Parts) (a : ArrayId) (e : Expr) (xs ys : List ℕ) →
    xs ≡ ys → AreNumbersOf at e (block_of at lanes rows) ys →
    IsStoredIn (takes_part at) (moved_by at.offset + at.first) at.count a.0 (slice_index xs) (cells_kept rows) (cells_kept rows') →
    IsStoredIn (takes_part at) (moved_by at.offset + at.first) at.count a.0 (slice_index xs) (parts_stored rows) (parts_stored rows') →
    block_of at lanes rows' ≡ stored_lanes (places_of at.offset) (inside_of at) at.outer.now a.0 e (block_of at lanes rows)
stored_block at lanes rows rows' a e xs ys same given cells stored =
    ap₂ (λ (p q : View). record (block_of at lanes rows) { cells = p; stored = q }) (now (cells_kept rows) cells) (now (parts_stored rows) stored)
  where
    now : {new : View} (old : View) →
        IsStoredIn (takes_part at) (moved_by at.offset + at.first) at.count a.0 (slice_index xs) old new →
        new ≡ with_lanes (places_of at.offset) (inside_of at) a.0 (numbers e (block_of at lanes rows) at.outer.now) old
    now {new} old is =
        is ∙ run_same (takes_part at) at.offset at.first at.count a.0 (slice_index xs) old at.no_wrap
        ∙ lanes_same (places_of at.offset) (inside_of at) a.0 (λ v. slice_index xs (v - at.first)) (numbers e (block_of at lanes rows) at.outer.now) old
        (λ v i. ap (λ zs. slice_index zs (v - at.first)) same ∙ sym (number_is at e (block_of at lanes rows) ys given v i))

-- the turns of a mask are those in which the number of a condition is not 0, or those in which it is
module _ (at : Turns) (c : Expr) (b : Block) (ys : List ℕ) (given : AreNumbersOf at c b ys) (mask : List Bool) where
  narrowed : (holds : ℕ → Bool) → ((k : ℕ) → k < at.count → slice_index_or mask k false ≡ (takes_part at k && holds (slice_index ys k))) →
      (v : ℕ) → masked at mask v ≡ (inside_of at v && holds (numbers c b at.outer.now v))
  narrowed holds is v = go (in_block at.first at.count v) refl
    where
      none : (p : Bool) (q : Bool) → (p && false) ≡ ((q && false) && holds (numbers c b at.outer.now v))
      none true true = refl
      none true false = refl
      none false true = refl
      none false false = refl

      by : in_block at.first at.count v ≡ true → (p : Bool) → takes_part at (v - at.first) ≡ p →
          ((p && holds (slice_index ys (v - at.first))) && true) ≡ ((p && true) && holds (numbers c b at.outer.now v))
      by i false part = refl
      by i true part =
          one (holds (slice_index ys (v - at.first)))
          ∙ sym (ap holds (number_is at c b ys given v (ap₂ (λ p q. p && q) part i)))
        where
          one : (q : Bool) → (q && true) ≡ q
          one true = refl
          one false = refl

      go : (q : Bool) → in_block at.first at.count v ≡ q →
          (slice_index_or mask (v - at.first) false && q) ≡ ((takes_part at (v - at.first) && q) && holds (numbers c b at.outer.now v))
      go false i = none (slice_index_or mask (v - at.first) false) (takes_part at (v - at.first))
      go true i =
          ap (λ p. p && true) (is (v - at.first) (in_place at.first at.count v i).0)
          ∙ by i (takes_part at (v - at.first)) refl

  pub chosen_are : IsMask at.count (λ k. takes_part at k && not (is_zero (slice_index ys k))) mask →
      IsPart at mask (where_true (inside_of at) c b at.outer.now)
  chosen_are h = record { size = h.size; is = fun_ext (narrowed (λ n. not (is_zero n)) h.each) }

  pub others_are : IsMask at.count (λ k. takes_part at k && is_zero (slice_index ys k)) mask →
      IsPart at mask (where_false (inside_of at) c b at.outer.now)
  others_are h = record { size = h.size; is = fun_ext (narrowed is_zero h.each) }

-- before the first statement
pub none_assigned : (at : Turns) (rows : List Parts) → block_of at [] rows ≡ begun_block at.scalars.now rows
none_assigned at rows =
    ap (λ (f : ℕ → Scalars). record (begun_block at.scalars.now rows) { scalars = f })
    (fun_ext (λ (v : ℕ). go (in_block at.first at.count v)))
  where
    go : (q : Bool) → (if q then slice_index at.scalars.now else slice_index at.scalars.now) ≡ slice_index at.scalars.now
    go true = refl
    go false = refl

pub begin_there : (at : Turns) (body : List Stmt) (lanes : List Lane) (rows : List Parts) → lanes ≡ [] →
    BodyThere (places_of at.offset) (inside_of at) at.outer.now body (begun_block at.scalars.now rows) →
    BodyThere (places_of at.offset) (inside_of at) at.outer.now body (block_of at lanes rows)
begin_there at body lanes rows none h =
    subst (λ (b : Block). BodyThere (places_of at.offset) (inside_of at) at.outer.now body b)
    (sym (ap (λ (ls : List Lane). block_of at ls rows) none ∙ none_assigned at rows)) h

-- after the last one, with the scalars of the last turn
pub all_done : (at : Turns) (body : List Stmt) (lanes lanes' slice : List Lane) (rows rows' : List Parts) (scalars : List ℕ) →
    lanes ≡ [] → block_of at lanes' rows' ≡ block_body (places_of at.offset) (inside_of at) at.outer.now body (block_of at lanes rows) → slice ≡ lanes' →
    slice_index scalars ≡ lane_scalars slice (slice_index at.scalars.now) (at.count - 1) →
    IsBlock (block_body (places_of at.offset) (inside_of at) at.outer.now body (begun_block at.scalars.now rows)) (at.first + (at.count - 1)) scalars rows'
all_done at body lanes lanes' slice rows rows' scalars none is same last =
    let some = at.some in
    let below : at.count - 1 < at.count = omega arith in
    let less : at.first + (at.count - 1) - at.first ≡ at.count - 1 = omega arith in
    let i = place_in at.first at.count (at.count - 1) below in
    let whole = is ∙ ap (block_body (places_of at.offset) (inside_of at) at.outer.now body)
    (ap (λ (ls : List Lane). block_of at ls rows) none ∙ none_assigned at rows) in
    record {
      scalars =
          last ∙ ap (λ (ls : List Lane). lane_scalars ls (slice_index at.scalars.now) (at.count - 1)) same
          ∙ ap (lane_scalars lanes' (slice_index at.scalars.now)) (sym less)
          ∙ sym (ap (λ q. if q then lane_scalars lanes' (slice_index at.scalars.now) (at.first + (at.count - 1) - at.first) else slice_index at.scalars.now) i)
          ∙ ap (λ (c : Block). c.scalars (at.first + (at.count - 1))) whole;
      cells = ap (λ (c : Block). c.cells) whole;
      stored = ap (λ (c : Block). c.stored) whole;
    }
