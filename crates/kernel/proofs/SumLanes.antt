-- A block whose turns carry a scalar on.
use Rattle.std.proofs.Common.{◌≡◌, ℕ, zero, suc, ◌+◌, ◌-◌, ◌<◌, Bool, List, [], ◌∷◌, ◌++◌, length, Option, Some, None, refl, sym, ap, ap₂, ◌∙◌, arith, subst, if◌then◌else◌}
use Rattle.std.specs.Prelude.{slice_index, unwrap_or}
use Rattle.base.specs.declared.tree.ScalarId.{ScalarId}
use Rattle.base.specs.declared.tree.Expr.{Expr}
use Rattle.base.specs.declared.tree.Source.TheVariants.{Value}
use Rattle.base.specs.declared.tree.Stmt.{Stmt}
use Rattle.base.specs.declared.tree.Stmt.TheVariants.{Assign}
use Rattle.base.specs.Memory.{Scalars}
use Rattle.base.specs.Value.{binary, value}
use Rattle.base.specs.Meaning.{set_scalar}
use Rattle.lanes.specs.Apart.{Places, Block, block_body, block_stmt, names_at, numbers, set_lanes}
use Rattle.lanes.specs.There.{BodyThere, HasValues, StmtThere}
use Rattle.lanes.specs.Sums.{folded}
use Rattle.lanes.proofs.Carried.{set_twice, set_own}
use Rattle.kernel.specs.Forms.{IsCarriedOn, carried, with_sum}
use Rattle.kernel.specs.Offsets.{places_of}
use Rattle.kernel.specs.Lanes.{lane_scalars, inside_of, block_of, begun_block, IsBlock}
use Rattle.kernel.specs.Rows.{Parts}
use Rattle.kernel.specs.declared.turns.Lane.{Lane}
use Rattle.kernel.specs.declared.turns.Sum.{Sum}
use Rattle.kernel.specs.declared.turns.Turns.{Turns}
use Rattle.kernel.proofs.BlockLanes.{all_done, inside_at, none_assigned}
use Rattle.kernel.proofs.Parts.{takes_all}

body_more : (pl : Places) (inside : ℕ → Bool) (loops : List ℕ) (front : List Stmt) (last : Stmt) (b : Block) →
    block_body pl inside loops (front ++ last ∷ []) b ≡ block_stmt pl inside loops last (block_body pl inside loops front b)
body_more pl inside loops [] last b = refl
body_more pl inside loops (first ∷ rest) last b = body_more pl inside loops rest last (block_stmt pl inside loops first b)

there_parts : (pl : Places) (inside : ℕ → Bool) (loops : List ℕ) (front : List Stmt) (last : Stmt) (b : Block) →
    BodyThere pl inside loops (front ++ last ∷ []) b →
    BodyThere pl inside loops front b × StmtThere pl inside loops last (block_body pl inside loops front b)
there_parts pl inside loops [] last b h = (tt, h.0)
there_parts pl inside loops (first ∷ rest) last b h =
    let r = there_parts pl inside loops rest last (block_stmt pl inside loops first b) h.1 in
    ((h.0, r.0), r.1)

pub front_there : (pl : Places) (inside : ℕ → Bool) (loops : List ℕ) (front : List Stmt) (sum : Option Sum) (b : Block) →
    BodyThere pl inside loops (with_sum front sum) b → BodyThere pl inside loops front b
front_there pl inside loops front None b h = h
front_there pl inside loops front (Some s) b h = (there_parts pl inside loops front (Assign s.scalar (Value s.added.now)) b h).0

pub added_there : (pl : Places) (inside : ℕ → Bool) (loops : List ℕ) (front : List Stmt) (sum : Option Sum) (s : Sum) (b : Block) → sum ≡ Some s →
    BodyThere pl inside loops (with_sum front sum) b → HasValues inside loops s.added.now (block_body pl inside loops front b)
added_there pl inside loops front sum s b is h =
    (there_parts pl inside loops front (Assign s.scalar (Value s.added.now)) b
    (subst (λ o. BodyThere pl inside loops (with_sum front o) b) is h)).1

-- the same numbers, counted from another place, lead to the same
folded_along : (f : ℕ → ℕ → ℕ) (p q : ℕ → ℕ) (n a w v : ℕ) → ((k : ℕ) → k < n → p (w + k) ≡ q (v + k)) →
    folded f p a n w ≡ folded f q a n v
folded_along f p q zero a w v h = refl
folded_along f p q (suc n) a w v h =
    let here : w ≡ w + 0 = omega arith in
    let there : v ≡ v + 0 = omega arith in
    let first : p w ≡ q v = ap p here ∙ h 0 (omega arith) ∙ sym (ap q there) in
    ap (λ m. folded f p (f a m) n (w + 1)) first
    ∙ folded_along f p q n (f a (q v)) (w + 1) (v + 1) (λ k lt. next k lt)
  where
    next : (k : ℕ) → k < n → p (w + 1 + k) ≡ q (v + 1 + k)
    next k lt =
        let i : w + 1 + k ≡ w + suc k = omega arith in
        let j : v + 1 + k ≡ v + suc k = omega arith in
        ap p i ∙ h (suc k) (omega (arith, lt)) ∙ sym (ap q j)

-- a block in which a scalar is assigned last, with the number that is carried on in its place
module _ (at : Turns) (all : at.mask ≡ None) (b : Block) (x : ScalarId) (e : Expr) (f : ℕ → ℕ → ℕ) (a : ℕ) (ys : List ℕ) (size : length ys ≡ at.count)
    (given : (k : ℕ) → k < at.count → value e (names_at b at.outer.now (at.first + k)) ≡ Some (slice_index ys k)) where
  abbrev assigned : Block
  assigned = set_lanes (inside_of at) x.0 (numbers e b at.outer.now) b

  set_there : (k : ℕ) → k < at.count →
      assigned.scalars (at.first + k) ≡ set_scalar x.0 (slice_index ys k) (b.scalars (at.first + k))
  set_there k lt =
      ap (λ q. if q then set_scalar x.0 (numbers e b at.outer.now (at.first + k)) (b.scalars (at.first + k)) else b.scalars (at.first + k))
      (inside_at at k lt (takes_all at k all))
      ∙ ap (λ o. set_scalar x.0 (unwrap_or o 0) (b.scalars (at.first + k))) (given k lt)

  pub sum_is : folded f (λ w. assigned.scalars w x.0) a at.count at.first ≡ folded f (slice_index ys) a (length ys) 0
  sum_is =
      folded_along f (λ w. assigned.scalars w x.0) (slice_index ys) at.count a at.first 0
      (λ k lt. ap (λ (g : Scalars). g x.0) (set_there k lt) ∙ set_own x.0 (slice_index ys k) (b.scalars (at.first + k)) ∙ ap (slice_index ys) (none k))
      ∙ sym (ap (λ n. folded f (slice_index ys) a n 0) size)
    where
      none : (k : ℕ) → k ≡ 0 + k
      none k = omega arith

-- after the last statement, and the sum
pub sum_done : (at : Turns) (all : at.mask ≡ None) (front : List Stmt) (s : Sum) (lanes lanes' slice : List Lane) (rows rows' : List Parts)
    (scalars scalars' : List ℕ) (n : ℕ) → lanes ≡ [] →
    block_of at lanes' rows' ≡ block_body (places_of at.offset) (inside_of at) at.outer.now front (block_of at lanes rows) → slice ≡ lanes' →
    slice_index scalars ≡ lane_scalars slice (slice_index at.scalars.now) (at.count - 1) →
    IsCarriedOn at.first at.count at.outer.now at.scalars.now (block_of at lanes' rows') s n → slice_index scalars' ≡ set_scalar s.scalar.0 n (slice_index scalars) →
    IsBlock (carried (Some s) (slice_index at.scalars.now) at.first at.count
    (block_body (places_of at.offset) (inside_of at) at.outer.now (with_sum front (Some s)) (begun_block at.scalars.now rows))) (at.first + (at.count - 1)) scalars' rows'
sum_done at all front s lanes lanes' slice rows rows' scalars scalars' n none is same last sum took =
    subst (λ (c : Block). IsBlock (carried (Some s) (slice_index at.scalars.now) at.first at.count c) (at.first + (at.count - 1)) scalars' rows')
    (sym (body_more (places_of at.offset) (inside_of at) at.outer.now front (Assign s.scalar (Value s.added.now)) (begun_block at.scalars.now rows)))
    (record {
      scalars =
          took
          ∙ ap₂ (λ m (g : Scalars). set_scalar s.scalar.0 m g) (sum.is ∙ sym number) d.scalars
          ∙ sym (set_twice s.scalar.0 (slice_index sum.numbers (at.count - 1)) total (b.scalars (at.first + (at.count - 1))))
          ∙ sym (ap (λ (g : Scalars). set_scalar s.scalar.0 total g) (set_there at all b s.scalar s.added.now (binary s.op) before sum.numbers sum.size here (at.count - 1) below));
      cells = d.cells;
      stored = d.stored;
    })
  where
    b : Block
    b = block_body (places_of at.offset) (inside_of at) at.outer.now front (begun_block at.scalars.now rows)

    d : IsBlock b (at.first + (at.count - 1)) scalars rows'
    d = all_done at front lanes lanes' slice rows rows' scalars none is same last

    whole : block_of at lanes' rows' ≡ b
    whole =
        is ∙ ap (block_body (places_of at.offset) (inside_of at) at.outer.now front) (ap (λ (ls : List Lane). block_of at ls rows) none ∙ none_assigned at rows)

    here : (k : ℕ) → k < at.count → value s.added.now (names_at b at.outer.now (at.first + k)) ≡ Some (slice_index sum.numbers k)
    here k lt = ap (λ (c : Block). value s.added.now (names_at c at.outer.now (at.first + k))) (sym whole) ∙ sum.each k lt

    before : ℕ
    before = slice_index at.scalars.now s.scalar.0

    total : ℕ
    total = folded (binary s.op) (λ w. (assigned at all b s.scalar s.added.now (binary s.op) before sum.numbers sum.size here).scalars w s.scalar.0) before at.count at.first

    number : total ≡ folded (binary s.op) (slice_index sum.numbers) before (length sum.numbers) 0
    number = sum_is at all b s.scalar s.added.now (binary s.op) before sum.numbers sum.size here

    below : at.count - 1 < at.count
    below = let some = at.some in omega arith

-- what is added has a value in each turn
pub added_at : (at : Turns) (front : List Stmt) (sum : Option Sum) (s : Sum) (lanes lanes' slice : List Lane) (rows rows' : List Parts) →
    sum ≡ Some s → lanes ≡ [] →
    block_of at lanes' rows' ≡ block_body (places_of at.offset) (inside_of at) at.outer.now front (block_of at lanes rows) → slice ≡ lanes' →
    BodyThere (places_of at.offset) (inside_of at) at.outer.now (with_sum front sum) (begun_block at.scalars.now rows) →
    HasValues (inside_of at) at.outer.now s.added.now (block_of at slice rows')
added_at at front sum s lanes lanes' slice rows rows' is none block same h =
    subst (λ (b : Block). HasValues (inside_of at) at.outer.now s.added.now b)
    (sym (ap (λ (ls : List Lane). block_of at ls rows') same ∙ block
    ∙ ap (block_body (places_of at.offset) (inside_of at) at.outer.now front) (ap (λ (ls : List Lane). block_of at ls rows) none ∙ none_assigned at rows)))
    (added_there (places_of at.offset) (inside_of at) at.outer.now front sum s (begun_block at.scalars.now rows) is h)

-- a block in its form
pub formed : (sum other : Option Sum) (pl : Places) (inside : ℕ → Bool) (outer : List ℕ) (front : List Stmt) (before : Scalars) (first count last : ℕ)
    (begun : Block) (scalars scalars' : List ℕ) (rows : List Parts) → sum ≡ other → scalars' ≡ scalars →
    IsBlock (carried other before first count (block_body pl inside outer (with_sum front other) begun)) last scalars rows →
    IsBlock (carried sum before first count (block_body pl inside outer (with_sum front sum) begun)) last scalars' rows
formed sum other pl inside outer front before first count last begun scalars scalars' rows is same h =
    subst (λ (o : Option Sum). IsBlock (carried o before first count (block_body pl inside outer (with_sum front o) begun)) last scalars' rows) (sym is)
    (subst (λ (xs : List ℕ). IsBlock (carried other before first count (block_body pl inside outer (with_sum front other) begun)) last xs rows) (sym same) h)
