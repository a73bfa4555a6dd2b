-- Touches of different cells may be seen in either order.
use Rattle.std.proofs.Common.{◌≡◌, ℕ, Bool, true, false, List, [], ◌∷◌, refl, sym, ap, ◌∙◌}
use Rattle.std.specs.Prelude.{◌&&◌, ◌||◌, not, cond}
use Rattle.base.specs.declared.item.Cell.{Cell}
use Rattle.base.specs.Interval.{is_single}
use Rattle.base.specs.Footprint.{Touch}
use Rattle.ranges.specs.Cells.{is_among}
use Rattle.ranges.specs.Seen.{Seen, after, after_touch, leaves}
use Rattle.ranges.proofs.AllSeen.{beyond, touch_is, with_read, with_write}

-- the touch stays in its array
abbrev pub Stays : List ℕ → Touch → Type 0
Stays lengths t = leaves lengths t.array t.cells ≡ false

-- no cell is touched by both
abbrev pub AreApart : Touch → Touch → Type 0
AreApart t u = (c : Cell) → (is_among t.array t.cells c && is_among u.array u.cells c) ≡ false

read_read : (e a b s : Bool) → ((e || (a && not s)) || (b && not s)) ≡ ((e || (b && not s)) || (a && not s))
read_read true a b s = refl
read_read false true true s = refl
read_read false true false true = refl
read_read false true false false = refl
read_read false false true true = refl
read_read false false true false = refl
read_read false false false s = refl

either_order : (r a b : Bool) → ((r || a) || b) ≡ ((r || b) || a)
either_order true a b = refl
either_order false true true = refl
either_order false true false = refl
either_order false false true = refl
either_order false false false = refl

-- a read sees no more of a write of other cells
read_write : (e a s q b : Bool) → (a && b) ≡ false → (e || (a && not s)) ≡ (e || (a && not (s || (q && b))))
read_write true a s q b h = refl
read_write false false s q b h = refl
read_write false true true q b h = refl
read_write false true false true true h = absurd cc
read_write false true false true false h = refl
read_write false true false false b h = refl

both_ways : (a b : Bool) → (a && b) ≡ false → (b && a) ≡ false
both_ways true true h = absurd cc
both_ways true false h = refl
both_ways false true h = refl
both_ways false false h = refl

-- what a touch that stays in its array adds
abbrev with : Bool → Touch → Seen → Seen
with w t s = cond w (with_write t s) (with_read t s)

with_both : (w v : Bool) (t u : Touch) (s : Seen) → AreApart t u → with v u (with w t s) ≡ with w t (with v u s)
with_both true true t u s h = λ i. record s {
  write = λ c. either_order (s.write c) (is_among t.array t.cells c) (is_among u.array u.cells c) i;
  sure = λ c. either_order (s.sure c) ((t.certain && is_single t.cells) && is_among t.array t.cells c)
      ((u.certain && is_single u.cells) && is_among u.array u.cells c) i;
}
with_both true false t u s h = λ i. record s {
  write = λ c. s.write c || is_among t.array t.cells c;
  sure = λ c. s.sure c || ((t.certain && is_single t.cells) && is_among t.array t.cells c);
  exposed = λ c. sym (read_write (s.exposed c) (is_among u.array u.cells c) (s.sure c) (t.certain && is_single t.cells)
      (is_among t.array t.cells c) (both_ways (is_among t.array t.cells c) (is_among u.array u.cells c) (h c))) i;
  read = λ c. s.read c || is_among u.array u.cells c;
}
with_both false true t u s h = λ i. record s {
  write = λ c. s.write c || is_among u.array u.cells c;
  sure = λ c. s.sure c || ((u.certain && is_single u.cells) && is_among u.array u.cells c);
  exposed = λ c. read_write (s.exposed c) (is_among t.array t.cells c) (s.sure c) (u.certain && is_single u.cells)
      (is_among u.array u.cells c) (h c) i;
  read = λ c. s.read c || is_among t.array t.cells c;
}
with_both false false t u s h = λ i. record s {
  exposed = λ c. read_read (s.exposed c) (is_among t.array t.cells c) (is_among u.array u.cells c) (s.sure c) i;
  read = λ c. either_order (s.read c) (is_among t.array t.cells c) (is_among u.array u.cells c) i;
}

pub staying : (lengths : List ℕ) (t : Touch) (s : Seen) → Stays lengths t → after_touch lengths t s ≡ with t.is_write t s
staying lengths t s h = touch_is lengths t s ∙ ap (λ (b : Bool). cond b (beyond t s) (with t.is_write t s)) h

-- two touches of different cells
pub swap_touches : (lengths : List ℕ) (t u : Touch) (s : Seen) → Stays lengths t → Stays lengths u → AreApart t u →
    after_touch lengths u (after_touch lengths t s) ≡ after_touch lengths t (after_touch lengths u s)
swap_touches lengths t u s t_stays u_stays apart =
    staying lengths u (after_touch lengths t s) u_stays
    ∙ ap (λ x. with u.is_write u x) (staying lengths t s t_stays)
    ∙ with_both t.is_write u.is_write t u s apart
    ∙ sym (ap (λ x. with t.is_write t x) (staying lengths u s u_stays))
    ∙ sym (staying lengths t (after_touch lengths u s) t_stays)

-- each touch stays, and is of other cells than this one
abbrev pub AllApart : List ℕ → Touch → List Touch → Type 0
AllApart lengths u [] = Unit {0}
AllApart lengths u (t ∷ ts) = (Stays lengths t × AreApart t u) × AllApart lengths u ts

-- a touch comes before others
pub touch_first : (lengths : List ℕ) (ts : List Touch) (u : Touch) (s : Seen) → Stays lengths u → AllApart lengths u ts →
    after_touch lengths u (after lengths ts s) ≡ after lengths ts (after_touch lengths u s)
touch_first lengths [] u s stays h = refl
touch_first lengths (t ∷ ts) u s stays h =
    touch_first lengths ts u (after_touch lengths t s) stays h.1
    ∙ ap (after lengths ts) (swap_touches lengths t u s h.0.0 stays h.0.1)

-- each of the touches stays, and is of other cells than each of the others
abbrev pub BothApart : List ℕ → List Touch → List Touch → Type 0
BothApart lengths ts [] = Unit {0}
BothApart lengths ts (u ∷ us) = (Stays lengths u × AllApart lengths u ts) × BothApart lengths ts us

-- touches come before others
pub touches_first : (lengths : List ℕ) (ts us : List Touch) (s : Seen) → BothApart lengths ts us →
    after lengths us (after lengths ts s) ≡ after lengths ts (after lengths us s)
touches_first lengths ts [] s h = refl
touches_first lengths ts (u ∷ us) s h =
    ap (after lengths us) (touch_first lengths ts u s h.0.0 h.0.1)
    ∙ touches_first lengths ts us (after_touch lengths u s) h.1
