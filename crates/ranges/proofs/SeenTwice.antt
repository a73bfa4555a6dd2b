-- Touches that were seen change nothing when they are seen again.
use Rattle.std.proofs.Common.{◌≡◌, ℕ, Bool, true, false, List, [], ◌∷◌, Option, Some, None, refl, ap, sym, subst, ◌∙◌}
use Rattle.std.proofs.lemmas.Bool.{or_left, or_right}
use Rattle.std.specs.Prelude.{◌&&◌, ◌||◌, cond}
use mathlib.Core.Path.{fun_ext}
use Rattle.base.specs.declared.tree.Place.{Place}
use Rattle.base.specs.declared.item.Cell.{Cell}
use Rattle.base.specs.Interval.{is_single}
use Rattle.base.specs.Footprint.{Touch, leaves_array}
use Rattle.ranges.specs.Faults.{is_before, lesser}
use Rattle.ranges.specs.Cells.{is_among}
use Rattle.ranges.specs.Seen.{Seen, after, after_touch}
use Rattle.ranges.proofs.Leasts.{before_before, before_first, before_itself, before_lesser}
use Rattle.ranges.proofs.SeenAgainTests.{exposed_now, or_both, or_same, or_without}
use Rattle.ranges.proofs.AllSeen.{beyond, touch_is, with_read, with_write}

-- a place that is found, or a lesser one
abbrev IsFound : Place → Option Place → Type 0
IsFound p None = ⊥
IsFound p (Some q) = is_before q p ≡ true

-- what a touch would add is there; it leaves its array where d holds, and is a write where w does
abbrev Known : Bool → Bool → Touch → Seen → Type 0
Known true w t s = IsFound t.place s.least
Known false true t s = record {
  write : (c : Cell) → is_among t.array t.cells c ≡ true → s.write c ≡ true;
  sure : (c : Cell) → ((t.certain && is_single t.cells) && is_among t.array t.cells c) ≡ true → s.sure c ≡ true;
}
Known false false t s = record {
  read : (c : Cell) → is_among t.array t.cells c ≡ true → s.read c ≡ true;
  exposed : (c : Cell) → is_among t.array t.cells c ≡ true → (s.exposed c || s.sure c) ≡ true;
}

-- the second has all that the first has
record Grows (s u : Seen) : Type 0 where
  exposed : (c : Cell) → s.exposed c ≡ true → u.exposed c ≡ true
  read : (c : Cell) → s.read c ≡ true → u.read c ≡ true
  write : (c : Cell) → s.write c ≡ true → u.write c ≡ true
  sure : (c : Cell) → s.sure c ≡ true → u.sure c ≡ true
  least : (p : Place) → IsFound p s.least → IsFound p u.least

found_more : (p q : Place) (least : Option Place) → IsFound p least → IsFound p (Some (lesser q least))
found_more p q None h = absurd h
found_more p q (Some r) h = before_before (lesser q (Some r)) r p (before_first q r) h

found_now : (p : Place) (least : Option Place) → IsFound p (Some (lesser p least))
found_now p None = before_itself p
found_now p (Some q) = before_lesser p q

found_same : (p : Place) (least : Option Place) → IsFound p least → Some (lesser p least) ≡ least
found_same p None h = absurd h
found_same p (Some q) h = ap (λ (b : Bool). Some (cond b q p)) h

grows_itself : (s : Seen) → Grows s s
grows_itself s = record { exposed = λ c h. h; read = λ c h. h; write = λ c h. h; sure = λ c h. h; least = λ p h. h }

grows_on : (s u v : Seen) → Grows s u → Grows u v → Grows s v
grows_on s u v f g = record {
  exposed = λ c h. g.exposed c (f.exposed c h);
  read = λ c h. g.read c (f.read c h);
  write = λ c h. g.write c (f.write c h);
  sure = λ c h. g.sure c (f.sure c h);
  least = λ p h. g.least p (f.least p h);
}

abbrev touched : Bool → Bool → Touch → Seen → Seen
touched d w t s = cond d (beyond t s) (cond w (with_write t s) (with_read t s))

grows_touched : (d w : Bool) (t : Touch) (s : Seen) → Grows s (touched d w t s)
grows_touched true w t s = record {
  exposed = λ c h. h;
  read = λ c h. h;
  write = λ c h. h;
  sure = λ c h. h;
  least = λ p h. found_more p t.place s.least h;
}
grows_touched false true t s = record {
  exposed = λ c h. h;
  read = λ c h. h;
  write = λ c h. or_left _ _ h;
  sure = λ c h. or_left _ _ h;
  least = λ p h. h;
}
grows_touched false false t s = record {
  exposed = λ c h. or_left _ _ h;
  read = λ c h. or_left _ _ h;
  write = λ c h. h;
  sure = λ c h. h;
  least = λ p h. h;
}

known_more : (d w : Bool) (t : Touch) (s u : Seen) → Grows s u → Known d w t s → Known d w t u
known_more true w t s u g k = g.least t.place k
known_more false true t s u g k = record { write = λ c h. g.write c (k.write c h); sure = λ c h. g.sure c (k.sure c h) }
known_more false false t s u g k = record {
  read = λ c h. g.read c (k.read c h);
  exposed = λ c h. or_both _ _ _ _ (g.exposed c) (g.sure c) (k.exposed c h);
}

known_now : (d w : Bool) (t : Touch) (s : Seen) → Known d w t (touched d w t s)
known_now true w t s = found_now t.place s.least
known_now false true t s = record { write = λ c h. or_right _ _ h; sure = λ c h. or_right _ _ h }
known_now false false t s = record {
  read = λ c h. or_right _ _ h;
  exposed = λ c h. exposed_now (s.exposed c) (is_among t.array t.cells c) (s.sure c) h;
}

known_same : (d w : Bool) (t : Touch) (s : Seen) → Known d w t s → touched d w t s ≡ s
known_same true w t s k = λ i. record s { least = found_same t.place s.least k i }
known_same false true t s k = λ i. record s {
  write = fun_ext (λ (c : Cell). or_same (s.write c) (is_among t.array t.cells c) (k.write c)) i;
  sure = fun_ext (λ (c : Cell). or_same (s.sure c) ((t.certain && is_single t.cells) && is_among t.array t.cells c) (k.sure c)) i;
}
known_same false false t s k = λ i. record s {
  exposed = fun_ext (λ (c : Cell). or_without (s.exposed c) (is_among t.array t.cells c) (s.sure c) (k.exposed c)) i;
  read = fun_ext (λ (c : Cell). or_same (s.read c) (is_among t.array t.cells c) (k.read c)) i;
}

grows_after : (lengths : List ℕ) (ts : List Touch) (s : Seen) → Grows s (after lengths ts s)
grows_after lengths [] s = grows_itself s
grows_after lengths (t ∷ rest) s =
    grows_on s (after_touch lengths t s) (after lengths rest (after_touch lengths t s))
    (subst (λ u. Grows s u) (sym (touch_is lengths t s)) (grows_touched (leaves_array lengths t) t.is_write t s))
    (grows_after lengths rest (after_touch lengths t s))

abbrev AllKnown : List ℕ → List Touch → Seen → Type 0
AllKnown lengths [] s = Unit {0}
AllKnown lengths (t ∷ rest) s = Known (leaves_array lengths t) t.is_write t s × AllKnown lengths rest s

all_known : (lengths : List ℕ) (ts : List Touch) (s : Seen) → AllKnown lengths ts (after lengths ts s)
all_known lengths [] s = tt
all_known lengths (t ∷ rest) s =
    let d = leaves_array lengths t in
    let next : Seen = after_touch lengths t s in (
      known_more d t.is_write t next (after lengths rest next) (grows_after lengths rest next)
          (subst (λ u. Known d t.is_write t u) (sym (touch_is lengths t s)) (known_now d t.is_write t s)),
      all_known lengths rest next,
    )

all_same : (lengths : List ℕ) (ts : List Touch) (s : Seen) → AllKnown lengths ts s → after lengths ts s ≡ s
all_same lengths [] s k = refl
all_same lengths (t ∷ rest) s k =
    ap (λ u. after lengths rest u) (touch_is lengths t s ∙ known_same (leaves_array lengths t) t.is_write t s k.0)
    ∙ all_same lengths rest s k.1

pub seen_twice : (lengths : List ℕ) (ts : List Touch) (s : Seen) →
    after lengths ts (after lengths ts s) ≡ after lengths ts s
seen_twice lengths ts s = all_same lengths ts (after lengths ts s) (all_known lengths ts s)
