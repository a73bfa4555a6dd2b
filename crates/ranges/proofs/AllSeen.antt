-- What is seen of a region in the end.
use Rattle.std.proofs.Common.{◌≡◌, ℕ, Bool, true, false, List, [], ◌∷◌, Option, Some, None, refl, ap, sym, subst, ◌∙◌}
use Rattle.std.specs.Prelude.{not, ◌&&◌, ◌||◌, cond}
use Rattle.std.proofs.Math.Bool.{or-false, and-false, or_assoc}
use Rattle.base.specs.declared.tree.Place.{Place}
use Rattle.base.specs.declared.item.Cell.{Cell}
use Rattle.base.specs.Interval.{is_single}
use Rattle.base.specs.Footprint.{Touch, exposes, reads, writes, surely_writes, has_cell, leaves_array}
use Rattle.ranges.specs.Faults.{lesser, least_of, with_place}
use Rattle.ranges.specs.Cells.{is_among}
use Rattle.ranges.specs.Seen.{Seen, after, after_touch}
use Rattle.ranges.specs.Found.{nothing_seen}
use Rattle.ranges.proofs.SeenTests.{exposed_write, exposed_read, sure_write}

abbrev pub place_of : Touch → Place
place_of t = t.place

abbrev pub with_write : Touch → Seen → Seen
with_write t s = record s {
  write = λ c. s.write c || is_among t.array t.cells c;
  sure = λ c. s.sure c || ((t.certain && is_single t.cells) && is_among t.array t.cells c);
}

abbrev pub with_read : Touch → Seen → Seen
with_read t s = record s {
  exposed = λ c. s.exposed c || (is_among t.array t.cells c && not (s.sure c));
  read = λ c. s.read c || is_among t.array t.cells c;
}

abbrev pub beyond : Touch → Seen → Seen
beyond t s = record s { least = Some (lesser t.place s.least) }

-- a touch that leaves its array changes the least place alone, and another one the sets alone
pub touch_is : (lengths : List ℕ) (t : Touch) (s : Seen) → after_touch lengths t s
    ≡ cond (leaves_array lengths t) (beyond t s) (cond t.is_write (with_write t s) (with_read t s))
touch_is lengths t s = go t.is_write (leaves_array lengths t)
  where
    go : (w d : Bool) → cond w (cond d (beyond t s) (with_write t s)) (cond d (beyond t s) (with_read t s))
        ≡ cond d (beyond t s) (cond w (with_write t s) (with_read t s))
    go true true = refl
    go true false = refl
    go false true = refl
    go false false = refl

touch_least : (lengths : List ℕ) (t : Touch) (s : Seen) → (after_touch lengths t s).least ≡ with_place
    (leaves_array lengths t) t.place s.least
touch_least lengths t s = ap (λ x. x.least) (touch_is lengths t s) ∙ go (leaves_array lengths t) t.is_write
  where
    go : (d w : Bool) → (cond d (beyond t s) (cond w (with_write t s) (with_read t s))).least ≡ with_place d t.place
        s.least
    go true w = refl
    go false true = refl
    go false false = refl

pub least_seen : (lengths : List ℕ) (ts : List Touch) (s : Seen) → (after lengths ts s).least ≡ least_of
    (leaves_array lengths) place_of ts s.least
least_seen lengths [] s = refl
least_seen lengths (t ∷ rest) s =
    least_seen lengths rest (after_touch lengths t s)
    ∙ ap (λ l. least_of (leaves_array lengths) place_of rest l) (touch_least lengths t s)

-- the sets and those of some touches
pub record IsWith (ts : List Touch) (s : Seen) (c : Cell) (new : Seen) : Type 0 where
  pub exposed : new.exposed c ≡ (s.exposed c || (not (s.sure c) && exposes ts c))
  pub read : new.read c ≡ (s.read c || reads ts c)
  pub write : new.write c ≡ (s.write c || writes ts c)
  pub sure : new.sure c ≡ (s.sure c || surely_writes ts c)

none_before : {A : Type 0} (fails : A → Bool) (place : A → Place) (xs : List A) (least : Option Place) →
    least_of fails place xs least ≡ None → least ≡ None
none_before fails place [] least e = e
none_before fails place (x ∷ xs) least e = go (fails x) (none_before fails place xs (with_place (fails x) (place x)
    least) e)
  where
    go : (b : Bool) → with_place b (place x) least ≡ None → least ≡ None
    go true h = absurd cc
    go false h = h

not_left : (b : Bool) (p : Place) (least : Option Place) → with_place b p least ≡ None → b ≡ false
not_left true p least e = absurd cc
not_left false p least e = refl

abbrev surely : Touch → Cell → Bool
surely t c = t.certain && (is_single t.cells && has_cell c t)

-- the same, where the first of the touches is a write or a read
record IsWithFirst (w : Bool) (t : Touch) (rest : List Touch) (s : Seen) (c : Cell) (new : Seen) : Type 0 where
  exposed : new.exposed c
      ≡ (s.exposed c || (not (s.sure c) && (not (w && surely t c) && ((not w && has_cell c t) || exposes rest c))))
  read : new.read c ≡ (s.read c || ((not w && has_cell c t) || reads rest c))
  write : new.write c ≡ (s.write c || ((w && has_cell c t) || writes rest c))
  sure : new.sure c ≡ (s.sure c || ((w && surely t c) || surely_writes rest c))

with_first : (w : Bool) (t : Touch) (rest : List Touch) (s new : Seen) (c : Cell) →
    IsWith rest (cond w (with_write t s) (with_read t s)) c new →
    IsWithFirst w t rest s c new
with_first true t rest s new c h = record {
  exposed = h.exposed ∙ exposed_write (s.exposed c) (s.sure c) t.certain (is_single t.cells) (has_cell c t)
      (exposes rest c);
  read = h.read;
  write = h.write ∙ or_assoc (s.write c) (has_cell c t) (writes rest c);
  sure = h.sure ∙ sure_write (s.sure c) t.certain (is_single t.cells) (has_cell c t) (surely_writes rest c);
}
with_first false t rest s new c h = record {
  exposed = h.exposed ∙ exposed_read (s.exposed c) (s.sure c) (surely t c) (has_cell c t) (exposes rest c);
  read = h.read ∙ or_assoc (s.read c) (has_cell c t) (reads rest c);
  write = h.write;
  sure = h.sure;
}

one_more : (t : Touch) (rest : List Touch) (s new : Seen) (c : Cell) →
    IsWith rest (cond t.is_write (with_write t s) (with_read t s)) c new →
    IsWith (t ∷ rest) s c new
one_more t rest s new c h =
    let f = with_first t.is_write t rest s new c h in
    record { exposed = f.exposed; read = f.read; write = f.write; sure = f.sure }

all_within : (lengths : List ℕ) (ts : List Touch) (s : Seen) (c : Cell) → (after lengths ts s).least ≡ None →
    IsWith ts s c (after lengths ts s)
all_within lengths [] s c e = record {
  exposed = sym (or-false (s.exposed c)) ∙ ap (λ b. s.exposed c || b) (sym (and-false (not (s.sure c))));
  read = sym (or-false (s.read c));
  write = sym (or-false (s.write c));
  sure = sym (or-false (s.sure c));
}
all_within lengths (t ∷ rest) s c e =
    let next : Seen = after_touch lengths t s in
    let none : next.least ≡ None =
    none_before (leaves_array lengths) place_of rest next.least (sym (least_seen lengths rest next) ∙ e) in
    let stays : leaves_array lengths t ≡ false =
    not_left (leaves_array lengths t) t.place s.least (sym (touch_least lengths t s) ∙ none) in
    let is : next ≡ cond t.is_write (with_write t s) (with_read t s) =
    touch_is lengths t s ∙ ap (λ d. cond d (beyond t s) (cond t.is_write (with_write t s) (with_read t s))) stays in
    one_more t rest s (after lengths rest next) c
    (subst (λ (x : Seen). IsWith rest x c (after lengths rest next)) is (all_within lengths rest next c e))

-- with no subscript that leaves its array the sets are those of the touches
pub all_seen : (lengths : List ℕ) (ts : List Touch) (c : Cell) → (after lengths ts nothing_seen).least ≡ None → IsWith
    ts nothing_seen c (after lengths ts nothing_seen)
all_seen lengths ts c e = all_within lengths ts nothing_seen c e
