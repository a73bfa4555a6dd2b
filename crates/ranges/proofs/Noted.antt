-- One touch that stays in its array.
use Rattle.std.proofs.Common.{◌≡◌, ℕ, Bool, false, List, Option, ap, ◌∙◌}
use Rattle.std.specs.Prelude.{not, ◌&&◌, ◌||◌}
use Rattle.base.specs.declared.tree.ArrayId.{ArrayId}
use Rattle.base.specs.declared.tree.Place.{Place}
use Rattle.base.specs.declared.item.Cell.{Cell}
use Rattle.base.specs.declared.fault.Interval.{Interval}
use Rattle.base.specs.Interval.{is_single}
use Rattle.ranges.specs.Cells.{is_among}
use Rattle.ranges.specs.Seen.{Seen, leaves, after_read, after_write}

abbrev pub seen_of : (Cell → Bool) → (Cell → Bool) → (Cell → Bool) → (Cell → Bool) → Option Place → Seen
seen_of exposed read write sure least =
    record { exposed = exposed; read = read; write = write; sure = sure; least = least }

pub read_noted : (lengths : List ℕ) (a : ArrayId) (place : Place) (cells : Interval) (s : Seen)
    (exposed read : Cell → Bool) →
    leaves lengths a cells ≡ false →
    exposed ≡ (λ c. s.exposed c || (is_among a cells c && not (s.sure c))) →
    read ≡ (λ c. s.read c || is_among a cells c) →
    seen_of exposed read s.write s.sure s.least ≡ after_read
    lengths a place cells s
read_noted lengths a place cells s exposed read h e f = rw h (λ i. record {
  exposed = e i;
  read = f i;
  write = s.write;
  sure = s.sure;
  least = s.least;
})

pub write_noted : (lengths : List ℕ) (a : ArrayId) (place : Place) (cells : Interval) (certain single : Bool) (s : Seen)
    (write sure : Cell → Bool) →
    leaves lengths a cells ≡ false →
    single ≡ (certain && is_single cells) →
    sure ≡ (λ c. s.sure c || (single && is_among a cells c)) →
    write ≡ (λ c. s.write c || is_among a cells c) →
    seen_of s.exposed s.read write sure s.least ≡ after_write
    lengths a place cells certain s
write_noted lengths a place cells certain single s write sure h g e f = rw h (λ i. record {
  exposed = s.exposed;
  read = s.read;
  write = f i;
  sure = all i;
  least = s.least;
})
  where
    all : sure ≡ (λ c. s.sure c || ((certain && is_single cells) && is_among a cells c))
    all = e ∙ ap (λ b c. s.sure c || (b && is_among a cells c)) g
