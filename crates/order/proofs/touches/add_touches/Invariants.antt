use Rattle.std.proofs.Common.{◌<◌, ℕ, take}
use Rattle.std.specs.Prelude.{Contains}
use Rattle.std.specs.List.{All}
use Rattle.order.specs.declared.touches.Touch.{Touch}
use Rattle.order.specs.Touches.{HasTouchesOf}
use Rattle.order.proofs.touches.add_touches.Given as goal

abbrev pub invariant-loop-depend : goal.invariant-loop-depend
invariant-loop-depend l = record {
  kept : (t : Touch) → Contains l.initial.touches.items t → Contains l.touches.items t;
  added : HasTouchesOf l.written (take l.depend-index l.depends) l.item l.touches.items;
  inside : (n : ℕ) → l.item < n → All (λ t. t.item < n) l.initial.touches.items → All (λ t. t.item < n) l.touches.items;
}
