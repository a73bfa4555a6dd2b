-- Which turns of a block take part, by their places.
use Rattle.std.specs.Prelude.{ℕ, ◌≡◌, ◌<◌, ◌&&◌, Bool, false, List, length, slice_index_or}

-- each of as many places is marked where it is told
pub record IsMask (n : ℕ) (part : ℕ → Bool) (mask : List Bool) : Type 0 where
  pub size : length mask ≡ n
  pub each : (k : ℕ) → k < n → slice_index_or mask k false ≡ part k

-- the marks stay where it holds
pub record Narrowed (holds : ℕ → Bool) (old new : List Bool) : Type 0 where
  pub size : length new ≡ length old
  pub each : (k : ℕ) → k < length old → slice_index_or new k false ≡ (slice_index_or old k false && holds k)
