-- Trees of numbers by place.
use Rattle.std.specs.Prelude.{ℕ, ◌-◌, ◌/◌, Bool, true, false, ◌&&◌, ◌||◌, ◌==◌, nat_le, nat_lt, List, if◌then◌else◌}
use Rattle.std.specs.List.{list_any}
use Rattle.mapcheck.specs.declared.segments.Tree.{Tree}
use Rattle.mapcheck.specs.declared.segments.Tree.TheVariants.{Empty, Fork'}

abbrev pub is_one_of : ℕ → List ℕ → Bool
is_one_of m items = list_any (λ n. n == m) items

abbrev pub is_node : Tree → Bool
is_node Empty = false
is_node (Fork' q items left right) = true

-- whether a number is noted at a place of the first ones, so many as the tree is for
abbrev pub has : Tree → ℕ → ℕ → ℕ → Bool
has Empty size p m = false
has (Fork' q items left right) size p m =
    is_one_of m items.items ||
    (if nat_lt p (size / 2) then has left (size / 2) p m else has right (size - size / 2) (p - size / 2) m)

-- whether a place is one of first, first + 1 .. end - 1
abbrev pub is_from : ℕ → ℕ → ℕ → Bool
is_from first end p = nat_le first p && nat_lt p end
