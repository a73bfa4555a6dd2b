-- Which item follows which with none between: the least relation of which `Before` is what it leads to.
use Rattle.std.specs.Prelude.{ℕ, ◌<◌, ◌↔◌, List, Contains}
use Rattle.base.specs.Items.{Plan}
use Rattle.base.specs.Order.{Before}

-- item i is before item j, and no item is behind the one and before the other
pub record IsNext (plan : Plan) (i j : ℕ) : Type 0 where
  pub before : Before plan i j
  pub none_between : (k : ℕ) → Before plan i k → Before plan k j → ⊥

-- the items below a place that follow item i with none between
abbrev pub AreNexts : Plan → ℕ → ℕ → List ℕ → Type 0
AreNexts plan i end nexts = (j : ℕ) → Contains nexts j ↔ (j < end) × IsNext plan i j

-- one of some items is before item j
abbrev pub IsBehindSome : Plan → List ℕ → ℕ → Type 0
IsBehindSome plan items j = (k : ℕ) × Contains items k × Before plan k j
