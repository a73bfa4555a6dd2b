use Rattle.std.proofs.Common.{◌≡◌, ℕ, true, take}
use Rattle.std.specs.List.{All}
use Rattle.order.specs.Bare.{plan_of}
use Rattle.order.specs.Rows.{HasMatchesOf, IsPart, is_in}
use Rattle.order.proofs.rows.add_matches.Given as goal

abbrev pub invariant-loop-depend : goal.invariant-loop-depend
invariant-loop-depend l = record {
  part : IsPart (plan_of l.items) l.item l.row;
  kept : (k : ℕ) → is_in l.initial.row k ≡ true → is_in l.row k ≡ true;
  matches : All (HasMatchesOf (plan_of l.items) l.item l.row) (take l.depend-index l.depends);
}
