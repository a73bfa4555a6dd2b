-- How a step runs a program.
use Rattle.std.specs.Prelude.{ℕ, ◌≡◌, Bool, true, false, List}
use Rattle.driver.specs.declared.running.Next.TheVariants.{Choices, Workers}
use Rattle.driver.specs.declared.running.Way.{Way}
use Rattle.driver.specs.declared.running.Way.TheVariants.{Checked, Fine}

-- by these choices and this order of turns, on the machine that is asked for
abbrev pub IsStepWay : Bool → List ℕ → List ℕ → Way → Type 0
IsStepWay fine choices turns (Checked (Choices list)) = (fine ≡ false) × (list.now ≡ choices)
IsStepWay fine choices turns (Checked (Workers workers)) = ⊥
IsStepWay fine choices turns (Fine list order) = (fine ≡ true) × (list.now ≡ choices) × (order.now ≡ turns)
