use Rattle.device.proofs.Choices.{HasCome}
use Rattle.device.proofs.state.RunState.play_choices.Given as goal

abbrev pub invariant-loop-turn : goal.invariant-loop-turn
invariant-loop-turn l = HasCome l.turn l.choices l.fn.self l.self
