-- Where the host stands.
use Rattle.std.proofs.Common.{◌≡◌, ◌+◌, ℕ, true, length, sym, ap, ◌∙◌}
use Rattle.base.specs.Items.{plan}
use Rattle.device.specs.Run as run
use Rattle.device.specs.Run.{state_of}
use Rattle.device.specs.Running.{IsRunning}
use Rattle.device.specs.Standing.{place_of}
use Rattle.device.specs.declared.standing.Standing.{Standing}

-- after the end it is one past the place after the last item
pub place_after_end : (r : run.Run) (now : Standing) (n : ℕ) → IsRunning r now → now.ended ≡ true →
    n ≡ length (plan r.program).items → n + 1 ≡ (state_of r).place
place_after_end r now n h is many =
    ap (λ k. k + 1) (many ∙ sym (h.at.ended is).0) ∙ sym (h.at.place ∙ ap (λ b. place_of b now.graph.place) is)
