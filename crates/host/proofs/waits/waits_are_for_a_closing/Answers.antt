use Rattle.std.proofs.Common.{◌≡◌, ℕ, true, false}
use Rattle.base.specs.declared.item.Event.{Event}
use Rattle.base.specs.declared.item.Event.TheVariants.{Gen, Open, Step, Close, Wait, End}
use Rattle.base.specs.Items.{plan}
use Rattle.base.specs.Machine.{enabled}
use Rattle.headline.proofs.NeverStuck.{a_run_goes_on}
use Rattle.device.specs.Run.{fill_in, state_of}
use Rattle.host.specs.Looks.{WaitsAreForAClosing}
use Rattle.host.proofs.waits.waits_are_for_a_closing.Goals as goal

waits : WaitsAreForAClosing
waits r h going host workers =
    let next = a_run_goes_on r.program r.input (fill_in r) r.history (state_of r) h.ran going in go next.0 next.1
  where
    go : (e : Event) → enabled (plan r.program) (state_of r) e ≡ true →
        (i : ℕ) × (enabled (plan r.program) (state_of r) (Close i) ≡ true)
    go (Gen i) q = let bad : false ≡ true = host (Gen i) q in absurd cc
    go (Open i) q = absurd (cc (host (Open i) q, workers i q))
    go (Step i) q = absurd (cc q)
    go (Close i) q = (i, q)
    go (Wait i) q = let bad : false ≡ true = host (Wait i) q in absurd cc
    go End q = let bad : false ≡ true = host End q in absurd cc

pub returns : goal.returns
returns c = waits
