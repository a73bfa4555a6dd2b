-- Nothing is left of an item that may be closed.
use Rattle.std.proofs.Common.{◌≡◌, true, true≢false, refl, sym}
use Rattle.base.specs.Meaning.{Run}
use Rattle.fine_machine.specs.Left.{Asks, Finished}
use Rattle.fine_machine.specs.Machine.{Condition, Untouched, Generated, Opened, Closed, Passed, is_finished}

pub record HasFinished (c : Condition) : Type 0 where
  pub run : Run
  pub is : c ≡ Opened (Finished run)

pub finished : (c : Condition) → is_finished c ≡ true → HasFinished c
finished (Opened (Finished t)) e = record { run = t; is = refl }
finished (Opened (Asks r k)) e = absurd (true≢false (sym e))
finished Untouched e = absurd (true≢false (sym e))
finished (Generated captured) e = absurd (true≢false (sym e))
finished Closed e = absurd (true≢false (sym e))
finished Passed e = absurd (true≢false (sym e))
