-- What holds of each state that a run of an accepted program reaches.
use Rattle.std.proofs.Common.{ℕ, List, [], ◌∷◌, map, Some, refl, subst}
use Rattle.base.specs.declared.tree.Program.{Program}
use Rattle.base.specs.declared.item.Event.{Event}
use Rattle.base.specs.Items.{plan}
use Rattle.base.specs.Map.{Fill}
use Rattle.base.specs.Machine.{State, RunFrom, start}
use Rattle.base.specs.Accepted.{IsAccepted}
use Rattle.base.specs.Headline.{AreNumbers, IsFill}
use Rattle.machine.specs.Board.{Move}
use Rattle.machine.specs.Machine.{Runs}
use Rattle.two_memories.specs.Two.{Two, IsValid, parts}
use Rattle.two_memories.proofs.Lawful.{lawful}
use Rattle.headline.proofs.AsMoves.{two, move_of, leads}
use Rattle.headline.proofs.LawfulItems.{is_start}

stays : (es : List Move) (s t : Two) → IsValid s → Runs parts s es t → IsValid t
stays [] s t v r = subst IsValid r v
stays (e ∷ es) s t v r = stays es r.0 t (lawful.stays_valid s e r.0 v r.1) r.2

pub valid : (p : Program) → IsAccepted (plan p) → (fill : ℕ → Fill) → IsFill fill → (input : List ℕ) → AreNumbers input →
    (events : List Event) (s : State) → RunFrom (plan p) fill input events (Some s) → IsValid (two (plan p) fill s)
valid p accepted fill filled input numbers events s ran =
    let l = leads (plan p) fill events (start input) (Some s) ran in
    subst IsValid (l.sound s refl)
    (stays (map (move_of (plan p) fill) events) (two (plan p) fill (start input)) l.last
    (lawful.starts_valid (two (plan p) fill (start input)) (is_start p accepted input fill numbers filled)) l.run)
