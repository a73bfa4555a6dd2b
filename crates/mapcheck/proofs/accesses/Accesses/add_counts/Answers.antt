use Rattle.std.proofs.Common.{[], ◌∷◌, sym, subst}
use Rattle.std.specs.Prelude.{Bool, true, false}
use Rattle.std.proofs.lemmas.Result.{on_ok_weaker}
use Rattle.base.specs.Actions.{Counts}
use Rattle.mapcheck.specs.declared.accesses.Access.{Access}
use Rattle.mapcheck.proofs.Sides.{AreOf, counts, grown, looks}
use Rattle.mapcheck.proofs.accesses.Accesses.add_counts.Goals.{then-rests, else-rests}
use Rattle.mapcheck.proofs.accesses.Accesses.add_counts.Goals as goal

pub returns-clause-ok : goal.returns-clause-ok
returns-clause-ok c =
    let old = c.args.self.now in
    let block = c.args.block in
    let access = c.if-rests.access in
    let are : AreOf old.device (Counts block c.args.rests) (access ∷ []) = elim c.if-rests.branch [
      | then-rests w ↦ subst (λ (r : Bool). AreOf old.device (Counts block r) (access ∷ [])) (sym w.if-rests.true)
          (subst (λ (a : Access). AreOf old.device (Counts block true) (a ∷ [])) (sym w.access-is)
          (looks old.device block w.read-access.result
          (record { place = w.read-access.ensures.loc; how = w.read-access.ensures.writes; which = w.read-access.ensures.cells })))
      | else-rests w ↦ subst (λ (r : Bool). AreOf old.device (Counts block r) (access ∷ [])) (sym w.if-rests.false)
          (subst (λ (a : Access). AreOf old.device (Counts block false) (a ∷ [])) (sym w.access-is)
          (counts old.device block w.write-access.result
          (record { place = w.write-access.ensures.loc; how = w.write-access.ensures.writes; which = w.write-access.ensures.cells })))
    ] in
    on_ok_weaker c.add.result (grown (Counts block c.args.rests) old c.add.new.self (access ∷ []) c.add.ensures.device are)
    c.add.ensures.ok
