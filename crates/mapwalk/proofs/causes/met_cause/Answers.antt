use Rattle.std.proofs.Common.{◌≡◌, true, false, sym, ap, ◌∙◌, subst}
use Rattle.std.proofs.lemmas.Bool.{both_ways}
use Rattle.base.specs.declared.fault.RefusalCode.TheVariants.{ExitOfAbsent}
use Rattle.base.specs.Accepted.{is_exit, is_update}
use Rattle.mapwalk.specs.Causes.{IsFirstOf, cause_at, met_causes}
use Rattle.mapwalk.proofs.MetCauses.{exit_first, missing_first, noted, part_first, update_first}
use Rattle.mapwalk.proofs.causes.met_cause.Goals as goal
use Rattle.mapwalk.proofs.causes.met_cause.Goals.{in_default-absent-via-in-Some-absent+else-is_update, in_default-absent-via-in_default-absent}

pub returns-in-Some : goal.returns-in-Some
returns-in-Some c mets e =
    part_first c.args.kind mets c.args.seen.now c.in-Some.cell (noted mets c.args.seen.now e) c.in-Some.is

pub returns-then-is_exit : goal.returns-then-is_exit
returns-then-is_exit c mets e =
    let exit : is_exit c.args.kind ≡ true = sym c.is_exit.ensures ∙ c.if-is_exit.true in
    subst (IsFirstOf (met_causes c.args.kind mets)) (sym (c.caused.ensures ∙ ap (cause_at ExitOfAbsent) c.lesser.ensures))
    (exit_first c.args.kind mets c.args.seen.now (noted mets c.args.seen.now e) c.in_default.is exit)

pub returns-in-Some-absent : goal.returns-in-Some-absent
returns-in-Some-absent c mets e =
    let exit : is_exit c.args.kind ≡ false = sym c.is_exit.ensures ∙ c.if-is_exit.false in
    update_first c.args.kind mets c.args.seen.now c.in-Some-absent.cell (noted mets c.args.seen.now e) c.in_default.is
    c.in-Some-absent.is exit (sym c.is_update.ensures ∙ c.if-is_update.true)

pub returns-in_default-absent : goal.returns-in_default-absent
returns-in_default-absent c mets e =
    let exit : is_exit c.args.kind ≡ false = sym c.is_exit.ensures ∙ c.if-is_exit.false in
    subst (IsFirstOf (met_causes c.args.kind mets)) (sym c.caused-in_default-absent.ensures)
    (missing_first c.args.kind mets c.args.seen.now (noted mets c.args.seen.now e) c.in_default.is exit
    (λ update. elim c.in_default-absent.branch [
      | in_default-absent-via-in-Some-absent+else-is_update w ↦
          absurd (both_ways (is_update c.args.kind) (sym w.is_update.ensures ∙ w.if-is_update.false) update)
      | in_default-absent-via-in_default-absent w ↦ w.in_default-absent.is
    ]))
