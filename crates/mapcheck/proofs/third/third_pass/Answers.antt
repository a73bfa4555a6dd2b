use Rattle.std.proofs.Common.{arith, ◌≡◌, ◌∙◌, List, Option, ap, length, subst, sym}
use Rattle.std.specs.Prelude.{Vec}
use Rattle.std.specs.declared.alloc.Global.{Global}
use Rattle.base.specs.declared.fault.Refusal.{Refusal}
use Rattle.base.specs.Items.{plan}
use Rattle.mapwalk.specs.declared.rows.Acts.{Acts}
use Rattle.mapwalk.specs.Walk.{items_before}
use Rattle.mapcheck.specs.Third.{NoneAlone}
use Rattle.mapcheck.specs.Unordered.{IsConflictIn}
use Rattle.mapcheck.proofs.ThirdFaults.{before_inside, conflict_first, judged, none_alone, rows_count}
use Rattle.std.proofs.lemmas.Grind.{common_steps}
use Rattle.mapcheck.proofs.third.third_pass.Goals as goal

pub conflict_among-requires-clause-alone : goal.conflict_among-requires-clause-alone
conflict_among-requires-clause-alone c =
    let p = plan c.args.outlined.now in
    let w = c.args.walked.now in
    let count : length c.deref.result.now ≡ items_before p w.fault =
    ap (λ (xs : List (Vec Acts Global)). length xs) c.deref.ensures.value
    ∙ rows_count p (items_before p w.fault) w.acts.items c.requires.acts (before_inside p w.fault c.requires.first) in
    subst (NoneAlone p) (sym count) (none_alone p w.fault c.requires.first c.requires.sound)

pub conflict_among-requires-clause-rows : goal.conflict_among-requires-clause-rows
conflict_among-requires-clause-rows c = grind (arith, common_steps)

pub returns-in-Some : goal.returns-in-Some
returns-in-Some c =
    let p = plan c.args.outlined.now in
    let w = c.args.walked.now in
    let n = length c.deref.result.now in
    let count : length c.deref.result.now ≡ items_before p w.fault =
    ap (λ (xs : List (Vec Acts Global)). length xs) c.deref.ensures.value
    ∙ rows_count p (items_before p w.fault) w.acts.items c.requires.acts (before_inside p w.fault c.requires.first) in
    conflict_first p c.requires.fine c.requires.clashes n c.in-Some.refusal
    (subst (NoneAlone p) (sym count) (none_alone p w.fault c.requires.first c.requires.sound))
    (subst (λ (x : Option Refusal). IsConflictIn p n x) c.in-Some.is c.in_ok-refusal.ensures)

pub returns-in-None : goal.returns-in-None
returns-in-None c =
    let p = plan c.args.outlined.now in
    let w = c.args.walked.now in
    let n = length c.deref.result.now in
    let count : length c.deref.result.now ≡ items_before p w.fault =
    ap (λ (xs : List (Vec Acts Global)). length xs) c.deref.ensures.value
    ∙ rows_count p (items_before p w.fault) w.acts.items c.requires.acts (before_inside p w.fault c.requires.first) in
    judged p c.requires.fine c.requires.clashes n w.fault w.current.items count c.requires.first c.requires.sound
    (subst (λ (x : Option Refusal). IsConflictIn p n x) c.in-None.is c.in_ok-refusal.ensures) c.requires.current
