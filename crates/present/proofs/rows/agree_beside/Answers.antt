use Rattle.std.proofs.Common.{◌-◌, drop, length, length-drop, sym, ◌∙◌, arith}
use Rattle.std.proofs.lemmas.List.{take_all}
use Rattle.std.specs.Cmp.Lexicographic.{same_text}
use Rattle.present.proofs.rows.agree_beside.Goals as goal

pub returns-then-eq : goal.returns-then-eq
returns-then-eq c h =
    let old = c.args.old.now in
    let new = c.args.new.now in
    let end = c.args.end in
    let n = length-drop end old in
    let m = length-drop end new in
    let bound = c.requires.bound in
    let same = c.requires.old in
    record {
      before = sym (same_text _ _ (sym c.if-eq.true ∙ c.eq.ensures));
      after = sym (take_all (length new - end) (drop end new) (omega (arith, m)))
          ∙ sym (same_text _ _ (sym h ∙ c.eq-then-eq.ensures))
          ∙ take_all (length old - end) (drop end old) (omega (arith, n));
    }
