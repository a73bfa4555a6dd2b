use Rattle.std.proofs.Common.{◌≡◌, length, ap, sym, ◌∙◌, subst}
use Rattle.shared_row.specs.Rows.{lent_numbers, marks_of, numbers_of}
use Rattle.present.specs.Rows.{AgreeUnmarked, Takes, marked_at}
use Rattle.present.proofs.Adopting.{adopted, whole_row}
use Rattle.present.proofs.rows.adopts_lent.Goals as goal

pub returns-clause-adopted : goal.returns-clause-adopted
returns-clause-adopted c h first =
    let lent = c.args.lent.now in
    let row = lent.row.value.items in
    let old = numbers_of c.args.values.now in
    let numbers = lent_numbers lent in
    let marks = marks_of (length numbers) c.args.marks.now in
    let all : lent.count ≡ length row =
    c.if-lent-len.false ∙ c.len.ensures ∙ c.deref.result.now.ok.0 ∙ ap (λ v. length v.items) c.deref.ensures in
    let whole : numbers ≡ row = whole_row row lent.first lent.count c.if-lent-ne0.false all in
    let long : length old ≡ length numbers =
    sym (ap length c.numbers.ensures) ∙ c.if-numbers-lent.false ∙ all ∙ ap length (sym whole) in
    let agree : AgreeUnmarked old numbers marks =
    subst (λ xs. AgreeUnmarked xs numbers marks) c.numbers-2.ensures
    (subst (λ xs. AgreeUnmarked c.numbers-2.result.now xs (marks_of (length xs) c.args.marks.now)) c.numbers-3.ensures
    (c.agree.ensures c.if-not-agree.false)) in
    subst (Takes (marked_at first numbers marks) first old) (whole ∙ sym (c.adopt.ensures.adopted h))
    (adopted first old numbers marks c.requires.marks long agree)
