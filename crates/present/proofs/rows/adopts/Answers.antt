use Rattle.std.proofs.Common.{◌≡◌, ℕ, true, length, sym, subst}
use Rattle.shared_row.specs.Rows.{marks_of, numbers_in, numbers_of}
use Rattle.present.specs.Rows.{Takes, marked_at}
use Rattle.present.proofs.rows.adopts.Goals as goal

pub returns-in-Lent-clause-adopted : goal.returns-in-Lent-clause-adopted
returns-in-Lent-clause-adopted c =
    subst (λ r. c.adopts_lent.result ≡ true → (first : ℕ) →
    Takes (marked_at first (numbers_in r) (marks_of (length (numbers_in r)) c.args.marks.now)) first
    (numbers_of c.args.values.now) (numbers_of c.adopts_lent.new.values))
    (sym c.in-Lent.is) c.adopts_lent.ensures.adopted
