-- What is kept of a run, of equal parts.
use Rattle.std.proofs.Common.{◌≡◌, ℕ, List, subst, sym}
use Rattle.std.specs.Prelude.{slice_index}
use Rattle.base.specs.declared.tree.Region.{Region}
use Rattle.kernel.specs.declared.frames.Frame.{Frame}
use Rattle.kernel.specs.declared.frames.KeptRow.{KeptRow}
use Rattle.kernel.specs.Kept.{IsKept, Kept}
use Rattle.kernel.specs.Rows.{cells_stored}
use Rattle.device.specs.Standing.{done_on}

abbrev pub parts : List ℕ → List KeptRow → List ℕ → List ℕ → Kept
parts scalars rows input printed =
    record { scalars = slice_index scalars; stored = cells_stored rows; input = input; printed = printed }

pub kept_alike : (r r' : Region) (f f' : Frame) (scalars scalars' : List ℕ) (rows rows' : List KeptRow) (input printed printed' : List ℕ) →
    r ≡ r' → f ≡ f' → scalars' ≡ scalars → rows' ≡ rows → printed' ≡ printed →
    IsKept (done_on r f) (parts scalars rows input printed) →
    IsKept (done_on r' f') (parts scalars' rows' input printed')
kept_alike r r' f f' scalars scalars' rows rows' input printed printed' e g a b c kept =
    subst (λ xs. IsKept (done_on r' f') (parts xs rows' input printed')) (sym a)
    (subst (λ xs. IsKept (done_on r' f') (parts scalars xs input printed')) (sym b)
    (subst (λ xs. IsKept (done_on r' f') (parts scalars rows input xs)) (sym c)
    (subst (λ x. IsKept (done_on x f') (parts scalars rows input printed)) e
    (subst (λ x. IsKept (done_on r x) (parts scalars rows input printed)) g kept))))
