-- The line with the action at which a run fails.
use Rattle.std.proofs.Common.{◌≡◌, ℕ, List, ◌++◌, Option, ap, ◌∙◌, subst, append_assoc}
use Rattle.std.specs.Prelude.{Result, OnOk, codes, decimal}
use Rattle.std.specs.Io.KnownBytes.{Appends}
use Rattle.stepper.specs.declared.stops.Stop.{Stop}
use Rattle.witness.specs.Texts.{action_text, side_text, told_line}
use Rattle.witness.proofs.Told.{then_on}

pub told_written : {X E : Type 0} (r : Result X E) (a b c d : Option (List ℕ)) (array : List ℕ) (stop : Stop) (head : List ℕ)
    → head ≡ codes "stopped at line " ++ (decimal stop.place.line ++ codes ": ") → Appends a b head
    → Appends b c (action_text array stop.action) → OnOk r (Appends c d (side_text stop.on_host stop.device.number))
    → OnOk r (Appends a d (told_line array stop))
told_written r a b c d array stop head is s1 s2 s3 =
    let act : List ℕ = action_text array stop.action in
    let side : List ℕ = side_text stop.on_host stop.device.number in
    let rest : List ℕ = act ++ side in
    let r2 : OnOk r (Appends b d rest) = then_on r b c d act side s2 s3 in
    subst (λ (xs : List ℕ). OnOk r (Appends a d xs))
    (ap (λ (xs : List ℕ). xs ++ rest) is
    ∙ (append_assoc (codes "stopped at line ") (decimal stop.place.line ++ codes ": ") rest
    ∙ ap (λ (xs : List ℕ). codes "stopped at line " ++ xs) (append_assoc (decimal stop.place.line) (codes ": ") rest)))
    (then_on r a b d head rest s1 r2)
