-- What is known of a value where there is one.
use Rattle.std.proofs.Common.{◌≡◌, ◌∙◌, Result, Ok, Err, IfOk, OnOk}

-- the value is the same as another
pub same_if_ok : {X E Y : Type 0} (r : Result X E) (f : X → Y) (a b : Y) → IfOk r (λ x. f x ≡ a) → a ≡ b →
    IfOk r (λ x. f x ≡ b)
same_if_ok (Ok x) f a b h e = h ∙ e
same_if_ok (Err x) f a b h e = tt

-- what is known anyway
pub anyway : {X E : Type 0} (r : Result X E) (P : Type 0) → P → OnOk r P
anyway (Ok x) P p = p
anyway (Err x) P p = tt
