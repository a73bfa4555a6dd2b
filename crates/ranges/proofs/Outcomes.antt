-- What holds on success.
use Rattle.std.proofs.Common.{◌≡◌, Result, Ok, Err, OnOk, OnErr, subst}

-- of an equal value
pub ok_end : {A B E : Type 0} (r : Result A E) (a x y : B) → x ≡ y → OnOk r (a ≡ x) → OnOk r (a ≡ y)
ok_end r a x y e h = subst (λ z. OnOk r (a ≡ z)) e h

-- what follows from it
pub mapped_ok : {A E P Q : Type 0} (r : Result A E) → OnOk r P → (P → Q) → OnOk r Q
mapped_ok (Ok x) h f = f h
mapped_ok (Err e) h f = tt

pub mapped_err : {A E P Q : Type 0} (r : Result A E) → OnErr r P → (P → Q) → OnErr r Q
mapped_err (Ok x) h f = tt
mapped_err (Err e) h f = f h

pub always_err : {A E P : Type 0} (r : Result A E) → P → OnErr r P
always_err (Ok x) p = tt
always_err (Err e) p = p

-- what follows from both
pub either : {A E P Q R : Type 0} (r : Result A E) → OnOk r P → OnErr r Q → (P → R) → (Q → R) → R
either (Ok x) h g f k = f h
either (Err e) h g f k = k g
