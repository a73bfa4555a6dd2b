-- A call that fails where another does.
use Rattle.std.proofs.Common.{◌≡◌, Result, Ok, Err, OnOk, is_ok}

pub ok_as : {A B E F P Q : Type 0} (r : Result A E) (s : Result B F) → is_ok s ≡ is_ok r → (P → Q) → OnOk r P → OnOk s Q
ok_as (Ok x) (Ok y) same f h = f h
ok_as (Ok x) (Err y) same f h = tt
ok_as (Err x) (Ok y) same f h = absurd cc
ok_as (Err x) (Err y) same f h = tt
