-- What a cell's tests are once a touch was seen. e: it was exposed; u: it was surely written; m: the touch has it.
use Rattle.std.proofs.Common.{◌≡◌, Bool, true, false, refl, sym}
use Rattle.std.proofs.lemmas.Bool.{or_left, or_right}
use Rattle.std.specs.Prelude.{not, ◌&&◌, ◌||◌}

pub or_both : (a b x y : Bool) → (a ≡ true → x ≡ true) → (b ≡ true → y ≡ true) → (a || b) ≡ true → (x || y) ≡ true
or_both true b x y f g e = or_left x y (f refl)
or_both false b x y f g e = or_right x y (g e)

-- what adds nothing
pub or_same : (a b : Bool) → (b ≡ true → a ≡ true) → (a || b) ≡ a
or_same true b f = refl
or_same false true f = sym (f refl)
or_same false false f = refl

pub or_without : (e m u : Bool) → (m ≡ true → (e || u) ≡ true) → (e || (m && not u)) ≡ e
or_without true m u f = refl
or_without false true true f = refl
or_without false true false f = sym (f refl)
or_without false false u f = refl

pub exposed_now : (e m u : Bool) → m ≡ true → ((e || (m && not u)) || u) ≡ true
exposed_now true m u h = refl
exposed_now false true true h = refl
exposed_now false true false h = refl
exposed_now false false u h = absurd cc
