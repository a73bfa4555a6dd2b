-- Where an option is known.
use Rattle.std.proofs.Common.{◌≡◌, Option, Some, None, refl}
use Rattle.std.specs.Prelude.{option_map, option_and_then}
use Rattle.std.proofs.lemmas.Option.{same_Some, none-some}

pub then_parts : {A B : Type 0} (f : A → Option B) (o : Option A) (y : B) → option_and_then f o ≡ Some y →
    (x : A) × (o ≡ Some x) × (f x ≡ Some y)
then_parts f None y e = absurd (none-some y e)
then_parts f (Some x) y e = (x, refl, e)

pub map_parts : {A B : Type 0} (f : A → B) (o : Option A) (y : B) → option_map f o ≡ Some y →
    (x : A) × (o ≡ Some x) × (f x ≡ y)
map_parts f None y e = absurd (none-some y e)
map_parts f (Some x) y e = (x, refl, same_Some (f x) y e)
