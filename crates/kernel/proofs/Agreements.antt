-- The numbers of an expression where it has a value.
use Rattle.std.proofs.Common.{◌≡◌, ℕ, zero, suc, Option, Some, None, refl, sym, ap, ◌∙◌, subst}
use Rattle.std.specs.Prelude.{IsSome, option_and_then}
use Rattle.base.specs.declared.tree.ArrayId.{ArrayId}
use Rattle.base.specs.Memory.{View}
use Rattle.base.specs.Value.{on_one, on_both, and_of, or_of}
use Rattle.regions.proofs.ExprValues.{and_is, or_is}
use Rattle.lanes.specs.Numbers.{both_hold, either_holds}
use Rattle.kernel.specs.Lanes.{Agrees}

-- a number that is there is the one
pub agrees_same : (o : Option ℕ) (x y : ℕ) → o ≡ Some x → y ≡ x → Agrees o y
agrees_same o x y e h = record { is = λ z k. cc }

pub agrees_some : (x y : ℕ) → y ≡ x → Agrees (Some x) y
agrees_some x y h = record { is = λ z k. cc }

pub agrees_there : (o : Option ℕ) (y : ℕ) → Agrees o y → IsSome o → o ≡ Some y
agrees_there None y h s = absurd cc
agrees_there (Some x) y h s = ap Some (sym (h.is x refl))

-- from the number of an operand to that of the operator's value
after : (f : Option ℕ → Option ℕ) (o : Option ℕ) (x z : ℕ) → f None ≡ None → Agrees o x → Agrees (f (Some x)) z → Agrees (f o) z
after f None x z none h k = record { is = λ w e. absurd cc }
after f (Some y) x z none h k = let e = h.is y refl in subst (λ (v : ℕ). Agrees (f (Some v)) z) e k

pub agrees_one : (f : ℕ → ℕ) (o : Option ℕ) (x y : ℕ) → Agrees o x → y ≡ f x → Agrees (on_one f o) y
agrees_one f o x y h k = after (on_one f) o x y refl h (agrees_some (f x) y k)

pub agrees_both : (f : ℕ → ℕ → ℕ) (o p : Option ℕ) (x z : ℕ) → Agrees o x → Agrees (on_both f (Some x) p) z → Agrees (on_both f o p) z
agrees_both f o p x z h k = after (λ q. on_both f q p) o x z refl h k

pub agrees_and : (o p : Option ℕ) (x z : ℕ) → Agrees o x → Agrees (and_of (Some x) p) z → Agrees (and_of o p) z
agrees_and o p x z h k = after (λ q. and_of q p) o x z refl h k

pub agrees_or : (o p : Option ℕ) (x z : ℕ) → Agrees o x → Agrees (or_of (Some x) p) z → Agrees (or_of o p) z
agrees_or o p x z h k = after (λ q. or_of q p) o x z refl h k

pub agrees_cell : (view : View) (a : ArrayId) (o : Option ℕ) (i y : ℕ) → Agrees o i → Agrees (view (record { array = a; index = i })) y →
    Agrees (option_and_then (λ i. view (record { array = a; index = i })) o) y
agrees_cell view a o i y h k = after (option_and_then (λ i. view (record { array = a; index = i }))) o i y refl h k

-- and on from that of the right operand
pub agrees_right : (f : ℕ → ℕ → ℕ) (x : ℕ) (p : Option ℕ) (y z : ℕ) → Agrees p y → z ≡ f x y → Agrees (on_both f (Some x) p) z
agrees_right f x p y z h k = after (on_both f (Some x)) p y z refl h (agrees_some (f x y) z k)

pub agrees_and_right : (x : ℕ) (p : Option ℕ) (y z : ℕ) → Agrees p y → z ≡ both_hold x y → Agrees (and_of (Some x) p) z
agrees_and_right zero p y z h k = agrees_some 0 z k
agrees_and_right (suc x) p y z h k =
    after (and_of (Some (suc x))) p y z refl h (agrees_same _ (both_hold (suc x) y) z (and_is (suc x) y) k)

pub agrees_or_right : (x : ℕ) (p : Option ℕ) (y z : ℕ) → Agrees p y → z ≡ either_holds x y → Agrees (or_of (Some x) p) z
agrees_or_right zero p y z h k =
    after (or_of (Some zero)) p y z refl h (agrees_same _ (either_holds zero y) z (or_is zero y) k)
agrees_or_right (suc x) p y z h k =
    let one : ◌≡◌ {A = Option ℕ} (Some 1) (Some (either_holds (suc x) y)) = or_is (suc x) y in
    let same : 1 ≡ either_holds (suc x) y = cc in
    agrees_some 1 z (k ∙ sym same)
