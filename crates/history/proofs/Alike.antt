-- What moves do to one cell is what actions do to all.
use Rattle.std.proofs.Common.{◌≡◌, ℕ, ◌==◌, Bool, true, false, List, [], ◌∷◌, ◌++◌, refl, sym, ap, ◌∙◌, eqb-true}
use Rattle.std.specs.Prelude.{if◌then◌else◌}
use mathlib.Core.Path.{fun_ext}
use Rattle.base.specs.declared.item.Cell.{Cell}
use Rattle.base.specs.Memory.{changed}
use Rattle.base.specs.Actions.{Action}
use Rattle.base.specs.Current.{AllCurrent, Current, after_action, after_actions, current_at}
use Rattle.history.specs.Places.{at_cell}
use Rattle.history.proofs.Showing.{are_same}

-- what is done on the host and one device
abbrev pub on_device : ℕ → (Current → Current) → AllCurrent → AllCurrent
on_device d f k = let m = f (current_at d k) in record { host = m.host; devices = changed d m.device k.devices }

-- one place of a function
pub changed_here : {A : Type 0} (d : ℕ) (x : A) (f : ℕ → A) → changed d x f d ≡ x
changed_here d x f = ap (λ b. if b then x else f d) (are_same d d refl)

changed_twice : {A : Type 0} (d : ℕ) (x y : A) (f : ℕ → A) → changed d x (changed d y f) ≡ changed d x f
changed_twice d x y f = fun_ext (λ e. go e (e == d) refl)
  where
    go : (e : ℕ) (b : Bool) → (e == d) ≡ b → (if b then x else changed d y f e) ≡ (if b then x else f e)
    go e true is = refl
    go e false is = ap (λ b. if b then y else f e) is

pub changed_same : {A : Type 0} (d : ℕ) (f : ℕ → A) → changed d (f d) f ≡ f
changed_same d f = fun_ext (λ e. go e (e == d) refl)
  where
    go : (e : ℕ) (b : Bool) → (e == d) ≡ b → (if b then f d else f e) ≡ f e
    go e true is = ap f (sym (eqb-true e d is))
    go e false is = refl

pub changed_at : (c : Cell) (d : ℕ) (g : Cell → Bool) (f : ℕ → Cell → Bool) → (λ e. changed d g f e c) ≡ changed d (g c) (λ e. f e c)
changed_at c d g f = fun_ext (λ e. go e (e == d))
  where
    go : (e : ℕ) (b : Bool) → (if b then g else f e) c ≡ (if b then g c else f e c)
    go e true = refl
    go e false = refl

-- one thing after another
pub on_both : (d : ℕ) (f g : Current → Current) (k : AllCurrent) → on_device d g (on_device d f k) ≡ on_device d (λ m. g (f m)) k
on_both d f g k =
    let m = f (current_at d k) in
    let here : current_at d (on_device d f k) ≡ m = λ i. record { host = m.host; device = changed_here d m.device k.devices i } in
    (λ i. record { host = (g (here i)).host; devices = changed d (g (here i)).device (changed d m.device k.devices) })
    ∙ (λ i. record { host = (g m).host; devices = changed_twice d (g m).device m.device k.devices i })

-- at a cell
pub at_on : (c : Cell) (d : ℕ) (f : Current → Current) (k : AllCurrent) → at_cell c (on_device d f k)
    ≡ record { host = (f (current_at d k)).host c; devices = changed d ((f (current_at d k)).device c) (λ e. k.devices e c) }
at_on c d f k =
    let m = f (current_at d k) in λ i. record { host = m.host c; devices = changed_at c d m.device k.devices i }

pub after_append : (xs ys : List Action) (k : Current) → after_actions (xs ++ ys) k ≡ after_actions ys (after_actions xs k)
after_append [] ys k = refl
after_append (x ∷ xs) ys k = after_append xs ys (after_action x k)
