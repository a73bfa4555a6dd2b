-- Names read one after the other: what is left to read from each item of a list on.
use Rattle.std.proofs.Common.{◌≡◌, ℕ, ◌+◌, ◌<◌, ◌≤◌, List, ◌++◌, drop, length, get_or, Option, sym, ap, ◌∙◌, append_assoc}
use Rattle.std.proofs.lemmas.List.{at_drop_more, at_drop_all}
use Rattle.c_expressions.specs.declared.scope.Scope.{Scope}
use Rattle.directives.specs.declared.fault.DirectiveFault.{DirectiveFault}
use Rattle.directives.specs.declared.fault.LineFault.{LineFault}
use Rattle.directives.specs.Names.{Uses, each_names}
use Rattle.directives.specs.Reading.{Failed}
use Rattle.c_constructs.specs.Uses.{fault_in}
use Rattle.directives.proofs.Outcomes.{failed_from}

-- of names in two parts, those of the first come first
pub two_names : (s : Scope) (xs ys us : Uses) → fault_in s ((xs ++ ys) ++ us) ≡ fault_in s (xs ++ (ys ++ us))
two_names s xs ys us = ap (fault_in s) (append_assoc xs ys us)

module _ {A : Type 0} (f : A → Uses) where
  -- the names from an item on
  abbrev pub rest : List A → ℕ → Uses → Uses
  rest xs k us = each_names f (drop k xs) ++ us

  -- the next item's names come first
  pub next_then : (s : Scope) (xs ys : List A) (k : ℕ) (d x : A) (us : Uses) (whole : Option LineFault) → ys ≡ xs →
      k < length ys → x ≡ get_or ys k d → whole ≡ fault_in s (rest xs k us) →
      whole ≡ fault_in s (f x ++ rest xs (k + 1) us)
  next_then s xs ys k d x us whole e l i r =
      r
      ∙ ap (λ (zs : List A). fault_in s (rest zs k us)) (sym e)
      ∙ at_drop_more (λ (zs : List A). fault_in s (each_names f zs ++ us)) ys k d l
      ∙ two_names s (f (get_or ys k d)) (each_names f (drop (k + 1) ys)) us
      ∙ ap (λ (z : A). fault_in s (f z ++ rest ys (k + 1) us)) (sym i)
      ∙ ap (λ (zs : List A). fault_in s (f x ++ rest zs (k + 1) us)) e

  -- a fault of the next item's names is that of all
  pub next_failed : (s : Scope) (xs ys : List A) (k : ℕ) (d x : A) (us : Uses) (whole : Option LineFault)
      (fault : DirectiveFault) → ys ≡ xs → k < length ys → x ≡ get_or ys k d → whole ≡ fault_in s (rest xs k us) →
      Failed fault (fault_in s (f x ++ rest xs (k + 1) us)) → Failed fault whole
  next_failed s xs ys k d x us whole fault e l i r h =
      failed_from fault _ _ (next_then s xs ys k d x us whole e l i r) h

  -- where the next item's names have no fault, that of all is behind them
  pub next_read : (s : Scope) (xs ys : List A) (k : ℕ) (d x : A) (us : Uses) (whole : Option LineFault) → ys ≡ xs →
      k < length ys → x ≡ get_or ys k d → whole ≡ fault_in s (rest xs k us) →
      fault_in s (f x ++ rest xs (k + 1) us) ≡ fault_in s (rest xs (k + 1) us) →
      whole ≡ fault_in s (rest xs (k + 1) us)
  next_read s xs ys k d x us whole e l i r h = next_then s xs ys k d x us whole e l i r ∙ h

  -- where no item is left, the fault is behind them all
  pub all_read : (s : Scope) (xs ys : List A) (k : ℕ) (us : Uses) (whole : Option LineFault) → ys ≡ xs →
      length ys ≤ k → whole ≡ fault_in s (rest xs k us) → whole ≡ fault_in s us
  all_read s xs ys k us whole e l r =
      r
      ∙ ap (λ (zs : List A). fault_in s (rest zs k us)) (sym e)
      ∙ at_drop_all (λ (zs : List A). fault_in s (each_names f zs ++ us)) ys k l
