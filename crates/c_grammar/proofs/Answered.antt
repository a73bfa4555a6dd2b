-- What a machine with its laws answers of a text of bytes and its tokens.
use Rattle.std.proofs.Common.{◌≡◌, ◌<◌, ◌≤◌, ℕ, Bool, true, false, cond, List, length, Option, Some, None, refl, sym, arith, ltb-true, ltb-false}
use Rattle.std.specs.Prelude.{nat_lt}
use Rattle.base.specs.declared.fault.TextFault.{TextFault}
use Rattle.c_grammar.specs.Texts.{Item, Grammar, IsFirst, Spelled, terminals, kinds}
use Rattle.c_grammar.specs.Machine.{Machine, Found, Laws, run}
use Rattle.c_grammar.specs.Source.{max_source}
use Rattle.c_grammar.proofs.Ways.{some_of, same_some}
use Rattle.c_grammar.proofs.First.{first_fault, spelled, not_spelled}

not_both : (n k : ℕ) → n < k → k ≤ n → ⊥
not_both n k h l = omega (arith, h, l)

module _ (g : Grammar) (m : Machine g) (l : Laws g m) (long : TextFault)
    (fault_of : Item g.Terminal → g.Rule → TextFault) where
  abbrev pub found : Option (Found g m) → Option TextFault
  found None = None
  found (Some f) = Some (fault_of f.item f.rule)

  -- the fault long where there are too many bytes, and else what the machine finds
  abbrev pub answered : List ℕ → List (Item g.Terminal) → Option TextFault
  answered bytes items =
      cond (nat_lt max_source (length bytes)) (some_of long) (found (run g m g.begin m.start items))

  -- the first fault of tokens that are not too many
  abbrev pub HasFirst : List (Item g.Terminal) → TextFault → Type 0
  HasFirst items f = (i : Item g.Terminal) × (r : g.Rule) × (f ≡ fault_of i r) × IsFirst g items i r

  abbrev pub FirstFault : List ℕ → List (Item g.Terminal) → TextFault → Type 0
  FirstFault bytes items f = (max_source < length bytes → f ≡ long) × (length bytes ≤ max_source → HasFirst items f)

  found_first : (items : List (Item g.Terminal)) (f : TextFault) (o : Option (Found g m))
      → run g m g.begin m.start items ≡ o → found o ≡ some_of f → HasFirst items f
  found_first items f None h e = absurd cc
  found_first items f (Some x) h e =
      (x.item, x.rule, sym (same_some (fault_of x.item x.rule) f e), first_fault g m l items x h)

  pub fault_first : (bytes : List ℕ) (items : List (Item g.Terminal)) (f : TextFault)
      → answered bytes items ≡ some_of f → FirstFault bytes items f
  fault_first bytes items f e = go (nat_lt max_source (length bytes)) refl e
    where
      go : (b : Bool) → nat_lt max_source (length bytes) ≡ b
          → cond b (some_of long) (found (run g m g.begin m.start items)) ≡ some_of f → FirstFault bytes items f
      go true h k = (
        λ _. sym (same_some long f k),
        λ n. absurd (not_both max_source (length bytes) (ltb-true max_source (length bytes) h) n),
      )
      go false h k = (
        λ n. absurd (not_both max_source (length bytes) n (ltb-false max_source (length bytes) h)),
        λ _. found_first items f (run g m g.begin m.start items) refl k,
      )

  none_found : (o : Option (Found g m)) → found o ≡ None → o ≡ None
  none_found None e = refl
  none_found (Some x) e = absurd cc

  -- where no fault is answered, there are not too many bytes and the machine finds none
  pub not_faulty : (bytes : List ℕ) (items : List (Item g.Terminal)) → answered bytes items ≡ None
      → (length bytes ≤ max_source) × (run g m g.begin m.start items ≡ None)
  not_faulty bytes items e = go (nat_lt max_source (length bytes)) refl e
    where
      go : (b : Bool) → nat_lt max_source (length bytes) ≡ b
          → cond b (some_of long) (found (run g m g.begin m.start items)) ≡ None
          → (length bytes ≤ max_source) × (run g m g.begin m.start items ≡ None)
      go true h k = absurd cc
      go false h k =
          (ltb-false max_source (length bytes) h, none_found (run g m g.begin m.start items) k)

  pub text_spelled : (bytes : List ℕ) (items : List (Item g.Terminal)) (t : g.Text) → answered bytes items ≡ None
      → terminals g items ≡ kinds g (g.slots t) → g.IsText t → (length bytes ≤ max_source) × Spelled g items t
  text_spelled bytes items t e tokens h =
      (let fine = not_faulty bytes items e in (fine.0, spelled g m l items t fine.1 tokens h))

  found_not : (items : List (Item g.Terminal)) (f : TextFault) (t : g.Text) (o : Option (Found g m))
      → run g m g.begin m.start items ≡ o → found o ≡ some_of f → Spelled g items t → ⊥
  found_not items f t None h e s = absurd cc
  found_not items f t (Some x) h e s = not_spelled g m l items x t h s

  pub text_not_spelled : (bytes : List ℕ) (items : List (Item g.Terminal)) (f : TextFault) (t : g.Text)
      → answered bytes items ≡ some_of f → length bytes ≤ max_source → Spelled g items t → ⊥
  text_not_spelled bytes items f t e n s = go (nat_lt max_source (length bytes)) refl e
    where
      go : (b : Bool) → nat_lt max_source (length bytes) ≡ b
          → cond b (some_of long) (found (run g m g.begin m.start items)) ≡ some_of f → ⊥
      go true h k = not_both max_source (length bytes) (ltb-true max_source (length bytes) h) n
      go false h k = found_not items f t (run g m g.begin m.start items) refl k s
