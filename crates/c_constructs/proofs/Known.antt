-- The fault of a name by what it means.
use Rattle.std.proofs.Common.{◌≡◌, ℕ, Bool, List, ◌∷◌, Option, Some, None, refl, sym, ap, subst, ◌∙◌}
use Rattle.std.specs.Option.{option_map}
use Rattle.base.specs.declared.fault.ReadCode.TheVariants.{Undeclared, BadBound}
use Rattle.base.specs.declared.tree.ArrayId.{ArrayId}
use Rattle.base.specs.declared.tree.ScalarId.{ScalarId}
use Rattle.c_grammar.specs.Lines.{OfArray, OfLoop}
use Rattle.c_grammar.specs.Rules.{sort_of}
use Rattle.c_expressions.specs.declared.scope.Scope.{Scope}
use Rattle.c_expressions.specs.declared.scope.Meaning.{Meaning}
use Rattle.c_expressions.specs.declared.scope.Meaning.TheVariants as meaning
use Rattle.c_expressions.specs.Means.{MeansArray}
use Rattle.c_expressions.specs.Scopes.{context_of, sort_of_meaning}
use Rattle.directives.specs.Names.{Uses}
use Rattle.c_constructs.specs.Uses.{fault_in}

abbrev Sorts : Scope → List ℕ → Option Meaning → Type 0
Sorts s x o = (d n : ℕ) → option_map sort_of_meaning o ≡ sort_of (context_of s d n) x

pub array_known : (s : Scope) (column : ℕ) (x : List ℕ) (m : Meaning) (a : ArrayId) (us : Uses) →
    Sorts s x (Some m) → m ≡ meaning.Array a →
    fault_in s ((column, OfArray x) ∷ us) ≡ fault_in s us
unfolding fault_in
array_known s column x m a us h e =
    let k : Sorts s x (Some (meaning.Array a)) = subst (λ (n : Meaning). Sorts s x (Some n)) e h in rw (sym (k 0 0))
    refl

pub array_boxed : (s : Scope) (column : ℕ) (x : List ℕ) (m : Meaning) (a : ArrayId) (n : ScalarId) (us : Uses) →
    Sorts s x (Some m) → m ≡ meaning.Boxed a n →
    fault_in s ((column, OfArray x) ∷ us) ≡ fault_in s us
unfolding fault_in
array_boxed s column x m a n us h e =
    let k : Sorts s x (Some (meaning.Boxed a n)) = subst (λ (n : Meaning). Sorts s x (Some n)) e h in rw (sym (k 0 0))
    refl

pub array_scalar : (s : Scope) (column : ℕ) (x : List ℕ) (m : Meaning) (a : ScalarId) (b : Bool) (us : Uses) →
    Sorts s x (Some m) → m ≡ meaning.Scalar a b →
    fault_in s ((column, OfArray x) ∷ us) ≡ Some (record { code = Undeclared; column = column })
unfolding fault_in
array_scalar s column x m a b us h e =
    let k : Sorts s x (Some (meaning.Scalar a b)) = subst (λ (n : Meaning). Sorts s x (Some n)) e h in rw
    (sym (k 0 0)) refl

pub array_loop : (s : Scope) (column : ℕ) (x : List ℕ) (m : Meaning) (n : ℕ) (us : Uses) → Sorts s x (Some m) →
    m ≡ meaning.Loop n →
    fault_in s ((column, OfArray x) ∷ us) ≡ Some (record { code = Undeclared; column = column })
unfolding fault_in
array_loop s column x m n us h e =
    let k : Sorts s x (Some (meaning.Loop n)) = subst (λ (n : Meaning). Sorts s x (Some n)) e h in rw (sym (k 0 0)) refl

pub array_none : (s : Scope) (column : ℕ) (x : List ℕ) (us : Uses) → Sorts s x None →
    fault_in s ((column, OfArray x) ∷ us) ≡ Some (record { code = Undeclared; column = column })
unfolding fault_in
array_none s column x us h = rw (sym (h 0 0)) refl

pub loop_known : (s : Scope) (column : ℕ) (x : List ℕ) (m : Meaning) (n : ℕ) (us : Uses) → Sorts s x (Some m) →
    m ≡ meaning.Loop n →
    fault_in s ((column, OfLoop x) ∷ us) ≡ fault_in s us
unfolding fault_in
loop_known s column x m n us h e =
    let k : Sorts s x (Some (meaning.Loop n)) = subst (λ (n : Meaning). Sorts s x (Some n)) e h in rw (sym (k 0 0)) refl

pub loop_scalar : (s : Scope) (column : ℕ) (x : List ℕ) (m : Meaning) (a : ScalarId) (b : Bool) (us : Uses) →
    Sorts s x (Some m) → m ≡ meaning.Scalar a b →
    fault_in s ((column, OfLoop x) ∷ us) ≡ Some (record { code = BadBound; column = column })
unfolding fault_in
loop_scalar s column x m a b us h e =
    let k : Sorts s x (Some (meaning.Scalar a b)) = subst (λ (n : Meaning). Sorts s x (Some n)) e h in rw
    (sym (k 0 0)) refl

pub loop_boxed : (s : Scope) (column : ℕ) (x : List ℕ) (m : Meaning) (a : ArrayId) (n : ScalarId) (us : Uses) →
    Sorts s x (Some m) → m ≡ meaning.Boxed a n →
    fault_in s ((column, OfLoop x) ∷ us) ≡ Some (record { code = BadBound; column = column })
unfolding fault_in
loop_boxed s column x m a n us h e =
    let k : Sorts s x (Some (meaning.Boxed a n)) = subst (λ (n : Meaning). Sorts s x (Some n)) e h in rw (sym (k 0 0))
    refl

pub loop_array : (s : Scope) (column : ℕ) (x : List ℕ) (m : Meaning) (a : ArrayId) (us : Uses) →
    Sorts s x (Some m) → m ≡ meaning.Array a →
    fault_in s ((column, OfLoop x) ∷ us) ≡ Some (record { code = Undeclared; column = column })
unfolding fault_in
loop_array s column x m a us h e =
    let k : Sorts s x (Some (meaning.Array a)) = subst (λ (n : Meaning). Sorts s x (Some n)) e h in rw (sym (k 0 0))
    refl

pub loop_none : (s : Scope) (column : ℕ) (x : List ℕ) (us : Uses) → Sorts s x None →
    fault_in s ((column, OfLoop x) ∷ us) ≡ Some (record { code = Undeclared; column = column })
unfolding fault_in
loop_none s column x us h = rw (sym (h 0 0)) refl

-- ---- which array it is

pub means_array : (o : Option Meaning) (m : Meaning) (a : ArrayId) → o ≡ Some m → m ≡ meaning.Array a → MeansArray o a
means_array o m a e h =
    subst (λ (u : Option Meaning). MeansArray u a) (sym (e ∙ ap (λ (n : Meaning). Some n) h)) refl

pub means_boxed : (o : Option Meaning) (m : Meaning) (a : ArrayId) (n : ScalarId) → o ≡ Some m →
    m ≡ meaning.Boxed a n → MeansArray o a
means_boxed o m a n e h =
    subst (λ (u : Option Meaning). MeansArray u a) (sym (e ∙ ap (λ (k : Meaning). Some k) h)) refl
