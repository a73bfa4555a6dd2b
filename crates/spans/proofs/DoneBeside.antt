-- What is done beside each other on scalars that are alike where they are needed: one thing after the other, and turns.
use Rattle.std.proofs.Common.{◌≡◌, ℕ, zero, suc, ◌+◌, Bool, true, false, Option, Some, None, refl, ap, subst, ◌∙◌, ⊎_elim}
use Rattle.std.specs.Prelude.{not, ◌&&◌, ◌||◌, option_and_then}
use Rattle.std.proofs.lemmas.Bool.{false≢true, or_left, or_right, or_cases}
use Rattle.std.proofs.lemmas.Option.{same_Some, none-some}
use Rattle.base.specs.Meaning.{Run, turn}
use Rattle.spans.proofs.Known.{then_parts}
use Rattle.spans.proofs.ScalarNeeds.{Beside, Follows}

-- the one that is done, and the other beside it, where what is needed is alike
abbrev pub DoesBeside : (ℕ → Bool) → (ℕ → Bool) → (Run → Option Run) → Type 0
DoesBeside needed set f =
    (s s' t : Run) → Beside s s' → ((x : ℕ) → needed x ≡ true → s'.scalars x ≡ s.scalars x) → f s ≡ Some t →
    Follows s s' t set (f s')

pub same_end : (s s' t : Run) → Beside s s' → Some s ≡ Some t → Follows s s' t (λ x. false) (Some s')
same_end s s' t b e =
    subst (λ (t : Run). Follows s s' t (λ x. false) (Some s')) (same_Some s t e)
    (record { end = s'; is = refl; beside = b; kept = λ x h. h; alike = λ x h. absurd (false≢true h) })

-- fewer are known to be assigned
pub fewer_follow : (set less : ℕ → Bool) (s s' t : Run) (o : Option Run) →
    ((x : ℕ) → less x ≡ true → set x ≡ true) → Follows s s' t set o → Follows s s' t less o
fewer_follow set less s s' t o h f =
    record { end = f.end; is = f.is; beside = f.beside; kept = f.kept; alike = λ x k. f.alike x (h x k) }

needed_later : {A : Type 0} (a c d : Bool) → d ≡ true → (c ≡ true → A) → ((a || (not c && d)) ≡ true → A) → A
needed_later a true d k f g = f refl
needed_later a false d k f g = g (or_right a d k)

-- one after the other, of which the first assigns some scalars for certain
pub then_beside : (needed set sure needed' sure' : ℕ → Bool) (f g : Run → Option Run) →
    ((x : ℕ) → set x ≡ true → sure x ≡ true) → DoesBeside needed sure f → DoesBeside needed' sure' g →
    DoesBeside (λ x. needed x || (not (set x) && needed' x)) (λ x. sure x || sure' x) (λ s. option_and_then g (f s))
then_beside needed set sure needed' sure' f g more one two s s' t b h e =
    let p = then_parts g (f s) t e in
    let q = one s s' p.0 b (λ x k. h x (or_left (needed x) (not (set x) && needed' x) k)) p.1 in
    let r = two p.0 q.end t q.beside (λ x k. needed_later (needed x) (set x) (needed' x) k
    (λ c. q.alike x (more x c)) (λ c. q.kept x (h x c))) p.2 in
    record {
      end = r.end;
      is = ap (option_and_then g) q.is ∙ r.is;
      beside = r.beside;
      kept = λ x k. r.kept x (q.kept x k);
      alike = λ x k. ⊎_elim (λ c. r.kept x (q.alike x c)) (λ c. r.alike x c) (or_cases (sure x) (sure' x) k);
    }

abbrev pub some : ℕ → Bool
some zero = false
some (suc n) = true

pub turns_beside : (needed sure : ℕ → Bool) (f : ℕ → Run → Option Run) →
    ((v : ℕ) → DoesBeside needed sure (f v)) → (n v step : ℕ) →
    DoesBeside needed (λ x. some n && sure x) (turn n v step f)
turns_beside needed sure f each zero v step s s' t b h e = same_end s s' t b e
turns_beside needed sure f each (suc n) v step s s' t b h e =
    go (f v s) refl e (λ u u' b k g. turns_beside needed sure f each n (v + step) step u u' t b k g)
  where
    go : (o : Option Run) → f v s ≡ o → elim o [ None ↦ None | Some u ↦ turn n (v + step) step f u ] ≡ Some t →
        ((u u' : Run) → Beside u u' → ((x : ℕ) → needed x ≡ true → u'.scalars x ≡ u.scalars x) →
        turn n (v + step) step f u ≡ Some t →
        Follows u u' t (λ x. some n && sure x) (turn n (v + step) step f u')) →
        Follows s s' t sure (elim (f v s') [ None ↦ None | Some u ↦ turn n (v + step) step f u ])
    go None is g again = absurd (none-some t g)
    go (Some u) is g again =
        let q = each v s s' u b h is in
        let r = again u q.end q.beside (λ x k. q.kept x (h x k)) g in
        record {
          end = r.end;
          is = ap (λ o. elim o [ None ↦ None | Some u ↦ turn n (v + step) step f u ]) q.is ∙ r.is;
          beside = r.beside;
          kept = λ x k. r.kept x (q.kept x k);
          alike = λ x k. r.kept x (q.alike x k);
        }
