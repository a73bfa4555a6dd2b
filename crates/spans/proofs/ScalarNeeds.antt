-- What statements do hangs on those scalars alone that they need: on two scalars that are alike there they do the same.
use Rattle.std.proofs.Common.{◌≡◌, ℕ, ◌==◌, Bool, true, List, [], ◌∷◌, Option, Some, refl, sym, ◌∙◌, ap, ap₂, subst}
use Rattle.std.specs.Prelude.{option_map, option_and_then, if◌then◌else◌}
use Rattle.std.proofs.lemmas.Bool.{eqb-true, eq-eqb, or_left, or_right, cond-true}
use Rattle.std.proofs.lemmas.Option.{same_Some}
use Rattle.base.specs.declared.item.Cell.{Cell}
use Rattle.base.specs.declared.tree.CombineOp.{CombineOp}
use Rattle.base.specs.declared.tree.Expr.{Expr}
use Rattle.base.specs.declared.tree.Expr.TheVariants.{Number, Scalar, LoopName, Cell', Unary', Binary', And', Or', Shift', Divide'}
use Rattle.base.specs.declared.tree.Source.{Source}
use Rattle.base.specs.declared.tree.Source.TheVariants.{Value, Read}
use Rattle.base.specs.Memory.{View, Scalars}
use Rattle.base.specs.Value.{Names, value, unary, binary, shifted, divided, combined, on_one, on_both, and_of, or_of}
use Rattle.base.specs.Meaning.{Run, seen, names_in, read_next, source_of, updated_by, set_scalar, assigned}
use Rattle.base.specs.ScalarUse.{expr_reads, source_reads}
use Rattle.spans.proofs.Known.{map_parts}

-- the value of an expression, of which the scalars that it reads are alike
module _ (loops : List ℕ) (cells : View) (here there : Scalars) where
  abbrev In : Scalars → Names
  In scalars = record { scalars = scalars; loops = loops; cells = cells }

  abbrev pub Alike : (ℕ → Bool) → Type 0
  Alike wanted = (x : ℕ) → wanted x ≡ true → there x ≡ here x

  pub value_alike : (e : Expr) → Alike (λ x. expr_reads x e) → value e (In there) ≡ value e (In here)
  value_alike (Number n) h = refl
  value_alike (Scalar y) h = ap Some (h y.0 (eq-eqb y.0 y.0 refl))
  value_alike (LoopName level) h = refl
  value_alike (Cell' a place p e) h =
      ap (option_and_then (λ i. cells (record { array = a; index = i }))) (value_alike e h)
  value_alike (Unary' op p e) h = ap (on_one (unary op)) (value_alike e h)
  value_alike (Binary' op p e q f) h =
      ap₂ (on_both (binary op)) (value_alike e (λ x k. h x (or_left (expr_reads x e) (expr_reads x f) k)))
      (value_alike f (λ x k. h x (or_right (expr_reads x e) (expr_reads x f) k)))
  value_alike (And' p e q f) h =
      ap₂ and_of (value_alike e (λ x k. h x (or_left (expr_reads x e) (expr_reads x f) k)))
      (value_alike f (λ x k. h x (or_right (expr_reads x e) (expr_reads x f) k)))
  value_alike (Or' p e q f) h =
      ap₂ or_of (value_alike e (λ x k. h x (or_left (expr_reads x e) (expr_reads x f) k)))
      (value_alike f (λ x k. h x (or_right (expr_reads x e) (expr_reads x f) k)))
  value_alike (Shift' op p e n) h = ap (on_one (λ a. shifted op a n.count)) (value_alike e h)
  value_alike (Divide' op p e n) h = ap (on_one (λ a. divided op a n.value)) (value_alike e h)

-- two runs that are alike but for scalars
pub record Beside (s s' : Run) : Type 0 where
  pub stores : s'.stores ≡ s.stores
  pub input : s'.input ≡ s.input
  pub printed : s'.printed ≡ s.printed

-- where the one run comes to an end, so does the other, beside it: with the scalars that were alike, and those that are
-- assigned, alike
pub record Follows (s s' t : Run) (set : ℕ → Bool) (o : Option Run) : Type 0 where
  pub end : Run
  pub is : o ≡ Some end
  pub beside : Beside t end
  pub kept : (x : ℕ) → s'.scalars x ≡ s.scalars x → end.scalars x ≡ t.scalars x
  pub alike : (x : ℕ) → set x ≡ true → end.scalars x ≡ t.scalars x

pub read_none : (s : Run) → s.input ≡ [] → read_next s ≡ (0, s)
read_none s e = rw e refl

pub read_one : (s : Run) (x : ℕ) (rest : List ℕ) → s.input ≡ x ∷ rest → read_next s ≡ (x, record s { input = rest })
read_one s x rest e = rw e refl

module _ (view : View) (loops : List ℕ) (s s' : Run) (b : Beside s s') where
  pub names_alike : (e : Expr) → ((x : ℕ) → expr_reads x e ≡ true → s'.scalars x ≡ s.scalars x) →
      value e (names_in view loops s') ≡ value e (names_in view loops s)
  names_alike e h =
      ap (λ st. value e (record { scalars = s'.scalars; loops = loops; cells = seen view st })) b.stores
      ∙ value_alike loops (seen view s.stores) s.scalars s'.scalars e h

  -- the same number is assigned
  pub record Sourced (r : ℕ × Run) (o : Option (ℕ × Run)) : Type 0 where
    pub end : Run
    pub is : o ≡ Some (r.0, end)
    pub beside : Beside r.1 end
    pub here : r.1.scalars ≡ s.scalars
    pub there : end.scalars ≡ s'.scalars

  pub source_follows : (v : Source) (r : ℕ × Run) → ((x : ℕ) → source_reads x v ≡ true → s'.scalars x ≡ s.scalars x) →
      source_of v view loops s ≡ Some r → Sourced r (source_of v view loops s')
  source_follows (Value e) r h k =
      let p = map_parts (λ v. (v, s)) (value e (names_in view loops s)) r k in
      subst (λ (r : ℕ × Run). Sourced r (source_of (Value e) view loops s')) p.2
      (record {
        end = s';
        is = ap (option_map (λ v. (v, s'))) (names_alike e h ∙ p.1);
        beside = b;
        here = refl;
        there = refl;
      })
  source_follows Read r h k =
      subst (λ (r : ℕ × Run). Sourced r (Some (read_next s'))) (same_Some (read_next s) r k) (go s.input refl)
    where
      go : (i : List ℕ) → s.input ≡ i → Sourced (read_next s) (Some (read_next s'))
      go [] p =
          subst (λ (q : ℕ × Run). Sourced q (Some (read_next s'))) (sym (read_none s p))
          (subst (λ (q : ℕ × Run). Sourced (0, s) (Some q)) (sym (read_none s' (b.input ∙ p)))
          (record { end = s'; is = refl; beside = b; here = refl; there = refl }))
      go (x ∷ rest) p =
          subst (λ (q : ℕ × Run). Sourced q (Some (read_next s'))) (sym (read_one s x rest p))
          (subst (λ (q : ℕ × Run). Sourced (x, record s { input = rest }) (Some q))
          (sym (read_one s' x rest (b.input ∙ p)))
          (record {
            end = record s' { input = rest };
            is = refl;
            beside = record { stores = b.stores; input = refl; printed = b.printed };
            here = refl;
            there = refl;
          }))

  -- and the same number is made of the cell's by an update
  pub updated_follows : (op : CombineOp) (e : Expr) (d : Cell) (r : ℕ × Run) →
      ((x : ℕ) → expr_reads x e ≡ true → s'.scalars x ≡ s.scalars x) → updated_by op e d view loops s ≡ Some r →
      Sourced r (updated_by op e d view loops s')
  updated_follows op e d r h k =
      let p = map_parts (λ v. (v, s)) (on_both (combined op) (seen view s.stores d) (value e (names_in view loops s))) r
      k in
      subst (λ (r : ℕ × Run). Sourced r (updated_by op e d view loops s')) p.2
      (record {
        end = s';
        is =
            ap (option_map (λ v. (v, s')))
            (ap₂ (on_both (combined op)) (ap (λ st. seen view st d) b.stores) (names_alike e h) ∙ p.1);
        beside = b;
        here = refl;
        there = refl;
      })

  pub assign_follows : (y : ℕ) (v : Source) (t : Run) →
      ((x : ℕ) → source_reads x v ≡ true → s'.scalars x ≡ s.scalars x) →
      assigned y (source_of v view loops s) ≡ Some t →
      Follows s s' t (λ x. x == y) (assigned y (source_of v view loops s'))
  assign_follows y v t h k =
      let p = map_parts (λ (r : ℕ × Run). record (r.1) { scalars = set_scalar y r.0 r.1.scalars })
      (source_of v view loops s) t k in
      let q = source_follows v p.0 h p.1 in
      subst (λ (t : Run). Follows s s' t (λ x. x == y) (assigned y (source_of v view loops s'))) p.2
      (record {
        end = record (q.end) { scalars = set_scalar y p.0.0 q.end.scalars };
        is = ap (assigned y) q.is;
        beside = record { stores = q.beside.stores; input = q.beside.input; printed = q.beside.printed };
        kept =
            λ x e. ap (λ z. if y == x then p.0.0 else z)
            (ap (λ (f : Scalars). f x) q.there ∙ (e ∙ sym (ap (λ (f : Scalars). f x) q.here)));
        alike =
            λ x e. let is : (y == x) ≡ true = eq-eqb y x (sym (eqb-true x y e)) in
            cond-true (y == x) p.0.0 (q.end.scalars x) is ∙ sym (cond-true (y == x) p.0.0 (p.0.1.scalars x) is);
      })
