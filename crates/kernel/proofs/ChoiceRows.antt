-- Choices whose branches stand in vectors.
use Rattle.std.proofs.Common.{◌≡◌, ℕ, Bool, true, false, List, refl, sym, ap, ap₂, ◌∙◌, subst, Vec, Global}
use Rattle.std.specs.Prelude.{◌&&◌, ◌||◌}
use mathlib.Core.Former.{Count}
use Rattle.base.specs.declared.tree.Expr.{Expr}
use Rattle.base.specs.declared.tree.Stmt.{Stmt, If, Row_of-Stmt, end_of-Stmt, more_of-Stmt, items-the_row-Stmt, items_hidden-the_row-Stmt-0}
use Rattle.base.proofs.StmtRows.{first_row, second_row}
use Rattle.lanes.specs.Apart.{Set, Block, assigned_in, block_body, block_stmt, is_apart, where_false, where_true}
use Rattle.lanes.specs.There.{BodyThere, HasValues, StmtThere}
use Rattle.lanes.proofs.ChoicesIn.{ChoiceThere, apart_If, assigned_If, block_If, there_If}
use Rattle.kernel.specs.Lanes.{IsPart, inside_of, masked}
use Rattle.kernel.specs.Loops.{AreApartFor, AreSettled, IsApartFor, IsSettled, certain_in, stored_by, row_stored, stored_in}
use Rattle.kernel.specs.Offsets.{places_of}
use Rattle.kernel.specs.declared.turns.Turns.{Turns}

stored_items : (n : Count) (row : Row_of-Stmt n) (a : ℕ) → row_stored row a ≡ stored_in (items-the_row-Stmt n row) a
stored_items n end_of-Stmt a = refl
stored_items n (more_of-Stmt first rest) a = ap (λ b. stored_by first a || b) (stored_items _ rest a)

either : (p q : Bool) → (p || q) ≡ true → (P : Type 0) → (p ≡ true → P) → (q ≡ true → P) → P
either true q h P f g = f refl
either false q h P f g = g h

module _ (c : Expr) (all other : Vec Stmt Global) where
  pub stored_If : (a : ℕ) → stored_by (If c all other) a ≡ (stored_in all.items a || stored_in other.items a)
  stored_If a =
      ap₂ (λ p q. p || q)
      (stored_items _ (first_row (If c all other)).1 a ∙ ap (λ (xs : List Stmt). stored_in xs a) (items_hidden-the_row-Stmt-0 all))
      (stored_items _ (second_row (If c all other)).1 a ∙ ap (λ (xs : List Stmt). stored_in xs a) (items_hidden-the_row-Stmt-0 other))

  pub settled_If : (body : List Stmt) → AreSettled body all.items → AreSettled body other.items → IsSettled body (If c all other)
  settled_If body h k x e =
      either (assigned_in all.items x) (assigned_in other.items x) (sym (assigned_If c all other x) ∙ e) (certain_in body x ≡ true) (h x) (k x)

  pub choice_apart : (here : Expr → Bool) (body : List Stmt) (loose : Set) →
      is_apart (stored_in body) loose here c ≡ true → AreApartFor here body loose all.items → AreApartFor here body loose other.items →
      IsApartFor here body loose (If c all other)
  choice_apart here body loose h k l =
      apart_If c all other (stored_in body) (assigned_in body) loose here
      ∙ ap₂ (λ p q. p && q) h (ap₂ (λ p q. p && q) k l)

-- a choice in a block of turns, whose branches are done for the turns of two masks
module _ (c : Expr) (all other : Vec Stmt Global) (at : Turns) (s : Stmt) where
  needs : (b : Block) → s ≡ If c all other → StmtThere (places_of at.offset) (inside_of at) at.outer.now s b →
      ChoiceThere c all other (places_of at.offset) (inside_of at) at.outer.now b
  needs b is h =
      there_If c all other (places_of at.offset) (inside_of at) at.outer.now b
      (subst (λ (x : Stmt). StmtThere (places_of at.offset) (inside_of at) at.outer.now x b) is h)

  pub condition_there : (b : Block) → s ≡ If c all other → StmtThere (places_of at.offset) (inside_of at) at.outer.now s b →
      HasValues (inside_of at) at.outer.now c b
  condition_there b is h = (needs b is h).condition

  pub first_there : (first : List Stmt) (b : Block) → s ≡ If c all other → first ≡ all.items → (chosen : List Bool) →
      IsPart at chosen (where_true (inside_of at) c b at.outer.now) →
      StmtThere (places_of at.offset) (inside_of at) at.outer.now s b →
      BodyThere (places_of at.offset) (masked at chosen) at.outer.now first b
  first_there first b is one chosen p h =
      subst (λ (inside : ℕ → Bool). BodyThere (places_of at.offset) inside at.outer.now first b) (sym p.is)
      (subst (λ (xs : List Stmt). BodyThere (places_of at.offset) (where_true (inside_of at) c b at.outer.now) at.outer.now xs b) (sym one)
      (needs b is h).first_there)

  module _ (first second : List Stmt) (b : Block) (is : s ≡ If c all other) (one : first ≡ all.items) (two : second ≡ other.items)
      (chosen others : List Bool) (p : IsPart at chosen (where_true (inside_of at) c b at.outer.now))
      (q : IsPart at others (where_false (inside_of at) c b at.outer.now)) (d : Block)
      (done : d ≡ block_body (places_of at.offset) (masked at chosen) at.outer.now first b) where
    first_done : d ≡ block_body (places_of at.offset) (where_true (inside_of at) c b at.outer.now) at.outer.now all.items b
    first_done =
        done ∙ ap₂ (λ (inside : ℕ → Bool) (xs : List Stmt). block_body (places_of at.offset) inside at.outer.now xs b) p.is one

    pub second_there : StmtThere (places_of at.offset) (inside_of at) at.outer.now s b →
        BodyThere (places_of at.offset) (masked at others) at.outer.now second d
    second_there h =
        subst (λ (inside : ℕ → Bool). BodyThere (places_of at.offset) inside at.outer.now second d) (sym q.is)
        (subst (λ (xs : List Stmt). BodyThere (places_of at.offset) (where_false (inside_of at) c b at.outer.now) at.outer.now xs d) (sym two)
        (subst (λ (x : Block). BodyThere (places_of at.offset) (where_false (inside_of at) c b at.outer.now) at.outer.now other.items x)
        (sym first_done) (needs b is h).second_there))

    pub choice_done : (e : Block) → e ≡ block_body (places_of at.offset) (masked at others) at.outer.now second d →
        e ≡ block_stmt (places_of at.offset) (inside_of at) at.outer.now s b
    choice_done e end =
        end
        ∙ ap₂ (λ (inside : ℕ → Bool) (xs : List Stmt). block_body (places_of at.offset) inside at.outer.now xs d) q.is two
        ∙ ap (λ (x : Block). block_body (places_of at.offset) (where_false (inside_of at) c b at.outer.now) at.outer.now other.items x) first_done
        ∙ sym (block_If c all other (places_of at.offset) (inside_of at) at.outer.now b)
        ∙ ap (λ (x : Stmt). block_stmt (places_of at.offset) (inside_of at) at.outer.now x b) (sym is)
