-- The statements of a body, one after another, for the turns of a block that take part.
use Rattle.std.proofs.Common.{◌≡◌, ℕ, ◌+◌, ◌<◌, ◌≤◌, List, ◌∷◌, length, drop, get_or, refl, sym, ap, ◌∙◌, subst}
use Rattle.std.proofs.lemmas.List.{drop_more, drop_all}
use Rattle.base.specs.declared.tree.Stmt.{Stmt}
use Rattle.lanes.specs.Apart.{Block, block_body, block_stmt}
use Rattle.lanes.specs.There.{BodyThere, StmtThere}
use Rattle.kernel.specs.Lanes.{HaveSize, block_of, inside_of}
use Rattle.kernel.specs.Offsets.{places_of}
use Rattle.kernel.specs.Rows.{Parts}
use Rattle.kernel.specs.declared.turns.Lane.{Lane}
use Rattle.kernel.specs.declared.turns.Turns.{Turns}

-- what is left of a body from a place on
pub record Doing (at : Turns) (body : List Stmt) (lanes : List Lane) (rows : List Parts) (k : ℕ) (lanes' : List Lane) (rows' : List Parts) : Type 0 where
  pub sizes : HaveSize at.count lanes'
  pub there : BodyThere (places_of at.offset) (inside_of at) at.outer.now (drop k body) (block_of at lanes' rows')
  pub done : block_body (places_of at.offset) (inside_of at) at.outer.now (drop k body) (block_of at lanes' rows')
      ≡ block_body (places_of at.offset) (inside_of at) at.outer.now body (block_of at lanes rows)

pub begun : (at : Turns) (body : List Stmt) (lanes : List Lane) (rows : List Parts) → HaveSize at.count lanes →
    BodyThere (places_of at.offset) (inside_of at) at.outer.now body (block_of at lanes rows) → Doing at body lanes rows 0 lanes rows
begun at body lanes rows sizes there = record { sizes = sizes; there = there; done = refl }

module _ (at : Turns) (body : List Stmt) (lanes : List Lane) (rows : List Parts) (k : ℕ) (lanes' : List Lane) (rows' : List Parts)
    (h : Doing at body lanes rows k lanes' rows') where
  -- the next statement with those behind it
  first_is : (s : Stmt) → k < length body → s ≡ get_or body k s → drop k body ≡ s ∷ drop (k + 1) body
  first_is s lt is = drop_more body k s lt ∙ ap (λ (x : Stmt). x ∷ drop (k + 1) body) (sym is)

  both_there : (s : Stmt) → k < length body → s ≡ get_or body k s →
      BodyThere (places_of at.offset) (inside_of at) at.outer.now (s ∷ drop (k + 1) body) (block_of at lanes' rows')
  both_there s lt is =
      subst (λ (xs : List Stmt). BodyThere (places_of at.offset) (inside_of at) at.outer.now xs (block_of at lanes' rows'))
      (first_is s lt is) h.there

  pub this_there : (s : Stmt) → k < length body → s ≡ get_or body k s →
      StmtThere (places_of at.offset) (inside_of at) at.outer.now s (block_of at lanes' rows')
  this_there s lt is = (both_there s lt is).0

  pub one_done : (s : Stmt) (lanes'' : List Lane) (rows'' : List Parts) → k < length body → s ≡ get_or body k s →
      HaveSize at.count lanes'' →
      block_of at lanes'' rows'' ≡ block_stmt (places_of at.offset) (inside_of at) at.outer.now s (block_of at lanes' rows') →
      Doing at body lanes rows (k + 1) lanes'' rows''
  one_done s lanes'' rows'' lt is sizes block =
      record {
        sizes = sizes;
        there =
            subst (λ (b : Block). BodyThere (places_of at.offset) (inside_of at) at.outer.now (drop (k + 1) body) b) (sym block)
            (both_there s lt is).1;
        done =
            ap (λ (b : Block). block_body (places_of at.offset) (inside_of at) at.outer.now (drop (k + 1) body) b) block
            ∙ sym (ap (λ (xs : List Stmt). block_body (places_of at.offset) (inside_of at) at.outer.now xs (block_of at lanes' rows')) (first_is s lt is))
            ∙ h.done;
      }

  pub all_is_done : length body ≤ k →
      block_of at lanes' rows' ≡ block_body (places_of at.offset) (inside_of at) at.outer.now body (block_of at lanes rows)
  all_is_done le =
      sym (ap (λ (xs : List Stmt). block_body (places_of at.offset) (inside_of at) at.outer.now xs (block_of at lanes' rows')) (drop_all k body le))
      ∙ h.done
