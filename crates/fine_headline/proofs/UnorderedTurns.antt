-- The independent turns of a region, in whatever order they go on, leave what the region leaves: the scalars with which
-- each begins are those at the region's start, and none that it needs is given by another one.
use Rattle.std.proofs.Common.{◌≡◌, ◌⊎◌, ℕ, false, List, [], ◌∷◌, map, Some, refl, sym, ◌∙◌, ap, inl, inr, subst, true}
use Rattle.std.specs.Prelude.{option_map, unwrap_or, flat_map}
use Rattle.std.specs.List.{list_any}
use Rattle.std.proofs.lemmas.Option.{same_Some}
use Rattle.base.specs.declared.item.Cell.{Cell}
use Rattle.base.specs.declared.tree.Stmt.{Stmt}
use Rattle.base.specs.Memory.{Scalars, Stores, last_stored}
use Rattle.base.specs.Meaning.{Run, seen, run_list}
use Rattle.base.specs.Map.{Memories, Fill}
use Rattle.base.specs.Footprint.{Touch, reads, writes, stmt_touches}
use Rattle.base.specs.ScalarUse.{list_needs, list_assigned}
use Rattle.base.specs.Turns.{Turn, turns_at, turn_touches, gives_scalar, commute_at, Independent}
use Rattle.fine_machine.specs.Left.{Left, OnDevice, turn_left, unordered_left}
use Rattle.regions.specs.Footprints.{BoundedScalars}
use Rattle.regions.proofs.Needs.{Every}
use Rattle.regions.proofs.StatementsDone.{AllSmall, SmallView}
use Rattle.fine_headline.proofs.Reaching.{Reaches, bare, then_parts}
use Rattle.fine_headline.proofs.RegionReaching.{stored_on_device, nothing_stored}
use Rattle.fine_headline.proofs.KernelKeeps.{EachTurn, IsWithin, turns_within}
use Rattle.fine_headline.proofs.ScalarTurns.{list_beside}
use Rattle.fine_headline.proofs.Unassigned.{list_leaves}
use Rattle.fine_headline.proofs.Alone.{Alone}
use Rattle.fine_headline.proofs.TurnsTogether.{InTurn, together_reaches}
use Rattle.fine_headline.proofs.TurnAlone.{on_device, look_there, alter_there, begins, turn_alone}
use Rattle.fine_headline.proofs.TurnTotal.{Has, HasAll, has_all, turn_total, reads_only, some_cell}
use Rattle.fine_headline.proofs.LocalTurns.{none_where, Misses, misses_first, meets_first, are_clear}
use Rattle.fine_headline.proofs.RegionTurns.{all_run, turns_run}

module _ (lengths : List ℕ) (fill : Fill) (m : Memories) (scalars : Scalars) (bounded : BoundedScalars scalars) where
  -- what a turn that writes needs is as it was at the region's start
  abbrev IsReady : Turn → Run → Type 0
  IsReady t s =
      (c : Cell) → writes (turn_touches t) c ≡ true → (x : ℕ) → list_needs x t.body ≡ true → scalars x ≡ s.scalars x

  abbrev AreReady : List Turn → Run → Type 0
  AreReady [] s = Unit {0}
  AreReady (t ∷ rest) s = IsReady t s × AreReady rest s

  still_ready : (t : Turn) (us : List Turn) (s r : Run) → ((c : Cell) → Misses t us c) →
      run_list t.body m.device.cells t.loops s ≡ Some r → AreReady us s → AreReady us r
  still_ready t [] s r h e ready = tt
  still_ready t (u ∷ us) s r h e ready = (
    λ c w x k. let none = none_where (writes (turn_touches u) c) (reads (turn_touches t) c)
        (writes (turn_touches t) c) (commute_at (turn_touches u) (turn_touches t) c) (gives_scalar t u)
        (misses_first t u us c (h c)).1 w in
        let l = list_leaves m.device.cells (λ x. list_needs x u.body) t.body t.loops s r none.1 e in
        ready.0 c w x k ∙ sym (l.scalars x k),
    still_ready t us s r (λ c. (misses_first t u us c (h c)).2) e ready.1,
  )

  nothing_in : (xs : List ℕ) → list_any (λ x. false) xs ≡ false
  nothing_in [] = refl
  nothing_in (x ∷ xs) = nothing_in xs

  at_start : (turns : List Turn) → AreReady turns (begins scalars)
  at_start [] = tt
  at_start (t ∷ rest) = (λ c w x k. refl, at_start rest)

  -- a cell that is there is there after some stores
  still_there : (xs : List Touch) (stores : Stores) → HasAll m.device.cells xs → HasAll (seen m.device.cells stores) xs
  still_there xs stores h c e =
      let p = h c e in (
        unwrap_or (last_stored stores c) p.0,
        ap (option_map (λ old. unwrap_or (last_stored stores c) old)) p.1,
      )

  -- a turn that is run where others have left its scalars, from the scalars at the start
  one_turn : (t : Turn) (s r : Run) → IsWithin (Has m.device.cells) t → s.input ≡ [] →
      SmallView (seen m.device.cells s.stores) → IsReady t s →
      Alone OnDevice (turn_touches t) (turn_left (bare s) t) (seen m.device.cells s.stores)
      (seen m.device.cells r.stores) → run_list t.body m.device.cells t.loops s ≡ Some r →
      Alone OnDevice (turn_touches t) (turn_left (begins scalars) t) (seen m.device.cells s.stores)
      (seen m.device.cells r.stores)
  one_turn t s r w i small ready done e = go (some_cell (turn_touches t))
    where
      go : ((c : Cell) × (writes (turn_touches t) c ≡ true)) ⊎ ((c : Cell) → writes (turn_touches t) c ≡ false) →
          Alone OnDevice (turn_touches t) (turn_left (begins scalars) t) (seen m.device.cells s.stores)
          (seen m.device.cells r.stores)
      go (inl p) =
          let begin : Run = record { scalars = scalars; stores = s.stores; input = []; printed = [] } in
          let f = list_beside m.device.cells t.body t.loops s begin r (record { stores = refl; input = sym i })
          (ready p.0 p.1) e in
          subst (λ st. Alone OnDevice (turn_touches t) (turn_left (begins scalars) t) (seen m.device.cells s.stores)
          (seen m.device.cells st)) f.beside.stores
          (turn_alone lengths fill m t begin f.end bounded tt w.loops small f.is).alone
      go (inr n) =
          let p = turn_total t scalars (seen m.device.cells s.stores) bounded w.loops
          (still_there (turn_touches t) s.stores (has_all m.device.cells (turn_touches t) w.touches)) small in
          let same : p.0 ≡ seen m.device.cells r.stores = reads_only t (turn_left (begins scalars) t)
          (seen m.device.cells s.stores) p.0 n p.1
          ∙ sym (reads_only t (turn_left (bare s) t) (seen m.device.cells s.stores) (seen m.device.cells r.stores) n
          done) in
          subst (Alone OnDevice (turn_touches t) (turn_left (begins scalars) t) (seen m.device.cells s.stores)) same p.1

  -- the turns that are run one after the other, each from the scalars at the start
  in_turn : (turns : List Turn) (s r : Run) → Independent turns → EachTurn (IsWithin (Has m.device.cells)) turns →
      s.input ≡ [] → BoundedScalars s.scalars → SmallView (seen m.device.cells s.stores) → AreReady turns s →
      all_run m.device.cells turns s ≡ Some r →
      InTurn OnDevice (map turn_touches turns) (map (turn_left (begins scalars)) turns) (seen m.device.cells s.stores)
      (seen m.device.cells r.stores)
  in_turn [] s r h w i b small ready e = ap (λ (s : Run). seen m.device.cells s.stores) (same_Some s r e)
  in_turn (t ∷ rest) s r h w i b small ready e =
      let p = then_parts (all_run m.device.cells rest) (run_list t.body m.device.cells t.loops s) r e in
      let done = turn_alone lengths fill m t s p.0 b (subst AllSmall (sym i) tt) w.0.loops small p.1 in
      let l = list_leaves m.device.cells (λ x. false) t.body t.loops s p.0 (nothing_in (list_assigned t.body)) p.1 in (
        seen m.device.cells p.0.stores,
        one_turn t s p.0 w.0 i small ready.0 done.alone p.1,
        in_turn rest p.0 r (λ c. (meets_first t rest c (h c)).1) w.1 (l.input i) done.bounded done.small
            (still_ready t rest s p.0 (λ c. (meets_first t rest c (h c)).0) p.1 ready.1) p.2,
      )

  -- in whatever order
  pub unordered_reaches : (order : List ℕ) (depth : ℕ) (body : List Stmt) (loops : List ℕ) (r : Run) (k : Run → Left) →
      SmallView m.device.cells → AllSmall loops → Independent (turns_at depth body loops) →
      Every (Has m.device.cells) (flat_map (λ s. stmt_touches s loops true) body) →
      run_list body m.device.cells loops (begins scalars) ≡ Some r →
      Reaches lengths fill (unordered_left order depth body loops (begins scalars) k) m (k (begins scalars))
      (stored_on_device m r.stores)
  unordered_reaches order depth body loops r k small l apart has e =
      subst (λ n. Reaches lengths fill (unordered_left order depth body loops (begins scalars) k) n
      (k (begins scalars)) (stored_on_device m r.stores)) (nothing_stored lengths fill m)
      (together_reaches lengths fill OnDevice (on_device m) (look_there lengths fill m) (alter_there lengths fill m) order
      (map turn_touches turns) (map (turn_left (begins scalars)) turns) (seen m.device.cells [])
      (seen m.device.cells r.stores) (k (begins scalars)) (are_clear OnDevice turns apart)
      (in_turn turns (begins scalars) r apart (turns_within (Has m.device.cells) depth body loops l has) refl bounded
      (subst SmallView (sym same) small) (at_start turns) (sym (turns_run m.device.cells depth body loops
      (begins scalars)) ∙ e)))
    where
      turns : List Turn
      turns = turns_at depth body loops

      same : seen m.device.cells [] ≡ m.device.cells
      same = ap (λ (n : Memories). n.device.cells) (nothing_stored lengths fill m)
