-- A turn that is run on a device's cells is done alone, action by action, and touches no more than is said of it.
use Rattle.std.proofs.Common.{◌≡◌, ℕ, ◌<◌, ◌^◌, Bool, true, false, List, [], ◌∷◌, Some, None, refl, sym, ◌∙◌, ap, subst}
use Rattle.std.specs.Prelude.{option_map, if◌then◌else◌}
use mathlib.Core.Path.{fun_ext}
use Rattle.std.proofs.lemmas.Bool.{cond_both}
use Rattle.std.proofs.lemmas.Option.{same_Some, none-some}
use Rattle.base.specs.declared.item.Cell.{Cell}
use Rattle.base.specs.Memory.{View, Scalars, same_cell}
use Rattle.base.specs.Value.{combined}
use Rattle.base.specs.Meaning.{Run, seen, run_list}
use Rattle.base.specs.Map.{Memories, Fill}
use Rattle.base.specs.Footprint.{Touch}
use Rattle.base.specs.Turns.{Turn, turn_touches}
use Rattle.fine_machine.specs.Left.{Left, Finished, Asks, Request, Answer, Load, Store, Combine, OnDevice, turn_left}
use Rattle.fine_machine.specs.Action.{loaded, act, with_device}
use Rattle.regions.specs.Footprints.{BoundedScalars}
use Rattle.regions.proofs.Intervals.{combined_small}
use Rattle.regions.proofs.Needs.{Every}
use Rattle.regions.proofs.StatementsDone.{AllSmall, SmallView, Fine}
use Rattle.fine_headline.proofs.Reaching.{Reaches, there, next, bare, map_parts, list_reaches}
use Rattle.fine_headline.proofs.RegionReaching.{stored_on_device, device_look, device_put, device_update, same_cells}
use Rattle.fine_headline.proofs.Regional.{Allowed, list_all}
use Rattle.fine_headline.proofs.Alone.{Member, first, later, Looks, Changes, Alters, by_store, by_update, change_at, Alone, ended, loads, alters}

-- each touch of a turn is one of its touches
pub turn_allowed : (xs : List Touch) → Every (Allowed (λ mark. Looks mark xs) (λ mark. Changes mark xs)) xs
turn_allowed xs = go xs (λ t m. m)
  where
    go : (ys : List Touch) → ((t : Touch) → Member t ys → Member t xs) →
        Every (Allowed (λ mark. Looks mark xs) (λ mark. Changes mark xs)) ys
    go [] h = tt
    go (t ∷ ys) h = (
      record {
        read = λ e c i. record { touch = t; is_in = h t (first ys); sort = e; combines = refl; has = i };
        written = λ e c i. record { touch = t; is_in = h t (first ys); sort = e; combines = refl; has = i };
      },
      go ys (λ u m. h u (later t ys m)),
    )

-- a change to numbers below 2^64
pub change_small : (c : Cell) (f : ℕ → ℕ) (v : View) → SmallView v → ((a : ℕ) → a < 2 ^ 64 → f a < 2 ^ 64) →
    SmallView (change_at c f v)
change_small c f v small below d n =
    cond_both (same_cell c d) (option_map f (v d)) (v d) (λ o. o ≡ Some n → n < 2 ^ 64)
    (λ _ e. let p = map_parts f (v d) n e in subst (λ y. y < 2 ^ 64) p.2 (below p.0 (small d p.0 p.1)))
    (λ _ e. small d n e)

-- what is put where something was
put_is : (c : Cell) (f : ℕ → ℕ) (v : View) (old : ℕ) → v c ≡ Some old →
    (λ d. if same_cell c d then Some (f old) else v d) ≡ change_at c f v
put_is c f v old e = fun_ext (λ d. go d (same_cell c d) refl)
  where
    go : (d : Cell) (b : Bool) → same_cell c d ≡ b →
        (if b then Some (f old) else v d) ≡ (if b then option_map f (v d) else v d)
    go d false q = refl
    go d true q = sym (ap (option_map f) (ap v (sym (same_cells c d q)) ∙ e))

-- the memories with these cells on the device
abbrev pub on_device : Memories → View → Memories
on_device m v = record m { device = record (m.device) { cells = v } }

module _ (lengths : List ℕ) (fill : Fill) (m : Memories) where
  pub look_there : (v : View) (c : Cell) (n : ℕ) → v c ≡ Some n →
      act lengths fill (Load OnDevice c) (on_device m v) ≡ Some (loaded n, on_device m v)
  look_there v c n e = ap (option_map (λ n. (loaded n, on_device m v))) e

  pub alter_there : (xs : List Touch) (r : Request) (c : Cell) (f : ℕ → ℕ) → Alters OnDevice xs r c f → (v : View)
      (old : ℕ) → v c ≡ Some old →
      act lengths fill r (on_device m v) ≡ Some (loaded 0, on_device m (change_at c f v))
  alter_there xs _ _ _ (by_store c n h) v old e =
      ap (option_map (λ old. (loaded 0, with_device c n (on_device m v)))) e
      ∙ ap (λ u. Some (loaded 0, on_device m u)) (put_is c (λ old. n) v old e)
  alter_there xs _ _ _ (by_update op c n h) v old e =
      ap (option_map (λ old. (loaded 0, with_device c (combined op old n) (on_device m v)))) e
      ∙ ap (λ u. Some (loaded 0, on_device m u)) (put_is c (λ old. combined op old n) v old e)

  -- what is changed was there
  was_there : (xs : List Touch) (r : Request) (c : Cell) (f : ℕ → ℕ) → Alters OnDevice xs r c f → (v : View)
      (p : Answer × Memories) → act lengths fill r (on_device m v) ≡ Some p → (old : ℕ) × (v c ≡ Some old)
  was_there xs _ _ _ (by_store c n h) v p e =
      let q = map_parts (λ old. (loaded 0, with_device c n (on_device m v))) (v c) p e in (q.0, q.1)
  was_there xs _ _ _ (by_update op c n h) v p e =
      let q = map_parts (λ old. (loaded 0, with_device c (combined op old n) (on_device m v))) (v c) p e in (q.0, q.1)

  -- a run of what is left, on numbers below 2^64, is one of a turn alone
  record IsAlone (xs : List Touch) (l : Left) (v : View) (t : Run) (end : Memories) : Type 0 where
    view : View
    is : end ≡ on_device m view
    small : SmallView view
    bounded : BoundedScalars t.scalars
    alone : Alone OnDevice xs l v view

  abbrev RunsAlone : List Touch → Left → Type 0
  RunsAlone xs l =
      (v : View) (begin end : Memories) (t : Run) → SmallView v → begin ≡ on_device m v →
      Reaches lengths fill l begin (Finished t) end → IsAlone xs l v t end

  module _ (xs : List Touch) where
    finished_alone : (t : Run) → Fine t → RunsAlone xs (Finished t)
    finished_alone t f v begin end r small is (there _ _) =
        record { view = v; is = is; small = small; bounded = f.scalars; alone = ended t v }

    loads_alone : (c : Cell) (k : Answer → Left) → Looks None xs c →
        ((a : Answer) → a.number < 2 ^ 64 → RunsAlone xs (k a)) → RunsAlone xs (Asks (Load OnDevice c) k)
    loads_alone c k h each v begin end t small is (next _ _ answer _ n _ _ e more) =
        let p = map_parts (λ n. (loaded n, on_device m v)) (v c) (answer, n)
        (sym (ap (act lengths fill (Load OnDevice c)) is) ∙ e) in
        let rest = each (loaded p.0) (small c p.0 p.1) v (on_device m v) end t small refl
        (subst (λ (q : Answer × Memories). Reaches lengths fill (k q.0) q.1 (Finished t) end) (sym p.2) more) in
        record {
          view = rest.view;
          is = rest.is;
          small = rest.small;
          bounded = rest.bounded;
          alone = loads c k p.0 v rest.view h p.1 rest.alone;
        }

    alters_alone : (r : Request) (c : Cell) (f : ℕ → ℕ) (k : Answer → Left) → Alters OnDevice xs r c f →
        ((a : ℕ) → a < 2 ^ 64 → f a < 2 ^ 64) → ((a : Answer) → RunsAlone xs (k a)) → RunsAlone xs (Asks r k)
    alters_alone r c f k h below each v begin end t small is (next _ _ answer _ n _ _ e more) =
        let done : act lengths fill r (on_device m v) ≡ Some (answer, n) = sym (ap (act lengths fill r) is) ∙ e in
        let p = was_there xs r c f h v (answer, n) done in
        let same = same_Some (answer, n) (loaded 0, on_device m (change_at c f v))
        (sym done ∙ alter_there xs r c f h v p.0 p.1) in
        let rest = each (loaded 0) (change_at c f v) (on_device m (change_at c f v)) end t
        (change_small c f v small below) refl
        (subst (λ (q : Answer × Memories). Reaches lengths fill (k q.0) q.1 (Finished t) end) same more) in
        record {
          view = rest.view;
          is = rest.is;
          small = rest.small;
          bounded = rest.bounded;
          alone = alters r c f p.0 k v rest.view h p.1 rest.alone;
        }

-- what is left of a turn at its beginning, from these scalars
abbrev pub begins : Scalars → Run
begins scalars = record { scalars = scalars; stores = []; input = []; printed = [] }

-- where a turn that is run ends
pub record TurnRun (t : Turn) (s r : Run) (view : View) : Type 0 where
  pub alone : Alone OnDevice (turn_touches t) (turn_left (bare s) t) (seen view s.stores) (seen view r.stores)
  pub small : SmallView (seen view r.stores)
  pub bounded : BoundedScalars r.scalars

-- a turn that is run after some stores
pub turn_alone : (lengths : List ℕ) (fill : Fill) (m : Memories) (t : Turn) (s r : Run) → BoundedScalars s.scalars →
    AllSmall s.input → AllSmall t.loops → SmallView (seen m.device.cells s.stores) →
    run_list t.body m.device.cells t.loops s ≡ Some r → TurnRun t s r m.device.cells
turn_alone lengths fill m t s r bounded input loops small h = record {
  alone = subst (Alone OnDevice (turn_touches t) (turn_left (bare s) t) (seen m.device.cells s.stores)) same done.alone;
  small = subst SmallView same done.small;
  bounded = done.bounded;
}
  where
    alone : RunsAlone lengths fill m (turn_touches t) (turn_left (bare s) t)
    alone =
        list_all (λ mark. Looks mark (turn_touches t)) (λ mark. Changes mark (turn_touches t)) OnDevice
        (RunsAlone lengths fill m (turn_touches t)) (loads_alone lengths fill m (turn_touches t))
        (λ c n k h below each. alters_alone lengths fill m (turn_touches t) (Store OnDevice c n) c (λ old. n) k
        (by_store c n h) (λ a _. below) each)
        (λ op c n k h below each. alters_alone lengths fill m (turn_touches t) (Combine OnDevice op c n) c
        (λ old. combined op old n) k (by_update op c n h) (λ a small. combined_small op a n small below) each)
        t.body t.loops loops (turn_allowed (turn_touches t)) (bare s) Finished
        (record { scalars = bounded; input = input; stores = λ c n e. absurd (none-some n e) })
        (λ u f. finished_alone lengths fill m (turn_touches t) u f)

    done : IsAlone lengths fill m (turn_touches t) (turn_left (bare s) t) (seen m.device.cells s.stores) (bare r)
        (stored_on_device m r.stores)
    done =
        alone (seen m.device.cells s.stores) (stored_on_device m s.stores) (stored_on_device m r.stores) (bare r) small
        refl
        (list_reaches lengths fill OnDevice m.device.cells (stored_on_device m) (device_look lengths fill m)
        (device_put lengths fill m) (device_update lengths fill m) t.body t.loops s r Finished h)

    same : done.view ≡ seen m.device.cells r.stores
    same = ap (λ (n : Memories). n.device.cells) (sym done.is)
