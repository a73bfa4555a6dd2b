-- One clause more, and all clauses: what they mean.
use Rattle.std.proofs.Common.{◌≡◌, ℕ, ◌+◌, ◌<◌, ◌≤◌, Bool, List, [], ◌∷◌, ◌++◌, map, take, length, get_or, Some, refl, sym, ap, ◌∙◌, subst}
use Rattle.std.specs.Prelude.{◌||◌}
use Rattle.std.proofs.lemmas.List.{take_all, take_more}
use Rattle.c_grammar.specs.LineGrammar as line
use Rattle.c_expressions.specs.Means.{Names}
use Rattle.directives.specs.declared.tree.Clause.{Clause}
use Rattle.directives.specs.Trees.{clause_of}
use Rattle.c_constructs.specs.declared.clauses.Clauses.{Clauses}
use Rattle.c_constructs.specs.Sections.{IsMapAt, IsUpdateAt, IsDependAt, Pairs, map_given, depend_given, motion_given, all_given}
use Rattle.c_constructs.specs.Clauses.{AreRead, HasType, HaveTypes, Reads}
use Rattle.c_constructs.specs.Written.{waits_in, device_in, IsDevice}
use Rattle.c_constructs.proofs.Reading.{all_both, waits_both, device_both, type_at}

read_then : {K : Type 0} → (seen : K → line.MapType) (names : Names) (at : ℕ) (xs ys : List Clause) (a b : Clauses K) →
    AreRead seen names at xs a → Reads seen names at ys a b → AreRead seen names at (xs ++ ys) b
read_then seen names at xs ys a b h i = record {
  maps = subst (λ gs. Pairs (IsMapAt seen names at) gs b.maps.items) (sym (all_both map_given xs ys))
      (i.maps.more (all_given map_given xs) h.maps);
  updates = subst (λ gs. Pairs (IsUpdateAt names at) gs b.updates.items) (sym (all_both motion_given xs ys))
      (i.updates.more (all_given motion_given xs) h.updates);
  depends = subst (λ gs. Pairs (IsDependAt names at) gs b.tasking.depends.items) (sym (all_both depend_given xs ys))
      (i.depends.more (all_given depend_given xs) h.depends);
  nowait = i.nowait ∙ ap (λ (w : Bool). w || waits_in (map clause_of ys)) h.nowait ∙ sym (waits_both xs ys);
  device = subst (λ (d : line.Device). IsDevice names d b.tasking.device) (sym (device_both (line.Fixed (Some 0)) xs ys))
      (i.device (device_in (map clause_of xs)) h.device);
}

pub read_next : {K : Type 0} → (seen : K → line.MapType) (names : Names) (at : ℕ) (xs : List Clause) (k : ℕ)
    (d : Clause) (a b : Clauses K) → k < length xs → d ≡ get_or xs k d → AreRead seen names at (take k xs) a →
    Reads seen names at (d ∷ []) a b → AreRead seen names at (take (k + 1) xs) b
read_next seen names at xs k d a b l e h i =
    let more : take (k + 1) xs ≡ take k xs ++ d ∷ [] =
    take_more xs k d l ∙ ap (λ (x : Clause). take k xs ++ x ∷ []) (sym e) in
    subst (λ (zs : List Clause). AreRead seen names at zs b) (sym more)
    (read_then seen names at (take k xs) (d ∷ []) a b h i)

pub read_all : {K : Type 0} → (seen : K → line.MapType) (names : Names) (at : ℕ) (xs : List Clause) (k : ℕ)
    (a : Clauses K) → length xs ≤ k → AreRead seen names at (take k xs) a → AreRead seen names at xs a
read_all seen names at xs k a l h = subst (λ (zs : List Clause). AreRead seen names at zs a) (take_all k xs l) h

pub typed_at : (types : List line.MapType) (xs : List Clause) (k : ℕ) (d : Clause) → HaveTypes types xs →
    k < length xs → d ≡ get_or xs k d → HasType types d
typed_at types xs k d h l e =
    subst (λ (c : Clause). HasType types c) (sym e) (type_at types xs xs k d refl h l)
