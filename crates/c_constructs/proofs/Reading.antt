-- Clauses one after the other.
use Rattle.std.proofs.Common.{◌≡◌, ℕ, zero, suc, ◌<◌, true, List, [], ◌∷◌, ◌++◌, length, map, get_or, Option, refl, sym, ap, ◌∙◌, append_assoc, subst, arith}
use Rattle.std.proofs.lemmas.List.{append-nil}
use Rattle.std.specs.Prelude.{Bool, ◌||◌}
use Rattle.std.specs.List.{list_any}
use Rattle.std.proofs.Math.Bool.{or-false, or-true}
use Rattle.c_grammar.specs.LineGrammar as line
use Rattle.c_grammar.specs.LineRules.{AreClauses}
use Rattle.c_expressions.specs.Means.{Names}
use Rattle.directives.specs.declared.tree.Clause.{Clause}
use Rattle.directives.specs.declared.tree.Clause.TheVariants.{Map, Depend, Motion, NoWait, Device, Amount, Schedule}
use Rattle.directives.specs.declared.tree.MapClause.{MapClause}
use Rattle.directives.specs.declared.tree.Modifier.{Modifier}
use Rattle.directives.specs.declared.tree.DependClause.{DependClause}
use Rattle.directives.specs.declared.tree.Amount.{Amount as GivenAmount}
use Rattle.directives.specs.declared.tree.ScheduleType.{ScheduleType}
use Rattle.directives.specs.declared.tree.MotionClause.{MotionClause}
use Rattle.directives.specs.Kinds.{seen_modifier, seen_map, seen_depend, seen_motion}
use Rattle.directives.specs.declared.tree.DeviceClause.{DeviceClause}
use Rattle.directives.specs.Trees.{clause_of, device_of}
use Rattle.base.specs.declared.tree.DeviceText.{DeviceText}
use Rattle.base.specs.declared.tree.MapText.{MapText}
use Rattle.base.specs.declared.tree.Tasking.{Tasking}
use Rattle.base.specs.declared.tree.UpdateKind.{UpdateKind}
use Rattle.base.specs.declared.tree.DependKind.{DependKind}
use Rattle.c_constructs.specs.declared.clauses.Clauses.{Clauses}
use Rattle.c_constructs.specs.Sections.{Grows, IsMapAt, IsUpdateAt, IsDependAt, given, all_given, map_given}
use Rattle.c_constructs.specs.Clauses.{HasType, HaveTypes, Reads}
use Rattle.c_constructs.specs.Written.{Mapping, waits_in, device_from, IsDevice, is_always, is_present, seen_update, seen_depend as given_depend}
use Rattle.c_constructs.proofs.Growing.{grows_none}

pub all_both : {X : Type 0} (f : Clause → List X) (xs ys : List Clause) →
    all_given f (xs ++ ys) ≡ all_given f xs ++ all_given f ys
all_both f [] ys = refl
all_both f (x ∷ xs) ys =
    ap (λ us. f x ++ us) (all_both f xs ys) ∙ sym (append_assoc (f x) (all_given f xs) (all_given f ys))

pub waits_both : (xs ys : List Clause) → waits_in (map clause_of (xs ++ ys)) ≡
    (waits_in (map clause_of xs) || waits_in (map clause_of ys))
waits_both [] ys = refl
waits_both (Map m ∷ xs) ys = waits_both xs ys
waits_both (Depend m ∷ xs) ys = waits_both xs ys
waits_both (Motion m ∷ xs) ys = waits_both xs ys
waits_both (NoWait ∷ xs) ys = refl
waits_both (Device d ∷ xs) ys = waits_both xs ys
waits_both (Amount a n ∷ xs) ys = waits_both xs ys
waits_both (Schedule t o ∷ xs) ys = waits_both xs ys

pub device_both : (d : line.Device) (xs ys : List Clause) → device_from d (map clause_of (xs ++ ys)) ≡ device_from
    (device_from d (map clause_of xs)) (map clause_of ys)
device_both d [] ys = refl
device_both d (Map m ∷ xs) ys = device_both d xs ys
device_both d (Depend m ∷ xs) ys = device_both d xs ys
device_both d (Motion m ∷ xs) ys = device_both d xs ys
device_both d (NoWait ∷ xs) ys = device_both d xs ys
device_both d (Device e ∷ xs) ys = device_both (device_of e) xs ys
device_both d (Amount a n ∷ xs) ys = device_both d xs ys
device_both d (Schedule t o ∷ xs) ys = device_both d xs ys

same_device : (names : Names) (old new : DeviceText) (d : line.Device) → new ≡ old → IsDevice names d old → IsDevice names d new
same_device names old new d e h = subst (λ (t : DeviceText). IsDevice names d t) (sym e) h

none_more : {X : Type 0} → {Y : Type 0} → (R : X → Y → Type 0) (old new : List Y) → new ≡ old → Grows R [] old new
none_more R old new e = subst (λ ys. Grows R [] old ys) (sym e) (grows_none R old)

any_seen : (p : line.Modifier → Bool) (ms : List Modifier) →
    list_any p (map seen_modifier ms) ≡ list_any (λ n. p (seen_modifier n)) ms
any_seen p [] = refl
any_seen p (m ∷ ms) = ap (λ (b : Bool). p (seen_modifier m) || b) (any_seen p ms)

mapping_same : (a a' p p' : Bool) (t t' : line.MapType) → a ≡ a' → p ≡ p' → t ≡ t' →
    (let w : Mapping = (a, p, t) in w) ≡ (a', p', t')
mapping_same a a' p p' t t' e f g = rw (e, f, g) refl

-- the sections of a map clause, by what was found of its words
pub maps_grow : {K : Type 0} → (seen : K → line.MapType) (names : Names) (at : ℕ) (m : MapClause) (kind : K)
    (always present : Bool) (old new : List (MapText K)) → seen kind ≡ seen_map m.map_type →
    always ≡ list_any (λ n. is_always (seen_modifier n)) m.modifiers.items →
    present ≡ list_any (λ n. is_present (seen_modifier n)) m.modifiers.items →
    Grows (IsMapAt seen names at) (given (always, present, seen kind) m.sections) old new →
    Grows (IsMapAt seen names at) (map_given (Map m)) old new
maps_grow seen names at m kind always present old new k e f g =
    subst (λ (w : Mapping). Grows (IsMapAt seen names at) (given w m.sections) old new)
    (mapping_same always _ present _ (seen kind) _ (e ∙ sym (any_seen is_always m.modifiers.items))
    (f ∙ sym (any_seen is_present m.modifiers.items)) k) g

pub reads_maps : {K : Type 0} → (seen : K → line.MapType) (names : Names) (at : ℕ) (m : MapClause)
    (old new : Clauses K) → Grows (IsMapAt seen names at) (map_given (Map m)) old.maps.items new.maps.items →
    new.updates ≡ old.updates → new.tasking ≡ old.tasking → Reads seen names at (Map m ∷ []) old new
reads_maps seen names at m old new g u t = record {
  maps = subst (λ gs. Grows (IsMapAt seen names at) gs old.maps.items new.maps.items)
      (sym (append-nil (map_given (Map m)))) g;
  updates = none_more (IsUpdateAt names at) old.updates.items new.updates.items (ap (λ us. us.items) u);
  depends = none_more (IsDependAt names at) old.tasking.depends.items new.tasking.depends.items
      (ap (λ (x : Tasking). x.depends.items) t);
  nowait = ap (λ (x : Tasking). x.nowait) t ∙ sym (or-false old.tasking.nowait);
  device = λ d h. same_device names old.tasking.device new.tasking.device d (ap (λ (x : Tasking). x.device) t) h;
}

pub reads_updates : {K : Type 0} → (seen : K → line.MapType) (names : Names) (at : ℕ) (m : MotionClause)
    (kind : UpdateKind) (old new : Clauses K) → seen_update kind ≡ seen_motion m.motion_type →
    Grows (IsUpdateAt names at) (given (m.present, seen_update kind) m.sections) old.updates.items new.updates.items →
    new.maps ≡ old.maps → new.tasking ≡ old.tasking → Reads seen names at (Motion m ∷ []) old new
reads_updates seen names at m kind old new k g u t = record {
  maps = none_more (IsMapAt seen names at) old.maps.items new.maps.items (ap (λ us. us.items) u);
  updates = subst (λ gs. Grows (IsUpdateAt names at) gs old.updates.items new.updates.items)
      (sym (append-nil (given (m.present, seen_motion m.motion_type) m.sections)))
      (subst (λ (t : line.MotionType). Grows (IsUpdateAt names at) (given (m.present, t) m.sections) old.updates.items
      new.updates.items) k g);
  depends = none_more (IsDependAt names at) old.tasking.depends.items new.tasking.depends.items
      (ap (λ (x : Tasking). x.depends.items) t);
  nowait = ap (λ (x : Tasking). x.nowait) t ∙ sym (or-false old.tasking.nowait);
  device = λ d h. same_device names old.tasking.device new.tasking.device d (ap (λ (x : Tasking). x.device) t) h;
}

pub reads_depends : {K : Type 0} → (seen : K → line.MapType) (names : Names) (at : ℕ) (d : DependClause)
    (kind : DependKind) (old new : Clauses K) → given_depend kind ≡ seen_depend d.depend_type →
    Grows (IsDependAt names at) (given (given_depend kind) d.sections) old.tasking.depends.items
    new.tasking.depends.items →
    new.maps ≡ old.maps → new.updates ≡ old.updates → new.tasking.nowait ≡ old.tasking.nowait →
    new.tasking.device ≡ old.tasking.device → Reads seen names at (Depend d ∷ []) old new
reads_depends seen names at d kind old new k g m u w v = record {
  maps = none_more (IsMapAt seen names at) old.maps.items new.maps.items (ap (λ us. us.items) m);
  updates = none_more (IsUpdateAt names at) old.updates.items new.updates.items (ap (λ us. us.items) u);
  depends = subst (λ gs. Grows (IsDependAt names at) gs old.tasking.depends.items new.tasking.depends.items)
      (sym (append-nil (given (seen_depend d.depend_type) d.sections)))
      (subst (λ (t : line.DependType). Grows (IsDependAt names at) (given t d.sections) old.tasking.depends.items
      new.tasking.depends.items) k g);
  nowait = w ∙ sym (or-false old.tasking.nowait);
  device = λ e h. same_device names old.tasking.device new.tasking.device e v h;
}

pub reads_nowait : {K : Type 0} → (seen : K → line.MapType) (names : Names) (at : ℕ) (old new : Clauses K) →
    new.maps ≡ old.maps → new.updates ≡ old.updates → new.tasking.depends ≡ old.tasking.depends →
    new.tasking.nowait ≡ true → new.tasking.device ≡ old.tasking.device →
    Reads seen names at (NoWait ∷ []) old new
reads_nowait seen names at old new m u d w v = record {
  maps = none_more (IsMapAt seen names at) old.maps.items new.maps.items (ap (λ us. us.items) m);
  updates = none_more (IsUpdateAt names at) old.updates.items new.updates.items (ap (λ us. us.items) u);
  depends = none_more (IsDependAt names at) old.tasking.depends.items new.tasking.depends.items
      (ap (λ us. us.items) d);
  nowait = w ∙ sym (or-true old.tasking.nowait);
  device = λ e h. same_device names old.tasking.device new.tasking.device e v h;
}

pub reads_device : {K : Type 0} → (seen : K → line.MapType) (names : Names) (at : ℕ) (e : DeviceClause) (t : DeviceText)
    (old new : Clauses K) → IsDevice names (device_of e) t → new.maps ≡ old.maps → new.updates ≡ old.updates →
    new.tasking.depends ≡ old.tasking.depends → new.tasking.nowait ≡ old.tasking.nowait → new.tasking.device ≡ t →
    Reads seen names at (Device e ∷ []) old new
reads_device seen names at e t old new h m u d w v = record {
  maps = none_more (IsMapAt seen names at) old.maps.items new.maps.items (ap (λ us. us.items) m);
  updates = none_more (IsUpdateAt names at) old.updates.items new.updates.items (ap (λ us. us.items) u);
  depends = none_more (IsDependAt names at) old.tasking.depends.items new.tasking.depends.items
      (ap (λ us. us.items) d);
  nowait = w ∙ sym (or-false old.tasking.nowait);
  device = λ d' h'. same_device names t new.tasking.device (device_of e) v h;
}

-- clauses that say nothing of what is mapped, moved or waited for
pub reads_amount : {K : Type 0} → (seen : K → line.MapType) (names : Names) (at : ℕ) (a : GivenAmount) (n : ℕ)
    (r : Clauses K) → Reads seen names at (Amount a n ∷ []) r r
reads_amount seen names at a n r = record {
  maps = grows_none (IsMapAt seen names at) r.maps.items;
  updates = grows_none (IsUpdateAt names at) r.updates.items;
  depends = grows_none (IsDependAt names at) r.tasking.depends.items;
  nowait = sym (or-false r.tasking.nowait);
  device = λ d h. h;
}

pub reads_schedule : {K : Type 0} → (seen : K → line.MapType) (names : Names) (at : ℕ) (t : ScheduleType)
    (o : Option ℕ) (r : Clauses K) → Reads seen names at (Schedule t o ∷ []) r r
reads_schedule seen names at t o r = record {
  maps = grows_none (IsMapAt seen names at) r.maps.items;
  updates = grows_none (IsUpdateAt names at) r.updates.items;
  depends = grows_none (IsDependAt names at) r.tasking.depends.items;
  nowait = sym (or-false r.tasking.nowait);
  device = λ d h. h;
}

-- ---- the types of map clauses

pub type_at : (types : List line.MapType) (xs ys : List Clause) (k : ℕ) (d : Clause) → ys ≡ xs → HaveTypes types xs →
    k < length ys → HasType types (get_or ys k d)
type_at types xs ys k d e h l = go ys k (subst (λ (zs : List Clause). HaveTypes types zs) (sym e) h) l
  where
    go : (zs : List Clause) (k : ℕ) → HaveTypes types zs → k < length zs → HasType types (get_or zs k d)
    go [] k h l = absurd (omega arith)
    go (z ∷ zs) zero h l = h.0
    go (z ∷ zs) (suc k) h l = go zs k h.1 (omega (arith, l))

-- a directive's map clauses have the types that it takes
pub types_fit : (k : line.DirectiveKind) (types : List line.MapType) (xs : List Clause) →
    (line.takes_map k ≡ true → line.map_types k ≡ types) → AreClauses k (map clause_of xs) → HaveTypes types xs
types_fit k types [] e h = tt
types_fit k types (Map m ∷ xs) e h =
    (subst (λ (ts : List line.MapType). HasType ts (Map m)) (e h.0.0) h.0.2, types_fit k types xs e h.1)
types_fit k types (Depend d ∷ xs) e h = (tt, types_fit k types xs e h.1)
types_fit k types (Motion m ∷ xs) e h = (tt, types_fit k types xs e h.1)
types_fit k types (NoWait ∷ xs) e h = (tt, types_fit k types xs e h.1)
types_fit k types (Device d ∷ xs) e h = (tt, types_fit k types xs e h.1)
types_fit k types (Amount a n ∷ xs) e h = (tt, types_fit k types xs e h.1)
types_fit k types (Schedule t o ∷ xs) e h = (tt, types_fit k types xs e h.1)
