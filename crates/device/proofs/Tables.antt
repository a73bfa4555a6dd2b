-- The tables of the devices, where one of them became another one.
use Rattle.std.proofs.Common.{◌≡◌, ◌≢◌, ◌<◌, ℕ, zero, suc, Bool, true, false, List, [], ◌∷◌, length, Option, Some, None, refl, sym, ap, ◌∙◌, subst, arith}
use Rattle.std.specs.Prelude.{◌==◌, slice_get}
use Rattle.std.proofs.lemmas.Bool.{eqb-true}
use Rattle.std.proofs.lemmas.Bool.Decides.{nat_tests}
use Rattle.std.proofs.lemmas.List.{length-set}
use Rattle.std.proofs.lemmas.Option.{same_Some, slice_get_within}
use Rattle.base.specs.Map.{Device}
use Rattle.base.specs.Memory.{changed}
use Rattle.base.proofs.Devices.{changed_same, changed_other}
use Rattle.base.proofs.Places.{get_set_same, get_set_other}
use Rattle.present.specs.declared.Table.{Table}
use Rattle.present.specs.Table.{Shows, capacity_of, fill_of}
use Rattle.device.specs.declared.devices.Devices.{Devices}
use Rattle.device.specs.Devices.{AreAlike, AreKept, Becomes, OnTable, ShowAll, device_count, fresh_of, table_at}

-- the fill of a table is its number
pub same_fresh : (t t' : Table) → fill_of t' ≡ fill_of t → t'.fresh ≡ t.fresh
same_fresh t t' e = ap (λ f. f (record { array = record { 0 = 0 }; index = 0 })) e

-- four tables, three of which are like the first
pub four_alike : (a b c d : Table) → fill_of b ≡ fill_of a → fill_of c ≡ fill_of a → fill_of d ≡ fill_of a →
    AreAlike (record { tables = a ∷ b ∷ c ∷ d ∷ [] })
four_alike a b c d to_b to_c to_d = record { count = refl; fresh = each }
  where
    is : (x t : Table) → x.fresh ≡ a.fresh → Some x ≡ Some t → t.fresh ≡ a.fresh
    is x t h e = subst (λ (y : Table). y.fresh ≡ a.fresh) (same_Some x t e) h

    each : (n : ℕ) → OnTable (record { tables = a ∷ b ∷ c ∷ d ∷ [] }) n (λ t. t.fresh ≡ a.fresh)
    each zero t e = is a t refl e
    each (suc zero) t e = is b t (same_fresh a b to_b) e
    each (suc (suc zero)) t e = is c t (same_fresh a c to_c) e
    each (suc (suc (suc zero))) t e = is d t (same_fresh a d to_d) e
    each (suc (suc (suc (suc n)))) t e = absurd (cc e)

some_at : {A : Type 0} (xs : List A) (i : ℕ) → i < length xs → (x : A) × (slice_get xs i ≡ Some x)
some_at [] i lt = absurd (omega arith)
some_at (x ∷ xs) zero lt = (x, refl)
some_at (x ∷ xs) (suc i) lt = some_at xs i (omega arith)

-- each device has a table
pub own_table : (all : Devices) → AreAlike all → (d : ℕ) → d < device_count → (t : Table) × (table_at all d ≡ Some t)
own_table all h d lt = some_at all.tables d (let n = h.count in omega arith)

pub same_table : (all : Devices) (d : ℕ) (t t' : Table) → table_at all d ≡ Some t → table_at all d ≡ Some t' → t ≡ t'
same_table all d t t' e f = same_Some t t' (sym e ∙ f)

number_not : (d e : ℕ) → (e == d) ≡ false → d ≢ e
number_not d e h = grind (arith, nat_tests)

-- what holds of one value and of all others
pub each_changed : {A : Type 0} (P : A → Type 0) (d : ℕ) (x : A) (f : ℕ → A) → P x → ((e : ℕ) → P (f e)) →
    (e : ℕ) → P (changed d x f e)
each_changed P d x f own others e = go (e == d) refl
  where
    go : (b : Bool) → (e == d) ≡ b → P (changed d x f e)
    go true k = subst (λ n. P (changed d x f n)) (sym (eqb-true e d k)) (subst P (sym (changed_same d x f)) own)
    go false k = subst P (sym (changed_other d e x f k)) (others e)

module _ (d : ℕ) (old new : Devices) (after : Table) (b : Becomes d old new after) where
  pub here : table_at new d ≡ Some after
  here =
      ap (λ ts. slice_get ts d) b.tables
      ∙ get_set_same old.tables d after (slice_get_within old.tables d b.before b.was)

  pub elsewhere : (e : ℕ) → (e == d) ≡ false → table_at new e ≡ table_at old e
  elsewhere e k = ap (λ ts. slice_get ts e) b.tables ∙ get_set_other old.tables d after e (number_not d e k)

  pub each_table : (P : ℕ → Table → Type 0) → P d after → ((e : ℕ) → (e == d) ≡ false → OnTable old e (P e)) →
      (e : ℕ) → OnTable new e (P e)
  each_table P own others e t is = go (e == d) refl
    where
      go : (v : Bool) → (e == d) ≡ v → P e t
      go true k =
          let same = eqb-true e d k in
          let at_d : table_at new d ≡ Some t = ap (table_at new) (sym same) ∙ is in
          subst (λ n. P n t) (sym same) (subst (P d) (same_Some after t (sym here ∙ at_d)) own)
      go false k = others e k t (sym (elsewhere e k) ∙ is)

  pub fresh_kept : fresh_of new ≡ fresh_of old
  fresh_kept = go (0 == d) refl
    where
      of : Option Table → ℕ
      of o = elim o [ None ↦ 0 | Some t ↦ t.fresh ]

      go : (v : Bool) → (0 == d) ≡ v → fresh_of new ≡ fresh_of old
      go true k =
          let same = eqb-true 0 d k in
          ap of (ap (table_at new) same ∙ here) ∙ same_fresh b.before after b.kept.fill
          ∙ sym (ap of (ap (table_at old) same ∙ b.was))
      go false k = ap of (elsewhere 0 k)

  pub are_kept : AreKept old new
  are_kept = record {
    fresh = fresh_kept;
    room = λ capacity h. each_table (λ e t. capacity_of t ≡ capacity) (b.kept.capacity ∙ h d b.before b.was) (λ e k. h e);
  }

  pub still_alike : AreAlike old → AreAlike new
  still_alike h = record {
    count = ap (λ (ts : List Table). length ts) b.tables ∙ length-set old.tables d after ∙ h.count;
    fresh = each_table (λ e t. t.fresh ≡ fresh_of new)
        (same_fresh b.before after b.kept.fill ∙ h.fresh d b.before b.was ∙ sym fresh_kept)
        (λ e k t is. h.fresh e t is ∙ sym fresh_kept);
  }

  pub show_all : (devices : ℕ → Device) (x : Device) → ShowAll old devices → Shows after x →
      ShowAll new (changed d x devices)
  show_all devices x all own =
      each_table (λ e t. Shows t (changed d x devices e)) (subst (Shows after) (sym (changed_same d x devices)) own)
      (λ e k t is. subst (Shows t) (sym (changed_other d e x devices k)) (all e t is))

-- the same devices are kept
pub kept_same : (old new : Devices) → new ≡ old → AreKept old new
kept_same old new e =
    subst (λ (x : Devices). AreKept old x) (sym e) (record { fresh = refl; room = λ capacity h. h })
