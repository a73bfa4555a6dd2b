-- What an item does to one cell is what its stage does to all.
use Rattle.std.proofs.Common.{◌≡◌, ℕ, ◌≤◌, ◌==◌, Bool, true, false, List, [], ◌++◌, Option, Some, None, refl, sym, ap, ◌∙◌}
use Rattle.std.specs.Prelude.{if◌then◌else◌, not, ◌&&◌, ◌||◌, nat_lt}
use Rattle.std.proofs.lemmas.Bool.{ltb-false}
use mathlib.Core.Path.{fun_ext}
use Rattle.base.specs.declared.item.Cell.{Cell}
use Rattle.base.specs.declared.item.ItemKind.{ItemKind}
use Rattle.base.specs.declared.item.ItemKind.TheVariants as kind
use Rattle.base.specs.declared.tree.Region.{Region}
use Rattle.base.specs.Footprint.{writes, surely_writes}
use Rattle.base.specs.Items.{Work}
use Rattle.base.specs.Memory.{changed}
use Rattle.base.specs.Actions.{Action, HostRegion, Kernel, region_acts, touches_in}
use Rattle.base.specs.Current.{AllCurrent, Current, after_actions, after_stage, current_at, other_side, own_side}
use Rattle.ranges.specs.declared.cells.Footprint.{Footprint}
use Rattle.mapwalk.specs.declared.rows.Acts.{Acts}
use Rattle.mapwalk.specs.Laws.{actions_of}
use Rattle.mapwalk.specs.Regions.{IsFootprintOf}
use Rattle.mapwalk.proofs.RegionEffects.{actions_with, same_actions, touches_with}
use Rattle.history.specs.declared.Side.TheVariants.{Host, Device}
use Rattle.history.specs.declared.items.Part.TheVariants.{Entry, Exit, Update}
use Rattle.history.specs.Items.{spelled}
use Rattle.history.specs.Moves.{all_acted, ran, ran_found, spoiled_found, spoiled_if, stepped, stepped_here}
use Rattle.history.specs.Places.{Places, at_cell}
use Rattle.history.proofs.Acting.{actions_by, all_act, nothing, two}
use Rattle.history.proofs.Alike.{at_on, changed_at, changed_same, on_device}

-- a region on a device
ran_there : (d : ℕ) (w s : Bool) (p : Places) → ran (Device d) d w s p
    ≡ record { host = not w && p.host; devices = changed d (s || p.devices d) p.devices }
ran_there d true true p = refl
ran_there d false true p = refl
ran_there d true false p = λ i. record { host = false; devices = sym (changed_same d p.devices) i }
ran_there d false false p = λ i. record { host = p.host; devices = sym (changed_same d p.devices) i }

-- and on the host
ran_here : (d : ℕ) (w s : Bool) (p : Places) → ran Host d w s p
    ≡ record { host = s || p.host; devices = changed d (not w && p.devices d) p.devices }
ran_here d true true p = refl
ran_here d true false p = refl
ran_here d false true p = λ i. record { host = true; devices = sym (changed_same d p.devices) i }
ran_here d false false p = λ i. record { host = p.host; devices = sym (changed_same d p.devices) i }

kernel_with : (w : Work) (k : Current) (o : Option Region) → after_actions (actions_with Kernel w o) k
    ≡ record { host = other_side (touches_with w o) k.host; device = own_side (touches_with w o) k.device }
kernel_with w k None = refl
kernel_with w k (Some r) = refl

host_with : (w : Work) (k : Current) (o : Option Region) → after_actions (actions_with HostRegion w o) k
    ≡ record { host = own_side (touches_with w o) k.host; device = other_side (touches_with w o) k.device }
host_with w k None = refl
host_with w k (Some r) = refl

-- no region does nothing
none_runs : (act : Action → Action) (w : Work) → w.region ≡ None → actions_with Kernel w w.region ≡ []
none_runs act w none = ap (actions_with Kernel w) none

kernel_ran : (w : Work) (found : Option Footprint) (c : Cell) (k : AllCurrent) → IsFootprintOf w found →
    ran_found (Device w.device) w.device c found (at_cell c k) ≡ at_cell c (on_device w.device (after_actions (region_acts Kernel w []).actions) k)
kernel_ran w None c k none =
    nothing c w.device (region_acts Kernel w []).actions k (same_actions Kernel w [] ∙ ap (actions_with Kernel w) none)
kernel_ran w (Some f) c k are =
    let d = w.device in
    (λ i. ran (Device d) d (are.write c i) (are.sure c i) (at_cell c k))
    ∙ ran_there d (writes (touches_in w) c) (surely_writes (touches_in w) c) (at_cell c k)
    ∙ (λ i. let m = sym (kernel_with w (current_at d k) w.region) i in record { host = m.host c; devices = changed d (m.device c) (λ e. k.devices e c) })
    ∙ (λ i. let m = after_actions (sym (same_actions Kernel w []) i) (current_at d k) in record { host = m.host c; devices = changed d (m.device c) (λ e. k.devices e c) })
    ∙ sym (at_on c d (after_actions (region_acts Kernel w []).actions) k)

host_ran : (w : Work) (found : Option Footprint) (c : Cell) (k : AllCurrent) → IsFootprintOf w found →
    ran_found Host w.device c found (at_cell c k) ≡ at_cell c (on_device w.device (after_actions (region_acts HostRegion w []).actions) k)
host_ran w None c k none =
    nothing c w.device (region_acts HostRegion w []).actions k (same_actions HostRegion w [] ∙ ap (actions_with HostRegion w) none)
host_ran w (Some f) c k are =
    let d = w.device in
    (λ i. ran Host d (are.write c i) (are.sure c i) (at_cell c k))
    ∙ ran_here d (writes (touches_in w) c) (surely_writes (touches_in w) c) (at_cell c k)
    ∙ (λ i. let m = sym (host_with w (current_at d k) w.region) i in record { host = m.host c; devices = changed d (m.device c) (λ e. k.devices e c) })
    ∙ (λ i. let m = after_actions (sym (same_actions HostRegion w []) i) (current_at d k) in record { host = m.host c; devices = changed d (m.device c) (λ e. k.devices e c) })
    ∙ sym (at_on c d (after_actions (region_acts HostRegion w []).actions) k)

-- the actions of an item of this kind
abbrev pub actions_at : ItemKind → Work → List Acts → List Action
actions_at kind.Host w row = (region_acts HostRegion w []).actions
actions_at kind.Target w row = (actions_by Entry w.maps row ++ (region_acts Kernel w []).actions) ++ actions_by Exit w.maps row
actions_at kind.Begin w row = actions_by Entry w.maps row
actions_at kind.Enter w row = actions_by Entry w.maps row
actions_at kind.End w row = actions_by Exit w.maps row
actions_at kind.Exit w row = actions_by Exit w.maps row
actions_at kind.Update w row = actions_by Update w.maps row
actions_at kind.Wait w row = []

by_kind : (w : Work) (row : List Acts) → actions_of w row ≡ actions_at w.kind w row
by_kind w row = go w.kind refl
  where
    go : (x : ItemKind) → w.kind ≡ x → actions_of w row ≡ actions_at w.kind w row
    go kind.Host e = rw e refl
    go kind.Target e = rw e refl
    go kind.Begin e = rw e refl
    go kind.Enter e = rw e refl
    go kind.End e = rw e refl
    go kind.Exit e = rw e refl
    go kind.Update e = rw e refl
    go kind.Wait e = rw e refl

-- on the host and the item's device
here : (x : ItemKind) (w : Work) (row : List Acts) (found : Option Footprint) (c : Cell) (k : AllCurrent) → IsFootprintOf w found →
    stepped_here x w.device c w.maps row found (at_cell c k) ≡ at_cell c (on_device w.device (after_actions (actions_at x w row)) k)
here kind.Host w row found c k are = host_ran w found c k are
here kind.Target w row found c k are =
    let d = w.device in
    let entries = actions_by Entry w.maps row in
    let region = (region_acts Kernel w []).actions in
    let k1 = on_device d (after_actions entries) k in
    ap (λ q. all_acted Exit (Device d) c w.maps row (ran_found (Device d) d c found q)) (all_act Entry c d w.maps row k)
    ∙ ap (λ q. all_acted Exit (Device d) c w.maps row q) (kernel_ran w found c k1 are)
    ∙ all_act Exit c d w.maps row (on_device d (after_actions region) k1)
    ∙ ap (λ q. at_cell c (on_device d (after_actions (actions_by Exit w.maps row)) q)) (two d entries region k)
    ∙ ap (at_cell c) (two d (entries ++ region) (actions_by Exit w.maps row) k)
here kind.Begin w row found c k are = all_act Entry c w.device w.maps row k
here kind.Enter w row found c k are = all_act Entry c w.device w.maps row k
here kind.End w row found c k are = all_act Exit c w.device w.maps row k
here kind.Exit w row found c k are = all_act Exit c w.device w.maps row k
here kind.Update w row found c k are = all_act Update c w.device w.maps row k
here kind.Wait w row found c k are = nothing c w.device [] k refl

-- no device but the four has the cell
abbrev pub IsNowhereElse : Cell → AllCurrent → Type 0
IsNowhereElse c k = (e : ℕ) → 4 ≤ e → k.devices e c ≡ false

-- on the other devices
others : (d : ℕ) (w x : Bool) (f : ℕ → Bool) → ((e : ℕ) → 4 ≤ e → f e ≡ false) → (h : Bool) →
    spoiled_if w d (record { host = h; devices = changed d x f }) ≡ record { host = h; devices = changed d x (λ e. not w && f e) }
others d false x f beyond h = refl
others d true x f beyond h = λ i. record { host = h; devices = fun_ext at i }
  where
    none : (b : Bool) → (b && false) ≡ false
    none true = refl
    none false = refl

    far : (e : ℕ) (b : Bool) → nat_lt e 4 ≡ b → (not (b && true) && f e) ≡ false
    far e true is = refl
    far e false is = beyond e (ltb-false e 4 is)

    go : (e : ℕ) (b : Bool) → (not (nat_lt e 4 && not b) && (if b then x else f e)) ≡ (if b then x else false)
    go e true = ap (λ y. not y && x) (none (nat_lt e 4))
    go e false = far e (nat_lt e 4) refl

    at : (e : ℕ) → (not (nat_lt e 4 && not (e == d)) && changed d x f e) ≡ changed d x (λ y. false) e
    at e = go e (e == d)

no_writes : (w : Work) (c : Cell) → w.region ≡ None → writes (touches_in w) c ≡ false
no_writes w c none = ap (λ o. writes (touches_with w o) c) none

spoiled_is : (w : Work) (found : Option Footprint) (c : Cell) (p : Places) → IsFootprintOf w found →
    spoiled_found w.device c found p ≡ spoiled_if (writes (touches_in w) c) w.device p
spoiled_is w None c p none = ap (λ b. spoiled_if b w.device p) (sym (no_writes w c none))
spoiled_is w (Some f) c p are = ap (λ b. spoiled_if b w.device p) (are.write c)

pub step_is_stage : (w : Work) (row : List Acts) (found : Option Footprint) (c : Cell) (k : AllCurrent) → IsFootprintOf w found → IsNowhereElse c k →
    stepped w.kind w.device c w.maps row found (at_cell c k) ≡ at_cell c (after_stage (spelled w row) k)
step_is_stage w row found c k are beyond =
    let d = w.device in
    let acts = actions_of w row in
    let m = after_actions acts (current_at d k) in
    spoiled_is w found c (stepped_here w.kind d c w.maps row found (at_cell c k)) are
    ∙ ap (spoiled_if (writes (touches_in w) c) d) (here w.kind w row found c k are
    ∙ ap (λ xs. at_cell c (on_device d (after_actions xs) k)) (sym (by_kind w row)) ∙ at_on c d (after_actions acts) k)
    ∙ others d (writes (touches_in w) c) (m.device c) (λ e. k.devices e c) beyond (m.host c)
    ∙ (λ i. record { host = m.host c; devices = sym (changed_at c d m.device (λ e. other_side (touches_in w) (k.devices e))) i })
