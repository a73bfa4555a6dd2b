-- What an item that is closed leaves of a state: the host's place and the items' conditions.
use Rattle.std.proofs.Common.{◌≡◌, [], Option, Some, None, refl, subst}
use Rattle.std.specs.Prelude.{option_map, option_and_then}
use Rattle.std.proofs.lemmas.Option.{same_Some}
use Rattle.base.specs.declared.item.ItemKind.{ItemKind}
use Rattle.base.specs.declared.item.ItemKind.TheVariants as kind
use Rattle.base.specs.declared.tree.Region.{Region}
use Rattle.base.specs.Memory.{View, Scalars}
use Rattle.base.specs.Meaning.{run_region}
use Rattle.base.specs.Items.{Work}
use Rattle.base.specs.Map.{Memories, memories_at}
use Rattle.base.specs.Machine.{State, Condition, Untouched, Generated, Opened, Closed, Passed, closing, kernel_done, kernel_memories, host_done, with_memories}

-- what an open item of that kind and region does when it is closed
abbrev pub closed_as : Work → Scalars → View → State → ItemKind → Option Region → Option State
closed_as w captured snapshot s kind.Host (Some r) = option_map (host_done s)
    (run_region r w.loops snapshot captured s.input)
closed_as w captured snapshot s kind.Target (Some r) = option_and_then (kernel_done w s)
    (run_region r w.loops snapshot captured [])
closed_as w captured snapshot s kind.Host None = Some s
closed_as w captured snapshot s kind.Target None = Some s
closed_as w captured snapshot s kind.Begin r = Some s
closed_as w captured snapshot s kind.End r = Some s
closed_as w captured snapshot s kind.Enter r = Some s
closed_as w captured snapshot s kind.Exit r = Some s
closed_as w captured snapshot s kind.Update r = Some s
closed_as w captured snapshot s kind.Wait r = Some s

-- the same place and conditions
abbrev pub Kept : State → State → Type 0
Kept s t = (t.place ≡ s.place) × (t.condition ≡ s.condition)

some_map : {A : Type 0} (s t : State) (f : A → State) → ((a : A) → Kept s (f a)) → (o : Option A) →
    option_map f o ≡ Some t → Kept s t
some_map s t f h None e = absurd (cc e)
some_map s t f h (Some a) e = subst (Kept s) (same_Some (f a) t e) (h a)

some_then : {A : Type 0} (s t : State) (f : A → Option State) →
    ((a : A) → f a ≡ Some t → Kept s t) →
    (o : Option A) → option_and_then f o ≡ Some t →
    Kept s t
some_then s t f h None e = absurd (cc e)
some_then s t f h (Some a) e = h a e

kept_itself : (s t : State) → Some s ≡ Some t → Kept s t
kept_itself s t e = subst (Kept s) (same_Some s t e) (refl, refl)

closed_keeps : (w : Work) (captured : Scalars) (snapshot : View) (s t : State) (kd : ItemKind) (rg : Option Region) →
    closed_as w captured snapshot s kd rg ≡ Some t →
    Kept s t
closed_keeps w captured snapshot s t kind.Host (Some r) e =
    some_map s t (host_done s) (λ a. (refl, refl)) (run_region r w.loops snapshot captured s.input) e
closed_keeps w captured snapshot s t kind.Target (Some r) e =
    some_then s t (kernel_done w s)
    (λ a k. some_map s t (λ (m : Memories). with_memories w.device m s) (λ m. (refl, refl))
    (kernel_memories w a.stores (memories_at w.device s.memories)) k)
    (run_region r w.loops snapshot captured []) e
closed_keeps w captured snapshot s t kind.Host None e = kept_itself s t e
closed_keeps w captured snapshot s t kind.Target None e = kept_itself s t e
closed_keeps w captured snapshot s t kind.Begin rg e = kept_itself s t e
closed_keeps w captured snapshot s t kind.End rg e = kept_itself s t e
closed_keeps w captured snapshot s t kind.Enter rg e = kept_itself s t e
closed_keeps w captured snapshot s t kind.Exit rg e = kept_itself s t e
closed_keeps w captured snapshot s t kind.Update rg e = kept_itself s t e
closed_keeps w captured snapshot s t kind.Wait rg e = kept_itself s t e

pub closing_keeps : (w : Work) (c : Condition) (s t : State) → closing w c s ≡ Some t → Kept s t
closing_keeps w Untouched s t e = absurd (cc e)
closing_keeps w (Generated a) s t e = absurd (cc e)
closing_keeps w Closed s t e = absurd (cc e)
closing_keeps w Passed s t e = absurd (cc e)
closing_keeps w (Opened a b) s t e = closed_keeps w a b s t w.kind w.region e
