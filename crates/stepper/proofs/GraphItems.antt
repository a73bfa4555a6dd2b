-- An item of the graph by itself has no map items and no region: it is opened, and closed, without a failure.
use Rattle.std.proofs.Common.{◌≡◌, ℕ, Some, None, refl, ap, ◌∙◌}
use Rattle.std.specs.Prelude.{option_map, slice_get}
use Rattle.std.proofs.lemmas.Option.{slice_get-map}
use Rattle.base.specs.declared.item.ItemKind.{ItemKind}
use Rattle.base.specs.declared.item.ItemKind.TheVariants as kind
use Rattle.base.specs.Items.{Work}
use Rattle.base.specs.Map.{Fill, Memories}
use Rattle.base.specs.Memory.{Scalars, View}
use Rattle.base.specs.Machine.{Opened, State, closing, on_item, opening}
use Rattle.taskgraph.specs.Board.{Board, Facts, plan_in, work_of}

pub opens_so : (fill : Fill) (f : Facts) (k : ItemKind) (m : Memories) → opening fill (work_of (record f { kind = k })) m ≡ Some m
opens_so fill f kind.Host m = refl
opens_so fill f kind.Target m = refl
opens_so fill f kind.Begin m = refl
opens_so fill f kind.End m = refl
opens_so fill f kind.Enter m = refl
opens_so fill f kind.Exit m = refl
opens_so fill f kind.Update m = refl
opens_so fill f kind.Wait m = refl

pub closes_so : (f : Facts) (k : ItemKind) (captured : Scalars) (snapshot : View) (s : State) →
    closing (work_of (record f { kind = k })) (Opened captured snapshot) s ≡ Some s
closes_so f kind.Host captured snapshot s = refl
closes_so f kind.Target captured snapshot s = refl
closes_so f kind.Begin captured snapshot s = refl
closes_so f kind.End captured snapshot s = refl
closes_so f kind.Enter captured snapshot s = refl
closes_so f kind.Exit captured snapshot s = refl
closes_so f kind.Update captured snapshot s = refl
closes_so f kind.Wait captured snapshot s = refl

-- what is asked of an item of the graph
pub on_task : {A : Type 0} (b : Board) (i : ℕ) (f : Facts) (other : A) (ask : Work → A) → slice_get b.tasks i ≡ Some f →
    on_item (plan_in b) i other ask ≡ ask (work_of f)
on_task b i f other ask is =
    ap (λ o. elim o [ None ↦ other | Some w ↦ ask w ])
    (slice_get-map work_of b.tasks i ∙ ap (option_map work_of) is)
