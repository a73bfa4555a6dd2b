-- Turns are independent where, at each cell that one of them writes, they agree in the names of all loops.
use Rattle.std.proofs.Common.{◌≡◌, ℕ, ◌<◌, ◌≤◌, Bool, true, false, List, ◌++◌, refl, sym, ap, ◌∙◌, ⊎_elim, arith, length}
use Rattle.std.specs.Prelude.{flat_map}
use Rattle.std.specs.List.{list_any}
use Rattle.std.proofs.lemmas.Bool.{cases_lt, true≢false}
use Rattle.base.specs.declared.tree.Stmt.{Stmt}
use Rattle.base.specs.declared.item.Cell.{Cell}
use Rattle.base.specs.Footprint.{writes}
use Rattle.base.specs.ScalarUse.{list_assigned, list_needs}
use Rattle.base.specs.Turns.{Independent, turn_touches, turns_at, turns_meet}
use Rattle.base.proofs.TurnTouches.{meeting_writes}
use Rattle.ranges.specs.Meetings.{turn_body}
use Rattle.ranges.specs.Strides.{AllApart, nest_highs, nest_lows}
use Rattle.ranges.proofs.NestApart.{turns_apart}
use Rattle.ranges.proofs.Spans.{between_self}

pub independent : (d : ℕ) (nest : List Stmt) (loops : List ℕ) (body : List Stmt) (test : Cell → Bool) (arrays : ℕ) →
    body ≡ turn_body d nest → list_any (λ x. list_needs x (turn_body d nest)) (list_assigned (turn_body d nest)) ≡ false →
    ((c : Cell) → test c ≡ writes (flat_map turn_touches (turns_at d nest loops)) c) → ((c : Cell) → arrays ≤ c.array.0 → test c ≡ false) →
    ((c : Cell) → c.array.0 < arrays → test c ≡ true →
    AllApart c.array.0 (length loops) d nest body (loops ++ nest_lows d nest) (loops ++ nest_highs d nest)) →
    Independent (turns_at d nest loops)
independent d nest loops body test arrays is none written few apart c = go (test c) refl
  where
    go : (b : Bool) → test c ≡ b → turns_meet (turns_at d nest loops) c ≡ false
    go true e = ⊎_elim
        (λ (lt : c.array.0 < arrays). turns_apart (loops ++ nest_lows d nest) (loops ++ nest_highs d nest) body c
        (ap (λ (b : List Stmt). list_any (λ x. list_needs x b) (list_assigned b)) is ∙ none) d nest loops loops loops (between_self loops)
        refl refl is (apart c lt e))
        (λ (le : arrays ≤ c.array.0). absurd (true≢false (sym e ∙ few c le)))
        (cases_lt c.array.0 arrays)
    go false e = meet (turns_meet (turns_at d nest loops) c) refl
      where
        meet : (b : Bool) → turns_meet (turns_at d nest loops) c ≡ b → b ≡ false
        meet false m = refl
        meet true m = absurd (true≢false (sym (meeting_writes (turns_at d nest loops) c m) ∙ sym (written c) ∙ e))
