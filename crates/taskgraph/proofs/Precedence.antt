-- What it takes for an item to precede another.
use Rattle.std.proofs.Common.{◌≡◌, ℕ, ◌<◌, Bool, true, false, Option, Some, None, ap, ◌∙◌}
use Rattle.std.specs.Prelude.{◌&&◌, ◌||◌, nat_lt, slice_get}
use Rattle.std.specs.List.{list_any}
use Rattle.std.proofs.lemmas.Bool.{and_parts, ltb-true, lt-ltb}
use Rattle.base.specs.Items.{Work, Plan}
use Rattle.base.specs.Machine.{is_predecessor, match_depends, on_item, precedes}
use Rattle.taskgraph.specs.Waiting.{is_bare, is_bare_at, is_deferred}

abbrev pub asked : Option Work → Option Work → Bool
asked o q = elim o [ None ↦ false | Some v ↦ elim q [ None ↦ false | Some w ↦ is_predecessor v w ] ]

abbrev deferred : Option Work → Bool
deferred o = elim o [ None ↦ false | Some v ↦ v.deferred ]

abbrev bare : Option Work → Bool
bare o = elim o [ None ↦ false | Some w ↦ is_bare w ]

pub before : (p : Plan) (i j : ℕ) → precedes p i j ≡ true → i < j
before p i j e = ltb-true i j (and_parts (nat_lt i j) _ e).0

-- it is deferred
pub deferred_of : (p : Plan) (i j : ℕ) → precedes p i j ≡ true → is_deferred p i ≡ true
deferred_of p i j e = go (slice_get p.items i) (slice_get p.items j) (and_parts (nat_lt i j) _ e).1
  where
    go : (o q : Option Work) → asked o q ≡ true → deferred o ≡ true
    go None q e = absurd cc
    go (Some v) None e = absurd cc
    go (Some v) (Some w) e = (and_parts v.deferred _ e).0

-- and that is enough where the later one is a `taskwait` without a clause
pub bare_precedes : (p : Plan) (i j : ℕ) → i < j → is_deferred p i ≡ true → is_bare_at p j ≡ true → precedes p i j ≡ true
bare_precedes p i j lt d e =
    ap (λ x. x && on_item p i false (λ v. on_item p j false (λ w. is_predecessor v w))) (lt-ltb i j lt)
    ∙ go (slice_get p.items i) (slice_get p.items j) d e
  where
    go : (o q : Option Work) → deferred o ≡ true → bare q ≡ true → asked o q ≡ true
    go None q d e = absurd cc
    go (Some v) None d e = absurd cc
    go (Some v) (Some w) d e =
        let any = list_any (λ x. list_any (match_depends x) w.depends) v.depends in
        ap (λ x. x && (is_bare w || any)) d ∙ ap (λ x. x || any) e
