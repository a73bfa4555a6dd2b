-- Going back from an item: where the predecessors that are counted begin.
use Rattle.std.proofs.Common.{◌≡◌, ◌⊎◌, inl, inr, ℕ, ◌+◌, ◌<◌, ◌≤◌, true, false, [], ◌∷◌, Option, Some, None, refl, sym, ap, ◌∙◌, arith}
use Rattle.std.specs.Prelude.{◌&&◌, ◌||◌, not, nat_lt, slice_get}
use Rattle.std.specs.List.{list_any}
use Rattle.std.proofs.lemmas.Bool.{and_parts, cases_lt}
use Rattle.std.proofs.Math.Bool.{and-false}
use Rattle.base.specs.Items.{Work, Plan}
use Rattle.base.specs.Machine.{is_empty, is_predecessor, is_wait, match_depends, on_item, precedes}
use Rattle.taskgraph.specs.Waiting.{IsBarred, IsBehind, IsStart, is_bare, is_bare_at, is_barrier, is_deferred}
use Rattle.taskgraph.proofs.Covers.{none_match}
use Rattle.taskgraph.proofs.Precedence.{deferred_of}

-- the items from here to item j have been seen, and of its predecessors among them the first is the start
pub record IsScan (p : Plan) (j here start : ℕ) : Type 0 where
  pub above : here ≤ start
  pub small : start ≤ j
  pub none : (i : ℕ) → here ≤ i → i < start → precedes p i j ≡ false

pub scan_past : (p : Plan) (j here next start : ℕ) → IsScan p j here start → here ≡ next + 1 → precedes p next j ≡ false →
    IsScan p j next start
scan_past p j here next start h e free = record {
  above = let le = h.above in omega (arith, le, e);
  small = h.small;
  none = λ i le lt. go i lt (cases_lt i here) le;
}
  where
    go : (i : ℕ) → i < start → (i < here) ⊎ (here ≤ i) → next ≤ i → precedes p i j ≡ false
    go i lt (inr seen) le = h.none i seen lt
    go i lt (inl new) le = let same : i ≡ next = omega (arith, new, le, e) in ap (λ k. precedes p k j) same ∙ free

never : (p : Plan) (i j : ℕ) {A : Type 0} → precedes p i j ≡ true → precedes p i j ≡ false → A
never p i j e f = absurd (let bad : true ≡ false = sym e ∙ f in cc)

-- an item without depend items that is no bare wait has no predecessor
unasked : (p : Plan) (i j : ℕ) (u : Work) → slice_get p.items j ≡ Some u → is_empty u.depends ≡ true →
    is_bare_at p j ≡ false → precedes p i j ≡ true → ⊥
unasked p i j u e empty bare h =
    go (slice_get p.items i) ((and_parts (nat_lt i j) _ h).1 ∙ refl)
  where
    no_bare : is_bare u ≡ false
    no_bare = sym (ap (λ (o : Option Work). elim o [ None ↦ false | Some w ↦ is_bare w ]) e) ∙ bare

    none : (v : Work) → is_predecessor v u ≡ true → ⊥
    none v q =
        let both = and_parts v.deferred _ q in
        all u.depends refl empty both.1
      where
        all : (ds : _) → u.depends ≡ ds → is_empty ds ≡ true →
            (is_bare u || list_any (λ d. list_any (match_depends d) u.depends) v.depends) ≡ true → ⊥
        all [] same e f =
            let no : (is_bare u || list_any (λ d. list_any (match_depends d) u.depends) v.depends) ≡ false =
            ap (λ x. x || list_any (λ d. list_any (match_depends d) u.depends) v.depends) no_bare
            ∙ ap (λ ds. list_any (λ d. list_any (match_depends d) ds) v.depends) same ∙ none_match v.depends in
            let bad : true ≡ false = sym f ∙ no in absurd cc
        all (d ∷ ds) same e f = absurd cc

    go : (o : Option Work) →
        elim o [ None ↦ false | Some v ↦ on_item p j false (λ w. is_predecessor v w) ] ≡ true → ⊥
    go None f = absurd cc
    go (Some v) f = none v (sym (ap (λ (o : Option Work). elim o [ None ↦ false | Some w ↦ is_predecessor v w ]) e) ∙ f)

pub start_empty : (p : Plan) (j : ℕ) (u : Work) → slice_get p.items j ≡ Some u → is_empty u.depends ≡ true → IsStart p j j
start_empty p j u e empty = record {
  small = omega arith;
  bare = λ _. refl;
  law = λ i lt bare h. absurd (unasked p i j u e empty bare h);
}

-- a bare wait has no depend items
pub named : (p : Plan) (j : ℕ) (u : Work) → slice_get p.items j ≡ Some u → is_empty u.depends ≡ false → is_bare u ≡ false
named p j u e some = ap (λ x. is_wait u.kind && x) some ∙ and-false (is_wait u.kind)

not_bare : (p : Plan) (j : ℕ) (u : Work) → slice_get p.items j ≡ Some u → is_empty u.depends ≡ false → is_bare_at p j ≡ false
not_bare p j u e some =
    ap (λ (o : Option Work). elim o [ None ↦ false | Some w ↦ is_bare w ]) e ∙ named p j u e some

pub bare_start : (p : Plan) (j start : ℕ) (u : Work) → slice_get p.items j ≡ Some u → is_empty u.depends ≡ false →
    is_bare_at p j ≡ true → start ≡ j
bare_start p j start u e some f = absurd (let bad : true ≡ false = sym f ∙ not_bare p j u e some in cc)

pub start_all : (p : Plan) (j start : ℕ) (u : Work) → slice_get p.items j ≡ Some u → is_empty u.depends ≡ false →
    IsScan p j 0 start → IsStart p j start
start_all p j start u e some h = record {
  small = h.small;
  bare = bare_start p j start u e some;
  law = λ i lt bare q. never p i j q (h.none i (omega arith) lt);
}

pub start_barred : (p : Plan) (j here w start : ℕ) (u v : Work) → slice_get p.items j ≡ Some u → is_empty u.depends ≡ false →
    IsScan p j here start → here ≡ w + 1 → slice_get p.items w ≡ Some v → is_bare v ≡ true → v.deferred ≡ false →
    IsStart p j start
start_barred p j here w start u v e some h at f bare d = record {
  small = h.small;
  bare = bare_start p j start u e some;
  law = λ i lt _ q. go i lt q (cases_lt i here) (cases_lt i w);
}
  where
    barrier : is_barrier p w ≡ true
    barrier =
        ap (λ (o : Option Work). elim o [ None ↦ false | Some x ↦ is_bare x && not x.deferred ]) f
        ∙ ap (λ x. x && not v.deferred) bare ∙ ap not d

    itself : precedes p w j ≡ true → ⊥
    itself q =
        let host : is_deferred p w ≡ false = ap (λ (o : Option Work). elim o [ None ↦ false | Some x ↦ x.deferred ]) f ∙ d in
        let bad : true ≡ false = sym (deferred_of p w j q) ∙ host in absurd cc

    go : (i : ℕ) → i < start → precedes p i j ≡ true → (i < here) ⊎ (here ≤ i) → (i < w) ⊎ (w ≤ i) →
        IsBehind p start i j ⊎ IsBarred p i j
    go i lt q (inr seen) _ = never p i j q (h.none i seen lt)
    go i lt q (inl new) (inl below) =
        inr (record {
          item = w;
          after = below;
          before = let a = h.above in let s = h.small in omega (arith, a, s, at);
          barrier = barrier;
        })
    go i lt q (inl new) (inr above) =
        let same : i ≡ w = omega (arith, new, above, at) in
        absurd (itself (ap (λ k. precedes p k j) (sym same) ∙ q))
