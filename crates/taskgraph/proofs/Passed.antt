-- Going back from an item up to one that stands for all earlier ones.
use Rattle.std.proofs.Common.{◌≡◌, inl, ℕ, ◌+◌, ◌<◌, true, false, Option, Some, None, sym, ap, ◌∙◌, arith}
use Rattle.std.specs.Prelude.{◌&&◌, ◌||◌, nat_lt, slice_get}
use Rattle.std.specs.List.{list_any}
use Rattle.std.proofs.lemmas.Bool.{and_parts, le-leb, lt-ltb, or_right}
use Rattle.base.specs.Items.{Work, Plan}
use Rattle.base.specs.Machine.{is_empty, is_predecessor, match_depends, on_item, precedes}
use Rattle.taskgraph.specs.Cover.{covers}
use Rattle.taskgraph.specs.Waiting.{IsStart, is_bare}
use Rattle.taskgraph.proofs.Covers.{any_covered}
use Rattle.taskgraph.proofs.Starts.{IsScan, bare_start, named}

-- whatever item j waits for before an item that covers it, that item waits for too
passed_on : (p : Plan) (i w j : ℕ) (u v : Work) → slice_get p.items j ≡ Some u → slice_get p.items w ≡ Some v →
    is_bare u ≡ false → covers v.depends u.depends ≡ true → i < w → precedes p i j ≡ true → precedes p i w ≡ true
passed_on p i w j u v e f bare c lt h =
    ap (λ x. x && on_item p i false (λ x. on_item p w false (λ y. is_predecessor x y))) (lt-ltb i w lt)
    ∙ go (slice_get p.items i) ((and_parts (nat_lt i j) _ h).1)
  where
    shift : (x : Work) → is_predecessor x u ≡ true → is_predecessor x v ≡ true
    shift x q =
        let both = and_parts x.deferred _ q in
        let any = sym (ap (λ y. y || list_any (λ d. list_any (match_depends d) u.depends) x.depends) bare) ∙ both.1 in
        ap (λ y. y && (is_bare v || list_any (λ d. list_any (match_depends d) v.depends) x.depends)) both.0
        ∙ or_right (is_bare v) _ (any_covered x.depends v.depends u.depends c any)

    go : (o : Option Work) →
        elim o [ None ↦ false | Some x ↦ on_item p j false (λ y. is_predecessor x y) ] ≡ true →
        elim o [ None ↦ false | Some x ↦ on_item p w false (λ y. is_predecessor x y) ] ≡ true
    go None q = absurd cc
    go (Some x) q =
        ap (λ (o : Option Work). elim o [ None ↦ false | Some y ↦ is_predecessor x y ]) f
        ∙ shift x (sym (ap (λ (o : Option Work). elim o [ None ↦ false | Some y ↦ is_predecessor x y ]) e) ∙ q)

pub start_covered : (p : Plan) (j here w start : ℕ) (u v : Work) → slice_get p.items j ≡ Some u → is_empty u.depends ≡ false →
    IsScan p j here start → here ≡ w + 1 → slice_get p.items w ≡ Some v → precedes p w j ≡ true →
    covers v.depends u.depends ≡ true → IsStart p j w
start_covered p j here w start u v e some h at f q c = record {
  small = let a = h.above in let s = h.small in omega (arith, a, s, at);
  bare = bare_start p j w u e some;
  law = λ i lt _ r. inl (record {
    item = w;
    counted = ap (λ x. x && precedes p w j) (le-leb w w (omega arith)) ∙ q;
    waits = passed_on p i w j u v e f (named p j u e some) c lt r;
  });
}
