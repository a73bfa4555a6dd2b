-- The turns of a nest of loops, by the first and the last values of their names.
use Rattle.std.proofs.Common.{◌≡◌, ℕ, zero, suc, ◌+◌, ◌-◌, ◌*◌, ◌<◌, ◌≤◌, Bool, true, false, List, [], ◌∷◌, ◌++◌, Option, Some, None, refl, sym, ap, ap₂, ◌∙◌, subst, arith, length, length-append, append_assoc}
use Rattle.std.specs.Prelude.{slice_index}
use Rattle.std.specs.List.{list_any}
use Rattle.std.proofs.lemmas.List.{append-nil, get_or_append_left, get_or-append_right}
use Rattle.base.specs.declared.tree.Bounds.{Bounds}
use Rattle.base.specs.declared.tree.Stmt.{Stmt}
use Rattle.base.specs.declared.item.Cell.{Cell}
use Rattle.base.specs.Meaning.{turns_left, turns_of}
use Rattle.base.specs.ScalarUse.{list_assigned, list_needs}
use Rattle.base.specs.Turns.{Turn, each_turn, gives_scalar, only_loop, turn_touches, turns_at, turns_meet}
use Rattle.ranges.specs.Meetings.{turn_body}
use Rattle.ranges.specs.Spans.{AreBetween}
use Rattle.ranges.specs.Strides.{AllApart, Apart, IsTurn, nest_highs, nest_lows, touch}
use Rattle.ranges.proofs.ApartTurns.{Each, NoPair, each_append, no_pairs, not_crossed, touched}
use Rattle.ranges.proofs.Meetings.{gives_none}
use Rattle.ranges.proofs.SettledTouches.{next_turns, some_turn}
use Rattle.ranges.proofs.Spans.{between_push}

-- a turn that does this, with values of the loops from these first up to these last ones, of which the outer ones are these
pub record IsFull (lows highs loops : List ℕ) (body : List Stmt) (t : Turn) : Type 0 where
  pub between : AreBetween lows highs t.loops
  pub begins : (k : ℕ) → k < length loops → slice_index t.loops k ≡ slice_index loops k
  pub does : t.body ≡ body

each_all : (P : Turn → Type 0) (b : Bounds) (f : ℕ → List Turn) (n v : ℕ) → b.first ≤ v → n ≡ turns_left v b →
    ((w : ℕ) → b.first ≤ w → w < b.end → Each P (f w)) → Each P (each_turn n v b.step f)
each_all P b f zero v le e h = tt
each_all P b f (suc n) v le e h =
    each_append P (f v) (each_turn n (v + b.step) b.step f) (h v le (some_turn n v b e))
    (each_all P b f n (v + b.step) (omega (arith, le)) (next_turns n v b e) h)

pub all_more : {P Q : Turn → Type 0} (ts : List Turn) → ((t : Turn) → P t → Q t) → Each P ts → Each Q ts
all_more [] f h = tt
all_more (t ∷ ts) f h = (f t h.0, all_more ts f h.1)

full_one : (lows highs loops : List ℕ) (body : List Stmt) → AreBetween lows highs loops →
    Each (IsFull (lows ++ []) (highs ++ []) loops body) (record { loops = loops; body = body } ∷ [])
full_one lows highs loops body between = (
  record {
    between = subst (λ (xs : List ℕ). AreBetween xs (highs ++ []) loops) (sym (append-nil lows))
        (subst (λ (xs : List ℕ). AreBetween lows xs loops) (sym (append-nil highs)) between);
    begins = λ k lt. refl;
    does = refl;
  },
  tt,
)

-- within one more loop
full_within : (lows highs inner_lows inner_highs loops : List ℕ) (lo hi v : ℕ) (body : List Stmt) (t : Turn) →
    IsFull ((lows ++ lo ∷ []) ++ inner_lows) ((highs ++ hi ∷ []) ++ inner_highs) (loops ++ v ∷ []) body t →
    IsFull (lows ++ lo ∷ inner_lows) (highs ++ hi ∷ inner_highs) loops body t
full_within lows highs inner_lows inner_highs loops lo hi v body t h = record {
  between = subst (λ (xs : List ℕ). AreBetween xs (highs ++ hi ∷ inner_highs) t.loops) (append_assoc lows (lo ∷ []) inner_lows)
      (subst (λ (xs : List ℕ). AreBetween ((lows ++ lo ∷ []) ++ inner_lows) xs t.loops) (append_assoc highs (hi ∷ []) inner_highs) h.between);
  begins = λ k lt. let n = length-append loops (v ∷ []) in
      h.begins k (omega (arith, lt, n)) ∙ get_or_append_left loops (v ∷ []) 0 k lt;
  does = h.does;
}

pub full_turns : (d : ℕ) (nest : List Stmt) (lows highs loops : List ℕ) → AreBetween lows highs loops →
    Each (IsFull (lows ++ nest_lows d nest) (highs ++ nest_highs d nest) loops (turn_body d nest)) (turns_at d nest loops)
full_turns zero nest lows highs loops between = full_one lows highs loops nest between
full_turns (suc d) nest lows highs loops between = go (λ inner lows highs loops between. full_turns d inner lows highs loops between) (only_loop nest)
  where
    go : ((inner : List Stmt) (lows highs loops : List ℕ) → AreBetween lows highs loops →
        Each (IsFull (lows ++ nest_lows d inner) (highs ++ nest_highs d inner) loops (turn_body d inner)) (turns_at d inner loops)) →
        (o : Option (Bounds × List Stmt)) →
        Each (IsFull (lows ++ elim o as (λ z. List ℕ) [ None ↦ [] | Some l ↦ l.0.first ∷ nest_lows d l.1 ])
        (highs ++ elim o as (λ z. List ℕ) [ None ↦ [] | Some l ↦ (l.0.end - 1) ∷ nest_highs d l.1 ]) loops
        (elim o as (λ z. List Stmt) [ None ↦ nest | Some l ↦ turn_body d l.1 ]))
        (elim o as (λ z. List Turn) [
          | None ↦ record { loops = loops; body = nest } ∷ []
          | Some l ↦ each_turn (turns_of l.0) l.0.first l.0.step (λ v. turns_at d l.1 (loops ++ v ∷ []))
        ])
    go inside None = full_one lows highs loops nest between
    go inside (Some l) = each_all _ l.0 (λ v. turns_at d l.1 (loops ++ v ∷ [])) (turns_of l.0) l.0.first (omega arith) refl
        (λ w le lt. all_more (turns_at d l.1 (loops ++ w ∷ []))
        (λ t h. full_within lows highs (nest_lows d l.1) (nest_highs d l.1) loops l.0.first (l.0.end - 1) w (turn_body d l.1) t h)
        (inside l.1 (lows ++ l.0.first ∷ []) (highs ++ (l.0.end - 1) ∷ []) (loops ++ w ∷ [])
        (between_push lows highs loops l.0.first (l.0.end - 1) w between le (omega (arith, lt)))))
