-- Turns of a nest that agree in the names of all its loops wherever they touch a cell.
use Rattle.std.proofs.Common.{◌≡◌, ℕ, zero, suc, ◌+◌, ◌-◌, ◌*◌, ◌<◌, ◌≤◌, Bool, true, false, List, [], ◌∷◌, ◌++◌, Option, Some, None, refl, sym, ap, ◌∙◌, subst, arith, length, length-append, append_assoc}
use Rattle.std.specs.Prelude.{◌||◌, slice_index}
use Rattle.std.specs.List.{list_any}
use Rattle.std.proofs.lemmas.List.{get_or-append_right}
use Rattle.base.specs.declared.tree.Bounds.{Bounds}
use Rattle.base.specs.declared.tree.Stmt.{Stmt}
use Rattle.base.specs.declared.item.Cell.{Cell}
use Rattle.base.specs.Meaning.{turns_left, turns_of}
use Rattle.base.specs.ScalarUse.{list_assigned, list_needs}
use Rattle.base.specs.Turns.{Turn, crosses, each_turn, only_loop, turns_at, turns_meet}
use Rattle.ranges.specs.Meetings.{turn_body}
use Rattle.ranges.specs.Seen.{list_touches}
use Rattle.ranges.specs.Spans.{AreBetween}
use Rattle.ranges.specs.Strides.{AllApart, Apart, IsTurn, nest_highs, nest_lows, touch}
use Rattle.base.specs.Footprint.{has_cell}
use Rattle.ranges.proofs.ApartTurns.{Each, NoPair, each_append, no_pairs, not_crossed, touched}
use Rattle.ranges.proofs.Meetings.{gives_none}
use Rattle.ranges.proofs.NestSpans.{IsFull, all_more, full_turns}
use Rattle.ranges.proofs.SettledTouches.{next_turns, some_turn}
use Rattle.ranges.proofs.Spans.{between_push}

either_false : (a b : Bool) → a ≡ false → b ≡ false → (a || b) ≡ false
either_false false b e f = f
either_false true b e f = e

at_end : (loops : List ℕ) (v : ℕ) → slice_index (loops ++ v ∷ []) (length loops) ≡ v
at_end loops v = get_or-append_right loops (v ∷ []) (length loops) (length loops) 0 refl (omega arith) ∙ at (length loops - length loops) (omega arith)
  where
    at : (k : ℕ) → k ≡ 0 → slice_index (v ∷ []) k ≡ v
    at k e = ap (slice_index (v ∷ [])) e

module _ (lows highs : List ℕ) (body : List Stmt) (c : Cell)
    (none : list_any (λ x. list_needs x body) (list_assigned body) ≡ false) where
  -- the turn does the statements between these values, with this name of the loop at the level
  abbrev IsAt : ℕ → ℕ → Turn → Type 0
  IsAt level w t = AreBetween lows highs t.loops × ((t.body ≡ body) × (slice_index t.loops level ≡ w))

  touched_is : (t : Turn) → t.body ≡ body → touched t c ≡ true → touch body t.loops c ≡ true
  touched_is t e h = sym (ap (λ b. list_any (has_cell c) (list_touches b t.loops true)) e) ∙ h

  no_pair : (level : ℕ) (b : Bounds) (v w : ℕ) → Apart c.array.0 level b body lows highs → IsTurn b v → IsTurn b w → (v ≡ w → ⊥) →
      (s t : Turn) → IsAt level v s → IsAt level w t → NoPair c s t
  no_pair level b v w apart at_v at_w differ s t p q =
      either_false (crosses s t c) (crosses t s c)
      (not_crossed s t c (gives_none body t s none q.1.0 p.1.0) (λ x y. meet x y))
      (not_crossed t s c (gives_none body s t none p.1.0 q.1.0) (λ y x. meet x y))
    where
      meet : touched s c ≡ true → touched t c ≡ true → ⊥
      meet x y = differ (sym p.1.1 ∙ apart s.loops t.loops c p.0 q.0 (subst (IsTurn b) (sym p.1.1) at_v) (subst (IsTurn b) (sym q.1.1) at_w) refl
          (touched_is s p.1.0 x) (touched_is t q.1.0 y) ∙ q.1.1)

  -- with a name of the loop from this one on
  abbrev Behind : ℕ → Bounds → ℕ → Turn → Type 0
  Behind level b v t = (w : ℕ) × (IsAt level w t × (IsTurn b w × (v ≤ w)))

  each_turns : (level : ℕ) (b : Bounds) (f : ℕ → List Turn) → Apart c.array.0 level b body lows highs →
      ((w : ℕ) → b.first ≤ w → w < b.end → Each (IsAt level w) (f w)) →
      ((w : ℕ) → b.first ≤ w → w < b.end → turns_meet (f w) c ≡ false) →
      (n v i : ℕ) → v ≡ b.first + b.step * i → n ≡ turns_left v b →
      (turns_meet (each_turn n v b.step f) c ≡ false) × Each (Behind level b v) (each_turn n v b.step f)
  each_turns level b f apart at inner zero v i is e = (refl, tt)
  each_turns level b f apart at inner (suc n) v i is e =
      let lt = some_turn n v b e in
      let first : b.first ≤ v = omega (arith, is) in
      let next : v + b.step ≡ b.first + b.step * suc i = omega (arith, is) in
      let rest = each_turns level b f apart at inner n (v + b.step) (suc i) next (next_turns n v b e) in
      let here : IsTurn b v = record { turn = i; value = is; inside = lt } in (
        no_pairs c (IsAt level v) (Behind level b (v + b.step)) (f v) (each_turn n (v + b.step) b.step f) (at v first lt) rest.1
            (inner v first lt) rest.0
            (λ s t p q. no_pair level b v q.0 apart here q.1.1.0
            (λ same. let k = q.1.1.1 in let z = b.step_not_zero in absurd (less v q.0 b.step same k z)) s t p q.1.0),
        each_append (Behind level b v) (f v) (each_turn n (v + b.step) b.step f)
            (all_more (f v) (λ t p. (v, (p, (here, omega arith)))) (at v first lt))
            (all_more (each_turn n (v + b.step) b.step f) (λ t q. let k = q.1.1.1 in (q.0, (q.1.0, (q.1.1.0, omega (arith, k))))) rest.1),
      )
    where
      less : (v w step : ℕ) → v ≡ w → v + step ≤ w → 1 ≤ step → ⊥
      less v w step same k z = omega (arith, same, k, z)

  pub turns_apart : (d : ℕ) (nest : List Stmt) (outer_lows outer_highs loops : List ℕ) → AreBetween outer_lows outer_highs loops →
      lows ≡ outer_lows ++ nest_lows d nest → highs ≡ outer_highs ++ nest_highs d nest → body ≡ turn_body d nest →
      AllApart c.array.0 (length loops) d nest body lows highs → turns_meet (turns_at d nest loops) c ≡ false
  turns_apart zero nest ol oh loops between lows_is highs_is body_is apart = refl
  turns_apart (suc d) nest ol oh loops between lows_is highs_is body_is apart =
      go (λ inner l h ls b e f g a. turns_apart d inner l h ls b e f g a) (only_loop nest) lows_is highs_is body_is apart
    where
      level : ℕ
      level = length loops

      go : ((inner : List Stmt) (l h ls : List ℕ) → AreBetween l h ls → lows ≡ l ++ nest_lows d inner → highs ≡ h ++ nest_highs d inner →
          body ≡ turn_body d inner → AllApart c.array.0 (length ls) d inner body lows highs → turns_meet (turns_at d inner ls) c ≡ false) →
          (o : Option (Bounds × List Stmt)) →
          lows ≡ ol ++ elim o as (λ z. List ℕ) [ None ↦ [] | Some l ↦ l.0.first ∷ nest_lows d l.1 ] →
          highs ≡ oh ++ elim o as (λ z. List ℕ) [ None ↦ [] | Some l ↦ (l.0.end - 1) ∷ nest_highs d l.1 ] →
          body ≡ elim o as (λ z. List Stmt) [ None ↦ nest | Some l ↦ turn_body d l.1 ] →
          (elim o as (λ z. Type 0) [
            | None ↦ Unit {0}
            | Some l ↦ Apart c.array.0 level l.0 body lows highs × AllApart c.array.0 (level + 1) d l.1 body lows highs
          ]) →
          turns_meet (elim o as (λ z. List Turn) [
            | None ↦ record { loops = loops; body = nest } ∷ []
            | Some l ↦ each_turn (turns_of l.0) l.0.first l.0.step (λ v. turns_at d l.1 (loops ++ v ∷ []))
          ]) c ≡ false
      go inside None e f g a = refl
      go inside (Some l) e f g a =
          (each_turns level l.0 (λ v. turns_at d l.1 (loops ++ v ∷ [])) a.0 at_each inner_each (turns_of l.0) l.0.first 0 (omega arith) refl).0
        where
          lows_in : lows ≡ (ol ++ l.0.first ∷ []) ++ nest_lows d l.1
          lows_in = e ∙ sym (append_assoc ol (l.0.first ∷ []) (nest_lows d l.1))

          highs_in : highs ≡ (oh ++ (l.0.end - 1) ∷ []) ++ nest_highs d l.1
          highs_in = f ∙ sym (append_assoc oh ((l.0.end - 1) ∷ []) (nest_highs d l.1))

          pushed : (w : ℕ) → l.0.first ≤ w → w < l.0.end → AreBetween (ol ++ l.0.first ∷ []) (oh ++ (l.0.end - 1) ∷ []) (loops ++ w ∷ [])
          pushed w le lt = between_push ol oh loops l.0.first (l.0.end - 1) w between le (omega (arith, lt))

          longer : (w : ℕ) → level + 1 ≡ length (loops ++ w ∷ [])
          longer w = sym (length-append loops (w ∷ []))

          at_each : (w : ℕ) → l.0.first ≤ w → w < l.0.end → Each (IsAt level w) (turns_at d l.1 (loops ++ w ∷ []))
          at_each w le lt = all_more (turns_at d l.1 (loops ++ w ∷ []))
              (λ t h. (
                subst (λ (xs : List ℕ). AreBetween xs highs t.loops) (sym lows_in)
                    (subst (λ (xs : List ℕ). AreBetween ((ol ++ l.0.first ∷ []) ++ nest_lows d l.1) xs t.loops) (sym highs_in) h.between),
                (h.does ∙ sym g, let n = longer w in h.begins level (omega (arith, n)) ∙ at_end loops w),
              ))
              (full_turns d l.1 (ol ++ l.0.first ∷ []) (oh ++ (l.0.end - 1) ∷ []) (loops ++ w ∷ []) (pushed w le lt))

          inner_each : (w : ℕ) → l.0.first ≤ w → w < l.0.end → turns_meet (turns_at d l.1 (loops ++ w ∷ [])) c ≡ false
          inner_each w le lt = inside l.1 (ol ++ l.0.first ∷ []) (oh ++ (l.0.end - 1) ∷ []) (loops ++ w ∷ []) (pushed w le lt) lows_in highs_in g
              (subst (λ n. AllApart c.array.0 n d l.1 body lows highs) (longer w) a.1)
