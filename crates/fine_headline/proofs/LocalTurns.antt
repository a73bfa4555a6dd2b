-- What independence says of each turn and those after it.
use Rattle.std.proofs.Common.{◌≡◌, ℕ, Bool, true, false, List, [], ◌∷◌, map, Option, Some, None, refl, sym, ◌∙◌, ap, ⊎_elim, subst}
use Rattle.std.specs.Prelude.{not, ◌&&◌, ◌||◌}
use Rattle.std.specs.List.{list_any}
use Rattle.std.proofs.lemmas.Bool.{false≢true, true≢false, or_parts, or_cases, and_from}
use Rattle.std.proofs.lemmas.Option.{same_Some, none-some}
use Rattle.base.specs.declared.item.Cell.{Cell}
use Rattle.base.specs.declared.tree.CombineOp.{CombineOp}
use Rattle.base.specs.Value.{combined}
use Rattle.base.specs.Footprint.{Touch, has_cell, reads, writes}
use Rattle.base.specs.Turns.{Turn, turn_touches, gives_scalar, operators, marked_by, updates_by, touches_else, commute_at, crosses, turns_meet, Independent}
use Rattle.fine_machine.specs.Left.{Side, Request}
use Rattle.fine_headline.proofs.Alone.{member_none, member_more, any_member, IsTouched, Looks, looks_reads, Alters, by_store, by_update, alters_writes, Commutes}
use Rattle.fine_headline.proofs.Commuting.{combined_twice, same_operators}
use Rattle.fine_headline.proofs.TurnsTogether.{SomeLooks, SomeAlters, AreClear}

pub none_where : (a b b' k g : Bool) → (a && (((b || b') && not k) || g)) ≡ false → a ≡ true →
    (((b || b') && not k) ≡ false) × (g ≡ false)
none_where false b b' k g h e = absurd (false≢true e)
none_where true b b' k g h e = or_parts ((b || b') && not k) g h

neither : (b b' k : Bool) → ((b || b') && not k) ≡ false → k ≡ false → (b ≡ false) × (b' ≡ false)
neither false false k h e = (refl, refl)
neither true b' false h e = absurd (true≢false h)
neither true b' true h e = absurd (true≢false e)
neither false true false h e = absurd (true≢false h)
neither false true true h e = absurd (true≢false e)

some_operator : (p : CombineOp → Bool) (ops : List CombineOp) → list_any p ops ≡ true →
    (op : CombineOp) × (p op ≡ true)
some_operator p [] h = absurd (false≢true h)
some_operator p (op ∷ ops) h =
    ⊎_elim (λ e. (op, e)) (λ e. some_operator p ops e) (or_cases (p op) (list_any p ops) h)

not_or : (a b : Bool) → not (a || b) ≡ true → (a ≡ false) × (b ≡ false)
not_or false false h = (refl, refl)
not_or true b h = absurd (false≢true h)
not_or false true h = absurd (false≢true h)

-- a touch of a cell that is touched by updates with the operator alone is one of those
only_by : (op : CombineOp) (w : Bool) (mark : Option CombineOp) (xs : List Touch) (c : Cell) →
    touches_else op xs c ≡ false → IsTouched w mark xs c → mark ≡ Some op
only_by op w mark xs c h t = go (updates_by op t.touch) refl t.touch.combines refl
  where
    go : (b : Bool) → updates_by op t.touch ≡ b → (m : Option CombineOp) → t.touch.combines ≡ m → mark ≡ Some op
    go false e m q =
        absurd (false≢true (sym h ∙ any_member (λ t. not (updates_by op t) && has_cell c t) t.touch xs t.is_in
        (and_from (not (updates_by op t.touch)) (has_cell c t.touch) (ap not e) t.has)))
    go true e None q = absurd (false≢true (ap (marked_by op) (sym q) ∙ e))
    go true e (Some op') q =
        sym t.combines ∙ (q ∙ ap Some (sym (same_operators op op' (ap (marked_by op) (sym q) ∙ e))))

-- no cell on which a turn and one of these meet
abbrev pub Misses : Turn → List Turn → Cell → Type 0
Misses t us c = list_any (λ u. crosses t u c || crosses u t c) us ≡ false

pub misses_first : (t u : Turn) (us : List Turn) (c : Cell) → Misses t (u ∷ us) c →
    (crosses t u c ≡ false) × (crosses u t c ≡ false) × Misses t us c
misses_first t u us c h =
    let p = or_parts (crosses t u c || crosses u t c) (list_any (λ u. crosses t u c || crosses u t c) us) h in
    let q = or_parts (crosses t u c) (crosses u t c) p.0 in
    (q.0, q.1, p.1)

module _ (side : Side) (t : Turn) (c : Cell) where
  -- what another turn looks at is not written
  looked_clear : (u : Turn) → crosses t u c ≡ false → Looks None (turn_touches u) c → writes (turn_touches t) c ≡ false
  looked_clear u h l = go (writes (turn_touches t) c) refl
    where
      crossed : ((reads (turn_touches u) c || writes (turn_touches u) c) && not
          (commute_at (turn_touches t) (turn_touches u) c)) ≡ false →
          (b : Bool) → commute_at (turn_touches t) (turn_touches u) c ≡ b → ⊥
      crossed n false e =
          false≢true (sym (neither (reads (turn_touches u) c) (writes (turn_touches u) c)
          (commute_at (turn_touches t) (turn_touches u) c) n e).0 ∙ looks_reads None (turn_touches u) c l)
      crossed n true e =
          let p = some_operator (λ op. not (touches_else op (turn_touches t) c || touches_else op (turn_touches u) c))
          operators e in
          let q = not_or (touches_else p.0 (turn_touches t) c) (touches_else p.0 (turn_touches u) c) p.1 in
          none-some p.0 (only_by p.0 false None (turn_touches u) c q.1 l)

      go : (b : Bool) → writes (turn_touches t) c ≡ b → b ≡ false
      go false e = refl
      go true e =
          let n = none_where (writes (turn_touches t) c) (reads (turn_touches u) c) (writes (turn_touches u) c)
          (commute_at (turn_touches t) (turn_touches u) c) (gives_scalar u t) h e in
          absurd (crossed n.0 (commute_at (turn_touches t) (turn_touches u) c) refl)

  -- a cell that both touch by updates with one operator alone
  updates_commute : (op : CombineOp) (us : List Touch) (r : Request) (f : ℕ → ℕ) → touches_else op us c ≡ false →
      touches_else op (turn_touches t) c ≡ false → Alters side us r c f → Commutes side (turn_touches t) c f
  updates_commute op us _ _ h k (by_store _ n i) = absurd (none-some op (only_by op true None us c h i))
  updates_commute op us _ _ h k (by_update op' _ n i) = record {
    unseen = λ l. none-some op (only_by op false None (turn_touches t) c k l);
    free = λ r g j a. other r g j a;
  }
    where
      mine : op' ≡ op
      mine = same_Some op' op (only_by op true (Some op') us c h i)

      other : (r : Request) (g : ℕ → ℕ) → Alters side (turn_touches t) r c g → (a : ℕ) →
          combined op' (g a) n ≡ g (combined op' a n)
      other _ _ (by_store _ m j) a = absurd (none-some op (only_by op true None (turn_touches t) c k j))
      other _ _ (by_update o _ m j) a =
          let theirs : o ≡ op = same_Some o op (only_by op true (Some o) (turn_touches t) c k j) in
          subst (λ x. combined op' (combined x a m) n ≡ combined x (combined op' a n) m) (mine ∙ sym theirs)
          (combined_twice op' a m n)

  -- what another turn changes commutes with all that this one does
  altered_clear : (u : Turn) → crosses u t c ≡ false → (r : Request) (f : ℕ → ℕ) →
      Alters side (turn_touches u) r c f → Commutes side (turn_touches t) c f
  altered_clear u h r f i = go (commute_at (turn_touches u) (turn_touches t) c) refl
    where
      crossed : ((reads (turn_touches t) c || writes (turn_touches t) c) && not
          (commute_at (turn_touches u) (turn_touches t) c)) ≡ false
      crossed = (none_where (writes (turn_touches u) c) (reads (turn_touches t) c) (writes (turn_touches t) c)
          (commute_at (turn_touches u) (turn_touches t) c) (gives_scalar t u) h
          (alters_writes side (turn_touches u) r c f i)).0

      go : (b : Bool) → commute_at (turn_touches u) (turn_touches t) c ≡ b → Commutes side (turn_touches t) c f
      go false e =
          let n = neither (reads (turn_touches t) c) (writes (turn_touches t) c)
          (commute_at (turn_touches u) (turn_touches t) c) crossed e in
          record {
            unseen = λ l. false≢true (sym n.0 ∙ looks_reads None (turn_touches t) c l);
            free = λ r g j a. absurd (false≢true (sym n.1 ∙ alters_writes side (turn_touches t) r c g j));
          }
      go true e =
          let p = some_operator (λ op. not (touches_else op (turn_touches u) c || touches_else op (turn_touches t) c))
          operators e in
          let q = not_or (touches_else p.0 (turn_touches u) c) (touches_else p.0 (turn_touches t) c) p.1 in
          updates_commute p.0 (turn_touches u) r f q.0 q.1 i

  looks_clear : (us : List Turn) → Misses t us c → SomeLooks (map turn_touches us) c →
      writes (turn_touches t) c ≡ false
  looks_clear [] h s = absurd (member_none s.turn s.is_in)
  looks_clear (u ∷ us) h s =
      let p = misses_first t u us c h in
      ⊎_elim (λ e. looked_clear u p.0 (subst (λ x. Looks None x c) (sym e) s.looks))
      (λ m. looks_clear us p.2 (record { turn = s.turn; is_in = m; looks = s.looks }))
      (member_more s.turn (turn_touches u) (map turn_touches us) s.is_in)

  alters_clear : (us : List Turn) → Misses t us c → (r : Request) (f : ℕ → ℕ) →
      SomeAlters side (map turn_touches us) r c f → Commutes side (turn_touches t) c f
  alters_clear [] h r f s = absurd (member_none s.turn s.is_in)
  alters_clear (u ∷ us) h r f s =
      let p = misses_first t u us c h in
      ⊎_elim (λ e. altered_clear u p.1 r f (subst (λ x. Alters side x r c f) (sym e) s.alters))
      (λ m. alters_clear us p.2 r f (record { turn = s.turn; is_in = m; alters = s.alters }))
      (member_more s.turn (turn_touches u) (map turn_touches us) s.is_in)

pub meets_first : (t : Turn) (rest : List Turn) (c : Cell) → turns_meet (t ∷ rest) c ≡ false →
    Misses t rest c × (turns_meet rest c ≡ false)
meets_first t rest c h =
    let p = or_parts (list_any (λ u. crosses t u c || crosses u t c) rest) (turns_meet rest c) h in (p.0, p.1)

pub are_clear : (side : Side) (turns : List Turn) → Independent turns → AreClear side (map turn_touches turns)
are_clear side [] h = tt
are_clear side (t ∷ rest) h = (
  record {
    of_looks = λ c. looks_clear side t c rest (meets_first t rest c (h c)).0;
    of_alters = λ r c f s. alters_clear side t c rest (meets_first t rest c (h c)).0 r f s;
  },
  are_clear side rest (λ c. (meets_first t rest c (h c)).1),
)
