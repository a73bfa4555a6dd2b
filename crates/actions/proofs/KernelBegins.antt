-- A kernel begins of which the turns may run in any order.
use Rattle.std.proofs.Common.{◌≡◌, inr, ℕ, zero, suc, ◌<◌, ◌≤◌, List, [], ◌∷◌, ◌++◌, map, length, Some, None, Bor, refl, ap, sym, ◌∙◌, subst, append-nil, arith}
use Rattle.std.specs.Prelude.{drop}
use Rattle.base.specs.Meaning.{Run}
use Rattle.fine_machine.specs.Left.{Left, Finished, each_left, exit_left, in_order, then_left, together, turn_left}
use Rattle.actions.specs.declared.control.Control.{Control}
use Rattle.actions.specs.declared.frame.Frame.TheVariants as frame
use Rattle.actions.specs.declared.stack.Frames.{Frames}
use Rattle.actions.specs.declared.strand.Strand.{Strand}
use Rattle.actions.specs.declared.unordered.Unordered.{Unordered}
use Rattle.actions.specs.Control.{AllActing, Begun, IsBefore, IsStopped, all_turns, and_kernel, kernel_rest, left_of, place, then_from}
use Rattle.actions.specs.Rest.{frames_of, rest_of}
use Rattle.actions.specs.Strand.{run_of, side_of, stack_of}
use Rattle.actions.specs.Strand as strand
use Rattle.actions.proofs.AtPlaces.{place_below}
use Rattle.actions.proofs.FirstActs.{ended}
use Rattle.actions.proofs.NextTurns.{no_turns}

-- where only the exits are left
exits_left : (s : Strand) (u : Unordered) (frames : Frames) → stack_of s ≡ [] →
    frames_of frames ≡ frame.Exits u.exits ∷ stack_of s →
    strand.left_of (record s { frames = frames }) ≡ each_left exit_left u.exits.items.now (λ v. Finished (run_of s))
unfolding rest_of
exits_left s u frames none is =
    ap (λ fs. rest_of (side_of s.on_host) fs s.loops.items s.number (run_of s)) is
    ∙ ap (λ fs. rest_of (side_of s.on_host) (frame.Exits u.exits ∷ fs) s.loops.items s.number (run_of s)) none

in_order_append : (xs ys : List Left) (after : Left) → in_order (xs ++ ys) after ≡ in_order xs (in_order ys after)
in_order_append [] ys after = refl
in_order_append (x ∷ xs) ys after = ap (then_left x) (in_order_append xs ys after)

pub drop_past : {X : Type 0} (xs : List X) (n : ℕ) → length xs ≤ n → drop n xs ≡ []
drop_past {X} [] zero le = refl
drop_past {X} [] (suc n) le = refl
drop_past {X} (x ∷ xs) zero le = absurd (omega (arith, le))
drop_past {X} (x ∷ xs) (suc n) le = drop_past xs n (omega (arith, le))

-- An open item of which the strand has come to a kernel, and whose turns from one number on have not begun.
module _ (c n : Control) (u : Unordered) (k : ℕ) (end : stack_of c.strand ≡ []) (none : c.turns.items ≡ [])
    (kernel : c.kernel ≡ Some u)
    (begun : Begun (run_of c.strand) (all_turns u) u.next k c.turns.items n.turns.items) (order : n.order ≡ c.order) where
  abbrev s : Run
  s = run_of c.strand

  abbrev numbers : List ℕ
  numbers = c.order.now

  abbrev exits : Left
  exits = each_left exit_left u.exits.items.now (λ v. Finished s)

  abbrev rest : ℕ → List Left
  rest m = map (turn_left s) (drop m (all_turns u))

  was : left_of c ≡ together numbers (rest u.next) exits
  was =
      no_turns c none ∙ ap (λ v. and_kernel numbers v (strand.left_of c.strand)) kernel
      ∙ ap (λ l. then_from l (kernel_rest numbers u)) (ended c.strand end)

  -- those that have begun come first
  begun_are : together numbers (map strand.left_of n.turns.items ++ rest k) exits ≡ together numbers (rest u.next) exits
  begun_are =
      ap (λ ls. together numbers (map strand.left_of n.turns.items ++ ls) exits) (sym (append-nil (rest k)))
      ∙ sym (begun.left numbers [] exits)
      ∙ ap (λ ts. together numbers (map strand.left_of ts ++ (rest u.next ++ [])) exits) none
      ∙ ap (λ ls. together numbers ls exits) (append-nil (rest u.next))

  -- all have begun
  pub kernel_begun : (frames : Frames) → length (all_turns u) ≤ k →
      frames_of frames ≡ frame.Exits u.exits ∷ stack_of c.strand →
      strand.left_of n.strand ≡ strand.left_of (record (c.strand) { frames = frames }) → n.kernel ≡ None →
      left_of n ≡ left_of c
  unfolding left_of
  kernel_begun frames past pushed same kernel' =
      let after = strand.left_of n.strand in
      let lefts = map strand.left_of n.turns.items in
      ap (λ o. together o.now lefts (and_kernel o.now n.kernel after)) order
      ∙ ap (λ v. together numbers lefts (and_kernel numbers v after)) kernel'
      ∙ ap (together numbers lefts) (same ∙ exits_left c.strand u frames end pushed)
      ∙ ap (λ ls. together numbers ls exits) (sym (append-nil lefts))
      ∙ ap (λ ts. together numbers (lefts ++ map (turn_left s) ts) exits) (sym (drop_past (all_turns u) k past))
      ∙ begun_are ∙ sym was

  -- some have not begun, and go on in order
  pub kernel_stands : numbers ≡ [] → n.strand ≡ c.strand → n.kernel ≡ Some (record u { next = k }) → left_of n ≡ left_of c
  unfolding left_of
  kernel_stands in_turn same kernel' =
      let lefts = map strand.left_of n.turns.items in
      let after = λ (o : List ℕ). then_from (strand.left_of c.strand) (kernel_rest o (record u { next = k })) in
      ap (λ o. together o.now lefts (and_kernel o.now n.kernel (strand.left_of n.strand))) order
      ∙ (λ i. together numbers lefts (and_kernel numbers (kernel' i) (strand.left_of (same i))))
      ∙ ap (λ o. together o lefts (after o)) in_turn
      ∙ ap (λ l. in_order lefts (then_from l (kernel_rest [] (record u { next = k })))) (ended c.strand end)
      ∙ sym (in_order_append lefts (rest k) exits)
      ∙ ap (λ o. together o (lefts ++ rest k) exits) (sym in_turn)
      ∙ begun_are ∙ sym was

  pub begun_act : AllActing n.turns.items
  begun_act = begun.acting (subst AllActing (sym none) tt)

  pub stops_begun : n.kernel ≡ None → strand.IsStopped n.strand → IsStopped n
  stops_begun kernel' stopped = record {
    turns = begun_act;
    strand = stopped;
    kernel = subst (λ v. IsBefore v n) (sym kernel') tt;
  }

  pub stops_amid : numbers ≡ [] → (n.turns.items ≡ [] → ⊥) → n.strand ≡ c.strand → strand.IsStopped c.strand →
      n.kernel ≡ Some (record u { next = k }) → IsStopped n
  stops_amid in_turn some same stopped kernel' = record {
    turns = begun_act;
    strand = subst strand.IsStopped (sym same) stopped;
    kernel =
        subst (λ v. IsBefore v n) (sym kernel') (inr (record {
          ended = ap stack_of same ∙ end;
          in_order = ap (λ (o : Bor (List ℕ)). o.now) order ∙ in_turn;
          some = some;
        }));
  }

-- no turn is at the place
pub none_there : (order : List ℕ) (turns : List Strand) → (place order (length turns) < length turns → ⊥) → turns ≡ []
none_there order [] out = refl
none_there order (t ∷ rest) out = absurd (out (place_below order (length (t ∷ rest)) (omega arith)))
