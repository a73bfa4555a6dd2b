-- The laws of an action on a single cell: a load, a store, or a cell that is copied.
use Rattle.std.proofs.Common.{◌≡◌, ◌⊎◌, ℕ, ◌==◌, Bool, true, false, List, Option, Some, None, refl, sym, ◌∙◌, ap, ap₂, inl, inr, true≢false}
use Rattle.std.specs.Prelude.{if◌then◌else◌, option_map}
use Rattle.std.proofs.lemmas.Bool.{cases_Bool, eqb-true, and_parts, or_right, cond-false}
use Rattle.base.specs.declared.item.Cell.{Cell}
use Rattle.base.specs.Actions.{Side, Host, Dev}
use Rattle.base.specs.Memory.{same_cell, is_cell}
use Rattle.base.specs.Items.{Plan}
use Rattle.base.specs.Value.{combined}
use Rattle.base.specs.Map.{Memories, Fill}
use Rattle.fine_machine.specs.Left.{Request, Load, Store, Combine, Enter, Leave, Remove, CopyIn, CopyOut, OnHost, OnDevice, Answer}
use Rattle.fine_machine.specs.Action.{loaded, act, on_cell, with_host, with_device}
use Rattle.two_memories.proofs.LikeMemories.{touched}
use Rattle.two_memories.proofs.AdjustedCounts.{access_of}

abbrev Touches : Plan → ℕ → Side → Cell → Type 0
Touches plan i side c = touched (access_of plan i) side c ≡ true

abbrev Writes : Plan → ℕ → Side → Cell → Type 0
Writes plan i side c = (access_of plan i).writes side c ≡ true

-- an action on a cell that the item may do
abbrev pub IsAllowed : Plan → ℕ → Request → Type 0
IsAllowed plan i (Load OnHost c) = Touches plan i Host c
IsAllowed plan i (Load OnDevice c) = Touches plan i Dev c
IsAllowed plan i (Store OnHost c n) = Writes plan i Host c
IsAllowed plan i (Store OnDevice c n) = Writes plan i Dev c
IsAllowed plan i (Combine OnHost op c n) = Writes plan i Host c
IsAllowed plan i (Combine OnDevice op c n) = Writes plan i Dev c
IsAllowed plan i (CopyIn c) = Touches plan i Host c × Writes plan i Dev c
IsAllowed plan i (CopyOut c) = Touches plan i Dev c × Writes plan i Host c
IsAllowed plan i (Enter item) = ⊥
IsAllowed plan i (Leave item) = ⊥
IsAllowed plan i (Remove section) = ⊥

same_cells : (c d : Cell) → same_cell c d ≡ true → c ≡ d
same_cells c d h =
    let p = and_parts (c.array.0 == d.array.0) (c.index == d.index) h in
    ap₂ (λ x y. record { array = record { 0 = x }; index = y }) (eqb-true c.array.0 d.array.0 p.0)
    (eqb-true c.index d.index p.1)

-- what is put into one cell of those that hold a test leaves the others
put_elsewhere : {A : Type 0} (test : Cell → Bool) (c d : Cell) (x y : A) → test c ≡ true → test d ≡ false →
    (if same_cell c d then x else y) ≡ y
put_elsewhere test c d x y h k = go (cases_Bool (same_cell c d))
  where
    go : (same_cell c d ≡ true) ⊎ (same_cell c d ≡ false) → (if same_cell c d then x else y) ≡ y
    go (inl e) = absurd (true≢false (sym h ∙ (ap test (same_cells c d e) ∙ k)))
    go (inr e) = cond-false (same_cell c d) x y e

module _ (plan : Plan) (i : ℕ) (u u' : Memories) (hosts : (c : Cell) → Touches plan i Host c → u.host c ≡ u'.host c)
    (cells : (c : Cell) → Touches plan i Dev c → u.device.cells c ≡ u'.device.cells c) where
  -- what an action on a cell makes of both memories
  pub record IsFramed (n n' : Memories) : Type 0 where
    pub host : (c : Cell) → (access_of plan i).writes Host c ≡ false → n.host c ≡ u.host c
    pub device : (c : Cell) → (access_of plan i).writes Dev c ≡ false →
        n.device.cells c ≡ u.device.cells c
    pub blocks : n.device.blocks ≡ u.device.blocks
    pub blocks' : n'.device.blocks ≡ u'.device.blocks
    pub same_host : (c : Cell) → Touches plan i Host c → n.host c ≡ n'.host c
    pub same_device : (c : Cell) → Touches plan i Dev c → n.device.cells c ≡ n'.device.cells c

  pub record BothAct (lengths : List ℕ) (fill : Fill) (r : Request) : Type 0 where
    pub answer : Answer
    pub after : Memories
    pub after' : Memories
    pub is : act lengths fill r u ≡ Some (answer, after)
    pub is' : act lengths fill r u' ≡ Some (answer, after')
    pub framed : IsFramed after after'

  unchanged : IsFramed u u'
  unchanged =
      record {
        host = λ c w. refl;
        device = λ c w. refl;
        blocks = refl;
        blocks' = refl;
        same_host = hosts;
        same_device =
            cells;
      }

  host_written : (c : Cell) (n n' : ℕ) → n ≡ n' → Writes plan i Host c →
      IsFramed (with_host c n u) (with_host c n' u')
  host_written c n n' e w = record {
    host = λ d k. put_elsewhere (λ x. (access_of plan i).writes Host x) c d n (u.host d) w k;
    device = λ d k. refl;
    blocks = refl;
    blocks' = refl;
    same_host = λ d k. ap₂ (λ v o. if same_cell c d then v else o) e (hosts d k);
    same_device = cells;
  }

  device_written : (c : Cell) (n n' : ℕ) → n ≡ n' → Writes plan i Dev c →
      IsFramed (with_device c n u) (with_device c n' u')
  device_written c n n' e w = record {
    host = λ d k. refl;
    device =
        λ d k. put_elsewhere (λ x. (access_of plan i).writes Dev x) c d (Some n)
        (u.device.cells d) w k;
    blocks = refl;
    blocks' = refl;
    same_host = hosts;
    same_device = λ d k. ap₂ (λ v o. if same_cell c d then Some v else o) e (cells d k);
  }

  written_touched : (side : Side) (c : Cell) → Writes plan i side c → Touches plan i side c
  written_touched side c w = or_right ((access_of plan i).reads side c) ((access_of plan i).writes side c) w

  pub both_act : (lengths : List ℕ) (fill : Fill) (r : Request) → IsAllowed plan i r →
      (act lengths fill r u' ≡ None) ⊎ BothAct lengths fill r
  both_act lengths fill (Load OnHost c) h = go (is_cell lengths c) refl
    where
      go : (b : Bool) → is_cell lengths c ≡ b →
          (act lengths fill (Load OnHost c) u' ≡ None) ⊎ BothAct lengths fill (Load OnHost c)
      go false e = inl (ap (λ b. on_cell b (loaded (u'.host c), u')) e)
      go true e = inr (record {
        answer = loaded (u.host c);
        after = u;
        after' = u';
        is = ap (λ b. on_cell b (loaded (u.host c), u)) e;
        is' = ap (λ b. on_cell b (loaded (u'.host c), u')) e ∙ ap (λ v. Some (loaded v, u')) (sym (hosts c h));
        framed = unchanged;
      })
  both_act lengths fill (Load OnDevice c) h = go (u'.device.cells c) refl
    where
      go : (o : Option ℕ) → u'.device.cells c ≡ o →
          (act lengths fill (Load OnDevice c) u' ≡ None) ⊎ BothAct lengths fill (Load OnDevice c)
      go None e = inl (ap (option_map (λ n. (loaded n, u'))) e)
      go (Some v) e = inr (record {
        answer = loaded v;
        after = u;
        after' = u';
        is = ap (option_map (λ n. (loaded n, u))) (cells c h ∙ e);
        is' = ap (option_map (λ n. (loaded n, u'))) e;
        framed = unchanged;
      })
  both_act lengths fill (Store OnHost c n) h = go (is_cell lengths c) refl
    where
      go : (b : Bool) → is_cell lengths c ≡ b →
          (act lengths fill (Store OnHost c n) u' ≡ None) ⊎ BothAct lengths fill (Store OnHost c n)
      go false e = inl (ap (λ b. on_cell b (loaded 0, with_host c n u')) e)
      go true e = inr (record {
        answer = loaded 0;
        after = with_host c n u;
        after' = with_host c n u';
        is = ap (λ b. on_cell b (loaded 0, with_host c n u)) e;
        is' = ap (λ b. on_cell b (loaded 0, with_host c n u')) e;
        framed = host_written c n n refl h;
      })
  both_act lengths fill (Store OnDevice c n) h = go (u'.device.cells c) refl
    where
      go : (o : Option ℕ) → u'.device.cells c ≡ o →
          (act lengths fill (Store OnDevice c n) u' ≡ None) ⊎ BothAct lengths fill (Store OnDevice c n)
      go None e = inl (ap (option_map (λ old. (loaded 0, with_device c n u'))) e)
      go (Some v) e = inr (record {
        answer = loaded 0;
        after = with_device c n u;
        after' = with_device c n u';
        is = ap (option_map (λ old. (loaded 0, with_device c n u))) (cells c (written_touched Dev c h) ∙ e);
        is' = ap (option_map (λ old. (loaded 0, with_device c n u'))) e;
        framed = device_written c n n refl h;
      })
  both_act lengths fill (Combine OnHost op c n) h = go (is_cell lengths c) refl
    where
      go : (b : Bool) → is_cell lengths c ≡ b →
          (act lengths fill (Combine OnHost op c n) u' ≡ None) ⊎ BothAct lengths fill (Combine OnHost op c n)
      go false e = inl (ap (λ b. on_cell b (loaded 0, with_host c (combined op (u'.host c) n) u')) e)
      go true e = inr (record {
        answer = loaded 0;
        after = with_host c (combined op (u.host c) n) u;
        after' = with_host c (combined op (u'.host c) n) u';
        is = ap (λ b. on_cell b (loaded 0, with_host c (combined op (u.host c) n) u)) e;
        is' = ap (λ b. on_cell b (loaded 0, with_host c (combined op (u'.host c) n) u')) e;
        framed =
            host_written c (combined op (u.host c) n) (combined op (u'.host c) n)
            (ap (λ v. combined op v n) (hosts c (written_touched Host c h))) h;
      })
  both_act lengths fill (Combine OnDevice op c n) h = go (u'.device.cells c) refl
    where
      go : (o : Option ℕ) → u'.device.cells c ≡ o →
          (act lengths fill (Combine OnDevice op c n) u' ≡ None) ⊎ BothAct lengths fill (Combine OnDevice op c n)
      go None e = inl (ap (option_map (λ old. (loaded 0, with_device c (combined op old n) u'))) e)
      go (Some v) e = inr (record {
        answer = loaded 0;
        after = with_device c (combined op v n) u;
        after' = with_device c (combined op v n) u';
        is =
            ap (option_map (λ old. (loaded 0, with_device c (combined op old n) u)))
            (cells c (written_touched Dev c h) ∙ e);
        is' = ap (option_map (λ old. (loaded 0, with_device c (combined op old n) u'))) e;
        framed = device_written c (combined op v n) (combined op v n) refl h;
      })
  both_act lengths fill (CopyIn c) h = go (u'.device.cells c) refl
    where
      go : (o : Option ℕ) → u'.device.cells c ≡ o →
          (act lengths fill (CopyIn c) u' ≡ None) ⊎ BothAct lengths fill (CopyIn c)
      go None e = inl (ap (option_map (λ old. (loaded 0, with_device c (u'.host c) u'))) e)
      go (Some v) e = inr (record {
        answer = loaded 0;
        after = with_device c (u.host c) u;
        after' = with_device c (u'.host c) u';
        is = ap (option_map (λ old. (loaded 0, with_device c (u.host c) u))) (cells c (written_touched Dev c h.1) ∙ e);
        is' = ap (option_map (λ old. (loaded 0, with_device c (u'.host c) u'))) e;
        framed = device_written c (u.host c) (u'.host c) (hosts c h.0) h.1;
      })
  both_act lengths fill (CopyOut c) h = go (u'.device.cells c) refl
    where
      go : (o : Option ℕ) → u'.device.cells c ≡ o →
          (act lengths fill (CopyOut c) u' ≡ None) ⊎ BothAct lengths fill (CopyOut c)
      go None e = inl (ap (option_map (λ n. (loaded 0, with_host c n u'))) e)
      go (Some v) e = inr (record {
        answer = loaded 0;
        after = with_host c v u;
        after' = with_host c v u';
        is = ap (option_map (λ n. (loaded 0, with_host c n u))) (cells c h.0 ∙ e);
        is' = ap (option_map (λ n. (loaded 0, with_host c n u'))) e;
        framed = host_written c v v refl h.1;
      })
  both_act lengths fill (Enter item) h = absurd h
  both_act lengths fill (Leave item) h = absurd h
  both_act lengths fill (Remove section) h = absurd h
