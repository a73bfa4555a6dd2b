-- Changes are written in full without a look at the lines of the tokens.
use Rattle.std.proofs.Common.{ℕ, zero, suc, ◌+◌, ◌-◌, Bool, true, false, cond, [], ◌∷◌, ◌++◌, Option, Some, None, refl, ap, ◌∙◌}
use Rattle.std.specs.Prelude.{◌&&◌, nat_lt, nat_le}
use Rattle.c_tokens.specs.declared.kind.Sign.{Sign}
use Rattle.c_tokens.specs.declared.kind.Sign.TheVariants as sign
use Rattle.c_grammar.specs.Terminal.{Terminal, Mark}
use Rattle.c_grammar.specs.Texts.{Item}
use Rattle.c_grammar.specs.Blocks.{Items, at, is_directive, bare}
use Rattle.c_grammar.specs.Changes.{is_mark, reversed, Where, Outside, InHead, Grouped, Behind, State, begin, Onward, is_boundary, in_state, first_of, assigned, one_at, closes_head, is_name_closed, limit_behind, limit_token, limited, in_head, close_at, in_group, behind_front, token, token_on, in_full}
use Rattle.same_text.specs.Laws.{unlined}
use Rattle.same_text.proofs.Unlined.{all_unlined, AreUnlined, either, one, bare_unlined}
use Rattle.same_text.proofs.UnlinedTargets.{reversed_same, first_same, head_closed_same, name_closed_same, limit_same}
use Rattle.same_text.proofs.UnlinedStatements.{state_unlined, GoesSame, kept_same, assigned_same, outside_same}

module _ (go go' : Onward) (r : GoesSame go' go) where
  -- ---- heads of loops

  limited_same : (i : Item Terminal) (is : Items) (n : ℕ) (s : State) (o : Option (Option ℕ)) →
      AreUnlined (limited (unlined i) (all_unlined is) n (state_unlined s) o go') (limited i is n s o go)
  limited_same i is n s None = kept_same go go' r i s
  limited_same i is n s (Some o) =
      ap
      (λ (j : Item Terminal). at (unlined i) (Mark sign.Less) ∷ at j (limit_token o) ∷ go' (in_state (InHead n) []) 1)
      (first_same is i)
      ∙ one (at i (Mark sign.Less)) (at (first_of is i) (limit_token o) ∷ go (in_state (InHead n) []) 1) _
      (one (at (first_of is i) (limit_token o)) _ _ (r (in_state (InHead n) []) 1))

  head_same : (n : ℕ) (i : Item Terminal) (is : Items) (s : State) →
      AreUnlined (in_head n (unlined i) (all_unlined is) (state_unlined s) go') (in_head n i is s go)
  head_same n i is s =
      either (is_mark sign.OpenParen i) _ _ _ _ _ refl (kept_same go go' r i (in_state (InHead (n + 1)) []))
      (either (is_mark sign.CloseParen i) _ _ _ _ _ refl
      (one i _ _ (r (in_state (cond (nat_le n 1) Outside (InHead (n - 1))) []) 0))
      (either (is_mark sign.LessEqual i) _ _ _ _ _ refl
      (ap (λ (o : Option (Option ℕ)). limited (unlined i) (all_unlined is) n (state_unlined s) o go') (limit_same is)
      ∙ limited_same i is n s (limit_behind is))
      (either (is_mark sign.PlusPlus i && closes_head is) _ _ _ _ _
      (ap (λ (b : Bool). is_mark sign.PlusPlus i && b) (head_closed_same is))
      (one (at i (Mark sign.PlusEqual)) (one_at i ∷ go s 0) _ (one (one_at i) (go s 0) _ (r s 0)))
      (either (is_mark sign.PlusPlus i && is_name_closed is) _ _ _ _ _
      (ap (λ (b : Bool). is_mark sign.PlusPlus i && b) (name_closed_same is))
      (ap
      (λ (j : Item Terminal). j ∷ at (unlined i) (Mark sign.PlusEqual) ∷ one_at (unlined i) ∷ go' (state_unlined s) 1)
      (first_same is i)
      ∙ one (first_of is i) (at i (Mark sign.PlusEqual) ∷ one_at i ∷ go s 1) _
      (one (at i (Mark sign.PlusEqual)) (one_at i ∷ go s 1) _ (one (one_at i) (go s 1) _ (r s 1))))
      (kept_same go go' r i s)))))

  -- ---- right sides in brackets

  group_same : (n : ℕ) (i : Item Terminal) (s : State) →
      AreUnlined (in_group n (unlined i) (state_unlined s) go') (in_group n i s go)
  group_same n i s =
      either (is_mark sign.OpenParen i) _ _ _ _ _ refl (one i _ _ (r (in_state (Grouped (n + 1)) []) 0))
      (either (is_mark sign.CloseParen i) _ _ _ _ _ refl
      (either (nat_lt 0 n) _ _ _ _ _ refl (one i _ _ (r (in_state (Grouped (n - 1)) []) 0))
      (one (close_at i) (i ∷ go (in_state Outside []) 0) _ (one i _ _ (r (in_state Outside []) 0))))
      (either (is_mark sign.Semicolon i) _ _ _ _ _ refl (one (close_at i) (i ∷ go begin 0) _ (one i _ _ (r begin 0)))
      (either (is_boundary i.terminal) _ _ _ _ _ refl (one i _ _ (r begin 0)) (one i _ _ (r s 0)))))

  behind_same : (op : Sign) (i : Item Terminal) (s : State) →
      AreUnlined (behind_front op (unlined i) (state_unlined s) go') (behind_front op i s go)
  behind_same op i s =
      either (is_mark sign.Semicolon i) _ _ _ _ _ refl
      (ap (λ (lv : Items). assigned (unlined i) lv op ++ (one_at (unlined i) ∷ unlined i ∷ go' begin 0)) (reversed_same s.since [])
      ∙ assigned_same go go' r i (reversed s.since []) op _ _ (one (one_at i) (i ∷ go begin 0) _ (one i _ _ (r begin 0))))
      (kept_same go go' r i s)

  place_same : (p : Where) (i : Item Terminal) (is : Items) (s : State) →
      AreUnlined (token p (unlined i) (all_unlined is) (state_unlined s) go') (token p i is s go)
  place_same Outside i is s = outside_same go go' r i is s
  place_same (InHead n) i is s = head_same n i is s
  place_same (Grouped n) i is s = group_same n i s
  place_same (Behind op) i is s = behind_same op i s

  token_same : (k : ℕ) (s : State) (i : Item Terminal) (is : Items) →
      AreUnlined (token_on k (state_unlined s) (unlined i) (all_unlined is) go') (token_on k s i is go)
  token_same zero s i is = place_same s.place i is s
  token_same (suc k) s i is = r s k

pub full_unlined : (is : Items) (s : State) (k : ℕ) →
    AreUnlined (in_full (state_unlined s) k (all_unlined is)) (in_full s k is)
unfolding in_full
full_unlined [] s k = refl
full_unlined (i ∷ is) s k = step (is_directive i.terminal) (λ s k. full_unlined is s k)
  where
    step : (b : Bool) → GoesSame (λ s k. in_full s k (all_unlined is)) (λ s k. in_full s k is) →
        AreUnlined
        (cond b (unlined i ∷ in_full (state_unlined s) k (all_unlined is))
        (token_on k (state_unlined s) (unlined i) (bare (all_unlined is)) (λ s k. in_full s k (all_unlined is))))
        (cond b (i ∷ in_full s k is) (token_on k s i (bare is) (λ s k. in_full s k is)))
    step true ih = one i (in_full s k is) (in_full (state_unlined s) k (all_unlined is)) (ih s k)
    step false ih =
        ap (λ (js : Items). token_on k (state_unlined s) (unlined i) js (λ s k. in_full s k (all_unlined is))) (bare_unlined is)
        ∙ token_same (λ s k. in_full s k is) (λ s k. in_full s k (all_unlined is)) ih k s i (bare is)
