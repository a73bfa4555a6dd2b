-- Statements are written in full without a look at the lines of the tokens.
use Rattle.std.proofs.Common.{◌≡◌, ℕ, Bool, true, false, cond, [], ◌∷◌, ◌++◌, Option, Some, None, refl, ap, ◌∙◌}
use Rattle.std.specs.Prelude.{◌&&◌, codes, nat_lt}
use Rattle.c_tokens.specs.declared.kind.Sign.{Sign}
use Rattle.c_tokens.specs.declared.kind.Sign.TheVariants as sign
use Rattle.c_grammar.specs.Lexeme.{For, Int, Void}
use Rattle.c_grammar.specs.Terminal.{Terminal, Fixed, Mark, Name, same}
use Rattle.c_grammar.specs.Texts.{Item}
use Rattle.c_grammar.specs.Blocks.{Items, at}
use Rattle.c_grammar.specs.Changes.{is_mark, Kind, With, ByNumber, ByOne, kind_of, is_target_ended, reversed, is_target, Outside, InHead, Grouped, Behind, State, Onward, is_boundary, in_state, kept, first_of, is_number_ended, is_ended, assigned, grouped, one_at, changed, at_front, by_target, is_empty, by_kind, is_main, is_last_return, has_words, words_len, outside}
use Rattle.same_text.specs.Laws.{unlined}
use Rattle.same_text.proofs.Unlined.{all_unlined, AreUnlined, either, one, some}
use Rattle.same_text.proofs.UnlinedTargets.{target_ended_same, reversed_same, target_same, first_same, number_ended_same, ended_same, empty_same, main_same, return_same, words_same}

abbrev pub state_unlined : State → State
state_unlined s = record { place = s.place; since = all_unlined s.since }

abbrev pub GoesSame : Onward → Onward → Type 0
GoesSame go' go = (s : State) (k : ℕ) → AreUnlined (go' (state_unlined s) k) (go s k)

module _ (go go' : Onward) (r : GoesSame go' go) where
  pub kept_same : (i : Item Terminal) (s : State) → AreUnlined (kept (unlined i) (state_unlined s) go') (kept i s go)
  kept_same i s = one i _ _ (step (is_boundary i.terminal))
    where
      step : (b : Bool) →
          AreUnlined (go' (in_state s.place (cond b [] (unlined i ∷ all_unlined s.since))) 0)
          (go (in_state s.place (cond b [] (i ∷ s.since))) 0)
      step true = r (in_state s.place []) 0
      step false = r (in_state s.place (i ∷ s.since)) 0

  pub assigned_same : (i : Item Terminal) (lv : Items) (op : Sign) (x x' : Items) → AreUnlined x' x →
      AreUnlined (assigned (unlined i) (all_unlined lv) op ++ x') (assigned i lv op ++ x)
  assigned_same i lv op x x' e =
      some (assigned i lv op) (assigned (unlined i) (all_unlined lv) op) x x'
      (one (at i (Mark sign.Equal)) _ _ (some lv (all_unlined lv) (at i (Mark op) ∷ []) (at (unlined i) (Mark op) ∷ []) refl refl)) e

  pub grouped_same : (i : Item Terminal) (lv : Items) (op : Sign) (is : Items) →
      AreUnlined (grouped (unlined i) (all_unlined lv) op (all_unlined is) go') (grouped i lv op is go)
  grouped_same i lv op is =
      assigned_same i lv op _ _
      (ap (λ (j : Item Terminal). at j (Mark sign.OpenParen) ∷ go' (in_state (Grouped 0) []) 0) (first_same is i)
      ∙ one (at (first_of is i) (Mark sign.OpenParen)) _ _ (r (in_state (Grouped 0) []) 0))

  pub changed_same : (i : Item Terminal) (lv : Items) (k : Kind) (is : Items) (s : State) →
      AreUnlined (changed (unlined i) (all_unlined lv) k (all_unlined is) (state_unlined s) go') (changed i lv k is s go)
  changed_same i lv (With op) is s = grouped_same i lv op is
  changed_same i lv (ByNumber op) is s =
      either (is_number_ended is) (is_number_ended (all_unlined is)) _ _ _ _ (number_ended_same is)
      (assigned_same i lv op _ _ (r (in_state Outside []) 0)) (grouped_same i lv op is)
  changed_same i lv (ByOne op) is s =
      either (is_ended is) (is_ended (all_unlined is)) _ _ _ _ (ended_same is)
      (assigned_same i lv op _ _ (one (one_at i) _ _ (r (in_state Outside []) 0))) (kept_same i s)

  pub front_same : (i : Item Terminal) (k : Kind) (is : Items) (s : State) →
      AreUnlined (at_front (unlined i) k (all_unlined is) (state_unlined s) go') (at_front i k is s go)
  front_same i (ByOne op) is s =
      either (is_target_ended is) (is_target_ended (all_unlined is)) _ _ _ _ (target_ended_same is)
      (r (in_state (Behind op) []) 0) (kept_same i s)
  front_same i (With op) is s = kept_same i s
  front_same i (ByNumber op) is s = kept_same i s

  pub by_target_same : (i : Item Terminal) (k : Kind) (is : Items) (s : State) (lv lv' : Items) → lv' ≡ all_unlined lv →
      AreUnlined (by_target (unlined i) k (all_unlined is) (state_unlined s) (cond (is_target lv') (Some lv') None) go')
      (by_target i k is s (cond (is_target lv) (Some lv) None) go)
  by_target_same i k is s lv lv' e =
      ap
      (λ (v : Items). by_target (unlined i) k (all_unlined is) (state_unlined s) (cond (is_target v) (Some v) None) go') e
      ∙ ap
      (λ (b : Bool). by_target (unlined i) k (all_unlined is) (state_unlined s) (cond b (Some (all_unlined lv)) None) go')
      (target_same lv)
      ∙ step (is_target lv)
    where
      step : (b : Bool) →
          AreUnlined (by_target (unlined i) k (all_unlined is) (state_unlined s) (cond b (Some (all_unlined lv)) None) go')
          (by_target i k is s (cond b (Some lv) None) go)
      step true = changed_same i lv k is s
      step false = kept_same i s

  pub kind_same : (i : Item Terminal) (o : Option Kind) (is : Items) (s : State) →
      AreUnlined (by_kind (unlined i) o (all_unlined is) (state_unlined s) go') (by_kind i o is s go)
  kind_same i None is s = kept_same i s
  kind_same i (Some k) is s =
      either (is_empty s.since) (is_empty (all_unlined s.since)) _ _ _ _ (empty_same s.since) (front_same i k is s)
      (by_target_same i k is s (reversed s.since []) (reversed (all_unlined s.since) []) (reversed_same s.since []))

  pub outside_same : (i : Item Terminal) (is : Items) (s : State) →
      AreUnlined (outside (unlined i) (all_unlined is) (state_unlined s) go') (outside i is s go)
  outside_same i is s =
      either (same (Fixed For) i.terminal) _ _ _ _ _ refl (one i _ _ (r (in_state (InHead 0) []) 0))
      (either (has_words i is s) _ _ _ _ _
      (ap (λ (b : Bool). same (Fixed Int) i.terminal && b && nat_lt 0 (words_len (all_unlined is))) (main_same s.since)
      ∙ ap (λ (k : ℕ). same (Fixed Int) i.terminal && is_main s.since && nat_lt 0 k) (words_same is))
      (one (at i (Fixed Void)) (go (in_state Outside (i ∷ s.since)) (words_len is)) _
      (ap (λ (k : ℕ). go' (in_state Outside (unlined i ∷ all_unlined s.since)) k) (words_same is)
      ∙ r (in_state Outside (i ∷ s.since)) (words_len is)))
      (either (is_mark sign.CloseParen i && is_main s.since) _ _ _ _ _
      (ap (λ (b : Bool). is_mark sign.CloseParen i && b) (main_same s.since))
      (one (at i (Fixed Void)) (kept i s go) _ (kept_same i s))
      (either (same (Name (codes "return")) i.terminal && is_empty s.since && is_last_return is) _ _ _ _ _
      (ap (λ (b : Bool). same (Name (codes "return")) i.terminal && b && is_last_return (all_unlined is)) (empty_same s.since)
      ∙ ap (λ (b : Bool). same (Name (codes "return")) i.terminal && is_empty s.since && b) (return_same is))
      (r s 2) (kind_same i (kind_of i.terminal) is s))))
