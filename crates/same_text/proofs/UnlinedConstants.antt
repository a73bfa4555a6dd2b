-- Constants are worked out without a look at the lines of the tokens.
use Rattle.std.proofs.Common.{◌≡◌, ℕ, zero, suc, ◌-◌, Bool, true, false, cond, List, [], ◌∷◌, Option, Some, None, refl, ap, ◌∙◌}
use Rattle.c_grammar.specs.Lexeme.{Placed}
use Rattle.c_grammar.specs.Lines.{is_omp}
use Rattle.c_grammar.specs.Terminal.{Terminal, Fixed, Mark, Name, Num, Line, Unknown, Unworked, End}
use Rattle.c_grammar.specs.Texts.{Item}
use Rattle.c_grammar.specs.Blocks.{is_directive, bare}
use Rattle.c_grammar.specs.Expressions.{Items, Values, Worked, Number, Fault, placed_of}
use Rattle.c_grammar.specs.Constants.{line_tokens, with_terminal, with_tokens, put_item, goes_on, Definition, Defines, Misdefines, definition, at_wanted, wanted, Onward, expressed, read_on, work_on, worked}
use Rattle.same_text.specs.Laws.{unlined}
use Rattle.same_text.proofs.Unlined.{all_unlined, AreUnlined, one, bare_unlined}
use Rattle.same_text.proofs.UnlinedExpressions.{found_unlined, wanted_same}
use Rattle.same_text.proofs.UnlinedDefinitions.{defined_unlined, definition_same}

put_same : (vs : Values) (past : List Terminal) (i : Item Terminal) (t : Terminal) →
    put_item vs past (unlined i) t ≡ unlined (put_item vs past i t)
put_same vs past i (Line ts) = step (is_omp ts)
  where
    ps : List Placed
    ps = line_tokens vs past (placed_of ts i.columns)

    step : (b : Bool) → cond b (with_tokens (unlined i) ts ps) (unlined i) ≡ unlined (cond b (with_tokens i ts ps) i)
    step true = refl
    step false = refl
put_same vs past i (Fixed w) = refl
put_same vs past i (Mark s) = refl
put_same vs past i (Name x) = refl
put_same vs past i (Num n) = refl
put_same vs past i Unknown = refl
put_same vs past i Unworked = refl
put_same vs past i End = refl

abbrev AreSame : Onward → Onward → Type 0
AreSame go' go = (vs : Values) (past : List Terminal) (k : ℕ) → AreUnlined (go' vs past k) (go vs past k)

goes_same : (vs : Values) (past : List Terminal) (i j : Item Terminal) (k : ℕ) (go go' : Onward) → j ≡ unlined i →
    AreSame go' go → AreUnlined (goes_on vs past j k go') (goes_on vs past i k go)
goes_same vs past i j k go go' e r =
    ap (λ (x : Item Terminal). goes_on vs past x k go') e ∙ one i _ _ (r _ _ k)

expressed_same : (vs : Values) (past : List Terminal) (i : Item Terminal) (o : Option Worked) (go go' : Onward) →
    AreSame go' go → AreUnlined (expressed vs past (unlined i) (found_unlined o) go') (expressed vs past i o go)
expressed_same vs past i None go go' r =
    goes_same vs past (put_item vs past i i.terminal) _ 0 go go' (put_same vs past i i.terminal) r
expressed_same vs past i (Some (Number k n)) go go' r =
    goes_same vs past (with_terminal i (Num (Some n))) _ (k - 1) go go' refl r
expressed_same vs past i (Some (Fault k p)) go go' r =
    goes_same vs past (with_terminal p Unworked) _ (k - 1) go go' refl r

read_same : (vs : Values) (past : List Terminal) (i : Item Terminal) (is : Items) (o : Option Definition)
    (go go' : Onward) → AreSame go' go →
    AreUnlined (read_on vs past (unlined i) (all_unlined is) (defined_unlined o) go') (read_on vs past i is o go)
read_same vs past i is (Some (Defines x n)) go go' r = r ((x, n) ∷ vs) past 0
read_same vs past i is (Some (Misdefines p)) go go' r =
    goes_same vs past (with_terminal p Unworked) _ 0 go go' refl r
read_same vs past i is None go go' r =
    ap (λ (o : Option Worked). expressed vs past (unlined i) o go') (wanted_same vs (i ∷ is) (wanted past))
    ∙ expressed_same vs past i (at_wanted vs (i ∷ is) (wanted past)) go go' r

work_same : (k : ℕ) (vs : Values) (past : List Terminal) (i : Item Terminal) (is : Items) (go go' : Onward) →
    AreSame go' go → AreUnlined (work_on k vs past (unlined i) (all_unlined is) go') (work_on k vs past i is go)
work_same zero vs past i is go go' r =
    ap (λ (o : Option Definition). read_on vs past (unlined i) (all_unlined is) o go') (definition_same vs i i.terminal)
    ∙ read_same vs past i is (definition vs i i.terminal) go go' r
work_same (suc k) vs past i is go go' r = r vs past k

pub worked_unlined : (is : Items) (vs : Values) (past : List Terminal) (k : ℕ) →
    AreUnlined (worked vs past k (all_unlined is)) (worked vs past k is)
unfolding worked
worked_unlined [] vs past k = refl
worked_unlined (i ∷ is) vs past k = step (is_directive i.terminal) (λ vs past k. worked_unlined is vs past k)
  where
    step : (b : Bool) → AreSame (λ vs past k. worked vs past k (all_unlined is)) (λ vs past k. worked vs past k is) →
        AreUnlined
        (cond b (put_item vs past (unlined i) i.terminal ∷ worked vs past k (all_unlined is))
        (work_on k vs past (unlined i) (bare (all_unlined is)) (λ vs past k. worked vs past k (all_unlined is))))
        (cond b (put_item vs past i i.terminal ∷ worked vs past k is)
        (work_on k vs past i (bare is) (λ vs past k. worked vs past k is)))
    step true ih =
        ap (λ (j : Item Terminal). j ∷ worked vs past k (all_unlined is)) (put_same vs past i i.terminal)
        ∙ one (put_item vs past i i.terminal) (worked vs past k is) (worked vs past k (all_unlined is)) (ih vs past k)
    step false ih =
        ap (λ (js : Items). work_on k vs past (unlined i) js (λ vs past k. worked vs past k (all_unlined is)))
        (bare_unlined is)
        ∙ work_same k vs past i (bare is) (λ vs past k. worked vs past k is)
        (λ vs past k. worked vs past k (all_unlined is)) ih
