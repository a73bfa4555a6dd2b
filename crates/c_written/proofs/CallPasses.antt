-- What is passed to a function, one argument after another.
use Rattle.std.proofs.Common.{◌≡◌, ◌∙◌, ℕ, suc, ◌+◌, ◌<◌, length, get_or, drop, List, [], ◌∷◌, ◌++◌, Option, Some, None, refl, sym, ap, append_assoc}
use Rattle.std.proofs.lemmas.List.{drop_more}
use Rattle.c_grammar.specs.Blocks.{Items}
use Rattle.c_grammar.specs.Constants.{Names}
use Rattle.c_grammar.specs.Functions.{Parameter, Passed, Puts, both, passed, passes}

abbrev pub passed_of : Items → Puts → Option Passed
passed_of is ps = Some (record { before = is; puts = ps })

pub both_more : (a b c : Option Passed) → both a (both b c) ≡ both (both a b) c
both_more None b c = refl
both_more (Some a) None c = refl
both_more (Some a) (Some b) None = refl
both_more (Some a) (Some b) (Some c) =
    ap (λ (is : Items). passed_of is (a.puts ++ (b.puts ++ c.puts))) (sym (append_assoc a.before b.before c.before))
    ∙ ap (λ (ps : Puts). passed_of ((a.before ++ b.before) ++ c.before) ps) (sym (append_assoc a.puts b.puts c.puts))

both_none : (a : Option Passed) → both a None ≡ None
both_none None = refl
both_none (Some a) = refl

-- one more argument
pub passed_more : (g : Names) (ps : List Parameter) (args : List Items) (k : ℕ) (dp : Parameter) (da : Items) → k < length ps → k < length args →
    passed g (drop k ps) (drop k args) ≡ both (passes g (get_or ps k dp) (get_or args k da)) (passed g (drop (k + 1) ps) (drop (k + 1) args))
passed_more g ps args k dp da h i =
    ap (λ (qs : List Parameter). passed g qs (drop k args)) (drop_more ps k dp h)
    ∙ ap (λ (bs : List Items). passed g (get_or ps k dp ∷ drop (k + 1) ps) bs) (drop_more args k da i)

-- all of them so far
pub passed_step : (g : Names) (ps : List Parameter) (args : List Items) (k : ℕ) (dp : Parameter) (da : Items) (old new : Option Passed) →
    k < length ps → k < length args → new ≡ both old (passes g (get_or ps k dp) (get_or args k da)) →
    both new (passed g (drop (k + 1) ps) (drop (k + 1) args)) ≡ both old (passed g (drop k ps) (drop k args))
passed_step g ps args k dp da old new h i e =
    ap (λ (o : Option Passed). both o (passed g (drop (k + 1) ps) (drop (k + 1) args))) e
    ∙ sym (both_more old (passes g (get_or ps k dp) (get_or args k da)) (passed g (drop (k + 1) ps) (drop (k + 1) args)))
    ∙ ap (both old) (sym (passed_more g ps args k dp da h i))

-- one of both is longer
pub passed_unlike : (g : Names) (ps : List Parameter) (args : List Items) → (length ps ≡ length args → ⊥) → passed g ps args ≡ None
passed_unlike g [] [] h = absurd (h refl)
passed_unlike g [] (a ∷ args) h = refl
passed_unlike g (p ∷ ps) [] h = refl
passed_unlike g (p ∷ ps) (a ∷ args) h =
    ap (both (passes g p a)) (passed_unlike g ps args (λ e. h (ap (λ (n : ℕ). suc n) e))) ∙ both_none (passes g p a)
