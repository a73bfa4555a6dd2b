-- A token that is kept, or left out.
use Rattle.std.proofs.Common.{◌≡◌, ◌∙◌, ℕ, Bool, true, false, [], ◌∷◌, ◌++◌, None, Some, append_assoc, ap, refl, sym}
use Rattle.std.specs.Prelude.{Result, Ok, Err, OnOk}
use Rattle.c_grammar.specs.Terminal.{Terminal}
use Rattle.c_grammar.specs.Texts.{Item}
use Rattle.c_grammar.specs.Blocks.{Items, bare, is_directive}
use Rattle.c_grammar.specs.Needless.{State, behind, emptied, is_outside, left_out, needed_in}

-- behind others, where none is left out
pub kept : (ds es : Items) (s t : State) (k n : ℕ) (i : Item Terminal) (is : Items) → is_directive i.terminal ≡ false → k ≡ 0 →
    n ≡ k → left_out s i (bare is) ≡ None → es ≡ ds ++ i ∷ [] → t ≡ behind s i →
    ds ++ needed_in s k (i ∷ is) ≡ es ++ needed_in t n is
kept ds es s t k n i is d e f h g r =
    rw g (rw r (rw f (rw e (rw d (rw h (sym (append_assoc ds (i ∷ []) (needed_in (behind s i) 0 is))))))))

emptied_behind : (b : Bool) (i : Item Terminal) (is : Items) → emptied b i [] ++ is ≡ emptied b i is
emptied_behind true i is = refl
emptied_behind false i is = refl

-- n tokens are left out with it
pub left_with : (ds es : Items) (s t : State) (k n m : ℕ) (i : Item Terminal) (is : Items) → is_directive i.terminal ≡ false → k ≡ 0 →
    m ≡ n → left_out s i (bare is) ≡ Some n → es ≡ ds ++ emptied (is_outside s.braces) i [] → t ≡ s →
    ds ++ needed_in s k (i ∷ is) ≡ es ++ needed_in t m is
left_with ds es s t k n m i is d e f h g r =
    rw g (rw r (rw f (rw e (rw d (rw h
    (sym (append_assoc ds (emptied (is_outside s.braces) i []) (needed_in s n is)
    ∙ ap (λ (js : Items). ds ++ js) (emptied_behind (is_outside s.braces) i (needed_in s n is)))))))))

-- what holds where there is an answer
pub where_answered : {X E : Type 0} (r : Result X E) (P Q : Type 0) → OnOk r P → (P → Q) → OnOk r Q
where_answered (Ok x) P Q h f = f h
where_answered (Err e) P Q h f = tt
