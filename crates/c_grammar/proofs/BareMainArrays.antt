-- Arrays that main declares are put before it alike where the directive lines are left away.
use Rattle.std.proofs.Common.{◌≡◌, Bool, true, false, cond, List, [], ◌∷◌, length, Option, Some, None, refl, sym, ap, ◌∙◌}
use Rattle.std.specs.Prelude.{ℕ, ◌&&◌, not, nat_lt}
use Rattle.c_tokens.specs.declared.kind.Sign.TheVariants as sign
use Rattle.c_grammar.specs.Terminal.{Terminal}
use Rattle.c_grammar.specs.Texts.{Item}
use Rattle.c_grammar.specs.Blocks.{Items, is_directive, bare}
use Rattle.c_grammar.specs.Constants.{is_mark}
use Rattle.c_grammar.specs.Allocations.{Reading, at_statement, begins_main, closed, entered, is_named, joined, kept, max_arrays, nothing_read, opened, passed}
use Rattle.c_grammar.specs.MainArrays.{all_lifted, array_in, begun, by_array, closes, declared_on, is_lifted, is_static, lifted, lifted_with, looked, taken}
use Rattle.c_grammar.proofs.BareAllocations.{IsBare, bare_reading, closed_bare, either, entered_bare, joined_bare, kept_bare, one_less, one_more, opened_bare}
use Rattle.c_grammar.proofs.BareTokens.{IsPlain, same_bare}

more_bare : (i : Item Terminal) (r : Reading) → IsPlain i → IsBare (lifted_with i (bare_reading r)) (lifted_with i r)
more_bare i r h = ap (λ (a : Items). record (bare_reading r) { arrays = a }) (one_more r.arrays i h)

on_bare : (i : Item Terminal) (is : Items) (r : Reading) → IsPlain i
    → IsBare (declared_on i is (bare_reading r)) (declared_on i is r)
on_bare i is r h =
    either (is_mark sign.Semicolon i) _ _ _ _ (ap (closed i) (more_bare i r h) ∙ closed_bare i (lifted_with i r))
    (either (is_mark sign.Comma i && closes is) r (lifted_with i r) _ _ refl (more_bare i r h))

begun_bare : (i : Item Terminal) (r : Reading) → IsPlain i → IsBare (begun i (bare_reading r)) (begun i r)
begun_bare i r h =
    ap (opened i) (either (is_static i) r (lifted_with i r) _ _ refl (more_bare i r h))
    ∙ opened_bare i (cond (is_static i) r (lifted_with i r))

lifted_alike : (x : List ℕ) (r : Reading) → is_lifted x (bare_reading r) ≡ is_lifted x r
lifted_alike x r = ap (λ (is : Items). nat_lt (length r.names) max_arrays && not (is_named x is)) (same_bare r.done)

array_bare : (i : Item Terminal) (o : Option (List ℕ)) (r : Reading) → IsPlain i
    → IsBare (by_array i o (bare_reading r)) (by_array i o r)
array_bare i None r h = kept_bare i r h
array_bare i (Some x) r h =
    ap (λ (b : Bool). cond b (begun i (looked x (bare_reading r))) (kept i (looked x (bare_reading r)))) (lifted_alike x r)
    ∙ either (is_lifted x r) (begun i (looked x r)) (kept i (looked x r)) _ _ (begun_bare i (looked x r) h)
    (kept_bare i (looked x r) h)

taken_bare : (i : Item Terminal) (is : Items) (r : Reading) → IsPlain i → IsBare (taken i is (bare_reading r)) (taken i is r)
taken_bare i is r h =
    either r.out _ _ _ _ (on_bare i is r h)
    (either (at_statement r) _ _ _ _ (array_bare i (array_in i is) r h)
    (either (not r.inside && begins_main i is) (entered i r) (kept i r) _ _ (entered_bare i r h) (kept_bare i r h)))

all_bare : (is : Items) (r : Reading) → IsBare (all_lifted (bare_reading r) (bare is)) (all_lifted r is)
all_bare [] r = refl
all_bare (i ∷ is) r = step (all_bare is) (is_directive i.terminal) refl
  where
    step : ((r : Reading) → IsBare (all_lifted (bare_reading r) (bare is)) (all_lifted r is)) → (b : Bool)
        → is_directive i.terminal ≡ b
        → IsBare (all_lifted (bare_reading r) (cond b (bare is) (i ∷ bare is)))
        (all_lifted (cond b (passed i r) (taken i (bare is) r)) is)
    step ih true e =
        ap (λ (d : Items). all_lifted (record (bare_reading r) { done = d }) (bare is)) (sym (one_less r.done i e))
        ∙ ih (passed i r)
    step ih false e =
        ap (λ (b : Bool). all_lifted (cond b (passed i (bare_reading r)) (taken i (bare (bare is)) (bare_reading r))) (bare is)) e
        ∙ ap (λ (js : Items). all_lifted (taken i js (bare_reading r)) (bare is)) (same_bare is)
        ∙ ap (λ (q : Reading). all_lifted q (bare is)) (taken_bare i (bare is) r e) ∙ ih (taken i (bare is) r)

pub lifted_bare : (is : Items) → lifted (bare is) ≡ bare (lifted is)
lifted_bare is = ap joined (all_bare is nothing_read) ∙ joined_bare (all_lifted nothing_read is)
