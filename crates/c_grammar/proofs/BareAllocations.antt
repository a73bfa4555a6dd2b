-- Arrays are allocated alike where the directive lines are left away.
use Rattle.std.proofs.Common.{◌≡◌, Bool, true, false, cond, [], ◌∷◌, ◌++◌, length, Option, Some, None, refl, sym, ap, ◌∙◌}
use Rattle.std.proofs.lemmas.List.{append-nil}
use Rattle.std.specs.Prelude.{◌&&◌, not, nat_lt, reverse}
use Rattle.c_tokens.specs.declared.kind.Sign.TheVariants as sign
use Rattle.c_grammar.specs.Terminal.{Terminal, Mark}
use Rattle.c_grammar.specs.Texts.{Item}
use Rattle.c_grammar.specs.Blocks.{Items, at, is_directive, bare}
use Rattle.c_grammar.specs.Constants.{is_mark}
use Rattle.c_grammar.specs.Allocations.{Allocation, Reading, nothing_read, declaration, passed, kept, entered, opened, closed, allotted, max_arrays, given_up, is_allowed, is_named, is_freed, by_allocation, allocation, begins_main, at_statement, taken, all_read, joined, guarded_reading, allocated}
use Rattle.c_grammar.specs.Presence.{guarded}
use Rattle.c_grammar.proofs.BarePresence.{guarded_bare}
use Rattle.c_grammar.proofs.BareTokens.{IsPlain, same_bare, bare_both}

pub one_more : (is : Items) (i : Item Terminal) → IsPlain i → bare is ++ i ∷ [] ≡ bare (is ++ i ∷ [])
one_more is i h = sym (bare_both is (i ∷ []) ∙ rw h refl)

pub one_less : (is : Items) (i : Item Terminal) → is_directive i.terminal ≡ true → bare (is ++ i ∷ []) ≡ bare is
one_less is i h = bare_both is (i ∷ []) ∙ rw h (append-nil (bare is))

-- what has been read, without directive lines
abbrev pub bare_reading : Reading → Reading
bare_reading r = record r { before = bare r.before; arrays = bare r.arrays; done = bare r.done }

abbrev pub IsBare : Reading → Reading → Type 0
IsBare q r = q ≡ bare_reading r

pub either : (b : Bool) (x y x' y' : Reading) → IsBare x' x → IsBare y' y → IsBare (cond b x' y') (cond b x y)
either true x y x' y' h k = h
either false x y x' y' h k = k

pub kept_bare : (i : Item Terminal) (r : Reading) → IsPlain i → IsBare (kept i (bare_reading r)) (kept i r)
kept_bare i r h = ap (λ (d : Items). record (bare_reading (kept i r)) { done = d }) (one_more r.done i h)

pub opened_bare : (i : Item Terminal) (r : Reading) → IsBare (opened i (bare_reading r)) (opened i r)
opened_bare i r =
    ap (λ (d : Items). record (bare_reading (opened i r)) { done = d }) (one_more r.done (at i (Mark sign.OpenBrace)) refl)

pub closed_bare : (i : Item Terminal) (r : Reading) → IsBare (closed i (bare_reading r)) (closed i r)
closed_bare i r =
    ap (λ (d : Items). record (bare_reading (closed i r)) { done = d }) (one_more r.done (at i (Mark sign.CloseBrace)) refl)

pub entered_bare : (i : Item Terminal) (r : Reading) → IsPlain i → IsBare (entered i (bare_reading r)) (entered i r)
entered_bare i r h =
    ap (λ (d : Items). record (entered i (bare_reading r)) { done = d }) (one_more [] i h)
    ∙ ap (λ (d : Items). record (bare_reading (entered i r)) { before = d }) (sym (bare_both r.before r.done))

allotted_bare : (i : Item Terminal) (a : Allocation) (r : Reading) → IsBare (allotted i a (bare_reading r)) (allotted i a r)
allotted_bare i a r =
    ap (λ (d : Items). record (allotted i a (bare_reading r)) { arrays = d }) (sym (bare_both r.arrays (declaration i a)))
    ∙ opened_bare i (record r { arrays = r.arrays ++ declaration i a; names = a.name ∷ r.names })

allowed_bare : (a : Allocation) (r : Reading) → is_allowed a (bare_reading r) ≡ is_allowed a r
allowed_bare a r = ap (λ (is : Items). nat_lt (length r.names) max_arrays && not (is_named a.name is)) (same_bare r.done)

statement_bare : (i : Item Terminal) (is : Items) (o : Option Allocation) (r : Reading) → IsPlain i
    → IsBare (by_allocation i is o (bare_reading r)) (by_allocation i is o r)
statement_bare i is (Some a) r h =
    ap (λ (b : Bool). cond b (allotted i a (bare_reading r)) (given_up i (bare_reading r))) (allowed_bare a r)
    ∙ either (is_allowed a r) (allotted i a r) (given_up i r) _ _ (allotted_bare i a r) (kept_bare i (record r { inside = false }) h)
statement_bare i is None r h =
    either (is_freed r.names i is) (opened i r) (kept i r) _ _ (opened_bare i r) (kept_bare i r h)

taken_bare : (i : Item Terminal) (is : Items) (r : Reading) → IsPlain i → IsBare (taken i is (bare_reading r)) (taken i is r)
taken_bare i is r h =
    either r.out _ _ _ _ (either (is_mark sign.Semicolon i) (closed i r) r _ _ (closed_bare i r) refl)
    (either (at_statement r) _ _ _ _ (statement_bare i is (allocation i is) r h)
    (either (not r.inside && begins_main i is) (entered i r) (kept i r) _ _ (entered_bare i r h) (kept_bare i r h)))

read_bare : (is : Items) (r : Reading) → IsBare (all_read (bare_reading r) (bare is)) (all_read r is)
unfolding all_read
read_bare [] r = refl
read_bare (i ∷ is) r = step (read_bare is) (is_directive i.terminal) refl
  where
    step : ((r : Reading) → IsBare (all_read (bare_reading r) (bare is)) (all_read r is)) → (b : Bool)
        → is_directive i.terminal ≡ b
        → IsBare (all_read (bare_reading r) (cond b (bare is) (i ∷ bare is)))
        (all_read (cond b (passed i r) (taken i (bare is) r)) is)
    step ih true e =
        ap (λ (d : Items). all_read (record (bare_reading r) { done = d }) (bare is)) (sym (one_less r.done i e))
        ∙ ih (passed i r)
    step ih false e =
        ap (λ (b : Bool). all_read (cond b (passed i (bare_reading r)) (taken i (bare (bare is)) (bare_reading r))) (bare is)) e
        ∙ ap (λ (js : Items). all_read (taken i js (bare_reading r)) (bare is)) (same_bare is)
        ∙ ap (λ (q : Reading). all_read q (bare is)) (taken_bare i (bare is) r e) ∙ ih (taken i (bare is) r)

pub joined_bare : (r : Reading) → joined (bare_reading r) ≡ bare (joined r)
joined_bare r =
    ap (λ (js : Items). bare r.before ++ js) (sym (bare_both r.arrays r.done))
    ∙ sym (bare_both r.before (r.arrays ++ r.done))

pub allocated_bare : (is : Items) → allocated (bare is) ≡ bare (allocated is)
allocated_bare is =
    let r : Reading = all_read nothing_read is in
    ap guarded_reading (read_bare is nothing_read)
    ∙ ap (guarded (reverse r.names)) (joined_bare r)
    ∙ guarded_bare (reverse r.names) (joined r)
