-- Parameters of a function with the lists of tokens that are passed for them.
use Rattle.std.proofs.Common.{◌≡◌, ◌∙◌, ℕ, ◌+◌, ◌<◌, false, length, get_or, drop, List, [], ◌∷◌, ◌++◌, Option, None, Vec, Global, refl, sym, ap, arith}
use Rattle.std.specs.Borrow.{Bor}
use Rattle.std.specs.Prelude.{◌==◌}
use Rattle.std.proofs.lemmas.List.{append-nil, get_or-map, length-map, map-append}
use Rattle.c_grammar.specs.Blocks.{Items}
use Rattle.c_grammar.specs.Constants.{Names}
use Rattle.c_grammar.specs.Functions.{Parameter, Passed, Puts, both, passed, passed_to, passes, stands_for}
use Rattle.c_written.specs.declared.calls.Parameter.{Parameter as Given}
use Rattle.c_terminals.specs.declared.held.Written.{Written}
use Rattle.c_written.specs.declared.puts.Put.{Put}
use Rattle.c_terminals.specs.declared.token.Token.{Token}
use Rattle.c_written.specs.Functions.{all_parameters, seen_parameter, seen_put}
use Rattle.c_terminals.specs.Held.{written_all}
use Rattle.c_terminals.specs.Seen.{seen_all}
use Rattle.c_written.proofs.CallLists.{lists_of}
use Rattle.c_written.proofs.CallPasses.{passed_of, passed_step, passed_unlike}
use Rattle.c_written.proofs.Putting.{all_puts}

-- another name, or a number, stands for one more
pub stands_more : (ws : List Written) (us vs : List (Bor (List ℕ) × Put)) (x : Bor (List ℕ)) (u : Put) → vs ≡ us ++ (x, u) ∷ [] →
    passed_of (written_all ws) (all_puts vs) ≡ both (passed_of (written_all ws) (all_puts us)) (stands_for x.now (seen_put u))
stands_more ws us vs x u e =
    ap (λ (is : Items). passed_of is (all_puts vs)) (sym (append-nil (written_all ws)))
    ∙ ap (λ (ps : Puts). passed_of (written_all ws ++ []) ps)
    (ap all_puts e ∙ map-append (λ (y : Bor (List ℕ) × Put). (y.0.now, seen_put y.1)) us ((x, u) ∷ []))

-- one more parameter with its list of tokens
pub passed_turn : (g : Names) (ps : List Given) (vs : List (Vec Token Global)) (k : ℕ) (d : Given) (v : Vec Token Global) (ts : List Token)
    (old new : Option Passed) → k < length ps → length ps ≡ length vs → v ≡ get_or vs k v → ts ≡ v.items →
    new ≡ both old (passes g (seen_parameter (get_or ps k d)) (seen_all ts)) →
    both new (passed g (drop (k + 1) (all_parameters ps)) (drop (k + 1) (lists_of vs)))
    ≡ both old (passed g (drop k (all_parameters ps)) (drop k (lists_of vs)))
passed_turn g ps vs k d v ts old new h same i f e =
    let below : k < length vs = omega (arith, h, same) in
    let in_parameters : k < length (all_parameters ps) = omega (arith, h, length-map ps seen_parameter) in
    let in_lists : k < length (lists_of vs) = omega (arith, below, length-map vs (λ (w : Vec Token Global). seen_all w.items)) in
    let parameter = get_or-map seen_parameter ps k d (seen_parameter d) h in
    let argument = get_or-map (λ (w : Vec Token Global). seen_all w.items) vs k v (seen_all v.items) below in
    passed_step g (all_parameters ps) (lists_of vs) k (seen_parameter d) (seen_all v.items) old new in_parameters in_lists
    (e ∙ ap (λ (p : Parameter). both old (passes g p (seen_all ts))) (sym parameter)
    ∙ ap (λ (is : Items). both old (passes g (get_or (all_parameters ps) k (seen_parameter d)) is))
    (ap seen_all (f ∙ ap (λ (w : Vec Token Global). w.items) i) ∙ sym argument))

-- there are parameters
pub passed_filled : (g : Names) (ps : List Given) (args : List Items) → (length ps == 0) ≡ false →
    passed_to g (all_parameters ps) args ≡ passed g (all_parameters ps) args
passed_filled g [] args h = absurd cc
passed_filled g (p ∷ ps) args h = refl

-- not as many as there are lists
pub passed_odd : (g : Names) (ps : List Given) (vs : List (Vec Token Global)) → (length ps == 0) ≡ false → (length ps ≡ length vs → ⊥) →
    passed_to g (all_parameters ps) (lists_of vs) ≡ None
passed_odd g ps vs h i =
    passed_filled g ps (lists_of vs) h
    ∙ passed_unlike g (all_parameters ps) (lists_of vs)
    (λ e. i (sym (length-map ps seen_parameter) ∙ e ∙ length-map vs (λ (w : Vec Token Global). seen_all w.items)))
