-- Lists of a call: what is passed, and the functions that are known.
use Rattle.std.proofs.Common.{◌≡◌, ◌∙◌, ℕ, ◌+◌, ◌<◌, true, false, length, get_or, drop, List, [], ◌∷◌, ◌++◌, Some, Vec, Global, map, refl, sym, ap, arith}
use Rattle.std.specs.Str.{bytes_eq}
use Rattle.std.proofs.lemmas.List.{drop_more, get_or-map, length-map, map-append}
use Rattle.c_grammar.specs.Blocks.{Items}
use Rattle.c_grammar.specs.Functions as functions
use Rattle.c_grammar.specs.Functions.{function_of}
use Rattle.c_written.specs.declared.calls.Function.{Function}
use Rattle.c_terminals.specs.declared.token.Token.{Token}
use Rattle.c_written.specs.Functions.{seen_function}
use Rattle.c_terminals.specs.Seen.{seen_all}

abbrev pub lists_of : List (Vec Token Global) → List Items
lists_of vs = map (λ v. seen_all v.items) vs

-- one argument more
pub list_more : (vs ws : List (Vec Token Global)) (v : Vec Token Global) → ws ≡ vs ++ v ∷ [] →
    lists_of ws ≡ lists_of vs ++ seen_all v.items ∷ []
list_more vs ws v e = ap lists_of e ∙ map-append (λ (w : Vec Token Global). seen_all w.items) vs (v ∷ [])

-- ---- functions

function_at : (fs gs : List Function) (k : ℕ) (f : Function) → gs ≡ fs → k < length gs → f ≡ get_or gs k f →
    drop k (map seen_function fs) ≡ seen_function f ∷ drop (k + 1) (map seen_function fs)
function_at fs gs k f e h i =
    let same = ap (λ (hs : List Function). length hs) e in
    let below : k < length fs = omega (arith, h, same) in
    let within : k < length (map seen_function fs) = omega (arith, below, length-map fs seen_function) in
    drop_more (map seen_function fs) k (seen_function f) within
    ∙ ap (λ (g : functions.Function). g ∷ drop (k + 1) (map seen_function fs))
    (get_or-map seen_function fs k f (seen_function f) below
    ∙ ap seen_function (ap (λ (hs : List Function). get_or hs k f) (sym e) ∙ sym i))

pub function_found : (fs gs : List Function) (k : ℕ) (f : Function) (x : List ℕ) → gs ≡ fs → k < length gs → f ≡ get_or gs k f →
    bytes_eq f.name.now x ≡ true → function_of (drop k (map seen_function fs)) x ≡ Some (seen_function f)
function_found fs gs k f x e h i b =
    ap (λ (hs : List functions.Function). function_of hs x) (function_at fs gs k f e h i) ∙ rw b refl

pub function_passed : (fs gs : List Function) (k : ℕ) (f : Function) (x : List ℕ) → gs ≡ fs → k < length gs → f ≡ get_or gs k f →
    bytes_eq f.name.now x ≡ false → function_of (drop k (map seen_function fs)) x ≡ function_of (drop (k + 1) (map seen_function fs)) x
function_passed fs gs k f x e h i b =
    ap (λ (hs : List functions.Function). function_of hs x) (function_at fs gs k f e h i) ∙ rw b refl
